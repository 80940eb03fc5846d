-- The nodes that are borrowed from a table.
use Rattle.std.specs.Prelude.{ℕ, List}
use Rattle.asound_conf.specs.declared.node.Group.{Group}
use Rattle.asound_conf.specs.declared.node.Node.{Node}
use Rattle.asound_conf.specs.declared.node.Node.TheVariants as lent
use Rattle.asound_conf.specs.Rows.{ConfRow, group_of, node, row_at}
use Rattle.asound_conf.specs.Tree.{Entries, Tree, group, text}

-- the group that is borrowed
abbrev pub entries_in : Group → Entries
entries_in g = group_of g.number g.table.now.rows

-- the node that is borrowed
abbrev pub tree_of : Node → Tree
tree_of (lent.Text t) = text t.now
tree_of (lent.Group g) = group (entries_in g)

-- the node that a row is
abbrev pub node_of : List ConfRow → ℕ → Tree
node_of rows n = node (row_at rows n).value (group_of n rows)
