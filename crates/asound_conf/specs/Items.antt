-- The nodes in a group, one after the other.
use Rattle.std.specs.Prelude.{ℕ, List, [], ◌∷◌}
use Rattle.asound_conf.specs.declared.cell.ConfText.{ConfText}
use Rattle.asound_conf.specs.declared.items.Items.{Items}
use Rattle.asound_conf.specs.declared.node.Node.{Node}
use Rattle.asound_conf.specs.Node.{tree_of}
use Rattle.asound_conf.specs.Rows.{entries_from}
use Rattle.asound_conf.specs.Table.{text_bytes}
use Rattle.asound_conf.specs.Tree.{Entries, Tree, empty, entry}

-- the nodes in a group with their names, in order
abbrev pub named_nodes : Entries → List (List ℕ × Tree)
named_nodes empty = []
named_nodes (entry name node rest) = (name, node) ∷ named_nodes rest

-- the name and the node that are lent
abbrev pub item_of : ConfText × Node → List ℕ × Tree
item_of item = (text_bytes item.0, tree_of item.1)

-- the nodes that are still to come
abbrev pub items_left : Items → List (List ℕ × Tree)
items_left items = named_nodes (entries_from items.group.number items.from items.group.table.now.rows)
