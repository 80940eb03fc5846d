-- What a configuration text means: a group of named nodes, each of them a text or a group.
use Rattle.std.specs.Prelude.{ℕ, ◌+◌, ◌||◌, Bool, true, false, List, Option, Some, None, bytes_eq, if◌then◌else◌}

mutual
  -- a node: a text or a group
  pub data Tree : Type 0 where
    text : List ℕ → Tree
    group : Entries → Tree

  -- a group: named nodes in order
  pub data Entries : Type 0 where
    empty : Entries
    entry : List ℕ → Tree → Entries → Entries

-- a group has a node of this name
abbrev pub has_node : List ℕ → Entries → Bool
has_node name empty = false
has_node name (entry other tree rest) = bytes_eq other name || has_node name rest

-- the node of this name, the last one where there were several
abbrev pub get : List ℕ → Entries → Option Tree
get name empty = None
get name (entry other tree rest) = if has_node name rest then get name rest else (if bytes_eq other name then Some tree else None)

-- a group in which this name has this node: in the place of the earlier node, or at the end
abbrev pub set : List ℕ → Tree → Entries → Entries
set name tree empty = entry name tree empty
set name tree (entry other old rest) = if has_node name rest then entry other old (set name tree rest) else (if bytes_eq other name then entry other tree rest else entry other old (set name tree rest))

-- a group without the nodes of this name
abbrev pub without_name : List ℕ → Entries → Entries
without_name name empty = empty
without_name name (entry other tree rest) = if bytes_eq other name then without_name name rest else entry other tree (without_name name rest)

-- the group that a node is, or an empty one
abbrev pub group_in : Option Tree → Entries
group_in (Some (group g)) = g
group_in (Some (text t)) = empty
group_in None = empty

-- a node is a text
abbrev pub is_text : Option Tree → Bool
is_text (Some (text t)) = true
is_text (Some (group g)) = false
is_text None = false

-- a node is a group
abbrev pub is_group : Option Tree → Bool
is_group (Some (text t)) = false
is_group (Some (group g)) = true
is_group None = false

-- how large a group is: two for each name in it and in the groups in it
abbrev mutual
  pub entries_size : Entries → ℕ
  entries_size empty = 0
  entries_size (entry name tree rest) = tree_size tree + entries_size rest + 2

  pub tree_size : Tree → ℕ
  tree_size (text t) = 0
  tree_size (group g) = entries_size g
