-- What an item puts in a group, down the parts of its key.
use Rattle.std.specs.Prelude.{ℕ, ◌||◌, ◌&&◌, not, Bool, true, false, List, [], ◌∷◌, Option, Some, None, Result, Ok, Err, if◌then◌else◌}
use Rattle.asound_conf.specs.declared.error.ConfWhy.{ConfWhy}
use Rattle.asound_conf.specs.declared.error.ConfWhy.TheVariants as why
use Rattle.asound_conf.specs.Key.{Part}
use Rattle.asound_conf.specs.Tree.{Tree, text, group, Entries, get, set, without_name, group_in, is_group, is_text}

-- a group as a part of a key leaves it: a part with `!` removes the node of its name first
abbrev pub base : Part → Entries → Entries
base part g = if part.removes then without_name part.name g else g

-- the node that a part of a key meets
abbrev pub node_met : Part → Entries → Option Tree
node_met part g = if part.removes then None else get part.name g

-- this is the last part
abbrev pub is_last : List Part → Bool
is_last [] = true
is_last (part ∷ parts) = false

-- the node at the end of a key's parts
unfoldable pub node_at : List Part → Entries → Option Tree
node_at [] g = None
node_at (part ∷ parts) g = if is_last parts then node_met part g else node_at parts (group_in (node_met part g))

-- a part of a key before the last meets a text
unfoldable pub meets_text : List Part → Entries → Bool
meets_text [] g = false
meets_text (part ∷ parts) g = not (is_last parts) && (is_text (node_met part g) || meets_text parts (group_in (node_met part g)))

-- what an item puts where this node is: its text, or the group that is there, or a new one
abbrev pub put_there : Option (List ℕ) → Option Tree → Tree
put_there (Some t) old = text t
put_there None old = group (group_in old)

-- a group in which an item's text, or its group, was put down the parts of its key; missing groups are made at the end
unfoldable pub put : Option (List ℕ) → List Part → Entries → Entries
put value [] g = g
put value (part ∷ parts) g = set part.name (if is_last parts then put_there value (node_met part g) else group (put value parts (group_in (node_met part g)))) (base part g)

-- an item's text would be put where a group is, or its group where a text is
abbrev pub clashes : Option (List ℕ) → Option Tree → Bool
clashes (Some t) old = is_group old
clashes None old = is_text old

-- what `put` makes, but where a node of the other kind is at the end of the key's parts
abbrev pub put_or_clash : Option (List ℕ) → List Part → Entries → Result Entries ConfWhy
put_or_clash value parts g = if clashes value (node_at parts g) then Err why.Kind else Ok (put value parts g)
