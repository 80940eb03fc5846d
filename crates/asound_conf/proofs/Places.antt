-- What a group is with a name and without it.
use Rattle.asound_conf.specs.Prelude.{ap, false, inl, inr, List, None, refl, Some, true, ℕ, ◌≡◌, cases_Bool, or_parts, or_right, bytes_eq-Decides, bytes_eq}
use Rattle.asound_conf.specs.Prelude.{empty, Entries, entry, get, has_node, Tree, without_name}
use Rattle.asound_conf.specs.Tree as tree

-- a group without a name that it hasn't
pub without-none : (name : List ℕ) (g : Entries) → has_node name g ≡ false → without_name name g ≡ g
without-none name empty none = refl
without-none name (entry other tree rest) none =
    let parts = or_parts (bytes_eq other name) (has_node name rest) none in
    rw (parts.0, without-none name rest parts.1) refl

-- a name that a group hasn't has no node
pub get-none : (name : List ℕ) (g : Entries) → has_node name g ≡ false → get name g ≡ None
get-none name empty none = refl
get-none name (entry other tree rest) none = let parts = or_parts (bytes_eq other name) (has_node name rest) none in rw (parts.1, parts.0) refl

-- bytes equal themselves
pub bytes_eq-self : (name : List ℕ) → bytes_eq name name ≡ true
bytes_eq-self name = (bytes_eq-Decides name name).1 refl

-- a name is in a group once it is set
pub has_node-set : (name : List ℕ) (new : Tree) (g : Entries) → has_node name (tree.set name new g) ≡ true
has_node-set name new empty = rw (bytes_eq-self name) refl
has_node-set name new (entry other old rest) = elim (cases_Bool (has_node name rest)) [
  | inl there ↦ rw (there, has_node-set name new rest) (or_right (bytes_eq other name) true refl)
  | inr gone ↦ elim (cases_Bool (bytes_eq other name)) [
    | inl same ↦ simp (gone, same)
    | inr differs ↦ simp (gone, differs, has_node-set name new rest)
  ]
]

-- a group without a name hasn't it
pub has_node-without : (name : List ℕ) (g : Entries) → has_node name (without_name name g) ≡ false
has_node-without name empty = refl
has_node-without name (entry other old rest) = elim (cases_Bool (bytes_eq other name)) [
  | inl same ↦ rw same (has_node-without name rest)
  | inr differs ↦ simp (differs, has_node-without name rest)
]

-- what a name has that was set
pub get-set : (name : List ℕ) (new : Tree) (g : Entries) → get name (tree.set name new g) ≡ Some new
get-set name new empty = rw (bytes_eq-self name) refl
get-set name new (entry other old rest) = elim (cases_Bool (has_node name rest)) [
  | inl there ↦ rw (there, has_node-set name new rest) (get-set name new rest)
  | inr gone ↦ elim (cases_Bool (bytes_eq other name)) [
    | inl same ↦ simp (gone, same)
    | inr differs ↦ rw (gone, differs, has_node-set name new rest) (get-set name new rest)
  ]
]

-- the later node of a name stays
pub set-set : (name : List ℕ) (x y : Tree) (g : Entries) → tree.set name x (tree.set name y g) ≡ tree.set name x g
set-set name x y empty = rw (bytes_eq-self name) refl
set-set name x y (entry other old rest) = elim (cases_Bool (has_node name rest)) [
  | inl there ↦ rw (there, has_node-set name y rest) (ap (entry other old) (set-set name x y rest))
  | inr gone ↦ elim (cases_Bool (bytes_eq other name)) [
    | inl same ↦ simp (gone, same)
    | inr differs ↦ rw (gone, differs, has_node-set name y rest) (ap (entry other old) (set-set name x y rest))
  ]
]

-- the node that a name has is set again
pub set-get : (name : List ℕ) (x : Tree) (g : Entries) → get name g ≡ Some x → tree.set name x g ≡ g
set-get name x empty is = cc
set-get name x (entry other old rest) is = elim (cases_Bool (has_node name rest)) [
  | inl there ↦ rw there (ap (entry other old) (set-get name x rest (rw there at is)))
  | inr gone ↦ elim (cases_Bool (bytes_eq other name)) [
    | inl same ↦ let own : Some old ≡ Some x = rw (gone, same) at is in rw (gone, same) (cc)
    | inr differs ↦ absurd (let none : None ≡ Some x = rw (gone, differs) at is in cc)
  ]
]
