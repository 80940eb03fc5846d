-- What is done down the parts of a key below the place of a group is done to the group there.
use Rattle.asound_conf.specs.Prelude.{ap, ap₂, arith, Bool, cond, Err, false, List, None, not, Ok, Option, refl, Result, Some, sym, true, ℕ, [], ◌&&◌, ◌++◌}
use Rattle.asound_conf.specs.Prelude.{◌∙◌, ◌∷◌, ◌≡◌, nat_tests, ConfWhy, answer_view, base, clashes, is_last, meets_text, node_at, node_met, put, put_or_clash}
use Rattle.asound_conf.specs.Prelude.{Entries, get, group, group_in, text, Tree}
use Rattle.asound_conf.specs.Key.{Part, part_named}
use Rattle.asound_conf.proofs.Places.{get-set, set-set}
use Rattle.asound_conf.specs.declared.error.ConfWhy.TheVariants as why
use Rattle.asound_conf.specs.Tree as tree

-- the group that a node is
abbrev pub inner_group : Option Tree → Option Entries
inner_group (Some (group g)) = Some g
inner_group (Some (text t)) = None
inner_group None = None

-- what is found in a group, where there is a group
abbrev pub found_in : Option Entries → (Entries → Option Entries) → Option Entries
found_in (Some g) find = find g
found_in None find = None

-- the group to which parts of a key lead
abbrev pub group_at : List Part → Entries → Option Entries
group_at [] g = Some g
group_at (part ∷ parts) g = found_in (inner_group (node_met part g)) (group_at parts)

-- a group with another one in the place to which parts of a key lead
abbrev pub with_group : List Part → Entries → Entries → Entries
with_group [] list g = list
with_group (part ∷ parts) list g = tree.set part.name (group (with_group parts list (group_in (node_met part g)))) g

-- a part of a key that meets a node doesn't remove it
record Meets (part : Part) (g : Entries) (node : Tree) : Type 0 where
  stays : part.removes ≡ false
  has_it : get part.name g ≡ Some node

meets : (part : Part) (g : Entries) (node : Tree) → node_met part g ≡ Some node → Meets part g node
meets part g node is = grind (arith, nat_tests)

met-set : (part : Part) (g : Entries) (old new : Tree) → node_met part g ≡ Some old → node_met part (tree.set part.name new g) ≡ Some new
met-set part g old new is = ap (λ b. cond b None (get part.name (tree.set part.name new g))) (meets part g old is).stays ∙ get-set part.name new g

base-met : (part : Part) (g : Entries) (old : Tree) → node_met part g ≡ Some old → base part g ≡ g
base-met part g old is = ap (λ b. cond b (tree.without_name part.name g) g) (meets part g old is).stays

-- the group that the first part of a key meets on its way to another one
record Under (part : Part) (parts : List Part) (g list : Entries) : Type 0 where
  inner : Entries
  meets_it : node_met part g ≡ Some (group inner)
  leads : group_at parts inner ≡ Some list

under : (part : Part) (parts : List Part) (g list : Entries) → group_at (part ∷ parts) g ≡ Some list → Under part parts g list
under part parts g list is = grind (arith, nat_tests)

-- a group that was put at a place is there
pub group_at-with_group : (parts : List Part) (g list new : Entries) → group_at parts g ≡ Some list → group_at parts (with_group parts new g) ≡ Some new
group_at-with_group [] g list new is = refl
group_at-with_group (part ∷ parts) g list new is =
    let u = under part parts g list is in
    rw (met-set part g (group u.inner) (group (with_group parts new (group_in (node_met part g)))) u.meets_it, u.meets_it) (group_at-with_group parts u.inner list new u.leads)

-- the later group of a place stays
pub with_group-with_group : (parts : List Part) (g list x y : Entries) → group_at parts g ≡ Some list → with_group parts x (with_group parts y g) ≡ with_group parts x g
with_group-with_group [] g list x y is = refl
with_group-with_group (part ∷ parts) g list x y is =
    let u = under part parts g list is in
    rw (met-set part g (group u.inner) (group (with_group parts y (group_in (node_met part g)))) u.meets_it, u.meets_it, with_group-with_group parts u.inner list x y u.leads)
    (set-set part.name (group (with_group parts x u.inner)) (group (with_group parts y u.inner)) g)

-- a group that is put below the place of another one
pub with_group-below : (path parts : List Part) (g list new : Entries) → group_at path g ≡ Some list → with_group (path ++ parts) new g ≡ with_group path (with_group parts new list) g
with_group-below [] parts g list new is = let same : g ≡ list = cc in ap (with_group parts new) same
with_group-below (first ∷ path) parts g list new is =
    let u = under first path g list is in
    rw (u.meets_it, with_group-below path parts u.inner list new u.leads) refl

-- a key that goes on has more parts
is_last-append : (path parts : List Part) → is_last parts ≡ false → is_last (path ++ parts) ≡ false
is_last-append [] parts some = some
is_last-append (part ∷ path) parts some = refl

put-further : (value : Option (List ℕ)) (part : Part) (parts : List Part) (g : Entries) → is_last parts ≡ false → put value (part ∷ parts) g ≡ tree.set part.name (group (put value parts (group_in (node_met part g)))) (base part g)
unfolding put
put-further value part [] g more = cc
put-further value part (next ∷ parts) g more = refl

-- what is put below the place of a group
put-below : (value : Option (List ℕ)) (path parts : List Part) (g list : Entries) → group_at path g ≡ Some list → is_last parts ≡ false → put value (path ++ parts) g ≡ with_group path (put value parts list) g
put-below value [] parts g list is some = let same : g ≡ list = cc in ap (put value parts) same
put-below value (first ∷ path) parts g list is some =
    let u = under first path g list is in
    rw (
      put-further value first (path ++ parts) g (is_last-append path parts some),
      base-met first g (group u.inner) u.meets_it,
      u.meets_it,
      put-below value path parts
          u.inner list u.leads some,
    ) refl

node_at-further : (part : Part) (parts : List Part) (g : Entries) → is_last parts ≡ false → node_at (part ∷ parts) g ≡ node_at parts (group_in (node_met part g))
unfolding node_at
node_at-further part [] g more = cc
node_at-further part (next ∷ parts) g more = refl

-- the node below the place of a group
node_at-below : (path parts : List Part) (g list : Entries) → group_at path g ≡ Some list → is_last parts ≡ false → node_at (path ++ parts) g ≡ node_at parts list
node_at-below [] parts g list is some = let same : g ≡ list = cc in ap (node_at parts) same
node_at-below (first ∷ path) parts g list is some =
    let u = under first path g list is in
    rw (node_at-further first (path ++ parts) g (is_last-append path parts some), u.meets_it) (node_at-below path parts u.inner list u.leads some)

-- nothing is met after the last part
meets_text-last : (parts : List Part) (g : Entries) → (not (is_last parts) && meets_text parts g) ≡ meets_text parts g
unfolding meets_text
meets_text-last [] g = refl
meets_text-last (part ∷ parts) g = refl

-- the texts on the way below the place of a group
pub meets_text-below : (path parts : List Part) (g list : Entries) → group_at path g ≡ Some list → meets_text (path ++ parts) g ≡ meets_text parts list
unfolding meets_text
meets_text-below [] parts g list is = let same : g ≡ list = cc in ap (meets_text parts) same
meets_text-below (first ∷ path) parts g list is =
    let u = under first path g list is in
    rw u.meets_it (meets_text-last (path ++ parts) u.inner ∙ meets_text-below path parts u.inner list u.leads)

pub seen-cond : {X Y : Type 0} (f : X → Y) (b : Bool) (cause : ConfWhy) (x : X) → answer_view f (cond b (Err cause) (Ok x)) ≡ cond b (Err cause) (Ok (f x))
seen-cond f true cause x = refl
seen-cond f false cause x = refl

pub seen-seen : {X Y Z : Type 0} (f : Y → Z) (h : X → Y) (r : Result X ConfWhy) → answer_view f (answer_view h r) ≡ answer_view (λ x. f (h x)) r
seen-seen f h (Ok x) = refl
seen-seen f h (Err cause) = refl

-- an item is put into the group at a place
pub placed-below : (value : Option (List ℕ)) (path parts : List Part) (g list : Entries) → group_at path g ≡ Some list → is_last parts ≡ false → put_or_clash value (path ++ parts) g ≡ answer_view (λ h. with_group path h g) (put_or_clash value parts list)
placed-below value path parts g list is some =
    ap₂ (λ m root. cond (clashes value m) (Err why.Kind) (Ok root)) (node_at-below path parts g list is some) (put-below value path parts g list is some)
    ∙ sym (seen-cond (λ h. with_group path h g) (clashes value (node_at parts list)) why.Kind (put value parts list))

-- an item is put into the group that a part of its key, which isn't the last, meets once it has cleared its place
placed-next : (value : Option (List ℕ)) (part : Part) (parts : List Part) (g cleared inner : Entries) → is_last parts ≡ false → group_in (node_met part g) ≡ inner
    → ((h : Entries) → tree.set part.name (group h) cleared ≡ tree.set part.name (group h) (base part g))
    → put_or_clash value (part ∷ parts) g ≡ answer_view (λ h. tree.set part.name (group h) cleared) (put_or_clash value parts inner)
placed-next value part parts g cleared inner some meets_it same =
    ap₂ (λ m root. cond (clashes value m) (Err why.Kind) (Ok root)) (node_at-further part parts g some ∙ ap (node_at parts) meets_it)
    (put-further value part parts g some ∙ ap (λ h. tree.set part.name (group (put value parts h)) (base part g)) meets_it ∙ sym (same (put value parts inner)))
    ∙ sym (seen-cond (λ h. tree.set part.name (group h) cleared) (clashes value (node_at parts inner)) why.Kind (put value parts inner))

-- the same below the place of a group, of which the part that was met is then the last part of the way
pub placed-down : (value : Option (List ℕ)) (path : List Part) (part : Part) (parts : List Part) (root g cleared inner : Entries) → group_at path root ≡ Some g → is_last parts ≡ false
    → group_in (node_met part g) ≡ inner → ((h : Entries) → tree.set part.name (group h) cleared ≡ tree.set part.name (group h) (base part g)) → get part.name cleared ≡ Some (group inner)
    → put_or_clash value (path ++ part ∷ parts) root ≡ put_or_clash value ((path ++ part_named part.name ∷ []) ++ parts) (with_group path cleared root)
placed-down value path part parts root g cleared inner at some meets_it same there =
    let more = with_group path cleared root in
    let nearer : group_at path more ≡ Some cleared = group_at-with_group path root g cleared at in
    let next : group_at (path ++ part_named part.name ∷ []) more ≡ Some inner = group_at-below path (part_named part.name ∷ []) more cleared nearer ∙ ap (λ m. found_in (inner_group m) (group_at [])) there in
    let set_there : (h : Entries) → with_group (path ++ part_named part.name ∷ []) h more ≡ with_group path (tree.set part.name (group h) cleared) root =
    λ h. with_group-below path (part_named part.name ∷ []) more cleared h nearer ∙ with_group-with_group path root g (tree.set part.name (group h) cleared) cleared at in
    placed-below value path (part ∷ parts) root g at refl
    ∙ ap (answer_view (λ h. with_group path h root)) (placed-next value part parts g cleared inner some meets_it same)
    ∙ seen-seen (λ h. with_group path h root) (λ h. tree.set part.name (group h) cleared) (put_or_clash value parts inner)
    ∙ sym (placed-below value (path ++ part_named part.name ∷ []) parts more inner next some
    ∙ seen-along (put_or_clash value parts inner) (λ h. with_group (path ++ part_named part.name ∷ []) h more) (λ h. with_group path (tree.set part.name (group h) cleared) root) set_there)
  where
    group_at-below : (path parts : List Part) (g list : Entries) → group_at path g ≡ Some list → group_at (path ++ parts) g ≡ group_at parts list
    group_at-below [] parts g list is = let same : g ≡ list = cc in ap (group_at parts) same
    group_at-below (first ∷ path) parts g list is =
        let u = under first path g list is in
        rw u.meets_it (group_at-below path parts u.inner list u.leads)

    seen-along : (r : Result Entries ConfWhy) (f k : Entries → Entries) → ((h : Entries) → f h ≡ k h) → answer_view f r ≡ answer_view k r
    seen-along (Ok x) f k same = ap Ok (same x)
    seen-along (Err cause) f k same = refl
