-- What an item puts into the group of a row.
use Rattle.asound_conf.specs.Prelude.{ap, arith, Bool, cond, Err, false, IfErr, IfOk, is_none, length, length-append, List, None, Ok, OnErr, OnOk, Option, refl}
use Rattle.asound_conf.specs.Prelude.{Result, set, Some, subst, sym, true, ℕ, [], ◌++◌, ◌<◌, ◌||◌, ◌∙◌, ◌∷◌, ◌≡◌, get_or-append_seam, or_parts, nat_tests}
use Rattle.asound_conf.specs.Prelude.{get_or_past, ConfWhy, answer_view, Leads, Refuses, base, clashes, is_last, meets_text, node_at, node_met, put}
use Rattle.asound_conf.specs.Prelude.{put_or_clash, put_there, Alters, ConfRow, Contents, group_of, IsAbsent, IsNode, no_row, node, row_at, with_row, empty}
use Rattle.asound_conf.specs.Prelude.{Entries, get, group, group_in, is_text, text, Tree, without_name, IsKeyStep, IsWay}
use Rattle.asound_conf.specs.Key.{Part, part_named, without_marks}
use Rattle.asound_conf.proofs.Below.{placed-below, placed-down, with_group}
use Rattle.asound_conf.proofs.Groups.{Alters-both, Alters-same, get-IsAbsent, get-IsNode, group-push, group-set, has_node-IsAbsent}
use Rattle.asound_conf.proofs.Places.{get-none, get-set, has_node-without, set-get, set-set}
use Rattle.asound_conf.proofs.Rows.{Alters-push}
use Rattle.asound_conf.proofs.Ways.{IsWay-kept, IsWay-more, group_at-IsWay, met-IsKeyStep, with_group-IsWay}
use Rattle.asound_conf.specs.declared.error.ConfWhy.TheVariants as why
use Rattle.asound_conf.specs.Tree as tree

-- a part of a key meets what its group has once the part has cleared it
pub get-base : (part : Part) (g : Entries) → get part.name (base part g) ≡ node_met part g
get-base part g = base-get part.name g part.removes
  where
    base-get : (name : List ℕ) (g : Entries) (removes : Bool) → get name (cond removes (without_name name g) g) ≡ cond removes None (get name g)
    base-get name g true = get-none name (without_name name g) (has_node-without name g)
    base-get name g false = refl

-- what is put under a name
placed-one : (value : Option (List ℕ)) (name : List ℕ) (g : Entries) → put_or_clash value (part_named name ∷ []) g ≡ cond (clashes value (get name g)) (Err why.Kind) (Ok (tree.set name (put_there value (get name g)) g))
unfolding node_at put
placed-one value name g = refl

placed-last : (value : Option (List ℕ)) (part : Part) (g : Entries) → put_or_clash value (part ∷ []) g ≡ cond (clashes value (node_met part g)) (Err why.Kind) (Ok (tree.set part.name (put_there value (node_met part g)) (base part g)))
unfolding node_at put
placed-last value part g = refl

-- what the last part of a key puts once it has cleared its group
placed-base : (value : Option (List ℕ)) (part : Part) (g : Entries) → put_or_clash value (part ∷ []) g ≡ put_or_clash value (part_named part.name ∷ []) (base part g)
placed-base value part g =
    placed-last value part g
    ∙ ap (λ m. cond (clashes value m) (Err why.Kind) (Ok (tree.set part.name (put_there value m) (base part g)))) (sym (get-base part g))
    ∙ sym (placed-one value part.name (base part g))

-- what is put under a name that a group hasn't, or has
placed-new : (value : Option (List ℕ)) (name : List ℕ) (g : Entries) → get name g ≡ None → put_or_clash value (part_named name ∷ []) g ≡ Ok (tree.set name (node value empty) g)
placed-new (Some t) name g none = placed-one (Some t) name g ∙ ap (λ m. cond (clashes (Some t) m) (Err why.Kind) (Ok (tree.set name (put_there (Some t) m) g))) none
placed-new None name g none = placed-one None name g ∙ ap (λ m. cond (clashes None m) (Err why.Kind) (Ok (tree.set name (put_there None m) g))) none

placed-old : (value : Option (List ℕ)) (name : List ℕ) (g : Entries) (old : Tree) → get name g ≡ Some old → put_or_clash value (part_named name ∷ []) g ≡ cond (clashes value (Some old)) (Err why.Kind) (Ok (tree.set name (put_there value (Some old)) g))
placed-old value name g old is = placed-one value name g ∙ ap (λ m. cond (clashes value m) (Err why.Kind) (Ok (tree.set name (put_there value m) g))) is

-- the value of a row that is a group, or a text
is_none-true : {X : Type 0} (value : Option X) → is_none value ≡ true → value ≡ None
is_none-true None is = refl
is_none-true (Some x) is = cc

-- a text where a group is
pub text-Kind : (rows : List ConfRow) (q : ℕ) (name : List ℕ) (n : ℕ) (t : List ℕ) → IsNode rows q name n → is_none (row_at rows n).value ≡ true → put_or_clash (Some t) (part_named name ∷ []) (group_of q rows) ≡ Err why.Kind
text-Kind rows q name n t is is_group =
    let there : get name (group_of q rows) ≡ Some (group (group_of n rows)) = get-IsNode rows q name n is ∙ ap (λ v. Some (node v (group_of n rows))) (is_none-true (row_at rows n).value is_group) in
    placed-old (Some t) name (group_of q rows) (group (group_of n rows)) there

-- a text where a text is
pub text-set : (rows new : List ConfRow) (q : ℕ) (name : List ℕ) (n : ℕ) (t : List ℕ) → IsNode rows q name n → is_none (row_at rows n).value ≡ false → new ≡ set rows n (record { parent = (row_at rows n).parent; name = (row_at rows n).name; value = Some t })
    → put_or_clash (Some t) (part_named name ∷ []) (group_of q rows) ≡ Ok (group_of q new)
text-set rows new q name n t is is_text new_is = by_value (row_at rows n).value is_text (get-IsNode rows q name n is)
  where
    by_value : (v : Option (List ℕ)) → is_none v ≡ false → get name (group_of q rows) ≡ Some (node v (group_of n rows)) → put_or_clash (Some t) (part_named name ∷ []) (group_of q rows) ≡ Ok (group_of q new)
    by_value None is_text there = cc
    by_value (Some old) is_text there =
        placed-old (Some t) name (group_of q rows) (text old) there
        ∙ sym (ap (λ rs. Ok (group_of q rs)) new_is ∙ ap Ok (group-set rows q name n (record { parent = (row_at rows n).parent; name = (row_at rows n).name; value = Some t }) t is is.parent refl refl))

-- a group where a group is
pub group-same : (rows : List ConfRow) (q : ℕ) (name : List ℕ) (n : ℕ) → IsNode rows q name n → is_none (row_at rows n).value ≡ true → put_or_clash None (part_named name ∷ []) (group_of q rows) ≡ Ok (group_of q rows)
group-same rows q name n is is_group =
    let there : get name (group_of q rows) ≡ Some (group (group_of n rows)) = get-IsNode rows q name n is ∙ ap (λ v. Some (node v (group_of n rows))) (is_none-true (row_at rows n).value is_group) in
    placed-old None name (group_of q rows) (group (group_of n rows)) there ∙ ap Ok (set-get name (group (group_of n rows)) (group_of q rows) there)

-- a group where a text is
pub group-Kind : (rows : List ConfRow) (q : ℕ) (name : List ℕ) (n : ℕ) → IsNode rows q name n → is_none (row_at rows n).value ≡ false → put_or_clash None (part_named name ∷ []) (group_of q rows) ≡ Err why.Kind
group-Kind rows q name n is is_text = by_value (row_at rows n).value is_text (get-IsNode rows q name n is)
  where
    by_value : (v : Option (List ℕ)) → is_none v ≡ false → get name (group_of q rows) ≡ Some (node v (group_of n rows)) → put_or_clash None (part_named name ∷ []) (group_of q rows) ≡ Err why.Kind
    by_value None is_text there = cc
    by_value (Some old) is_text there = placed-old None name (group_of q rows) (text old) there

-- the row that is added for a name
abbrev pub new_row : ℕ → List ℕ → Option (List ℕ) → ConfRow
new_row q name value = record { parent = Some q; name = name; value = value }

-- what adds a row for a name that isn't there, unless memory runs out
pub record IsPushed (r : Result ℕ ConfWhy) (q : ℕ) (name : List ℕ) (own : Option (List ℕ)) (old new : Contents) : Type 0 where
  pub value : Leads r (group_of q new.rows) (put_or_clash own (part_named name ∷ []) (group_of q old.rows))
  pub text : new.text ≡ old.text
  pub alters : Alters q old.rows new.rows

pub pushed : (r : Result ℕ ConfWhy) (q : ℕ) (name : List ℕ) (own : Option (List ℕ)) (old new : Contents) → IsAbsent old.rows q name → q < length old.rows → OnOk r (new ≡ with_row (new_row q name own) old) → IfErr r (λ w. w ≡ why.Memory) → OnErr r (new ≡ old)
    → IsPushed r q name own old new
pushed (Ok n) q name own old new none inside added memory kept = rw added (record {
  value = placed-new own name (group_of q old.rows) (get-IsAbsent old.rows q name none) ∙ ap Ok (sym (group-push old.rows q (new_row q name own) inside refl (has_node-IsAbsent old.rows q name none)));
  text = refl;
  alters = Alters-push q (new_row q name own) old.rows refl;
})
pushed (Err cause) q name own old new none inside added memory kept = rw (memory, kept) (record { value = tt; text = refl; alters = Alters-same q old.rows })

-- the row that was added is where its name leads
IsNode-push : (q : ℕ) (name : List ℕ) (value : Option (List ℕ)) (rows : List ConfRow) → q < length rows → IsNode (rows ++ new_row q name value ∷ []) q name (length rows)
IsNode-push q name value rows inside =
    let more = rows ++ new_row q name value ∷ [] in
    let row : row_at more (length rows) ≡ new_row q name value = get_or-append_seam rows (new_row q name value) [] no_row in
    record {
      inside = omega (arith, length-append rows (new_row q name value ∷ []));
      parent = ap (λ (r : ConfRow). r.parent) row;
      named = ap (λ (r : ConfRow). r.name) row;
      falls = inside;
      last = λ j later there.
          let past = get_or_past more j no_row (omega (arith, later, length-append rows (new_row q name value ∷ []))) in
          absurd (let none : None ≡ Some q = rw past at there in cc);
    }

pub IsKeyStep-push : (r : Result ℕ ConfWhy) (q : ℕ) (name : List ℕ) (old new : Contents) → q < length old.rows → OnOk r (new ≡ with_row (new_row q name None) old) → IfOk r (λ n. n ≡ length old.rows) → IfOk r (λ n. IsKeyStep new.rows q (part_named name) n)
IsKeyStep-push (Ok n) q name old new inside pushed number =
    subst (λ (c : Contents). IsKeyStep c.rows q (part_named name) n) (sym pushed) (subst (λ m. IsKeyStep (old.rows ++ new_row q name None ∷ []) q (part_named name) m) (sym number)
    (record { stays = refl; is_node = IsNode-push q name None old.rows inside; is_group = ap (λ (r : ConfRow). r.value) (get_or-append_seam old.rows (new_row q name None) [] no_row) }))
IsKeyStep-push (Err cause) q name old new inside pushed number = tt

pub IsKeyStep-IsNode : (rows : List ConfRow) (q : ℕ) (name : List ℕ) (n : ℕ) → IsNode rows q name n → is_none (row_at rows n).value ≡ true → IsKeyStep rows q (part_named name) n
IsKeyStep-IsNode rows q name n is is_group = record { stays = refl; is_node = is; is_group = is_none-true (row_at rows n).value is_group }

-- an answer that was made of another one
pub Leads-seen : {X S T : Type 0} (r : Result X ConfWhy) (new : S) (f : S → T) (given : Result S ConfWhy) → Leads r new given → Leads r (f new) (answer_view f given)
Leads-seen r new f given leads = grind (arith, nat_tests)

pub Leads-along : {X S : Type 0} (r : Result X ConfWhy) (new other : S) (given wanted : Result S ConfWhy) → new ≡ other → given ≡ wanted → Leads r new given → Leads r other wanted
Leads-along r new other given wanted same is leads = subst (λ n. Leads r n wanted) same (subst (λ w. Leads r new w) is leads)

-- what the last part of a key puts into the group at the end of a way
pub put-last : (r : Result ℕ ConfWhy) (first mid new : List ConfRow) (q : ℕ) (part : Part) (value : Option (List ℕ)) (path : List Part) → IsWay first 0 path q → Alters q first mid → Alters q mid new → group_of q mid ≡ base part (group_of q first)
    → Leads r (group_of q new) (put_or_clash value (part_named part.name ∷ []) (group_of q mid)) → Leads r (group_of 0 new) (put_or_clash value (path ++ part ∷ []) (group_of 0 first))
put-last r first mid new q part value path way clears puts cleared leads =
    let root = group_of 0 first in
    let f = λ (h : Entries). with_group path h root in
    Leads-along r (f (group_of q new)) (group_of 0 new) (answer_view f (put_or_clash value (part_named part.name ∷ []) (group_of q mid))) (put_or_clash value (path ++ part ∷ []) root)
    (sym (with_group-IsWay first new 0 path q (Alters-both q first mid new clears puts) way))
    (ap (λ g. answer_view f (put_or_clash value (part_named part.name ∷ []) g)) cleared ∙ ap (answer_view f) (sym (placed-base value part (group_of q first))) ∙ sym (placed-below value path (part ∷ []) root (group_of q first) (group_at-IsWay first 0 path q way) refl))
    (Leads-seen r (group_of q new) f (put_or_clash value (part_named part.name ∷ []) (group_of q mid)) leads)

pub put-last-way : (r : Result ℕ ConfWhy) (first new : List ConfRow) (q : ℕ) (part : Part) (W : Type 0) (path : List Part) → IsWay first 0 path q → Alters q first new
    → IfOk r (λ n. W → IsKeyStep new q (part_named part.name) n) → IfOk r (λ n. W → IsWay new 0 (path ++ without_marks (part ∷ [])) n)
put-last-way (Ok n) first new q part W path way alters step = λ w. IsWay-more new 0 path q (part_named part.name) n (IsWay-kept q first new 0 path q alters (omega arith) way) (step w)
put-last-way (Err cause) first new q part W path way alters step = tt

-- what is known once a part of a key, which isn't the last, has led to a group
pub record IsLed (first mid : List ConfRow) (q : ℕ) (part : Part) (n : ℕ) : Type 0 where
  pub meets_it : group_in (node_met part (group_of q first)) ≡ group_of n mid
  pub sets : (h : Entries) → tree.set part.name (group h) (group_of q mid) ≡ tree.set part.name (group h) (base part (group_of q first))
  pub there : get part.name (group_of q mid) ≡ Some (group (group_of n mid))

pub led : (first cleared mid : List ConfRow) (q : ℕ) (part : Part) (n : ℕ) → group_of q cleared ≡ base part (group_of q first) → put_or_clash None (part_named part.name ∷ []) (group_of q cleared) ≡ Ok (group_of q mid) → IsKeyStep mid q (part_named part.name) n → IsLed first mid q part n
led first cleared mid q part n is puts step = by_test (clashes None (get part.name (group_of q cleared))) (sym (placed-one None part.name (group_of q cleared)) ∙ puts)
  where
    by_test : (b : Bool) → cond b (Err why.Kind) (Ok (tree.set part.name (put_there None (get part.name (group_of q cleared))) (group_of q cleared))) ≡ Ok (group_of q mid) → IsLed first mid q part n
    by_test true puts = cc
    by_test false puts =
        let name = part.name in
        let g = group_of q cleared in
        let inner = group_in (get name g) in
        let now : group_of q mid ≡ tree.set name (group inner) g = cc in
        let there : get name (group_of q mid) ≡ Some (group (group_of n mid)) = met-IsKeyStep mid q (part_named name) n step in
        let has_it : Some (group inner) ≡ Some (group (group_of n mid)) = sym (get-set name (group inner) g) ∙ ap (get name) (sym now) ∙ there in
        let same : inner ≡ group_of n mid = cc in
        record {
          meets_it = ap group_in (sym (get-base part (group_of q first)) ∙ ap (get name) (sym is)) ∙ same;
          sets = λ h. ap (tree.set name (group h)) now ∙ set-set name (group h) (group inner) g ∙ ap (tree.set name (group h)) is;
          there = there;
        }

-- what the parts of a key after the first put into the group at the end of a way
pub put-down : (r : Result ℕ ConfWhy) (first mid new : List ConfRow) (q n : ℕ) (part : Part) (parts : List Part) (value : Option (List ℕ)) (path : List Part) → IsWay first 0 path q → Alters q first mid → is_last parts ≡ false → IsLed first mid q part n
    → Leads r (group_of 0 new) (put_or_clash value ((path ++ part_named part.name ∷ []) ++ parts) (group_of 0 mid)) → Leads r (group_of 0 new) (put_or_clash value (path ++ part ∷ parts) (group_of 0 first))
put-down r first mid new q n part parts value path way alters some l leads =
    let root = group_of 0 first in
    Leads-along r (group_of 0 new) (group_of 0 new) (put_or_clash value ((path ++ part_named part.name ∷ []) ++ parts) (group_of 0 mid)) (put_or_clash value (path ++ part ∷ parts) root) refl
    (ap (put_or_clash value ((path ++ part_named part.name ∷ []) ++ parts)) (with_group-IsWay first mid 0 path q alters way)
    ∙ sym (placed-down value path part parts root (group_of q first) (group_of q mid) (group_of n mid) (group_at-IsWay first 0 path q way) some l.meets_it l.sets l.there))
    leads

-- a part of a key, which isn't the last, isn't refused where it meets no text
pub put-refused : {X : Type 0} (cause : ConfWhy) (part : Part) (parts : List Part) (g cleared : Entries) (given : Result X ConfWhy) → is_last parts ≡ false → meets_text (part ∷ parts) g ≡ false → cleared ≡ base part g
    → Refuses cause (put_or_clash None (part_named part.name ∷ []) cleared) → Refuses cause given
unfolding meets_text
put-refused why.Memory part parts g cleared given some clear is refuses = tt
put-refused cause part [] g cleared given some clear is refuses = cc
put-refused cause part (next ∷ parts) g cleared given some clear is refuses =
    let m = node_met part g in
    let same : get part.name cleared ≡ m = ap (get part.name) is ∙ get-base part g in
    let no_text : is_text m ≡ false = (or_parts (is_text m) (meets_text (next ∷ parts) (group_in m)) clear).0 in
    let puts : put_or_clash None (part_named part.name ∷ []) cleared ≡ Ok (tree.set part.name (put_there None (get part.name cleared)) cleared) =
    placed-one None part.name cleared ∙ ap (λ b. cond b (Err why.Kind) (Ok (tree.set part.name (put_there None (get part.name cleared)) cleared))) (ap is_text same ∙ no_text) in
    cc

-- the texts on the way of the other parts
pub meets_text-rest : (part : Part) (parts : List Part) (g inner : Entries) → is_last parts ≡ false → meets_text (part ∷ parts) g ≡ false → group_in (node_met part g) ≡ inner → meets_text parts inner ≡ false
unfolding meets_text
meets_text-rest part [] g inner some clear meets_it = cc
meets_text-rest part (next ∷ parts) g inner some clear meets_it = ap (meets_text (next ∷ parts)) (sym meets_it) ∙ (or_parts (is_text (node_met part g)) (meets_text (next ∷ parts) (group_in (node_met part g))) clear).1

met-empty : (part : Part) → node_met part empty ≡ None
met-empty part = elim part.removes as (λ b. cond b None (get part.name empty) ≡ None) [ true ↦ refl | false ↦ refl ]

-- nothing is met in an empty group
pub meets_text-empty : (parts : List Part) → meets_text parts empty ≡ false
unfolding meets_text
meets_text-empty [] = refl
meets_text-empty (part ∷ []) = refl
meets_text-empty (part ∷ next ∷ parts) = rw (met-empty part) (meets_text-empty (next ∷ parts))

-- what a part that isn't the last meets
pub meets_text-further : (part : Part) (parts : List Part) (g : Entries) (m : Option Tree) → is_last parts ≡ false → node_met part g ≡ m → meets_text (part ∷ parts) g ≡ (is_text m || meets_text parts (group_in m))
unfolding meets_text
meets_text-further part [] g m some is = cc
meets_text-further part (next ∷ parts) g m some is = ap (λ n. is_text n || meets_text (next ∷ parts) (group_in n)) is

pub meets_text-one : (part : Part) (g : Entries) → meets_text (part ∷ []) g ≡ false
unfolding meets_text
meets_text-one part g = refl
