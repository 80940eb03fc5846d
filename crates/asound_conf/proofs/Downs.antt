-- The steps down the parts of a key as the code takes them: the first part, and the rest of a slice.
use Rattle.asound_conf.specs.Prelude.{ap, append_assoc, arith, cond, drop, Err, false, get_or, IfOk, is_none, length, List, None, Ok, Option, refl, Result}
use Rattle.asound_conf.specs.Prelude.{Some, subst, sym, take, true, ℕ, [], ◌++◌, ◌-◌, ◌<◌, ◌||◌, ◌∙◌, ◌∷◌, ◌≡◌, ◌≤◌, nil_from_length, take_all, Span, ConfWhy}
use Rattle.asound_conf.specs.Prelude.{Leads, Refuses, part_in, parts_in, text_in, base, is_last, meets_text, node_met, put_or_clash, Alters, ConfRow, Contents}
use Rattle.asound_conf.specs.Prelude.{group_of, IsAbsent, IsNode, node, row_at, name_in, Entries, get, group, group_in, is_text, Tree, IsKeyStep, IsWay}
use Rattle.asound_conf.specs.Key.{Part, part_named, without_marks}
use Rattle.asound_conf.proofs.Groups.{Alters-both, get-IsAbsent, get-IsNode}
use Rattle.asound_conf.proofs.Puts.{IsLed, led, meets_text-empty, meets_text-further, meets_text-one, meets_text-rest, put-down, put-last, put-last-way, put-refused}
use Rattle.asound_conf.proofs.Ways.{IsWay-kept, IsWay-more}
use Rattle.asound_conf.specs.declared.cell.Name.TheVariants as names
use Rattle.asound_conf.specs.declared.part.Part as code

-- what is beside the parts of a slice
abbrev pub no_part : code.Part
no_part = record { removes = false; name = names.Bytes (record { start = 0; count = 0 }) }

-- the rest of a slice
rest-cons : (p : code.Part) (parts : List code.Part) → take (length (p ∷ parts) - 1) (drop 1 (p ∷ parts)) ≡ parts
rest-cons p parts =
    let count : length (p ∷ parts) - 1 ≡ length parts = omega arith in
    ap (λ n. take n parts) count ∙ take_all (length parts) parts (omega arith)

is_last-some : (text : List ℕ) (parts : List code.Part) → 1 ≤ length parts → is_last (parts_in text parts) ≡ false
is_last-some text [] some = absurd (omega arith)
is_last-some text (p ∷ parts) some = refl

-- a slice of one part
one_part : (d : code.Part) (parts : List code.Part) → 1 ≤ length parts → length (take (length parts - 1) (drop 1 parts)) ≡ 0 → parts ≡ get_or parts 0 d ∷ []
one_part d [] some none = absurd (omega arith)
one_part d (p ∷ parts) some none = ap (λ ps. p ∷ ps) (nil_from_length parts (sym (ap length (rest-cons p parts)) ∙ none))

-- what is put down the parts of a key into the group of a row
pub record IsPut (r : Result ℕ ConfWhy) (first new : Contents) (q : ℕ) (parts : List code.Part) (value : Option Span) : Type 0 where
  pub placed : (path : List Part) → IsWay first.rows 0 path q → Leads r (group_of 0 new.rows) (put_or_clash (text_in first.text value) (path ++ parts_in first.text parts) (group_of 0 first.rows))
  pub way : (path : List Part) → IsWay first.rows 0 path q → IfOk r (λ n. value ≡ None → IsWay new.rows 0 (path ++ without_marks (parts_in first.text parts)) n)
  pub row : IfOk r (λ n. value ≡ None → (q < n) × (n < length new.rows))
  pub kept : (path : List Part) (last : ℕ) → last ≤ q → IsWay first.rows 0 path last → IsWay new.rows 0 path last
  pub text : new.text ≡ first.text
  pub longer : length first.rows ≤ length new.rows

-- a group as a part of a key leaves it before it goes on
pub record IsCleared (first mid : Contents) (q : ℕ) (part : code.Part) : Type 0 where
  pub value : group_of q mid.rows ≡ base (part_in first.text part) (group_of q first.rows)
  pub text : mid.text ≡ first.text
  pub alters : Alters q first.rows mid.rows

step-row : (r : Result ℕ ConfWhy) (rows : List ConfRow) (q : ℕ) (part : Part) (W : Type 0) → IfOk r (λ n. W → IsKeyStep rows q part n) → IfOk r (λ n. W → (q < n) × (n < length rows))
step-row (Ok n) rows q part W step = λ w. ((step w).is_node.falls, (step w).is_node.inside)
step-row (Err cause) rows q part W step = tt

-- the last part
pub put-here : (d : code.Part) (r : Result ℕ ConfWhy) (first mid new : Contents) (q : ℕ) (parts : List code.Part) (value : Option Span) → 1 ≤ length parts → length (take (length parts - 1) (drop 1 parts)) ≡ 0 → IsCleared first mid q (get_or parts 0 d)
    → Leads r (group_of q new.rows) (put_or_clash (text_in mid.text value) (part_named (name_in mid.text (get_or parts 0 d).name) ∷ []) (group_of q mid.rows))
    → IfOk r (λ n. value ≡ None → IsKeyStep new.rows q (part_named (name_in mid.text (get_or parts 0 d).name)) n) → new.text ≡ mid.text → Alters q mid.rows new.rows → IsPut r first new q parts value
put-here d r first mid new q parts value some none cleared leads step same puts =
    let part = part_in first.text (get_or parts 0 d) in
    let both = Alters-both q first.rows mid.rows new.rows cleared.alters puts in
    record {
      placed = λ path way. rw (one_part d parts some none) (put-last r first.rows mid.rows new.rows q part (text_in first.text value) path way cleared.alters puts
          cleared.value (rw cleared.text at leads));
      way = λ path way. rw (one_part d parts some none) (put-last-way r first.rows new.rows q part (value ≡ None) path way both (rw cleared.text at step));
      row = step-row r new.rows q _ (value ≡ None) step;
      kept = λ path last low way. IsWay-kept q first.rows new.rows 0 path last both low way;
      text = same ∙ cleared.text;
      longer = both.longer;
    }

later-row : (r : Result ℕ ConfWhy) (rows : List ConfRow) (q inner : ℕ) (W : Type 0) → q < inner → IfOk r (λ n. W → (inner < n) × (n < length rows)) → IfOk r (λ n. W → (q < n) × (n < length rows))
later-row (Ok n) rows q inner W low row = λ w. let later : inner < n = (row w).0 in (omega arith, (row w).1)
later-row (Err cause) rows q inner W low row = tt

-- a part that isn't the last, where its group was found or added
pub record IsDown (first mid : Contents) (q n : ℕ) (parts : List code.Part) : Type 0 where
  pub part : code.Part
  pub rest : List code.Part
  pub whole : parts ≡ part ∷ rest
  pub rest_is : take (length parts - 1) (drop 1 parts) ≡ rest
  pub more : 1 ≤ length rest
  pub same : mid.text ≡ first.text
  pub alters : Alters q first.rows mid.rows
  pub step : IsKeyStep mid.rows q (part_named (name_in first.text part.name)) n
  pub leads : IsLed first.rows mid.rows q (part_in first.text part) n

pub is_down : (d : code.Part) (first cleared mid : Contents) (q n : ℕ) (parts : List code.Part) → 1 ≤ length parts → 1 ≤ length (take (length parts - 1) (drop 1 parts)) → IsCleared first cleared q (get_or parts 0 d)
    → Alters q cleared.rows mid.rows → mid.text ≡ cleared.text → put_or_clash None (part_named (name_in cleared.text (get_or parts 0 d).name) ∷ []) (group_of q cleared.rows) ≡ Ok (group_of q mid.rows)
    → IsKeyStep mid.rows q (part_named (name_in cleared.text (get_or parts 0 d).name)) n → IsDown first mid q n parts
is_down d first cleared mid q n [] some more clear puts also put_it step = absurd (omega arith)
is_down d first cleared mid q n (p ∷ parts) some more clear puts also put_it step =
    let step_there : IsKeyStep mid.rows q (part_named (name_in first.text p.name)) n = rw clear.text at step in
    record {
      part = p;
      rest = parts;
      whole = refl;
      rest_is = rest-cons p parts;
      more = rw (rest-cons p parts) at more;
      same = also ∙ clear.text;
      alters = Alters-both q first.rows cleared.rows mid.rows clear.alters puts;
      step = step_there;
      leads = led first.rows cleared.rows mid.rows q (part_in first.text p) n clear.value (rw clear.text at put_it) step_there;
    }

pub down-open : (first mid : Contents) (q n : ℕ) (parts : List code.Part) → IsDown first mid q n parts → meets_text (parts_in first.text parts) (group_of q first.rows) ≡ false → meets_text (parts_in mid.text (take (length parts - 1) (drop 1 parts))) (group_of n mid.rows) ≡ false
down-open first mid q n parts down clear =
    rw (down.rest_is, down.same)
    (meets_text-rest (part_in first.text down.part) (parts_in first.text down.rest) (group_of q first.rows) (group_of n mid.rows)
    (is_last-some first.text down.rest down.more) (rw down.whole at clear) down.leads.meets_it)

-- a part that goes on, and what is put down the rest of the key
pub put-on : (r : Result ℕ ConfWhy) (first mid new : Contents) (q n : ℕ) (parts : List code.Part) (value : Option Span) → IsDown first mid q n parts → IsPut r mid new n (take (length parts - 1) (drop 1 parts)) value → IsPut r first new q parts value
put-on r first mid new q n parts value down is =
    let part = part_in first.text down.part in
    let ways : (path : List Part) → IsWay first.rows 0 path q → IsWay mid.rows 0 (path ++ part_named part.name ∷ []) n =
    λ path way. IsWay-more mid.rows 0 path q (part_named part.name) n (IsWay-kept q first.rows mid.rows 0 path q down.alters (omega arith) way) down.step in
    let falls : q < n = down.step.is_node.falls in
    record {
      placed = λ path way.
          rw down.whole
          (put-down r first.rows mid.rows new.rows q n part (parts_in first.text down.rest) (text_in first.text value) path way down.alters
          (is_last-some first.text down.rest down.more) down.leads
          (rw (down.rest_is, down.same) at (is.placed (path ++ part_named part.name ∷ []) (ways path way))));
      way = λ path way.
          rw (down.whole, ← append_assoc path (part_named part.name ∷ []) (without_marks (parts_in first.text down.rest)))
          (rw (down.rest_is, down.same) at (is.way (path ++ part_named part.name ∷ []) (ways path way)));
      row = later-row r new.rows q n (value ≡ None) falls is.row;
      kept = λ path last low way. is.kept path last (omega arith) (IsWay-kept q first.rows mid.rows 0 path last down.alters low way);
      text = is.text ∙ down.same;
      longer = omega (arith, down.alters.longer, is.longer);
    }

-- a part that isn't the last is refused by want of memory alone
pub down-refused : {X : Type 0} (d : code.Part) (cause : ConfWhy) (first cleared : Contents) (q : ℕ) (parts : List code.Part) (given : Result X ConfWhy) → 1 ≤ length parts → 1 ≤ length (take (length parts - 1) (drop 1 parts)) → cleared.text ≡ first.text → group_of q cleared.rows ≡ base (part_in first.text (get_or parts 0 d)) (group_of q first.rows)
    → meets_text (parts_in first.text parts) (group_of q first.rows) ≡ false → Refuses cause (put_or_clash None (part_named (name_in cleared.text (get_or parts 0 d).name) ∷ []) (group_of q cleared.rows)) → Refuses cause given
down-refused d cause first cleared q [] given some more same is clear refuses = absurd (omega arith)
down-refused d cause first cleared q (p ∷ parts) given some more same is clear refuses =
    put-refused cause (part_in first.text p) (parts_in first.text parts) (group_of q first.rows) (group_of q cleared.rows) given (is_last-some first.text parts (subst (λ (ps : List code.Part). 1 ≤ length ps) (rest-cons p parts) more)) clear is
    (subst (λ (t : List ℕ). Refuses cause (put_or_clash None (part_named (name_in t p.name) ∷ []) (group_of q cleared.rows))) same refuses)

-- the texts that parts before the last meet
pub meets-last : (text : List ℕ) (parts : List code.Part) (g : Entries) → 1 ≤ length parts → length (take (length parts - 1) (drop 1 parts)) ≡ 0 → meets_text (parts_in text parts) g ≡ false
meets-last text parts g some none = rw (one_part no_part parts some none) (meets_text-one (part_in text (get_or parts 0 no_part)) g)

pub meets-node : (d : code.Part) (text : List ℕ) (parts : List code.Part) (g : Entries) (m : Option Tree) → 1 ≤ length parts → 1 ≤ length (take (length parts - 1) (drop 1 parts)) → node_met (part_in text (get_or parts 0 d)) g ≡ m
    → meets_text (parts_in text parts) g ≡ (is_text m || meets_text (parts_in text (take (length parts - 1) (drop 1 parts))) (group_in m))
meets-node d text [] g m some more is = absurd (omega arith)
meets-node d text (p ∷ parts) g m some more is =
    rw (rest-cons p parts) (meets_text-further (part_in text p) (parts_in text parts) g m (is_last-some text parts (rw (rest-cons p parts) at more)) is)

pub meets-None : (d : code.Part) (text : List ℕ) (parts : List code.Part) (g : Entries) → 1 ≤ length parts → 1 ≤ length (take (length parts - 1) (drop 1 parts)) → node_met (part_in text (get_or parts 0 d)) g ≡ None → meets_text (parts_in text parts) g ≡ false
meets-None d text parts g some more is = meets-node d text parts g None some more is ∙ meets_text-empty (parts_in text (take (length parts - 1) (drop 1 parts)))

-- a part that removes what it meets
pub met-removes : (part : Part) (g : Entries) → part.removes ≡ true → node_met part g ≡ None
met-removes part g is = ap (λ b. cond b None (get part.name g)) is

-- what a part meets that doesn't remove it
pub met-node : (part : Part) (rows : List ConfRow) (q n : ℕ) → part.removes ≡ false → IsNode rows q part.name n → node_met part (group_of q rows) ≡ Some (node (row_at rows n).value (group_of n rows))
met-node part rows q n stays is = ap (λ b. cond b None (get part.name (group_of q rows))) stays ∙ get-IsNode rows q part.name n is

pub met-absent : (part : Part) (rows : List ConfRow) (q : ℕ) → part.removes ≡ false → IsAbsent rows q part.name → node_met part (group_of q rows) ≡ None
met-absent part rows q stays none = ap (λ b. cond b None (get part.name (group_of q rows))) stays ∙ get-IsAbsent rows q part.name none

pub is_text-group : (value : Option (List ℕ)) (g : Entries) → is_none value ≡ true → Some (node value g) ≡ Some (group g)
is_text-group None g is = refl
is_text-group (Some t) g is = cc

pub is_text-text : (value : Option (List ℕ)) (g : Entries) → is_none value ≡ false → is_text (Some (node value g)) ≡ true
is_text-text None g is = cc
is_text-text (Some t) g is = refl
