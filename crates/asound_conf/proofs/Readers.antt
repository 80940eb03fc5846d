-- Where a reader is among the groups of rows, before and after each step.
use Rattle.asound_conf.specs.Prelude.{ap, ap₂, arith, Bool, cond, drop, Err, false, length, length-append, List, map, nat_le, None, Ok, Option, refl, Result}
use Rattle.asound_conf.specs.Prelude.{Some, subst, suc, sym, take, true, zero, ℕ, [], ◌++◌, ◌+◌, ◌<◌, ◌∙◌, ◌∷◌, ◌≡◌, ◌≤◌, nat_tests, append-nil, drop-map}
use Rattle.asound_conf.specs.Prelude.{drop_all, drop_at, length-drop, length-take, length-take-le, nil_from_length, take-append-le, take-take, take_at, nat_lt}
use Rattle.asound_conf.specs.Prelude.{reverse, Awaits, ConfWhy, answer_view, Leads, Refuses, after_item, at_key, close_to, in_group, open_group, put_key}
use Rattle.asound_conf.specs.Prelude.{put_text, start, State, AreAround, bracket_of, IsHere, IsOpen, key_cause, or_cause, state_in, part_in, parts_in}
use Rattle.asound_conf.specs.Prelude.{meets_text, put_or_clash, IsReading, rest_of_key, state_of, Contents, group_of, no_row, Entries, IsWay}
use Rattle.asound_conf.specs.declared.bracket.Awaits.TheVariants.{Item, Value}
use Rattle.asound_conf.specs.declared.reading.Reading.{Reading}
use Rattle.asound_conf.specs.Key.{Part, key_defect, part_named, without_marks}
use Rattle.asound_conf.proofs.Below.{meets_text-below}
use Rattle.asound_conf.proofs.Puts.{Leads-along, Leads-seen, meets_text-one}
use Rattle.asound_conf.proofs.Ways.{group_at-IsWay}
use Rattle.asound_conf.specs.declared.bracket.Bracket as code
use Rattle.asound_conf.specs.declared.cell.Name.TheVariants as names
use Rattle.asound_conf.specs.declared.error.ConfWhy.TheVariants as why
use Rattle.asound_conf.specs.declared.part.Part as part

-- a path, whose marks have done their work
path_in : List ℕ → List part.Part → List Part
path_in text path = without_marks (parts_in text path)

length-path_in : (text : List ℕ) (path : List part.Part) → length (path_in text path) ≡ length path
unfolding path_in
length-path_in text [] = refl
length-path_in text (p ∷ path) = ap suc (length-path_in text path)

length-parts_in : (text : List ℕ) (parts : List part.Part) → length (parts_in text parts) ≡ length parts
length-parts_in text [] = refl
length-parts_in text (p ∷ parts) = ap suc (length-parts_in text parts)

path_in-append : (text : List ℕ) (path key : List part.Part) → path_in text (path ++ key) ≡ path_in text path ++ path_in text key
unfolding path_in
path_in-append text [] key = refl
path_in-append text (p ∷ path) key = ap (λ more. part_named (part_in text p).name ∷ more) (path_in-append text path key)

settled-path_in : (text : List ℕ) (path key : List part.Part) → without_marks (path_in text path ++ parts_in text key) ≡ path_in text path ++ path_in text key
unfolding path_in
settled-path_in text [] key = refl
settled-path_in text (p ∷ path) key = ap (λ more. part_named (part_in text p).name ∷ more) (settled-path_in text path key)

take-path_in : (n : ℕ) (text : List ℕ) (path : List part.Part) (more : List Part) → n ≤ length path → take n (path_in text path ++ more) ≡ path_in text (take n path)
unfolding path_in
take-path_in zero text path more low = refl
take-path_in (suc n) text [] more low = absurd (omega arith)
take-path_in (suc n) text (p ∷ path) more low = ap (λ rest. part_named (part_in text p).name ∷ rest) (take-path_in n text path more (omega arith))

-- after a text that was put
after_item-state : (c d : Contents) (path key : List part.Part) (here : code.Bracket) (outer : List code.Bracket) (awaits : Awaits) → here.names ≡ length path → d.text ≡ c.text
    → after_item (state_in c path key here outer awaits) (group_of 0 d.rows) ≡ state_in d path [] here outer (Item true)
unfolding path_in
after_item-state c d path key here outer awaits depth same =
    let ways : take here.names (path_in c.text path ++ parts_in c.text key) ≡ path_in d.text path ++ [] =
    take-path_in here.names c.text path (parts_in c.text key) (omega arith)
    ∙ ap (λ n. path_in c.text (take n path)) depth
    ∙ ap (path_in c.text) (ap (take (length path)) (sym (append-nil path)) ∙ take_at path [] (length path) refl)
    ∙ ap (λ t. path_in t path) (sym same)
    ∙ sym (append-nil (path_in d.text path)) in
    λ i. record { root = group_of 0 d.rows; path = ways i; here = bracket_of here; outer = map bracket_of outer; awaits = Item true }

pub put_text-state : {X : Type 0} (r : Result X ConfWhy) (c d : Contents) (path key : List part.Part) (here : code.Bracket) (outer : List code.Bracket) (awaits : Awaits) (t : List ℕ) → here.names ≡ length path → d.text ≡ c.text
    → Leads r (group_of 0 d.rows) (put_or_clash (Some t) (without_marks (parts_in c.text path) ++ parts_in c.text key) (group_of 0 c.rows))
    → Leads r (state_in d path [] here outer (Item true)) (put_text (state_in c path key here outer awaits) t)
put_text-state r c d path key here outer awaits t depth same leads =
    let s = state_in c path key here outer awaits in
    let given = put_or_clash (Some t) (without_marks (parts_in c.text path) ++ parts_in c.text key) (group_of 0 c.rows) in
    Leads-along r (after_item s (group_of 0 d.rows)) (state_in d path [] here outer (Item true)) (answer_view (after_item s) given) (put_text s t)
    (after_item-state c d path key here outer awaits depth same) refl (Leads-seen r (group_of 0 d.rows) (after_item s) given leads)

-- where a key leads
abbrev pub key_leads : Option ConfWhy → State → Result State ConfWhy
key_leads (Some cause) s = Err cause
key_leads None s = Ok s

pub put_key-state : (c : Contents) (path key : List part.Part) (here : code.Bracket) (outer : List code.Bracket) (awaits : Awaits) → here.names ≡ length path → IsWay c.rows 0 (without_marks (parts_in c.text path)) here.group
    → put_key (state_in c path [] here outer awaits) (key_defect (parts_in c.text key)) (parts_in c.text key)
    ≡ key_leads (key_cause here.names (parts_in c.text key) (group_of here.group c.rows)) (state_in c path key here outer (Value true))
unfolding path_in
put_key-state c path key here outer awaits depth way =
    let front = path_in c.text path in
    let parts = parts_in c.text key in
    let g = group_of here.group c.rows in
    let none : (front ++ []) ++ parts ≡ front ++ parts = ap (λ f. f ++ parts) (append-nil front) in
    let count : length (front ++ parts) ≡ here.names + length parts = length-append front parts ∙ ap (λ n. n + length parts) (length-path_in c.text path ∙ sym depth) in
    let meets : meets_text (front ++ parts) (group_of 0 c.rows) ≡ meets_text parts g = meets_text-below front parts (group_of 0 c.rows) g (group_at-IsWay c.rows 0 front here.group way) in
    by_defect (key_defect parts) (ap (at_key (state_in c path [] here outer awaits)) none ∙ ap₂ (λ n b. cond (nat_lt 16 n) (Err why.Deep) (cond b (Err why.Kind) (Ok (state_in c path key here outer (Value true))))) count meets)
  where
    by_tests : (a b : Bool) → cond a (Err why.Deep) (cond b (Err why.Kind) (Ok (state_in c path key here outer (Value true)))) ≡ key_leads (cond a (Some why.Deep) (cond b (Some why.Kind) None)) (state_in c path key here outer (Value true))
    by_tests true b = refl
    by_tests false true = refl
    by_tests false false = refl

    by_defect : (defect : Option ConfWhy) → at_key (state_in c path [] here outer awaits) ((state_in c path [] here outer awaits).path ++ parts_in c.text key) ≡ cond (nat_lt 16 (here.names + length (parts_in c.text key))) (Err why.Deep) (cond (meets_text (parts_in c.text key) (group_of here.group c.rows)) (Err why.Kind) (Ok (state_in c path key here outer (Value true))))
        → put_key (state_in c path [] here outer awaits) defect (parts_in c.text key)
        ≡ key_leads (or_cause defect (cond (nat_lt 16 (here.names + length (parts_in c.text key))) (Some why.Deep) (cond (meets_text (parts_in c.text key) (group_of here.group c.rows)) (Some why.Kind) None))) (state_in c path key here outer (Value true))
    by_defect (Some defect) is = refl
    by_defect None is = is ∙ by_tests (nat_lt 16 (here.names + length (parts_in c.text key))) (meets_text (parts_in c.text key) (group_of here.group c.rows))

-- within a bracket that was opened
pub open_group-state : {X : Type 0} (r : Result X ConfWhy) (c d : Contents) (path key : List part.Part) (here : code.Bracket) (outer : List code.Bracket) (awaits : Awaits) (line group : ℕ) (array : Bool)
    → length path + length key < 16 → d.text ≡ c.text → Leads r (group_of 0 d.rows) (put_or_clash None (without_marks (parts_in c.text path) ++ parts_in c.text key) (group_of 0 c.rows))
    → Leads r (state_in d (path ++ key) [] (record { line = line; array = array; values = 0; names = length (path ++ key); group = group }) (here ∷ outer) (Item false)) (open_group (state_in c path key here outer awaits) line array)
unfolding path_in
open_group-state r c d path key here outer awaits line group array short same leads =
    let s = state_in c path key here outer awaits in
    let front = path_in c.text path in
    let parts = parts_in c.text key in
    let count : length (front ++ parts) ≡ length path + length key = length-append front parts ∙ ap₂ (λ a b. a + b) (length-path_in c.text path) (length-parts_in c.text key) in
    let names_are : length (front ++ parts) ≡ length (path ++ key) = count ∙ sym (length-append path key) in
    let ways : without_marks (front ++ parts) ≡ path_in d.text (path ++ key) ++ [] =
    settled-path_in c.text path key ∙ sym (path_in-append c.text path key) ∙ ap (λ t. path_in t (path ++ key)) (sym same) ∙ sym (append-nil (path_in d.text (path ++ key))) in
    let given = put_or_clash None (front ++ parts) (group_of 0 c.rows) in
    let shallow : nat_le 16 (length (front ++ parts)) ≡ false = rw count (grind (arith, nat_tests)) in
    let new = state_in d (path ++ key) [] (record { line = line; array = array; values = 0; names = length (path ++ key); group = group }) (here ∷ outer) (Item false) in
    let at : in_group s line array (group_of 0 d.rows) ≡ new =
    λ i. record { root = group_of 0 d.rows; path = ways i; here = record { line = line; array = array; names = names_are i; values = 0 }; outer = bracket_of here ∷ map bracket_of outer; awaits = Item false } in
    Leads-along r (in_group s line array (group_of 0 d.rows)) new (answer_view (in_group s line array) given) (open_group s line array) at
    (sym (ap (λ b. cond b (Err why.Deep) (answer_view (in_group s line array) given)) shallow))
    (Leads-seen r (group_of 0 d.rows) (in_group s line array) given leads)

-- a cause of what was put is the cause of the mark that opens a group there
pub open_group-refused : (cause : ConfWhy) (c : Contents) (path key : List part.Part) (here : code.Bracket) (outer : List code.Bracket) (awaits : Awaits) (line : ℕ) (array : Bool) → length path + length key < 16
    → Refuses cause (put_or_clash None (without_marks (parts_in c.text path) ++ parts_in c.text key) (group_of 0 c.rows)) → Refuses cause (open_group (state_in c path key here outer awaits) line array)
open_group-refused cause c path key here outer awaits line array short refuses =
    open_group-state {X = ℕ} (Err cause) c c path key here outer awaits line 0 array short refl refuses

pub open_group-deep : (c : Contents) (path key : List part.Part) (here : code.Bracket) (outer : List code.Bracket) (awaits : Awaits) (line : ℕ) (array : Bool) → 16 ≤ length path + length key
    → open_group (state_in c path key here outer awaits) line array ≡ Err why.Deep
unfolding path_in
open_group-deep c path key here outer awaits line array deep =
    let s = state_in c path key here outer awaits in
    let front = path_in c.text path in
    let parts = parts_in c.text key in
    let count : length (front ++ parts) ≡ length path + length key = length-append front parts ∙ ap₂ (λ a b. a + b) (length-path_in c.text path) (length-parts_in c.text key) in
    let is_deep : nat_le 16 (length (front ++ parts)) ≡ true = rw count (grind (arith, nat_tests)) in
    ap (λ b. cond b (Err why.Deep) (answer_view (in_group s line array) (put_or_clash None (front ++ parts) (group_of 0 c.rows)))) is_deep

-- after a bracket that was closed
pub close_to-state : (c : Contents) (path : List part.Part) (here around : code.Bracket) (outer : List code.Bracket) (awaits : Awaits) → around.names ≤ length path
    → close_to (state_in c path [] here (around ∷ outer) awaits) (map bracket_of (around ∷ outer)) ≡ Ok (state_in c (take around.names path) [] around outer (Item true))
unfolding path_in
close_to-state c path here around outer awaits low =
    let ways : take around.names (path_in c.text path ++ []) ≡ path_in c.text (take around.names path) ++ [] = take-path_in around.names c.text path [] low ∙ sym (append-nil (path_in c.text (take around.names path))) in
    λ i. Ok (record { root = group_of 0 c.rows; path = ways i; here = bracket_of around; outer = map bracket_of outer; awaits = Item true })

-- the brackets around a bracket, where the ways that the path gives as far as its own are ways of the new path too
AreAround-along : (c d : Contents) (path way : List part.Part) (here new : code.Bracket) (outer : List code.Bracket) → here.names ≤ new.names → here.group ≤ new.group
    → ((n last : ℕ) → n ≤ here.names → last ≤ here.group → IsWay c.rows 0 (without_marks (parts_in c.text (take n path))) last → IsWay d.rows 0 (without_marks (parts_in d.text (take n way))) last)
    → AreAround c path here outer → AreAround d way new outer
AreAround-along c d path way here new [] longer later kept around = tt
AreAround-along c d path way here new (b ∷ outer) longer later kept around =
    let names : b.names ≤ here.names = around.0 in
    let group : b.group ≤ here.group = around.1 in (
      omega arith,
      omega arith,
      kept b.names b.group names group around.2,
      AreAround-along c d path way b b outer (omega arith) (omega arith) (λ n last low early. kept n last (omega arith) (omega arith)) around.3,
    )

pub number-open : (c : Contents) (path key : List part.Part) (here : code.Bracket) (outer : List code.Bracket) (awaits : Awaits) (next : ℕ) → length key ≡ 0 → IsOpen c path key here outer awaits
    → IsOpen c path (key ++ record { removes = false; name = names.Number here.values } ∷ []) (record { line = here.line; array = here.array; values = next; names = here.names; group = here.group }) outer (Value false)
number-open c path key here outer awaits next none is =
    let p : part.Part = record { removes = false; name = names.Number here.values } in
    let new : code.Bracket = record { line = here.line; array = here.array; values = next; names = here.names; group = here.group } in
    subst (λ k. IsOpen c path (k ++ p ∷ []) new outer (Value false)) (sym (nil_from_length key none))
    (record {
      keyed = (omega arith, meets_text-one (part_in c.text p) (group_of here.group c.rows));
      innermost = assumption (is.innermost);
      around = AreAround-along c c path path here new outer (omega arith) (omega arith) (λ n last low early way. way) is.around;
    })

-- a reader after an item that was put
pub text-open : (c d : Contents) (path key : List part.Part) (here : code.Bracket) (outer : List code.Bracket) (awaits : Awaits) (separator : Bool) → IsOpen c path key here outer awaits → d.text ≡ c.text → length c.rows ≤ length d.rows
    → ((way : List Part) (last : ℕ) → last ≤ here.group → IsWay c.rows 0 way last → IsWay d.rows 0 way last) → IsOpen d path [] here outer (Item separator)
text-open c d path key here outer awaits separator is same longer kept =
    let inside : here.group < length c.rows = is.innermost.inside in
    let stays : (way : List part.Part) (last : ℕ) → last ≤ here.group → IsWay c.rows 0 (without_marks (parts_in c.text way)) last → IsWay d.rows 0
    (without_marks (parts_in d.text way)) last =
    λ way last early leads. subst (λ t. IsWay d.rows 0 (without_marks (parts_in t way)) last) (sym same) (kept (without_marks (parts_in c.text way)) last early leads) in
    record {
      keyed = refl;
      innermost = record { inside = omega arith; depth = is.innermost.depth; way = stays path here.group (omega arith) is.innermost.way };
      around = AreAround-along c d path path here here outer (omega arith) (omega arith) (λ n last low. stays (take n path) last) is.around;
    }

-- a key that isn't refused
cause-none : (names : ℕ) (parts : List Part) (g : Entries) → key_cause names parts g ≡ None → meets_text parts g ≡ false
cause-none names parts g none = grind (arith, nat_tests)

pub key-open : (c : Contents) (path key : List part.Part) (here : code.Bracket) (outer : List code.Bracket) (awaits : Awaits) → IsOpen c path [] here outer awaits → 1 ≤ length key → key_cause here.names (parts_in c.text key) (group_of here.group c.rows) ≡ None → IsOpen c path key here outer (Value true)
key-open c path key here outer awaits is some none = record { keyed = (some, cause-none here.names (parts_in c.text key) (group_of here.group c.rows) none); innermost = is.innermost; around = is.around }

-- a reader within a bracket that was opened
pub group-open : (c d : Contents) (path key : List part.Part) (here : code.Bracket) (outer : List code.Bracket) (awaits : Awaits) (line group : ℕ) (array : Bool) → IsOpen c path key here outer awaits → d.text ≡ c.text → length c.rows ≤ length d.rows
    → ((way : List Part) (last : ℕ) → last ≤ here.group → IsWay c.rows 0 way last → IsWay d.rows 0 way last) → here.group < group → group < length d.rows → IsWay d.rows 0 (without_marks (parts_in c.text path) ++ without_marks (parts_in c.text key)) group
    → IsOpen d (path ++ key) [] (record { line = line; array = array; values = 0; names = length (path ++ key); group = group }) (here ∷ outer) (Item false)
unfolding path_in
group-open c d path key here outer awaits line group array is same longer kept later inside way =
    let before = text-open c d path key here outer awaits true is same longer kept in
    let depth : here.names ≡ length path = is.innermost.depth in
    let count : length (path ++ key) ≡ length path + length key = length-append path key in
    let front : take here.names (path ++ key) ≡ path = ap (λ n. take n (path ++ key)) depth ∙ take_at path key (length path) refl in
    let longer_path = AreAround-along d d path (path ++ key) here here outer (omega arith) (omega arith)
    (λ n last low early leads. rw (take-append-le n path key (omega arith)) leads) before.around in
    record {
      keyed = refl;
      innermost = record { inside = inside; depth = refl; way = subst (λ t. IsWay d.rows 0 (without_marks (parts_in t (path ++ key))) group) (sym same) (subst (λ w. IsWay d.rows 0 w group) (sym (path_in-append c.text path key)) way) };
      around = (omega arith, omega arith, rw front before.innermost.way, longer_path);
    }

-- a reader after a bracket that was closed
pub close-open : (c : Contents) (path key : List part.Part) (here around : code.Bracket) (outer : List code.Bracket) (awaits : Awaits) → IsOpen c path key here (around ∷ outer) awaits → IsOpen c (take around.names path) [] around outer (Item true)
close-open c path key here around outer awaits is =
    let depth : here.names ≡ length path = is.innermost.depth in
    let inside : here.group < length c.rows = is.innermost.inside in
    let low : around.names ≤ here.names = is.around.0 in
    let lower : around.group ≤ here.group = is.around.1 in
    record {
      keyed = refl;
      innermost = record { inside = omega arith; depth = sym (length-take-le around.names path (omega arith)); way = is.around.2 };
      around = AreAround-along c c path (take around.names path) around around outer (omega arith) (omega arith)
          (λ n last few early leads. rw (take-take n around.names path (omega arith)) leads) is.around.3;
    }

pub close-leads : (c : Contents) (path key : List part.Part) (here around : code.Bracket) (outer : List code.Bracket) (awaits : Awaits) → IsOpen c path key here (around ∷ outer) awaits → length key ≡ 0
    → close_to (state_in c path key here (around ∷ outer) awaits) (map bracket_of (around ∷ outer)) ≡ Ok (state_in c (take around.names path) [] around outer (Item true))
close-leads c path key here around outer awaits is none =
    let depth : here.names ≡ length path = is.innermost.depth in
    let low : around.names ≤ here.names = is.around.0 in
    ap (λ k. close_to (state_in c path k here (around ∷ outer) awaits) (map bracket_of (around ∷ outer))) (nil_from_length key none)
    ∙ close_to-state c path here around outer awaits (omega arith)

-- a cause that is given is refused by
pub Refuses-Err : {S : Type 0} (cause : ConfWhy) (given : Result S ConfWhy) → given ≡ Err cause → Refuses cause given
Refuses-Err why.Memory given is = tt
Refuses-Err cause given is = is

-- how many parts lead to a bracket
pub names-least : (c : Contents) (parts : List part.Part) (here : code.Bracket) → IsHere c (take here.names parts) here → here.names ≤ length parts
names-least c parts here is = omega (arith, is.depth, length-take here.names parts)

-- a key's parts before the last meet no text
pub key-clear : (c : Contents) (path key : List part.Part) (here : code.Bracket) (outer : List code.Bracket) (awaits : Awaits) → IsOpen c path key here outer awaits → 1 ≤ length key → meets_text (parts_in c.text key) (group_of here.group c.rows) ≡ false
key-clear c path key here outer (Item separator) is some = let none : length key ≡ 0 = is.keyed in absurd (omega (arith, none, some))
key-clear c path key here outer (Value equals) is some = is.keyed.1

-- nothing is after the first parts, where only they are left
pub drop-front : (n : ℕ) (parts : List part.Part) → drop n (take n parts) ≡ []
drop-front n parts = drop_all n (take n parts) (omega (arith, length-take n parts))

-- a reader whose path got the parts of a key
pub record IsKeyed (r : Reading) (new : List part.Part) (added : List Part) : Type 0 where
  pub valid : IsOpen r.table (take r.here.names new) [] r.here (reverse r.outer.items) r.awaits
  pub some : 1 ≤ length (drop r.here.names new)
  pub same : state_in r.table (take r.here.names new) [] r.here (reverse r.outer.items) r.awaits ≡ state_of r
  pub are : parts_in r.table.text (drop r.here.names new) ≡ added

pub keyed : (r : Reading) (new : List part.Part) (added : List Part) → IsReading r → length (rest_of_key r) ≡ 0 → take (length r.path.items) new ≡ r.path.items → length r.path.items < length new
    → parts_in r.table.text new ≡ parts_in r.table.text r.path.items ++ added → IsKeyed r new added
keyed r new added is none kept more are =
    let n = r.here.names in
    let parts = r.path.items in
    let low = names-least r.table parts r.here is.innermost in
    let count : length parts ≡ n = omega (arith, length-drop n parts, low, none) in
    let front : take n new ≡ take n parts = sym (take-take n (length parts) new low) ∙ ap (take n) kept in
    let key : [] ≡ drop n parts = sym (nil_from_length (drop n parts) none) in
    record {
      valid = rw (front, key) is;
      some = omega (arith, count, more, length-drop n new);
      same = ap₂ (λ (p k : List part.Part). state_in r.table p k r.here (reverse r.outer.items) r.awaits) front key;
      are = sym (drop-map (part_in r.table.text) n new) ∙ ap (drop n) are ∙ drop_at (parts_in r.table.text parts) added n (length-parts_in r.table.text parts ∙ count);
    }

-- a reader before the first token of a text
pub new-start : (c : Contents) (text : List ℕ) (path : List part.Part) (outer : List code.Bracket) → c ≡ record { text = text; rows = no_row ∷ [] } → path ≡ [] → outer ≡ []
    → state_in c [] path (record { line = 0; array = false; values = 0; names = 0; group = 0 }) (reverse outer) (Item false) ≡ start
new-start c text path outer table parts around = rw (table, parts, around) refl

pub new-open : (c : Contents) (text : List ℕ) (path : List part.Part) (outer : List code.Bracket) → c ≡ record { text = text; rows = no_row ∷ [] } → path ≡ [] → outer ≡ []
    → IsOpen c [] path (record { line = 0; array = false; values = 0; names = 0; group = 0 }) (reverse outer) (Item false)
new-open c text path outer table parts around =
    rw (table, parts, around) (record { keyed = refl; innermost = record { inside = omega arith; depth = refl; way = refl }; around = tt })
