-- The ranges of what is given by keys, and the forms of names, files and bindings.
use Rattle.lab_script.specs.Prelude.{ap, arith, Bool, bytes_eq, codes, Err, false, inl, inr, List, nat_le, None, not, Ok, Option, option_map, refl, Result}
use Rattle.lab_script.specs.Prelude.{Some, subst, true, ℕ, [], ◌%◌, ◌++◌, ◌/◌, ◌∙◌, ◌∷◌, ◌≡◌, ◌≤◌, cases_Bool, nat_tests, bytes_eq-Decides, row_of}
use Rattle.lab_script.specs.Prelude.{IsBoundWhere, IsFileWhere, IsIn, IsInWhere, IsStopWhere, is_file, is_name, ScriptWhy, Kind, Takes, refuse_if, some_or}
use Rattle.lab_script.specs.Prelude.{◌>>=◌, divides, bindings_where, check_of, file_of, file_where, key_value, keys_from, keys_of, name_of, number_given}
use Rattle.lab_script.specs.Prelude.{number_in, number_or_zero, number_within, small_where, stop_given, stop_of, value_of, word_after}
use Rattle.std.specs.Option.{option_map_or}
use Rattle.lab_script.specs.declared.error.ScriptWhy.TheVariants as why
use Rattle.lab_script.specs.declared.keys.Takes.TheVariants as takes

-- what a value after a step says
pub bind_ok : {A B : Type 0} (r : Result A ScriptWhy) (f : A → Result B ScriptWhy) (y : B) → (r >>= f) ≡ Ok y → (x : A) × (r ≡ Ok x) × (f x ≡ Ok y)
bind_ok (Ok x) f y e = (x, refl, e)
bind_ok (Err w) f y e = absurd (cc)

-- what holds of the value of an answer
pub ok_to : {A E : Type 0} (P : A → Type 0) (x y : A) → ◌≡◌ {A = Result A E} (Ok x) (Ok y) → P x → P y
ok_to P x y e h = let same : x ≡ y = cc (e) in subst P same h

pub not_refused : (b : Bool) (w : ScriptWhy) (u : Unit {0}) → refuse_if b w ≡ Ok u → b ≡ false
not_refused true w u e = absurd (cc)
not_refused false w u e = refl

pub some_is : {A : Type 0} (w : ScriptWhy) (o : Option A) (x : A) → some_or w o ≡ Ok x → o ≡ Some x
some_is w None x e = absurd (cc)
some_is w (Some y) x e = cc

pub at_least : (a b : ℕ) → not (nat_le a b) ≡ false → a ≤ b
at_least a b e = grind (arith, nat_tests)

-- a key that is taken has a row
pub key_value-row : (line : Kind) (earlier : List (List ℕ)) (k : List ℕ) (t : Takes) → key_value line earlier k ≡ Ok t → row_of (keys_of line) k ≡ Some t
unfolding key_value
key_value-row line earlier k t e =
    let a = bind_ok (some_or why.Word (row_of (keys_of line) k)) _ t e in
    let b = bind_ok _ (λ u. Ok a.0) t a.2 in
    let same : a.0 ≡ t = cc (b.2) in
    some_is why.Word (row_of (keys_of line) k) a.0 a.1 ∙ ap Some same

-- what is given by a key is in order
pub record IsGiven (line : Kind) (key w : List ℕ) : Type 0 where
  pub takes : Takes
  pub row : row_of (keys_of line) key ≡ Some takes
  pub value : value_of takes w ≡ Ok tt

pub given_in : (line : Kind) (earlier : List (List ℕ)) (key w : List ℕ) (ws : List (List ℕ)) → keys_from line earlier ws ≡ Ok tt → word_after key ws ≡ Some w → IsGiven line key w
given_in line earlier key w [] e g = absurd (cc)
given_in line earlier key w (k ∷ []) e g = absurd (cc)
given_in line earlier key w (k ∷ v ∷ more) e g =
    let a = bind_ok (key_value line earlier k) (λ value. (value_of value v) >>= (λ u. keys_from line (earlier ++ k ∷ []) more)) tt e in
    let b = bind_ok (value_of a.0 v) (λ u. keys_from line (earlier ++ k ∷ []) more) tt a.2 in
    elim (cases_Bool (bytes_eq k key)) [
      | inl is ↦
          let same : k ≡ key = (bytes_eq-Decides k key).0 is in
          let here : v ≡ w = cc (rw is at g) in
          record {
            takes = a.0;
            row = subst (λ (x : List ℕ). row_of (keys_of line) x ≡ Some a.0) same (key_value-row line earlier k a.0 a.1);
            value = subst (λ (x : List ℕ). value_of a.0 x ≡ Ok tt) here b.1;
          }
      | inr isnt ↦ given_in line (earlier ++ k ∷ []) key w more b.2 (rw isnt at g)
    ]

-- a word that is given is right for its key
pub value-given : (line : Kind) (key w : List ℕ) (t : Takes) (ws : List (List ℕ)) → keys_from line [] ws ≡ Ok tt
    → row_of (keys_of line) key ≡ Some t → word_after key ws ≡ Some w → value_of t w ≡ Ok tt
value-given line key w t ws keys row g =
    let d = given_in line [] key w ws keys g in
    let same : d.takes ≡ t = cc (d.row, row) in
    subst (λ (x : Takes). value_of x w ≡ Ok tt) same d.value

-- the number that a word in a range means
pub number_or_zero-in : (least most : ℕ) (w : List ℕ) → check_of (number_in least most w) ≡ Ok tt → IsIn least most (number_or_zero w)
number_or_zero-in least most w e = grind (arith, nat_tests)

-- what holds where a key isn't given, and of each word that is right for it, holds of what is given
given_by : (line : Kind) (key : List ℕ) (t : Takes) (ws : List (List ℕ)) (P : Option (List ℕ) → Type 0) → keys_from line [] ws ≡ Ok tt → row_of (keys_of line) key ≡ Some t
    → P None → ((w : List ℕ) → value_of t w ≡ Ok tt → P (Some w)) → P (word_after key ws)
given_by line key t ws P keys row none some = by (word_after key ws) refl
  where
    by : (o : Option (List ℕ)) → word_after key ws ≡ o → P o
    by None g = none
    by (Some w) g = some w (value-given line key w t ws keys row g)

-- a number that is given, or the one that is meant where it isn't
pub given_number : (line : Kind) (key : List ℕ) (otherwise least most : ℕ) (ws : List (List ℕ)) → keys_from line [] ws ≡ Ok tt
    → row_of (keys_of line) key ≡ Some (takes.Number least most) → IsIn least most otherwise → IsIn least most (number_given key otherwise ws)
given_number line key otherwise least most ws keys row default =
    given_by line key (takes.Number least most) ws (λ o. IsIn least most (option_map_or number_or_zero o otherwise)) keys row default (number_or_zero-in least most)

pub limited_in : (cap least most n : ℕ) → most ≤ cap → IsIn least most n → IsIn least most (number_within cap n)
limited_in cap least most n h i = grind (arith, nat_tests)

-- a number, where it is given
pub given_where : (line : Kind) (key : List ℕ) (least most : ℕ) (ws : List (List ℕ)) → most ≤ 4294967295 → keys_from line [] ws ≡ Ok tt
    → row_of (keys_of line) key ≡ Some (takes.Number least most) → IsInWhere least most (small_where key ws)
given_where line key least most ws small keys row =
    given_by line key (takes.Number least most) ws (λ o. IsInWhere least most (option_map (λ word. number_within 4294967295 (number_or_zero word)) o)) keys row tt
    (λ w value. limited_in 4294967295 least most _ small (number_or_zero-in least most w value))

stop_in : (w : List ℕ) (b : Bool) → bytes_eq w (codes "never") ≡ b → value_of (takes.NumberOrNever 1 65536) w ≡ Ok tt → IsStopWhere (Some (stop_of w))
stop_in w true e v = rw e tt
stop_in w false e v = rw e (number_or_zero-in 1 65536 w (rw e at v))

-- the stop threshold, where it is given
pub given_stop : (line : Kind) (ws : List (List ℕ)) → keys_from line [] ws ≡ Ok tt
    → row_of (keys_of line) (codes "stop") ≡ Some (takes.NumberOrNever 1 65536) → IsStopWhere (stop_given ws)
given_stop line ws keys row =
    given_by line (codes "stop") (takes.NumberOrNever 1 65536) ws (λ o. IsStopWhere (option_map stop_of o)) keys row tt (λ w value. stop_in w _ refl value)

-- a name has its form, and is its word
pub name_of-is : (w n : List ℕ) → name_of w ≡ Ok n → (is_name n ≡ true) × (w ≡ n)
name_of-is w n e = elim (cases_Bool (is_name w)) [
  | inl is ↦ let same : w ≡ n = cc (rw is at e) in (subst (λ (x : List ℕ). is_name x ≡ true) same is, same)
  | inr isnt ↦ absurd (cc (rw isnt at e))
]

-- a file's name has its form
pub file_of-is : (w n : List ℕ) → file_of w ≡ Ok n → is_file n ≡ true
file_of-is w n e = grind (arith, nat_tests)

-- a file's name, where it is given, has its form
pub file_where-is : (o f : Option (List ℕ)) → file_where o ≡ Ok f → IsFileWhere f
file_where-is o f e = grind (arith, nat_tests)

-- bindings, where they are given, are such as are read
pub bindings_where-is : (channels : ℕ) (o b : Option (List ℕ)) → bindings_where channels o ≡ Ok b → IsBoundWhere channels b
bindings_where-is channels o b e = grind (arith, nat_tests)

pub divides-half : (p r : ℕ) → not (divides p r) ≡ false → p ≤ r / 2
divides-half p r e = grind (arith, nat_tests)

pub divides-rest : (p r : ℕ) → not (divides p r) ≡ false → r % p ≡ 0
divides-rest p r e = grind (arith, nat_tests)
