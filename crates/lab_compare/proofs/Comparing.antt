-- A file is compared with the one that it must be, piece by piece.
use Rattle.lab_compare.specs.Prelude.{ap, arith, drop, Err, false, inl, inr, length, length-drop, length-take, List, refl, subst, sym, take, true, ℕ, ◌%◌, ◌+◌}
use Rattle.lab_compare.specs.Prelude.{◌-◌, ◌<◌, ◌∙◌, ◌≡◌, ◌≤◌, ◌⊎◌, nat_tests, take_all, bytes_eq-Decides, Decides, one_answer, ForSome, option_map, Bool, min}
use Rattle.lab_compare.specs.Prelude.{Ok, Option, Some, ℤ, ◌&&◌, bytes_eq, bytes_under, Files, bytes_or_cause, Cause, fetched_from, first_bytes, ◌>>=◌}
use Rattle.lab_compare.specs.Prelude.{IsSameShelf, OutputFile, finished_file, is_same_in}
use Rattle.std.proofs.lemmas.Bool.{cases_lt}
use Rattle.lab_check.specs.Pieces.{IsSameUpTo}
use Rattle.lab_shelf.specs.declared.traits.Shelf as shelves

-- what the law of pieces says of all files
abbrev pub PiecesTell : Type 0
PiecesTell = (content expected : List ℕ) (from most : ℕ) → IsSameUpTo content expected from most

-- a file that is there is compared as far as a place: whether it is the one that it must be so far, and that after the last piece it ends before the place
pub record IsCompared (files : Files) (name expected : List ℕ) (from : ℕ) (same last : Bool) : Type 0 where
  pub content : List ℕ
  pub held : bytes_under files name ≡ Some content
  pub tells : Decides same (take from content ≡ take from expected)
  pub ends : last ≡ true → length content < from

-- nothing is compared yet
pub record IsUncompared (from : ℕ) (same last : Bool) : Type 0 where
  pub nothing : from ≡ 0
  pub alike : same ≡ true
  pub more : last ≡ false

abbrev pub IsComparing : Files → List ℕ → List ℕ → ℕ → Bool → Bool → Type 0
IsComparing files name expected from same last = IsUncompared from same last ⊎ IsCompared files name expected from same last

-- what a loop over the pieces keeps: the place is even, unless it is past the end that the file must have
pub record Comparing {S : Type 0} (H : shelves.Ghosts S) (old now : S) (name expected : List ℕ) (size from : ℕ)
    (same last : Bool) : Type 0 where
  pub so_far : ForSome (H.files old) (λ m. IsComparing m name expected from same last)
  pub even : from ≤ size → from % 2 ≡ 0
  pub within : from ≤ size + 1
  pub shelf : IsSameShelf H old now

-- ---- places

-- the next place is even too, unless it is past the end
pub even-next : (size from most : ℕ) → from ≤ size → (from ≤ size → from % 2 ≡ 0) → most ≡ min (size + 1 - from) 65_536 → from + most ≤ size → (from + most) % 2 ≡ 0
even-next size from most low even most_is within = grind (arith, nat_tests)

-- ---- one piece

tells-so-far : (files : Files) (name expected content : List ℕ) (from : ℕ) (same last : Bool) → bytes_under files name ≡ Some content
    → IsComparing files name expected from same last → Decides same (take from content ≡ take from expected)
tells-so-far files name expected content from same last held is = grind (arith, nat_tests)

-- two tests that both hold
both-decide : (P Q R : Type 0) (a b : Bool) → Decides a P → Decides b Q → (P × Q → R) → (R → P × Q) → Decides (a && b) R
both-decide P Q R true b first second join split = (λ is. join (first.0 refl, second.0 is), λ r. second.1 (split r).1)
both-decide P Q R false b first second join split = (λ is. absurd cc, λ r. first.1 (split r).0)

-- where a piece is shorter than it may be, the file ends
short-ends : (content : List ℕ) (from most : ℕ) → length (take most (drop from content)) < most → length content < from + most
short-ends content from most short =
    let taken : length (take most (drop from content)) ≡ min most (length (drop from content)) = length-take most (drop from content) in
    let left : length (drop from content) ≡ length content - from = length-drop from content in
    omega (arith, short, taken, left)

-- the content of a file of which a piece was fetched
pub record IsPieceOf (content : Option (List ℕ)) (piece : List ℕ) (from most : ℕ) : Type 0 where
  pub whole : List ℕ
  pub held : content ≡ Some whole
  pub taken : take most (drop from whole) ≡ piece

IsPieceOf-fetched : (content : Option (List ℕ)) (name piece : List ℕ) (from most : ℕ)
    → bytes_or_cause name (option_map (λ (c : List ℕ). take most (drop from c)) content) ≡ Ok piece → IsPieceOf content piece from most
IsPieceOf-fetched content name piece from most is = grind (arith, nat_tests)

IsCompared-next : PiecesTell → (files : Files) (name expected piece made : List ℕ) (from most : ℕ) (same last then_same then_last : Bool)
    → IsComparing files name expected from same last → fetched_from files name from most ≡ Ok piece → made ≡ take most (drop from expected)
    → then_same ≡ (same && bytes_eq piece made) → (then_last ≡ true → length piece < most)
    → IsCompared files name expected (from + most) then_same then_last
IsCompared-next law files name expected piece made from most same last then_same then_last so_far fetched made_is is short =
    let of = IsPieceOf-fetched (bytes_under files name) name piece from most fetched in
    let tests : Decides (bytes_eq piece made) (take most (drop from of.whole) ≡ take most (drop from expected)) = (
      λ t. of.taken ∙ (bytes_eq-Decides piece made).0 t ∙ made_is,
      λ e. (bytes_eq-Decides piece made).1 (sym of.taken ∙ e ∙ sym made_is),
    ) in
    record {
      content = of.whole;
      held = of.held;
      tells = subst (λ (b : Bool). Decides b (take (from + most) of.whole ≡ take (from + most) expected)) (sym is)
          (both-decide (take from of.whole ≡ take from expected) (take most (drop from of.whole) ≡ take most (drop from expected))
          (take (from + most) of.whole ≡ take (from + most) expected) same (bytes_eq piece made)
          (tells-so-far files name expected of.whole from same last of.held so_far) tests
          (law of.whole expected from most).0 (law of.whole expected from most).1);
      ends = λ e. short-ends of.whole from most (subst (λ (p : List ℕ). length p < most) (sym of.taken) (short e));
    }

-- one piece more is compared
pub IsComparing-next : PiecesTell → (files now : Option Files) (name spelled expected piece read made other : List ℕ) (from most : ℕ)
    (same last then_same then_last : Bool)
    → ForSome files (λ m. IsComparing m name expected from same last) → now ≡ files → spelled ≡ name
    → ForSome now (λ m. fetched_from m spelled from most ≡ Ok piece) → made ≡ take most (drop from expected)
    → read ≡ piece → other ≡ made → then_same ≡ (same && bytes_eq read other) → (then_last ≡ true → length piece < most)
    → ForSome files (λ m. IsComparing m name expected (from + most) then_same then_last)
IsComparing-next law files now name spelled expected piece read made other from most same last then_same then_last so_far known named fetched made_is read_is other_is is short m told =
    inr
    (IsCompared-next law m name expected piece made from most same last then_same then_last (so_far m told)
    (subst (λ (n : List ℕ). fetched_from m n from most ≡ Ok piece) named (fetched m (known ∙ told))) made_is
    (is ∙ ap (λ (p : List ℕ). same && bytes_eq p other) read_is ∙ ap (λ (p : List ℕ). same && bytes_eq piece p) other_is) short)

-- ---- all pieces

-- a file that ends before a place within the other one isn't that one
ended-tells : (content expected : List ℕ) (from : ℕ) (same : Bool) → length content < from → from ≤ length expected
    → Decides same (take from content ≡ take from expected) → Decides same (take (length expected + 1) content ≡ expected)
ended-tells content expected from same short within tells =
    let whole : length (take from content) ≡ min from (length content) = length-take from content in
    let first : length (take from expected) ≡ min from (length expected) = length-take from expected in
    let more : length (take (length expected + 1) content) ≡ min (length expected + 1) (length content) = length-take (length expected + 1) content in (
      λ is. absurd (omega (arith, whole, first, ap length (tells.0 is), short, within)),
      λ e. absurd (omega (arith, more, ap length e, short, within)),
    )

-- all of the other one is compared, and the byte behind it
past-tells : (content expected : List ℕ) (from : ℕ) (same : Bool) → length expected < from → from ≤ length expected + 1
    → Decides same (take from content ≡ take from expected) → Decides same (take (length expected + 1) content ≡ expected)
past-tells content expected from same past within tells =
    let one : from ≡ length expected + 1 = omega (arith, past, within) in
    let low : length expected ≤ from = omega (arith, past) in
    let all : take from expected ≡ expected = take_all from expected low in (
      λ is. sym (ap (λ (n : ℕ). take n content) one) ∙ tells.0 is ∙ all,
      λ e. tells.1 (ap (λ (n : ℕ). take n content) one ∙ e ∙ sym all),
    )

compared-tells : (content expected : List ℕ) (from : ℕ) (same last : Bool) → (last ≡ true) ⊎ (length expected < from) → from ≤ length expected + 1
    → Decides same (take from content ≡ take from expected) → (last ≡ true → length content < from)
    → Decides same (take (length expected + 1) content ≡ expected)
compared-tells content expected from same last (inr past) within tells ends = past-tells content expected from same past within tells
compared-tells content expected from same last (inl is_last) within tells ends =
    elim (cases_lt (length expected) from) [
      | inl past ↦ past-tells content expected from same past within tells
      | inr low ↦ ended-tells content expected from same (ends is_last) low tells
    ]

first-compared : (files : Files) (name expected : List ℕ) (from : ℕ) (same last : Bool) → IsComparing files name expected from same last
    → (last ≡ true) ⊎ (length expected < from) → from ≤ length expected + 1
    → (first_bytes files name (length expected + 1) >>= λ bytes. Ok (bytes_eq bytes expected)) ≡ Ok same
first-compared files name expected from same last (inl none) (inl is_last) within = let more = none.more in absurd cc
first-compared files name expected from same last (inl none) (inr past) within = absurd (omega (arith, none.nothing, past))
first-compared files name expected from same last (inr so_far) enough within =
    ap (λ (o : Option (List ℕ)). bytes_or_cause name (option_map (λ (c : List ℕ). take (length expected + 1) (drop 0 c)) o) >>= λ bytes. Ok (bytes_eq bytes expected)) so_far.held
    ∙ ap (λ (b : Bool). Ok b)
    (one_answer {P = take (length expected + 1) so_far.content ≡ expected} (bytes_eq (take (length expected + 1) so_far.content) expected) same (bytes_eq-Decides (take (length expected + 1) so_far.content) expected)
    (compared-tells so_far.content expected from same last enough within so_far.tells so_far.ends))

is_same_in-compared : (m : Files) (file : OutputFile) (samples : List ℤ) (from : ℕ) (same last : Bool)
    → IsComparing m file.name (finished_file file samples) from same last
    → (last ≡ true) ⊎ (length (finished_file file samples) < from) → from ≤ length (finished_file file samples) + 1
    → is_same_in m file samples ≡ Ok same
unfolding is_same_in
is_same_in-compared m file samples from same last so_far enough within =
    first-compared m file.name (finished_file file samples) from same last so_far enough within

-- whether a file is the one that it must be, once enough of it is compared
pub is_same_in-all : (files : Option Files) (file : OutputFile) (samples : List ℤ) (size from : ℕ) (same last : Bool)
    → ForSome files (λ m. IsComparing m file.name (finished_file file samples) from same last) → size ≡ length (finished_file file samples)
    → (last ≡ true) ⊎ (size < from) → from ≤ size + 1 → ForSome files (λ m. is_same_in m file samples ≡ Ok same)
is_same_in-all files file samples size from same last so_far is enough within m told =
    is_same_in-compared m file samples from same last (so_far m told)
    (subst (λ (n : ℕ). (last ≡ true) ⊎ (n < from)) is enough) (subst (λ (n : ℕ). from ≤ n + 1) is within)

-- ---- stops

-- a file that is missing at a piece is missing
pub is_same_in-missing : (m : Files) (file : OutputFile) (samples : List ℤ) (spelled : List ℕ) (from most : ℕ) (e : Cause) → spelled ≡ file.name
    → fetched_from m spelled from most ≡ Err e → is_same_in m file samples ≡ Err e
unfolding is_same_in
is_same_in-missing m file samples spelled from most e named is = grind (arith, nat_tests)
