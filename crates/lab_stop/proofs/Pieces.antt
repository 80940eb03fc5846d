-- What a loop over the pieces of a file keeps.
use Rattle.std.proofs.Common.{◌≡◌, ℕ, ◌≤◌, ◌<◌, ◌⊎◌, true, false, List, [], ◌++◌, length, drop, take, sym, ap, subst, refl, inl, inr, ◌∙◌}
use Rattle.std.specs.Prelude.{Bool, IfSome, Option, Some, None, Ok, Err}
use Rattle.std.specs.Option.{ForSome, option_map}
use Rattle.lab_shelf.specs.declared.traits.Shelf as shelves
use Rattle.lab_shelf.specs.Files.{Files, bytes_under, piece}
use Rattle.lab_stop.specs.Causes.{bytes_or_cause, first_bytes, fetched_from, missing, piece_bytes}
use Rattle.lab_stop.specs.Effects.{IsSameShelf}
use Rattle.lab_stop.specs.Pieces.{IsFetched, IsFetched-next, IsFetched-most}

-- what a loop over the pieces keeps
pub record Fetching {S : Type 0} (H : shelves.Ghosts S) (old now : S) (name bytes : List ℕ) (last : Bool) : Type 0 where
  pub so_far : ForSome (H.files old) (λ m. IsFetched m name bytes last)
  pub same : IsSameShelf H old now

-- a piece that a shelf gives is the file's
pub piece-fetched : (files : Option Files) (name bytes : List ℕ) (from most : ℕ)
    → IfSome files (λ m. piece m name from most ≡ Some bytes) → ForSome files (λ m. fetched_from m name from most ≡ Ok bytes)
piece-fetched None name bytes from most is m told = absurd cc
piece-fetched (Some files) name bytes from most is m told =
    let same : files ≡ m = cc in
    subst (λ (f : Files). fetched_from f name from most ≡ Ok bytes) same (ap (bytes_or_cause name) is)

-- a file that a shelf doesn't hold is missing at each piece
pub piece-missing : (files : Option Files) (name spelled : List ℕ) (from most : ℕ)
    → IfSome files (λ m. bytes_under m name ≡ None) → spelled ≡ name
    → ForSome files (λ m. fetched_from m name from most ≡ Err (missing spelled))
piece-missing None name spelled from most is same m told = absurd cc
piece-missing (Some files) name spelled from most is same m told =
    let known : files ≡ m = cc in
    subst (λ (f : Files). fetched_from f name from most ≡ Err (missing spelled)) known
    (ap (λ (o : Option (List ℕ)). bytes_or_cause name (option_map (λ (c : List ℕ). take most (drop from c)) o)) is
    ∙ ap (λ (n : List ℕ). Err (missing n)) (sym same))

-- the first piece is fetched
pub fetched-first : (files : Option Files) (name piece : List ℕ) (last : Bool)
    → ForSome files (λ m. fetched_from m name 0 piece_bytes ≡ Ok piece) → (last ≡ true → length piece < piece_bytes)
    → ForSome files (λ m. IsFetched m name piece last)
fetched-first files name piece last next short m told =
    IsFetched-next m name [] piece false last (inl (refl, refl)) (next m told) short

-- the next piece is fetched
pub fetched-next : (files now : Option Files) (name bytes piece longer : List ℕ) (from : ℕ) (last then_last : Bool)
    → ForSome files (λ m. IsFetched m name bytes last) → now ≡ files
    → ForSome now (λ m. fetched_from m name from piece_bytes ≡ Ok piece) → from ≡ length bytes
    → (then_last ≡ true → length piece < piece_bytes) → longer ≡ bytes ++ piece
    → ForSome files (λ m. IsFetched m name longer then_last)
fetched-next files now name bytes piece longer from last then_last so_far same next behind short all m told =
    subst (λ (b : List ℕ). IsFetched m name b then_last) (sym all)
    (
    IsFetched-next m name bytes piece last then_last (inr (so_far m told))
    (ap (λ (n : ℕ). fetched_from m name n piece_bytes) (sym behind) ∙ next m (same ∙ told)) short
    )

-- enough is fetched
pub fetched-most : (files : Option Files) (name bytes first : List ℕ) (last : Bool) (most : ℕ)
    → ForSome files (λ m. IsFetched m name bytes last) → (last ≡ true) ⊎ (most ≤ length bytes) → first ≡ take most bytes
    → ForSome files (λ m. first_bytes m name most ≡ Ok first)
fetched-most files name bytes first last most so_far enough is m told =
    IsFetched-most m name bytes last most (so_far m told) enough ∙ ap Ok (sym is)
