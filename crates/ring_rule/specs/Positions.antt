-- The positions that a card published, one after the other.
use Rattle.std.specs.Prelude.{◌≡◌, ◌⊎◌, ℕ, ◌≤◌, Bool, true, ◌==◌, ◌&&◌, List, [], ◌∷◌, ⊤}
use Rattle.std.specs.List.{list_any}
use mathlib.Core.Option.{some}
use lib.ListN.{get_elem?}
use Rattle.snd_base.specs.declared.geometry.Geometry.{Geometry}
use Rattle.snd_base.specs.Places.{first_frame}

-- the last one of some numbers, or another where there is none
abbrev pub last_number : ℕ → List ℕ → ℕ
last_number d [] = d
last_number d (x ∷ xs) = last_number x xs

-- the numbers never fall, from one on
abbrev pub Rising : ℕ → List ℕ → Type 0
Rising d [] = ⊤
Rising d (x ∷ xs) = (d ≤ x) × Rising x xs

-- the position that was published last, or the first frame
abbrev pub last_position : Geometry → List ℕ → ℕ
last_position g ps = last_number (first_frame g) ps

-- a position is the first frame or one of those that were published
abbrev pub IsPosition : Geometry → List ℕ → ℕ → Type 0
IsPosition g ps p = (p ≡ first_frame g) ⊎ ((i : ℕ) × (get_elem? ps i ≡ some p))

-- whether each number of a list is in another
abbrev pub has_all : List ℕ → List ℕ → Bool
has_all ns [] = true
has_all ns (m ∷ ms) = list_any (λ n. n == m) ns && has_all ns ms
