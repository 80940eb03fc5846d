-- A canonical file, and how it is compared piece by piece.
use Rattle.std.specs.Prelude.{◌≡◌, ◌↔◌, ℕ, ◌+◌, ℤ, List, length, take, drop}
use Rattle.wav_io.specs.Canonical.{canonical}

-- the canonical WAV file of samples, with the number of their channels and their rate
abbrev pub canonical_file : ℕ → ℕ → List ℤ → List ℕ
canonical_file channels rate samples =
    canonical (record { channels = channels; rate = rate; samples = samples })

-- a file is another one as far as a place and so many bytes behind it, exactly where it is so as far as the place, and its piece behind it is the other's
abbrev pub IsSameUpTo : List ℕ → List ℕ → ℕ → ℕ → Type 0
IsSameUpTo content expected from most =
    ((take from content ≡ take from expected)
    × (take most (drop from content) ≡ take most (drop from expected)))
    ↔ (take (from + most) content ≡ take (from + most) expected)

-- its first bytes, one more than the other one has, are the other one exactly where the whole file is
abbrev pub IsSameFile : List ℕ → List ℕ → Type 0
IsSameFile content expected =
    (take (length expected + 1) content ≡ expected) ↔ (content ≡ expected)
