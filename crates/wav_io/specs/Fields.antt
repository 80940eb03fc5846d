-- Little-endian numbers and samples.
use Rattle.std.specs.Prelude.{ℕ, ◌*◌, ◌/◌, List, [], ◌∷◌, length, take, drop, ℤ}
use Rattle.std.specs.Int.{Width, w16, from_le_bytes, cast_signed}

-- the little-endian number at a place
abbrev pub number_at : Width → ℕ → List ℕ → ℕ
number_at w place bytes = from_le_bytes w (drop place bytes)

-- signed samples of two bytes each, the low byte first; a last single byte is none
abbrev pub samples_of_bytes : List ℕ → List ℤ
samples_of_bytes (low ∷ high ∷ rest) = cast_signed w16 (from_le_bytes w16 (low ∷ high ∷ [])) ∷ samples_of_bytes rest
samples_of_bytes (low ∷ []) = []
samples_of_bytes [] = []

-- as many whole frames of this size in bytes as there are
abbrev pub whole : ℕ → List ℕ → List ℕ
whole size body = take (length body / size * size) body

-- as many whole frames as there are, of two bytes for each channel
abbrev pub whole_frames : ℕ → List ℕ → List ℕ
whole_frames channels body = whole (2 * channels) body
