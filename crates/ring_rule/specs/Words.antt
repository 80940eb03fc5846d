-- The words of a ring: word 0 is the position's, and after it is one for each slot and channel. The upper half of such a
-- word says its lap.
use Rattle.std.specs.Prelude.{◌≡◌, ℕ, ◌+◌, ◌*◌, ◌/◌, ◌<◌, ◌⊎◌}
use Rattle.snd_base.specs.declared.geometry.Geometry.{Geometry}
use Rattle.snd_base.specs.Places.{word_index}

-- how many words a ring has
abbrev pub words_of : Geometry → ℕ
words_of g = g.frames * g.channels + 1

-- where the word of a frame and channel is
abbrev pub index_of : Geometry → ℕ → ℕ → ℕ
index_of g f c = word_index g f c + 1

-- how far a word of a slot and channel has come: by its lap and then by its count of additions and withdrawals, where it has one
abbrev pub rank : ℕ → ℕ
rank w = w / 16777216

-- a word is another one, or comes before it by lap and then by count
abbrev pub NotPast : ℕ → ℕ → Type 0
NotPast n w = (n ≡ w) ⊎ (rank n < rank w)
