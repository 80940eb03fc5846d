-- Where the words of slots and channels are: after the position's word.
use Rattle.sum_table.specs.Prelude.{ap, arith, ℕ, ◌*◌, ◌+◌, ◌<◌, ◌≡◌, mod-lt, Geometry, next_word, HasPlaces, index_of-lt, index_of-same, index_of, words_of}
use Rattle.ring_rule.specs.declared.spots.Spot.{Spot}
use Rattle.ring_rule.specs.Spots.{IsSpot}

pub index_places : (g : Geometry) → HasPlaces g (index_of g) (words_of g)
index_places g = record { below = index_of-lt g; apart = index_of-same g; by_slot = λ f k c same. ap (λ (s : ℕ). s * g.channels + c + 1) same }

pub next_word-channel : (g : Geometry) (n : ℕ) → (next_word g n).channel < g.channels
next_word-channel g n = mod-lt n (omega (arith, g.channels_least))

-- each word is one of the ring's
pub spot_within : (g : Geometry) (f c : ℕ) (s : Spot) → IsSpot g f c s → c < g.channels → {words : ℕ} → words ≡ words_of g → s.index < words
spot_within g f c s is in_range room = omega (arith, room, is.index_is, index_of-lt g f c in_range)
