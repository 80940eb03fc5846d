-- Which ranges of frames a buffer holds.
use Rattle.std.proofs.Common.{◌≡◌, ◌⊎◌, ℕ, ◌+◌, ◌-◌, ◌*◌, ◌<◌, ◌≤◌, cond, true, false, inl, inr, subst, sym, arith}
use Rattle.std.proofs.Math.Nat.{mul-le-mul_right}
use Rattle.std.proofs.lemmas.Bool.Decides.{nat_tests}
use Rattle.std.specs.Prelude.{IsTrue, nat_lt}
use Rattle.pcm_format.specs.declared.areas.Areas.{Areas}
use Rattle.pcm_format.specs.Places.{HoldsRange, place_of}

-- frames past the last aren't held
pub never-past : (areas : Areas) (samples first count : ℕ) → areas.frames < first + count → HoldsRange areas samples first count → ⊥
never-past areas samples first count past held = omega (arith, past, held.within)

-- no frames, or frames without channels, have no places
pub HoldsRange-none : (areas : Areas) (samples first count : ℕ) → first + count ≤ areas.frames → (count ≡ 0) ⊎ (areas.channels ≡ 0) → HoldsRange areas samples first count
HoldsRange-none areas samples first count within (inl none) = record { within = within; places = λ i low c c_in. absurd (omega (arith, none, low)) }
HoldsRange-none areas samples first count within (inr none) = record { within = within; places = λ i low c c_in. absurd (omega (arith, none, c_in)) }

-- no place of a frame and those before it is past that of its last channel
place_of-last : (areas : Areas) (f g c : ℕ) → f ≤ g → c < areas.channels → place_of areas f c ≤ place_of areas g (areas.channels - 1)
place_of-last areas f g c below c_in =
    elim areas.interleaved as (λ b. cond b (f * areas.channels + c) (c * areas.frames + f) ≤ cond b (g * areas.channels + (areas.channels - 1)) ((areas.channels - 1) * areas.frames + g)) [
      | true ↦ let rows : f * areas.channels ≤ g * areas.channels = mul-le-mul_right areas.channels below in omega (arith, rows, c_in)
      | false ↦ let columns : c * areas.frames ≤ (areas.channels - 1) * areas.frames = mul-le-mul_right areas.frames (omega (arith, c_in)) in omega (arith, columns, below)
    ]

tested : (a b : ℕ) → IsTrue (nat_lt a b) → a < b
tested a b is = grind (arith, nat_tests)

passes : (a b : ℕ) → a < b → IsTrue (nat_lt a b)
passes a b low = grind (arith, nat_tests)

pub HoldsRange-last : (areas : Areas) (samples first count last : ℕ) → first + count ≤ areas.frames → last ≡ place_of areas (first + (count - 1)) (areas.channels - 1) → IsTrue (nat_lt last samples)
    → HoldsRange areas samples first count
HoldsRange-last areas samples first count last within is low = record {
  within = within;
  places = λ i i_in c c_in. omega (arith, place_of-last areas (first + i) (first + (count - 1)) c (omega (arith, i_in)) c_in, is, tested last samples low);
}

pub last-held : (areas : Areas) (samples first count last : ℕ) → 1 ≤ count → 1 ≤ areas.channels → last ≡ place_of areas (first + (count - 1)) (areas.channels - 1) → HoldsRange areas samples first count
    → IsTrue (nat_lt last samples)
last-held areas samples first count last some channels is held =
    passes last samples (subst (λ (n : ℕ). n < samples) (sym is) (held.places (count - 1) (omega (arith, some)) (areas.channels - 1) (omega (arith, channels))))
