-- Laws of places: samples are apart, and a whole buffer holds every range of its frames.
use Rattle.std.specs.Prelude.{◌≡◌, ℕ, ◌+◌, ◌*◌, ◌/◌, ◌<◌, ◌≤◌, true, false}
use Rattle.std.proofs.Common.{cond, arith, ap, sym, ◌∙◌}
use Rattle.std.proofs.lemmas.Nat.{div-mul-add, mul-add-lt}
use Rattle.pcm_format.specs.declared.areas.Areas.{Areas}
use Rattle.pcm_format.specs.Places.{place_of, HoldsRange}

-- two numbers in rows of one width that are one number are in one row
same_row : (a b w c d : ℕ) → c < w → d < w → a * w + c ≡ b * w + d → a ≡ b
same_row a b w c d low high same = sym (div-mul-add a w c low) ∙ ap (λ (n : ℕ). n / w) same ∙ div-mul-add b w d high

-- and in one column
same_column : (a b w c d : ℕ) → c < w → d < w → a * w + c ≡ b * w + d → c ≡ d
same_column a b w c d low high same = omega (arith, same, ap (λ (n : ℕ). n * w) (same_row a b w c d low high same))

-- two frames have no place in common
pub place_of-frame : (areas : Areas) (f g c d : ℕ) → f < areas.frames → g < areas.frames → c < areas.channels → d < areas.channels
    → place_of areas f c ≡ place_of areas g d → f ≡ g
place_of-frame areas f g c d f_in g_in c_in d_in same =
    elim areas.interleaved as (λ b. cond b (f * areas.channels + c) (c * areas.frames + f) ≡ cond b (g * areas.channels + d) (d * areas.frames + g) → f ≡ g) [
      | true ↦ λ e. same_row f g areas.channels c d c_in d_in e
      | false ↦ λ e. same_column c d areas.frames f g f_in g_in e
    ] same

-- two channels have no place in common
pub place_of-channel : (areas : Areas) (f g c d : ℕ) → f < areas.frames → g < areas.frames → c < areas.channels → d < areas.channels
    → place_of areas f c ≡ place_of areas g d → c ≡ d
place_of-channel areas f g c d f_in g_in c_in d_in same =
    elim areas.interleaved as (λ b. cond b (f * areas.channels + c) (c * areas.frames + f) ≡ cond b (g * areas.channels + d) (d * areas.frames + g) → c ≡ d) [
      | true ↦ λ e. same_column f g areas.channels c d c_in d_in e
      | false ↦ λ e. same_row c d areas.frames f g f_in g_in e
    ] same

-- each place is below the number of samples
pub place_of-lt : (areas : Areas) (f c : ℕ) → f < areas.frames → c < areas.channels → place_of areas f c < areas.channels * areas.frames
place_of-lt areas f c f_in c_in =
    elim areas.interleaved as (λ b. cond b (f * areas.channels + c) (c * areas.frames + f) < areas.channels * areas.frames) [
      | true ↦ mul-add-lt f areas.channels c areas.frames f_in c_in
      | false ↦ omega (arith, mul-add-lt c areas.frames f areas.channels c_in f_in)
    ]

-- a buffer with all samples of its frames holds every range of them
pub HoldsRange_whole : (areas : Areas) (samples first count : ℕ) → areas.channels * areas.frames ≤ samples → first + count ≤ areas.frames → HoldsRange areas samples first count
HoldsRange_whole areas samples first count whole within = record {
  within = within;
  places = λ i low c c_in. let f_in : first + i < areas.frames = omega arith in omega (arith, whole, place_of-lt areas (first + i) c f_in c_in);
}
