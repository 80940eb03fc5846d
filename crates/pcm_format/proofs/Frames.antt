-- Frames that are written one after another, sample by sample.
use Rattle.std.proofs.Common.{◌≡◌, ◌≢◌, ℕ, zero, suc, ◌+◌, ◌<◌, List, [], ◌∷◌, length, ℤ, Option, Some, refl, sym, ap, ◌∙◌, arith, below_more}
use Rattle.std.proofs.Math.ListN.{set}
use Rattle.std.specs.Prelude.{slice_get}
use Rattle.pcm_format.specs.declared.areas.Areas.{Areas}
use Rattle.pcm_format.specs.Places.{place_of, IsOutsideFrame, ChangesOnlyFrame, ChangesOnly}
use Rattle.pcm_format.specs.PlaceLaws.{place_of-frame, place_of-channel}

-- a written element is there
pub slice_get-set_same : (xs : List ℤ) (i : ℕ) (v : ℤ) → i < length xs → slice_get (set xs i v) i ≡ Some v
slice_get-set_same [] i v inside = absurd (omega arith)
slice_get-set_same (x ∷ xs) zero v inside = refl
slice_get-set_same (x ∷ xs) (suc i) v inside = slice_get-set_same xs i v (omega arith)

-- every other element stays
pub slice_get-set_other : (xs : List ℤ) (i k : ℕ) (v : ℤ) → k ≢ i → slice_get (set xs i v) k ≡ slice_get xs k
slice_get-set_other [] i k v other = refl
slice_get-set_other (x ∷ xs) zero zero v other = absurd (other refl)
slice_get-set_other (x ∷ xs) zero (suc k) v other = refl
slice_get-set_other (x ∷ xs) (suc i) zero v other = refl
slice_get-set_other (x ∷ xs) (suc i) (suc k) v other = slice_get-set_other xs i k v (λ e. other (ap suc e))

-- the first n channels of a frame are these
abbrev pub FrameHas : Areas → ℕ → ℕ → (ℕ → Option ℤ) → List ℤ → Type 0
FrameHas areas frame n value xs = (c : ℕ) → c < n → slice_get xs (place_of areas frame c) ≡ value c

-- outside the first n channels of a frame nothing has changed
abbrev pub FrameOnly : Areas → ℕ → ℕ → List ℤ → List ℤ → Type 0
FrameOnly areas frame n old new = (k : ℕ) → ((c : ℕ) → c < n → k ≢ place_of areas frame c) → slice_get new k ≡ slice_get old k

-- one more channel is written
pub FrameHas-more : (areas : Areas) (frame n p : ℕ) (value : ℕ → Option ℤ) (xs : List ℤ) (v : ℤ) → frame < areas.frames → n < areas.channels
    → p ≡ place_of areas frame n → p < length xs → Some v ≡ value n → FrameHas areas frame n value xs → FrameHas areas frame (n + 1) value (set xs p v)
FrameHas-more areas frame n p value xs v frame_in n_in here inside is so_far =
    below_more (λ c. slice_get (set xs p v) (place_of areas frame c) ≡ value c) n
    (λ c low.
    let apart : place_of areas frame c ≢ p = λ e. absurd (let one : c ≡ n = place_of-channel areas frame frame c n frame_in frame_in (omega arith) n_in (e ∙ here) in omega arith) in
    slice_get-set_other xs p (place_of areas frame c) v apart ∙ so_far c low)
    (ap (λ (k : ℕ). slice_get (set xs p v) k) (sym here) ∙ (slice_get-set_same xs p v inside ∙ is))

-- and nothing else of the frame is
pub FrameOnly-more : (areas : Areas) (frame n p : ℕ) (old xs : List ℤ) (v : ℤ) → p ≡ place_of areas frame n → FrameOnly areas frame n old xs → FrameOnly areas frame (n + 1) old (set xs p v)
FrameOnly-more areas frame n p old xs v here so_far k outside =
    slice_get-set_other xs p k v (λ e. outside n (omega arith) (e ∙ here)) ∙ so_far k (λ c low. outside c (omega arith))

-- n frames are these
abbrev pub RangeHas : Areas → ℕ → ℕ → (ℕ → ℕ → Option ℤ) → List ℤ → Type 0
RangeHas areas at n value xs = (i : ℕ) → i < n → FrameHas areas (at + i) areas.channels (value i) xs

-- one more frame is written
pub RangeHas-more : (areas : Areas) (at n : ℕ) (value : ℕ → ℕ → Option ℤ) (mid new : List ℤ) → at + n < areas.frames
    → FrameHas areas (at + n) areas.channels (value n) new → ChangesOnlyFrame areas (at + n) mid new → RangeHas areas at n value mid → RangeHas areas at (n + 1) value new
RangeHas-more areas at n value mid new within here only so_far =
    below_more (λ i. FrameHas areas (at + i) areas.channels (value i) new) n
    (λ i low c c_in.
    let outside : IsOutsideFrame areas (at + n) (place_of areas (at + i) c) =
    λ d d_in e. absurd (let one : at + i ≡ at + n = place_of-frame areas (at + i) (at + n) c d (omega arith) within c_in d_in e in omega arith)
    in
    only (place_of areas (at + i) c) outside ∙ so_far i low c c_in)
    here

-- and nothing outside it is
pub ChangesOnly-more : (areas : Areas) (at n : ℕ) (old mid new : List ℤ) → ChangesOnlyFrame areas (at + n) mid new → ChangesOnly areas at n old mid → ChangesOnly areas at (n + 1) old new
ChangesOnly-more areas at n old mid new only so_far k outside =
    only k (outside n (omega arith)) ∙ so_far k (λ i low. outside i (omega arith))
