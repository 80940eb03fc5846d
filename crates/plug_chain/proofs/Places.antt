-- Where output frames lie.
use Rattle.plug_chain.specs.Prelude.{ap, arith, get_or, inl, inr, length, length-append, List, refl, suc, sym, zero, ℕ, ℤ, [], ◌%◌, ◌*◌, ◌++◌, ◌+◌, ◌-◌, ◌/◌}
use Rattle.plug_chain.specs.Prelude.{◌<◌, ◌∙◌, ◌∷◌, ◌≡◌, ◌≤◌, div-mul-le_self, mul-le-mul_right, get_or-append_seam, cases_lt, nat_tests, get_or_append_left}
use Rattle.plug_chain.specs.Prelude.{get_or_default, div-add-mod', div-mul-add, mod-mul-add, mod_below, min, AreRates, frame_at, frame_between, IsRateAt}
use Rattle.plug_chain.specs.Prelude.{known_count, output_count, output_frame, RatePair, silence}
use Rattle.plug_chain.proofs.Lines.{between-none, between-same, between-whole}

-- the number of the first frame past n frames, counted by output frames
pub known_count-is : (r : RatePair) (n j : ℕ) → n * r.output < j * r.input → j * r.input ≤ n * r.output + r.input → known_count r (suc n) ≡ j
known_count-is r n j past near = grind (arith, nat_tests)

pub output_count-is : (r : RatePair) (n j : ℕ) → 1 ≤ r.input → n * r.output ≤ j * r.input → j * r.input < n * r.output + r.input → output_count r n ≡ j
output_count-is r n j some past near = grind (arith, nat_tests)

-- a frame that is there
pub frame_at-within : (frames : List (List ℤ)) (i : ℕ) → i < length frames → frame_at frames i ≡ get_or frames i []
frame_at-within frames i within = ap (λ (k : ℕ). get_or frames k []) (let e : min i (length frames - 1) ≡ i = omega arith in e)

-- the last one past the end
pub frame_at-past : (frames : List (List ℤ)) (i m : ℕ) → length frames ≡ suc m → m ≤ i → frame_at frames i ≡ get_or frames m []
frame_at-past frames i m many past = ap (λ (k : ℕ). get_or frames k []) (let e : min i (length frames - 1) ≡ m = omega arith in e)

pub frame_at-append : (frames more : List (List ℤ)) (i : ℕ) → i < length frames → frame_at (frames ++ more) i ≡ get_or frames i []
frame_at-append frames more i within =
    let inside : i < length (frames ++ more) = omega (arith, length-append frames more) in
    frame_at-within (frames ++ more) i inside ∙ get_or_append_left frames more [] i within

pub frame_at-seam : (frames : List (List ℤ)) (x : List ℤ) (i : ℕ) → length frames ≤ i → frame_at (frames ++ x ∷ []) i ≡ x
frame_at-seam frames x i past =
    let many : length (frames ++ x ∷ []) ≡ suc (length frames) = omega (arith, length-append frames (x ∷ [])) in
    frame_at-past (frames ++ x ∷ []) i (length frames) many past ∙ get_or-append_seam frames x [] []

-- an output frame that lies `part` parts after frame i
pub output_frame-at : (r : RatePair) (frames : List (List ℤ)) (j i part : ℕ) → part < r.output → j * r.input ≡ i * r.output + part
    → output_frame r frames j ≡ frame_between part r.output (frame_at frames i) (frame_at frames (i + 1))
unfolding output_frame
output_frame-at r frames j i part low is =
    let place_is : j * r.input / r.output ≡ i = ap (λ (m : ℕ). m / r.output) is ∙ div-mul-add i r.output part low in
    let part_is : j * r.input % r.output ≡ part = ap (λ (m : ℕ). m % r.output) is ∙ mod-mul-add i r.output part low in
    rw (place_is, part_is) refl

-- what the last frame is
last_is : (r : RatePair) (channels : ℕ) (frames : List (List ℤ)) (last : List ℤ) (place m : ℕ) → IsRateAt r channels frames last place → length frames ≡ suc m → get_or frames m [] ≡ last
last_is r channels frames last place m at many =
    let within : m < length frames = omega (arith, many) in
    get_or_default frames m [] (silence channels) within ∙ ap (λ (k : ℕ). get_or frames k (silence channels)) (let e : m ≡ length frames - 1 = omega (arith, many) in e) ∙ sym at.last_is

-- a later frame changes no output frame before the last frame
known_before : (r : RatePair) (frames : List (List ℤ)) (x : List ℤ) (j i part m : ℕ) → length frames ≡ suc m → part < r.output → j * r.input ≡ i * r.output + part → i < m
    → output_frame r (frames ++ x ∷ []) j ≡ output_frame r frames j
known_before r frames x j i part m many low is before =
    let here : i < length frames = omega (arith, many) in
    let next : i + 1 < length frames = omega (arith, many) in
    rw (output_frame-at r (frames ++ x ∷ []) j i part low is, output_frame-at r frames j i part low is)
    (rw (frame_at-append frames (x ∷ []) i here, frame_at-append frames (x ∷ []) (i + 1) next, frame_at-within frames i here, frame_at-within frames (i + 1) next) refl)

-- nor the one at it
known_at : (r : RatePair) (frames : List (List ℤ)) (x : List ℤ) (j m : ℕ) → length frames ≡ suc m → 1 ≤ r.output → j * r.input ≡ m * r.output + 0
    → output_frame r (frames ++ x ∷ []) j ≡ output_frame r frames j
known_at r frames x j m many some is =
    let here : m < length frames = omega (arith, many) in
    rw (
      output_frame-at r (frames ++ x ∷ []) j m 0 some is,
      between-none r.output (frame_at (frames ++ x ∷ []) m) (frame_at (frames ++ x ∷ []) (m + 1)) some,
      frame_at-append frames (x ∷ []) m here,
    )
    (rw (output_frame-at r frames j m 0 some is, between-none r.output (frame_at frames m) (frame_at frames (m + 1)) some, frame_at-within frames m here) refl)

known_by : (n : ℕ) (r : RatePair) (frames : List (List ℤ)) (x : List ℤ) (j : ℕ) → AreRates r → length frames ≡ n → j < known_count r n
    → output_frame r (frames ++ x ∷ []) j ≡ output_frame r frames j
known_by zero r frames x j rates many known = absurd (omega arith)
known_by (suc m) r frames x j rates many known =
    let low : j ≤ m * r.output / r.input = omega (arith, known) in
    let h : j * r.input ≤ (m * r.output / r.input) * r.input = mul-le-mul_right r.input low in
    let most : (m * r.output / r.input) * r.input ≤ m * r.output = div-mul-le_self (m * r.output) r.input in
    let split : j * r.input / r.output * r.output + j * r.input % r.output ≡ j * r.input = div-add-mod' (j * r.input) r.output in
    let part : j * r.input % r.output < r.output = mod_below (j * r.input) r.output rates.some_output in
    elim (cases_lt (j * r.input / r.output) m) [
      | inl before ↦ known_before r frames x j (j * r.input / r.output) (j * r.input % r.output) m many part (sym split) before
      | inr past ↦
          let g : m * r.output ≤ j * r.input / r.output * r.output = mul-le-mul_right r.output past in
          known_at r frames x j m many rates.some_output (omega arith)
    ]

-- a later frame changes no output frame that is known
pub output_frame-known : (r : RatePair) (frames : List (List ℤ)) (x : List ℤ) (j : ℕ) → AreRates r → j < known_count r (length frames)
    → output_frame r (frames ++ x ∷ []) j ≡ output_frame r frames j
output_frame-known r frames x j rates known = known_by (length frames) r frames x j rates refl known

-- the next output frame, where it lies before the frame that came
next_before : (n : ℕ) (r : RatePair) (channels : ℕ) (frames : List (List ℤ)) (x last : List ℤ) (start place j : ℕ) → IsRateAt r channels frames last start
    → length frames ≡ n → place < r.output → j * r.input + r.output ≡ n * r.output + place
    → output_frame r (frames ++ x ∷ []) j ≡ frame_between place r.output last x
next_before zero r channels frames x last start place j at many low is = absurd (omega arith)
next_before (suc m) r channels frames x last start place j at many low is =
    let here : m < length frames = omega (arith, many) in
    let lies : j * r.input ≡ m * r.output + place = omega (arith, is) in
    rw (
      output_frame-at r (frames ++ x ∷ []) j m place low lies,
      frame_at-append frames (x ∷ []) m here,
      last_is r channels frames last start m at many,
      frame_at-seam
          frames x (m + 1) (omega (arith, many)),
    ) refl

-- the next output frame, where one more frame came
pub output_frame-next : (r : RatePair) (channels : ℕ) (frames : List (List ℤ)) (x last : List ℤ) (start place j : ℕ) → AreRates r → IsRateAt r channels frames last start
    → length last ≡ length x → place ≤ r.output → j * r.input + r.output ≡ length frames * r.output + place
    → output_frame r (frames ++ x ∷ []) j ≡ frame_between place r.output last x
output_frame-next r channels frames x last start place j rates at same within is = elim (cases_lt place r.output) [
  | inl low ↦ next_before (length frames) r channels frames x last start place j at refl low is
  | inr whole ↦
      let place_is : place ≡ r.output = omega arith in
      let lies : j * r.input ≡ length frames * r.output + 0 = omega (arith, is) in
      rw (
        output_frame-at r (frames ++ x ∷ []) j (length frames) 0 rates.some_output lies,
        between-none r.output (frame_at (frames ++ x ∷ []) (length frames))
            (frame_at (frames ++ x ∷ []) (length frames + 1)) rates.some_output,
      )
      (rw (frame_at-seam frames x (length frames) (omega arith), place_is, between-whole r.output last x rates.some_output same) refl)
]

last_by : (n : ℕ) (r : RatePair) (channels : ℕ) (frames : List (List ℤ)) (last : List ℤ) (start place j : ℕ) → AreRates r → IsRateAt r channels frames last start
    → length frames ≡ n → place < r.output → j * r.input + r.output ≡ n * r.output + place
    → output_frame r frames j ≡ last
last_by zero r channels frames last start place j rates at many low is = absurd (omega arith)
last_by (suc m) r channels frames last start place j rates at many low is =
    let here : m < length frames = omega (arith, many) in
    let lies : j * r.input ≡ m * r.output + place = omega (arith, is) in
    output_frame-at r frames j m place low lies
    ∙ rw (frame_at-within frames m here, frame_at-past frames (m + 1) m many (omega arith), last_is r channels frames last start m at many) (between-same place r.output last rates.some_output)

-- the next output frame, after the last frame
pub output_frame-last : (r : RatePair) (channels : ℕ) (frames : List (List ℤ)) (last : List ℤ) (start place j : ℕ) → AreRates r → IsRateAt r channels frames last start
    → place < r.output → j * r.input + r.output ≡ length frames * r.output + place
    → output_frame r frames j ≡ last
output_frame-last r channels frames last start place j rates at within is = last_by (length frames) r channels frames last start place j rates at refl within is

-- the output frames are those that lie before the end
pub output_count-lies : (r : RatePair) (n j : ℕ) → AreRates r → j < output_count r n → j * r.input / r.output < n
output_count-lies r n j rates below = grind (arith, nat_tests)

pub output_count-all : (r : RatePair) (n j : ℕ) → AreRates r → j * r.input / r.output < n → j < output_count r n
output_count-all r n j rates before = grind (arith, nat_tests)
