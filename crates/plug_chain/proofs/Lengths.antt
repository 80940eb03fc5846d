-- How many samples a conversion has.
use Rattle.plug_chain.specs.Prelude.{ap, arith, drop, get_or, length, length-append, List, refl, suc, sym, take, zero, ℕ, ℤ, [], ◌*◌, ◌++◌, ◌+◌, ◌-◌, ◌/◌, ◌<◌}
use Rattle.plug_chain.specs.Prelude.{◌∙◌, ◌∷◌, ◌≡◌, ◌≤◌, div-le_self, div-mul-le_self, mul-le-mul_right, nil_from_length, le-div, flat_map, range_with_len, min}
use Rattle.plug_chain.specs.Prelude.{Conversion, first_frames, frame_bytes, frame_count, frames_of_bytes, samples_in, known_of, plug_of, AreRates, frame_at}
use Rattle.plug_chain.specs.Prelude.{frame_between, known_samples, output_count, output_frame, output_frames, RatePair, IsTable}
use Rattle.plug_chain.proofs.Places.{output_count-is}
use Rattle.plug_chain.proofs.Stages.{frame_bytes-some, length-output_samples}

-- ---- frames

length-between : (part parts : ℕ) (xs ys : List ℤ) → length (frame_between part parts xs ys) ≡ length xs
length-between part parts [] ys = refl
length-between part parts (x ∷ xs) [] = ap (λ (n : ℕ). suc n) (length-between part parts xs [])
length-between part parts (x ∷ xs) (y ∷ ys) = ap (λ (n : ℕ). suc n) (length-between part parts xs ys)

length-first_frames : (c : Conversion) (n : ℕ) (bytes : List ℕ) → length (first_frames c n bytes) ≡ n
length-first_frames c zero bytes = refl
length-first_frames c (suc n) bytes = ap (λ (m : ℕ). suc m) (length-first_frames c n (drop (frame_bytes c) bytes))

length-frames_of_bytes : (c : Conversion) (bytes : List ℕ) → length (frames_of_bytes c bytes) ≡ frame_count c bytes
unfolding frames_of_bytes
length-frames_of_bytes c bytes = length-first_frames c (frame_count c bytes) bytes

-- each frame has the table's outputs
length-get_or-first_frames : (c : Conversion) (n i : ℕ) (bytes : List ℕ) → i < n → length (get_or (first_frames c n bytes) i []) ≡ c.table.outputs
length-get_or-first_frames c zero i bytes low = absurd (omega arith)
length-get_or-first_frames c (suc n) zero bytes low = length-output_samples c.table (samples_in c.from c.table.inputs (take (frame_bytes c) bytes))
length-get_or-first_frames c (suc n) (suc i) bytes low = length-get_or-first_frames c n i (drop (frame_bytes c) bytes) (omega arith)

length-frame_at : (c : Conversion) (bytes : List ℕ) (i : ℕ) → 0 < frame_count c bytes → length (frame_at (frames_of_bytes c bytes) i) ≡ c.table.outputs
unfolding frames_of_bytes
length-frame_at c bytes i some =
    length-get_or-first_frames c (frame_count c bytes) (min i (length (frames_of_bytes c bytes) - 1)) bytes (omega (arith, some, length-frames_of_bytes c bytes))

length-output_frame : (c : Conversion) (bytes : List ℕ) (j : ℕ) → 0 < frame_count c bytes → length (output_frame c.rates (frames_of_bytes c bytes) j) ≡ c.table.outputs
unfolding output_frame
length-output_frame c bytes j some =
    length-between _ c.rates.output (frame_at (frames_of_bytes c bytes) (j * c.rates.input / c.rates.output)) (frame_at (frames_of_bytes c bytes) (j * c.rates.input / c.rates.output + 1))
    ∙ length-frame_at c bytes (j * c.rates.input / c.rates.output) some

-- ---- all of them

length-flat_map-range : (g : ℕ → List ℤ) (a n k : ℕ) → ((j : ℕ) → length (g j) ≡ k) → length (flat_map g (range_with_len a n)) ≡ n * k
length-flat_map-range g a zero k same = let none : 0 ≡ 0 * k = omega arith in none
length-flat_map-range g a (suc n) k same =
    let both : length (g a ++ flat_map g (range_with_len (a + 1) n)) ≡ length (g a) + length (flat_map g (range_with_len (a + 1) n)) = length-append (g a) (flat_map g (range_with_len (a + 1) n)) in
    both ∙ (let e : length (g a) + length (flat_map g (range_with_len (a + 1) n)) ≡ suc n * k = omega (arith, same a, length-flat_map-range g (a + 1) n k same) in e)

output_count-none : (r : RatePair) → AreRates r → output_count r 0 ≡ 0
output_count-none r rates = output_count-is r 0 0 rates.some_input (omega arith) (omega (arith, rates.some_input))

length-plug_of_by : (n : ℕ) (c : Conversion) (bytes : List ℕ) → AreRates c.rates → frame_count c bytes ≡ n → length (plug_of c bytes) ≡ output_count c.rates n * c.table.outputs
unfolding output_frames
length-plug_of_by zero c bytes rates none =
    let count : output_count c.rates (length (frames_of_bytes c bytes)) ≡ 0 = ap (output_count c.rates) (length-frames_of_bytes c bytes ∙ none) ∙ output_count-none c.rates rates in
    let nothing : 0 ≡ 0 * c.table.outputs = omega arith in
    ap (λ (k : ℕ). length (flat_map (output_frame c.rates (frames_of_bytes c bytes)) (range_with_len 0 k))) count
    ∙ nothing
    ∙ ap (λ (k : ℕ). k * c.table.outputs) (sym (output_count-none c.rates rates))
length-plug_of_by (suc n) c bytes rates some =
    length-flat_map-range (output_frame c.rates (frames_of_bytes c bytes)) 0 (output_count c.rates (length (frames_of_bytes c bytes))) c.table.outputs (λ j. length-output_frame c bytes j (omega (arith, some)))
    ∙ ap (λ (k : ℕ). output_count c.rates k * c.table.outputs) (length-frames_of_bytes c bytes ∙ some)

-- a conversion has the table's outputs in each output frame
pub length-plug_of : (c : Conversion) (bytes : List ℕ) → AreRates c.rates → length (plug_of c bytes) ≡ output_count c.rates (frame_count c bytes) * c.table.outputs
length-plug_of c bytes rates = length-plug_of_by (frame_count c bytes) c bytes rates refl

-- ---- more bytes

div-le_of_le : (a b k : ℕ) → 0 < k → a ≤ b → a / k ≤ b / k
div-le_of_le a b k some low = le-div (a / k) b k some (omega (arith, div-mul-le_self a k))

-- more bytes make no conversion shorter
pub length-plug_of-append : (c : Conversion) (bytes more : List ℕ) → AreRates c.rates → IsTable c.table → length (plug_of c bytes) ≤ length (plug_of c (bytes ++ more))
length-plug_of-append c bytes more rates table =
    let frames : frame_count c bytes ≤ frame_count c (bytes ++ more) =
    div-le_of_le (length bytes) (length (bytes ++ more)) (frame_bytes c) (frame_bytes-some c table) (omega (arith, length-append bytes more)) in
    let counts : output_count c.rates (frame_count c bytes) ≤ output_count c.rates (frame_count c (bytes ++ more)) =
    div-le_of_le (frame_count c bytes * c.rates.output + (c.rates.input - 1)) (frame_count c (bytes ++ more) * c.rates.output + (c.rates.input - 1)) c.rates.input rates.some_input (omega (arith, mul-le-mul_right c.rates.output frames)) in
    omega (arith, length-plug_of c bytes rates, length-plug_of c (bytes ++ more) rates, mul-le-mul_right c.table.outputs counts)

-- ---- no bytes

frame_count-nil : (c : Conversion) → frame_count c [] ≡ 0
frame_count-nil c = let none : 0 / frame_bytes c ≤ 0 = div-le_self 0 (frame_bytes c) in omega (arith, none)

frames_of_bytes-nil : (c : Conversion) → frames_of_bytes c [] ≡ []
unfolding frames_of_bytes
frames_of_bytes-nil c = ap (λ (n : ℕ). first_frames c n []) (frame_count-nil c)

pub known_of-nil : (c : Conversion) → known_of c [] ≡ []
unfolding output_frames
known_of-nil c = ap (known_samples c.rates) (frames_of_bytes-nil c)

pub plug_of-nil : (c : Conversion) → AreRates c.rates → plug_of c [] ≡ []
plug_of-nil c rates = nil_from_length (plug_of c []) (length-plug_of_by 0 c [] rates (frame_count-nil c) ∙ (let none : output_count c.rates 0 * c.table.outputs ≡ 0 = omega (arith, ap (λ (n : ℕ). n * c.table.outputs) (output_count-none c.rates rates)) in none))
