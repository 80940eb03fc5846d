-- No sum of a report's samples passes 64 bits.
use Rattle.lab_check.specs.Prelude.{arith, FitsSigned, length, List, None, Option, refl, Some, ℕ, [], ◌*◌, ◌++◌, ◌+◌, ◌<◌, ◌^◌, ◌∷◌, ◌≡◌, ◌≤◌, ints}
use Rattle.lab_check.specs.Prelude.{recursion_from_All, AllByRecursion, All, Bool, false, filter, fold, if◌then◌else◌, map, negsuc, pos, slice_get, true, ℤ}
use Rattle.lab_check.specs.Prelude.{◌+ℤ◌, ◌≤ℤ◌, Segment, IsSample, Entry, fold-from, total-append, at, count, is_at, sum_of_samples, total, value_of, expand}
use Rattle.lab_check.specs.Prelude.{Sound, ClientLine, Script, bound_by, file_samples, AreSamples, entries_of_segment, entries_of_segments}
use Rattle.std.proofs.Common.{w64}
use Rattle.run_laws.specs.Once.{PlacesOnce}
use Rattle.run_laws.proofs.OnePlayed.{AreEntries, expand-samples, file-of}

-- a number is from -n to n
pub record IsAround (n : ℕ) (x : ℤ) : Type 0 where
  pub low : pos 0 ≤ℤ (x +ℤ pos n)
  pub high : x ≤ℤ pos n

near-sample : (x : ℤ) → IsSample x → IsAround 32768 x
near-sample x is = let low = is.low in let high = is.high in record { low = omega (arith, ints, low); high = omega (arith, ints, high) }

near-zero : (n : ℕ) → IsAround n (pos 0)
near-zero n = record { low = omega (arith, ints); high = omega (arith, ints) }

near-more : (n m : ℕ) (x : ℤ) → n ≤ m → IsAround n x → IsAround m x
near-more n m x most near = record { low = omega (arith, ints, most, near.low); high = omega (arith, ints, most, near.high) }

pub near-fits : (n : ℕ) (x : ℤ) → n < 2 ^ 62 → IsAround n x → FitsSigned w64 x
near-fits n (pos m) low near = omega (arith, ints, low, near.high)
near-fits n (negsuc m) low near = omega (arith, ints, low, near.low)

-- ---- totals

pub total-near : (es : List Entry) (frame channel : ℕ) → AreEntries es → IsAround (32768 * count es frame channel) (total es frame channel)
total-near [] frame channel are = near-zero 0
total-near (e ∷ es) frame channel are = by_place (total-near es frame channel are.1) (is_at frame channel e)
  where
    by_place : IsAround (32768 * count es frame channel) (total es frame channel) → (b : Bool)
        → IsAround (32768 * length (map value_of (if b then e ∷ filter (is_at frame channel) es else filter (is_at frame channel) es)))
        (sum_of_samples (map value_of (if b then e ∷ filter (is_at frame channel) es else filter (is_at frame channel) es)))
    by_place rest false = rest
    by_place rest true =
        let sum : fold (λ a s. a +ℤ s) (pos 0 +ℤ value_of e) (at es frame channel) ≡ (pos 0 +ℤ value_of e) +ℤ total es frame channel = fold-from (pos 0 +ℤ value_of e) (at es frame channel) in
        let more : IsAround 32768 (value_of e) = near-sample (value_of e) are.0 in
        record { low = omega (arith, ints, sum, more.low, rest.low); high = omega (arith, ints, sum, more.high, rest.high) }

-- a segment has at most one sample at a place
segment-near : ((number : ℕ) (segment : Segment) (samples : List ℤ) (bindings : List ℕ) → PlacesOnce number segment samples bindings)
    → (member : ℕ) (segment : Segment) (line : Option ClientLine) (wav : Option Sound) (frame channel : ℕ)
    → ((w : Sound) → wav ≡ Some w → AllByRecursion IsSample w.samples)
    → IsAround 32768 (total (file_samples member segment line wav) frame channel)
segment-near once member segment (Some line) (Some wav) frame channel are =
    let one : count (expand member segment wav.samples (bound_by line wav)) frame channel ≤ 1 = once member segment wav.samples (bound_by line wav) frame channel in
    near-more (32768 * count (expand member segment wav.samples (bound_by line wav)) frame channel) 32768 _ (omega (arith, one))
    (total-near (expand member segment wav.samples (bound_by line wav)) frame channel (expand-samples member segment wav.samples (bound_by line wav) (are wav refl)))
segment-near once member segment (Some line) None frame channel are = near-zero 32768
segment-near once member segment None wav frame channel are = near-zero 32768

placed-near : ((number : ℕ) (segment : Segment) (samples : List ℤ) (bindings : List ℕ) → PlacesOnce number segment samples bindings)
    → (script : Script) (wavs : List Sound) (segments : List (ℕ × Segment)) (frame channel : ℕ) → AllByRecursion (λ (w : Sound). All IsSample w.samples) wavs
    → IsAround (32768 * length segments) (total (entries_of_segments script wavs segments) frame channel)
placed-near once script wavs [] frame channel are = near-zero 0
placed-near once script wavs ((client, segment) ∷ segments) frame channel are =
    let own = entries_of_segment script wavs client segment in
    let first : IsAround 32768 (total own frame channel) = segment-near once client segment (slice_get script.clients client) (slice_get wavs client) frame channel (λ w is. file-of wavs client w are is) in
    let rest : IsAround (32768 * length segments) (total (entries_of_segments script wavs segments) frame channel) = placed-near once script wavs segments frame channel are in
    let sum : total (own ++ entries_of_segments script wavs segments) frame channel ≡ total own frame channel +ℤ total (entries_of_segments script wavs segments) frame channel =
    total-append own (entries_of_segments script wavs segments) frame channel in
    record { low = omega (arith, ints, sum, first.low, rest.low); high = omega (arith, ints, sum, first.high, rest.high) }

pub placed_fits : ((number : ℕ) (segment : Segment) (samples : List ℤ) (bindings : List ℕ) → PlacesOnce number segment samples bindings)
    → (script : Script) (wavs : List Sound) (segments : List (ℕ × Segment)) (frame channel : ℕ) → AreSamples wavs
    → length segments < 2 ^ 32 → FitsSigned w64 (total (entries_of_segments script wavs segments) frame channel)
placed_fits once script wavs segments frame channel are few =
    near-fits (32768 * length segments) (total (entries_of_segments script wavs segments) frame channel) (omega (arith, few))
    (placed-near once script wavs segments frame channel (recursion_from_All (λ (w : Sound). All IsSample w.samples) wavs are))
