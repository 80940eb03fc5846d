-- The indexes of all clients and channels tell where a client has a sample.
use Rattle.lab_check.specs.Prelude.{ap, arith, inl, inr, length, List, mul-le-mul, sym, ℕ, [], ◌%◌, ◌*◌, ◌+◌, ◌/◌, ◌<◌, ◌^◌, ◌∙◌, ◌≡◌, ◌≤◌, ◌⊎◌, cases_lt}
use Rattle.lab_check.specs.Prelude.{list_any_none, div-mul-add, mod-mul-add, slice_get_past, All, false, slice_get, slice_index_or, suc, true, Segment, Sound}
use Rattle.lab_check.specs.Prelude.{Script, FrameSpan, covers, is_right_segment, AreIndexes, has_client_sample, is_in_index}
use Rattle.lab_check.proofs.ClientTotals.{in-range}
use Rattle.lab_check.proofs.Covers.{covers-other}

-- no segment that can be is of a client that there isn't
none-of-client : (script : Script) (wavs : List Sound) (segments : List (ℕ × Segment)) (number channel frame : ℕ) → length script.clients ≤ number
    → All (λ segment. is_right_segment script wavs segment ≡ true) segments → has_client_sample script wavs segments number channel frame ≡ false
none-of-client script wavs segments number channel frame past are =
    list_any_none (covers script wavs number frame channel) segments (λ k d low.
    let pair : ℕ × Segment = slice_index_or segments k d in
    let inside : pair.0 < length script.clients = in-range script wavs frame channel script.clients pair.1 pair.0 (slice_get wavs pair.0) (are k d low) in
    covers-other script wavs number frame channel pair.0 pair.1 (λ same. absurd (omega (arith, inside, past, same))))

-- the indexes so far, in the order of clients and then of channels
abbrev pub AreIndexesUpTo : Script → List Sound → List (ℕ × Segment) → List (List FrameSpan) → ℕ → Type 0
AreIndexesUpTo script wavs segments indexes count = (k frame : ℕ) → k < count → frame < 2 ^ 64
    → is_in_index frame (slice_get indexes k)
    ≡ has_client_sample script wavs segments (k / script.card.channels) (k % script.card.channels) frame

pub indexes-are : (script : Script) (wavs : List Sound) (segments : List (ℕ × Segment)) (indexes : List (List FrameSpan)) (count : ℕ)
    → count ≡ length script.clients * script.card.channels → length indexes ≡ count
    → All (λ segment. is_right_segment script wavs segment ≡ true) segments
    → AreIndexesUpTo script wavs segments indexes count → AreIndexes script wavs segments indexes
indexes-are script wavs segments indexes count count_is size right each number channel frame inside low =
    by_place (cases_lt (number * script.card.channels + channel) count)
  where
    place : ℕ
    place = number * script.card.channels + channel

    by_place : ((number * script.card.channels + channel < count) ⊎ (count ≤ number * script.card.channels + channel))
        → is_in_index frame (slice_get indexes (number * script.card.channels + channel)) ≡ has_client_sample script wavs segments number channel frame
    by_place (inl within) =
        each place frame within low
        ∙ ap (λ n. has_client_sample script wavs segments n (place % script.card.channels) frame) (div-mul-add number script.card.channels channel inside)
        ∙ ap (λ n. has_client_sample script wavs segments number n frame) (mod-mul-add number script.card.channels channel inside)
    by_place (inr past) =
        ap (is_in_index frame) (slice_get_past indexes place (omega (arith, size, past)))
        ∙ sym (none-of-client script wavs segments number channel frame (behind (cases_lt number (length script.clients))) right)
      where
        behind : ((number < length script.clients) ⊎ (length script.clients ≤ number)) → length script.clients ≤ number
        behind (inr most) = most
        behind (inl less) =
            let rows : suc number * script.card.channels ≤ length script.clients * script.card.channels = mul-le-mul {n₁ = suc number} {m₁ = script.card.channels} {n₂ = length script.clients} {m₂ = script.card.channels} less (omega arith) in
            let step : suc number * script.card.channels ≡ number * script.card.channels + script.card.channels = omega arith in
            absurd (omega (arith, rows, step, past, inside, count_is))
