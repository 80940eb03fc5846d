-- What is known of a segment that can be: where its client's channels go, and that its samples are there.
use Rattle.lab_check.specs.Prelude.{ap, arith, get_or, length, List, mul-le-mul, None, Option, refl, Some, subst, sym, take, ℕ, [], ◌*◌, ◌++◌, ◌+◌, ◌<◌, ◌∙◌}
use Rattle.lab_check.specs.Prelude.{◌∷◌, ◌≡◌, ◌≤◌, div-mul-le_self, and_parts, eqb-true, leb-true, nat_tests, flat_map-append, append-nil, take_more}
use Rattle.lab_check.specs.Prelude.{All-get_or, get_or-range_with_len, length-range_with_len, get_or_from_slice_get, slice_get_within, slice_get, slice_index}
use Rattle.lab_check.specs.Prelude.{true, ℤ, Segment, identity, Entry, expand, Sound, ClientLine, Script, IsBoundWhere, IsClientLine, IsScript, bound_by}
use Rattle.lab_check.specs.Prelude.{entries_of_segment, frames_taken, is_bound, is_right_segment, is_within, entries_of_segments, IsSummed}
use Rattle.bindings.specs.AnswerLaws.{All-below-answered}
use Rattle.lab_run.specs.Client.{frames_of}
use Rattle.lab_check.proofs.Summing.{summed-both}

-- a segment that can be, of a client with this line and file
module _ (script : Script) (wavs : List Sound) (client : ℕ) (segment : Segment) (line : ClientLine) (wav : Sound) (line_is : slice_get script.clients client ≡ Some line)
    (wav_is : slice_get wavs client ≡ Some wav) where
  pub samples-of : entries_of_segment script wavs client segment ≡ expand client segment wav.samples (bound_by line wav)
  samples-of = rw (line_is, wav_is) refl

  both : is_right_segment script wavs (client, segment) ≡ true → (is_bound script.card line wav ≡ true) × (is_within script.card segment wav.channels (frames_of wav) ≡ true)
  both right = and_parts (is_bound script.card line wav) _ (rw (line_is, wav_is) at right)

  pub has-channels : is_right_segment script wavs (client, segment) ≡ true → length (bound_by line wav) ≡ wav.channels
  has-channels right =
      eqb-true _ _ (and_parts _ _ (both right).0).0

  pub few-channels : is_right_segment script wavs (client, segment) ≡ true → wav.channels ≤ script.card.channels
  few-channels right = leb-true _ _ (and_parts _ _ (both right).0).1

  pub has-samples : is_right_segment script wavs (client, segment) ≡ true → (segment.source + frames_taken segment) * length (bound_by line wav) ≤ length wav.samples
  has-samples right =
      let frames : segment.source + frames_taken segment ≤ frames_of wav = leb-true _ _ (and_parts _ _ (both right).1).1 in
      let product : (segment.source + frames_taken segment) * length (bound_by line wav) ≤ frames_of wav * length (bound_by line wav) =
      mul-le-mul {n₁ = segment.source + frames_taken segment} {m₁ = length (bound_by line wav)} {n₂ = frames_of wav} {m₂ = length (bound_by line wav)} frames (omega arith) in
      let same : frames_of wav * length (bound_by line wav) ≡ frames_of wav * wav.channels = ap (λ n. frames_of wav * n) (has-channels right) in
      let whole : frames_of wav * wav.channels ≤ length wav.samples = div-mul-le_self (length wav.samples) wav.channels in
      omega (arith, product, same, whole)

  pub part-within : is_right_segment script wavs (client, segment) ≡ true → segment.part ≤ length (bound_by line wav)
  part-within right = grind (arith, nat_tests)

  by_bindings : (bindings : Option (List ℕ)) → IsBoundWhere script.card.channels bindings → wav.channels ≤ script.card.channels → (q : ℕ)
      → q < length (Rattle.std.specs.Prelude.unwrap_or bindings (identity wav.channels))
      → slice_index (Rattle.std.specs.Prelude.unwrap_or bindings (identity wav.channels)) q < script.card.channels
  by_bindings None bound few q low =
      let size : length (identity wav.channels) ≡ wav.channels = length-range_with_len 0 wav.channels in
      let in_range : q < wav.channels = omega (arith, size, low) in
      let value : slice_index (identity wav.channels) q ≡ 0 + q = get_or-range_with_len 0 wav.channels q 0 in_range in
      omega (arith, value, in_range, few)
  by_bindings (Some list) bound few q low = All-get_or (λ channel. channel < script.card.channels) list q 0 low (All-below-answered list script.card.channels bound)

  pub channels-below : IsScript script → is_right_segment script wavs (client, segment) ≡ true → (q : ℕ) → q < length (bound_by line wav)
      → slice_index (bound_by line wav) q < script.card.channels
  channels-below valid right =
      let is_client : IsClientLine script.card line =
      subst (IsClientLine script.card) (get_or_from_slice_get script.clients client line line line_is)
      (All-get_or (IsClientLine script.card) script.clients client line (slice_get_within script.clients client line line_is) valid.each_client) in
      by_bindings line.bindings is_client.bindings (few-channels right)

-- one segment more is added
pub parts-more : (script : Script) (wavs : List Sound) (from k : ℕ) (segments : List (ℕ × Segment)) (none : ℕ × Segment) (old mid new : List ℤ) → k < length segments
    → IsSummed script.card.channels from (entries_of_segments script wavs (take k segments)) old mid
    → IsSummed script.card.channels from (entries_of_segment script wavs (get_or segments k none).0 (get_or segments k none).1) mid new
    → IsSummed script.card.channels from (entries_of_segments script wavs (take (k + 1) segments)) old new
parts-more script wavs from k segments none old mid new low before one =
    let own = λ (pair : ℕ × Segment). entries_of_segment script wavs pair.0 pair.1 in
    let split : entries_of_segments script wavs (take (k + 1) segments) ≡ entries_of_segments script wavs (take k segments) ++ own (get_or segments k none) =
    ap (entries_of_segments script wavs) (take_more segments k none low)
    ∙ flat_map-append own (take k segments) (get_or segments k none ∷ [])
    ∙ ap (λ es. entries_of_segments script wavs (take k segments) ++ es) (append-nil (own (get_or segments k none))) in
    subst (λ (es : List Entry). IsSummed script.card.channels from es old new) (sym split)
    (summed-both script.card.channels from (entries_of_segments script wavs (take k segments)) (own (get_or segments k none)) old mid new before one)
