-- Sums to which entries are added.
use Rattle.lab_check.specs.Prelude.{ap, arith, div-add-mod', length, length-set, List, refl, set, subst, sym, take, ℕ, [], ◌%◌, ◌*◌, ◌++◌, ◌+◌, ◌/◌, ◌<◌, ◌∙◌}
use Rattle.lab_check.specs.Prelude.{◌∷◌, ◌≡◌, ◌≤◌, and_from, eq-eqb, eqb-false, eqb-true, nat_tests, flat_map-append, int_wrap-add_same, int_wrap_fits, ints}
use Rattle.lab_check.specs.Prelude.{SFits-int_wrap, get_or-set_other, get_or-set_same, map-append, take_more, div-mul-add, mod-mul-add, int_wrap, w64, flat_map}
use Rattle.lab_check.specs.Prelude.{range_with_len, Bool, false, if◌then◌else◌, nat_eq, nat_lt, pos, slice_index, slice_index_or, suc, true, zero, ℤ, ◌+ℤ◌}
use Rattle.lab_check.specs.Prelude.{rising, Entry, Added, total-append, at, is_at, total, frame_entries, range_with_len-append, IsSummed}
use Rattle.run_laws.proofs.Expanded.{flat-none, other-frame}

-- ---- nothing, one after the other, and one entry

pub summed-none : (channels from : ℕ) (es : List Entry) (sums : List ℤ) → ((k : ℕ) → k < length sums → at es (from + k / channels) (k % channels) ≡ [])
    → IsSummed channels from es sums sums
summed-none channels from es sums none = grind (arith, nat_tests)

pub summed-both : (channels from : ℕ) (xs ys : List Entry) (old mid new : List ℤ) → IsSummed channels from xs old mid → IsSummed channels from ys mid new
    → IsSummed channels from (xs ++ ys) old new
summed-both channels from xs ys old mid new first second = record {
  same = second.same ∙ first.same;
  sums = λ k low.
      let f = from + k / channels in
      let c = k % channels in
      let all : total (xs ++ ys) f c ≡ total xs f c +ℤ total ys f c = total-append xs ys f c in
      let sum : (slice_index_or old k (pos 0) +ℤ total xs f c) +ℤ total ys f c ≡ slice_index_or old k (pos 0) +ℤ total (xs ++ ys) f c = omega (arith, ints, all) in
      second.sums k (subst (λ n. k < n) (sym first.same) low)
      ∙ int_wrap-add_same w64 (slice_index_or mid k (pos 0)) (slice_index_or old k (pos 0) +ℤ total xs f c) (total ys f c) (first.sums k low)
      ∙ ap (int_wrap w64) sum;
}

module _ (channels from row channel member : ℕ) (sample : ℤ) where
  abbrev pub the_entry : Entry
  the_entry = record { member = member; frame = from + row; channel = channel; sample = sample; kind = Added }

  one-total : (f c : ℕ) (b : Bool) → is_at f c the_entry ≡ b → total (the_entry ∷ []) f c ≡ (if b then sample else pos 0)
  one-total f c true is = rw is (omega (arith, ints))
  one-total f c false is = rw is refl

  pub summed-one : (old : List ℤ) (value : ℤ) → channel < channels → row * channels + channel < length old
      → int_wrap w64 value ≡ int_wrap w64 (slice_index_or old (row * channels + channel) (pos 0) +ℤ sample)
      → IsSummed channels from (the_entry ∷ []) old (set old (row * channels + channel) value)
  summed-one old value in_channels in_sums is = record { same = length-set old place value; sums = λ k low. by_place k (nat_eq place k) refl }
    where
      place : ℕ
      place = row * channels + channel

      is-there : (k : ℕ) (b : Bool) → nat_eq place k ≡ b → is_at (from + k / channels) (k % channels) the_entry ≡ b
      is-there k true same = subst (λ n. is_at (from + n / channels) (n % channels) the_entry ≡ true) (eqb-true place k same)
          (rw (div-mul-add row channels channel in_channels, mod-mul-add row channels channel in_channels) (and_from _ _ (eq-eqb (from + row) _ refl) (eq-eqb channel _ refl)))
      is-there k false other =
          let parts : k / channels * channels + k % channels ≡ k = div-add-mod' k channels in
          grind (arith, nat_tests, parts, other)

      by_place : (k : ℕ) (b : Bool) → nat_eq place k ≡ b
          → int_wrap w64 (slice_index_or (set old place value) k (pos 0)) ≡ int_wrap w64 (slice_index_or old k (pos 0) +ℤ total (the_entry ∷ []) (from + k / channels) (k % channels))
      by_place k true same = rw (one-total _ _ true (is-there k true same)) (subst (λ n. int_wrap w64 (slice_index_or (set old place value) n (pos 0)) ≡ int_wrap w64 (slice_index_or old n (pos 0) +ℤ sample))
          (eqb-true place k same) (ap (int_wrap w64) (get_or-set_same old place value (pos 0) in_sums) ∙ is))
      by_place k false other = rw (one-total _ _ false (is-there k false other)) (ap (int_wrap w64)
          (get_or-set_other old place k value (pos 0) (λ e. eqb-false place k other (sym e)) ∙ omega (arith, ints)))

-- ---- a frame

pub frame-more : (member : ℕ) (bindings : List ℕ) (sample_of : ℕ → ℤ) (place card : ℕ) → place < length (rising bindings)
    → frame_entries member bindings sample_of (place + 1) card
    ≡ frame_entries member bindings sample_of place card
    ++ record {
      member = member;
      frame = card;
      channel = slice_index bindings (slice_index (rising bindings) place);
      sample = sample_of (slice_index (rising bindings) place);
      kind = Added;
    } ∷ []
frame-more member bindings sample_of place card low =
    rw (take_more (rising bindings) place 0 low) (map-append _ (take place (rising bindings)) (slice_index (rising bindings) place ∷ []))

-- one place more of a frame is added
pub frame-step : (channels from row place at member client channel : ℕ) (bindings : List ℕ) (samples old sums : List ℤ) (value : ℤ)
    → place < length (rising bindings) → client ≡ slice_index (rising bindings) place → channel ≡ slice_index bindings client
    → channel < channels → row * channels + channel < length sums
    → value ≡ int_wrap w64 (slice_index_or sums (row * channels + channel) (pos 0) +ℤ slice_index_or samples (at + client) (pos 0))
    → IsSummed channels from (frame_entries member bindings (λ q. slice_index_or samples (at + q) (pos 0)) place (from + row)) old sums
    → IsSummed channels from (frame_entries member bindings (λ q. slice_index_or samples (at + q) (pos 0)) (place + 1) (from + row)) old (set sums (row * channels + channel) value)
frame-step channels from row place at member client channel bindings samples old sums value low client_is channel_is in_channels in_sums value_is before =
    let sample_of = λ (q : ℕ). slice_index_or samples (at + q) (pos 0) in
    let wrapped : int_wrap w64 value ≡ int_wrap w64 (slice_index_or sums (row * channels + channel) (pos 0) +ℤ sample_of client) =
    ap (int_wrap w64) value_is ∙ int_wrap_fits w64 _ (SFits-int_wrap w64 _) in
    let one : IsSummed channels from (the_entry channels from row channel member (sample_of client) ∷ []) sums (set sums (row * channels + channel) value) =
    summed-one channels from row channel member (sample_of client) sums value in_channels in_sums wrapped in
    let entry_is : record { member = member; frame = from + row; channel = channel; sample = sample_of client; kind = Added }
    ≡ record {
      member = member;
      frame = from + row;
      channel = slice_index bindings (slice_index (rising bindings) place);
      sample = sample_of (slice_index (rising bindings) place);
      kind = Added;
    } = rw (channel_is, client_is) refl in
    subst (λ (es : List Entry). IsSummed channels from es old (set sums (row * channels + channel) value)) (sym (frame-more member bindings sample_of place (from + row) low))
    (summed-both channels from (frame_entries member bindings sample_of place (from + row)) _ old sums (set sums (row * channels + channel) value) before
    (subst (λ (e : Entry). IsSummed channels from (e ∷ []) sums (set sums (row * channels + channel) value)) entry_is one))

-- ---- a segment, frame by frame

module _ (member : ℕ) (bindings : List ℕ) (sample_of : ℕ → ℕ → ℤ) (card whole part : ℕ) where
  -- how many channels a frame has: all of them, or those of the part
  abbrev pub places_at : ℕ → ℕ
  places_at j = if nat_lt j whole then length bindings else part

  abbrev pub frame_of_segment : ℕ → List Entry
  frame_of_segment j = frame_entries member bindings (sample_of j) (places_at j) (card + j)

  abbrev pub whole_frame : ℕ → List Entry
  whole_frame j = frame_entries member bindings (sample_of j) (length bindings) (card + j)

  abbrev pub of : ℕ → ℕ → List Entry
  of a n = flat_map frame_of_segment (range_with_len a n)

  -- frames and those behind them
  pub of-append : (a n k b : ℕ) → a + n ≡ b → of a (n + k) ≡ of a n ++ of b k
  of-append a n k b is = ap (flat_map frame_of_segment) (range_with_len-append a n k ∙ ap (λ c. range_with_len a n ++ range_with_len c k) is)
      ∙ flat_map-append frame_of_segment (range_with_len a n) (range_with_len b k)

  pub whole-same : (a n : ℕ) → a + n ≤ whole → flat_map whole_frame (range_with_len a n) ≡ of a n
  whole-same a zero low = refl
  whole-same a (suc n) low =
      let test : nat_lt a whole ≡ true = grind (arith, nat_tests, low) in
      rw test (ap (λ es. whole_frame a ++ es) (whole-same (a + 1) n (omega (arith, low))))

  pub outside : (a n frame channel : ℕ) → ((j : ℕ) → a ≤ j → j < a + n → card + j ≡ frame → ⊥)
      → at (of a n) frame channel ≡ []
  outside a n frame channel not = flat-none frame_of_segment frame channel a n (λ j low high.
      other-frame member bindings (sample_of j) (card + j) frame channel (take (places_at j) (rising bindings)) (let apart = not j low high in grind (arith, nat_tests, apart)))
