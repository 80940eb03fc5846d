-- A segment has at most one sample at a frame and channel: on a channel of its client, and in one of its frames.
use Rattle.run_laws.specs.Prelude.{ap, arith, inl, inr, length, List, None, Option, refl, subst, sym, ℕ, [], ◌++◌, ◌+◌, ◌<◌, ◌∙◌, ◌∷◌, ◌≡◌, ◌≤◌, ◌⊎◌}
use Rattle.run_laws.specs.Prelude.{false≢true, nat_tests, append-nil, length-append, flat_map-append, flat_map, range_with_len, false, map, slice_index}
use Rattle.run_laws.specs.Prelude.{slice_index_or, suc, take, true, zero, ℤ, Segment, rising, rising_from-rises, rising_from-within, has_channel, Entry}
use Rattle.run_laws.specs.Prelude.{at-append, at, expand, frame_entries, sample_at, Client, segments_of, all_segments, bindings_of, entries_by, entries_of}
use Rattle.run_laws.specs.Prelude.{AtPort, no_client, Session, Setup}
use Rattle.dshare.proofs.Lists.{has_channel-at}
use Rattle.run_laws.specs.Once.{PlacesOnce}
use Rattle.run_laws.proofs.Expanded.{at-flat, entries-so, entry_of, part_at, whole_at}
use Rattle.run_laws.proofs.Numbered.{numbered-at, numbered-parts}
use Rattle.run_laws.proofs.Onward.{begun, begun-some}
use Rattle.run_laws.proofs.OwnLines.{members_of}

-- a list has no member, or one with a fact
abbrev pub IsOne : List ℤ → Type 0 → Type 0
IsOne l P = (length l ≡ 0) ⊎ ((length l ≡ 1) × P)

one-most : (l : List ℤ) (P : Type 0) → IsOne l P → length l ≤ 1
one-most l P (inl none) = omega (arith, none)
one-most l P (inr (one, is)) = omega (arith, one)

one-map : (l : List ℤ) (P Q : Type 0) → (P → Q) → IsOne l P → IsOne l Q
one-map l P Q map (inl none) = inl none
one-map l P Q map (inr (one, is)) = inr (one, map is)

-- of two lists that are so, not both of which have a member
one-append : {P Q R : Type 0} (l r : List ℤ) → IsOne l P → IsOne r Q → (P → R) → (Q → R) → (P → Q → ⊥) → IsOne (l ++ r) R
one-append l r (inl none) (inl last) left right not = inl (omega (arith, length-append l r, none, last))
one-append l r (inr (one, p)) (inl last) left right not = inr (omega (arith, length-append l r, one, last), left p)
one-append l r (inl none) (inr (one, q)) left right not = inr (omega (arith, length-append l r, none, one), right q)
one-append l r (inr (one, p)) (inr (also, q)) left right not = absurd (not p q)

-- of several lists that are so, and of which no two have a member
range-one : (g : ℕ → List ℤ) (Has : ℕ → Type 0) → ((n m : ℕ) → Has n → Has m → n ≡ m) → ((n : ℕ) → IsOne (g n) (Has n))
    → (first n : ℕ) → IsOne (flat_map g (range_with_len first n)) ((j : ℕ) × (first ≤ j) × (j < first + n) × Has j)
range-one g Has only each first zero = inl refl
range-one g Has only each first (suc n) = one-append (g first) (flat_map g (range_with_len (first + 1) n)) (each first) (range-one g Has only each (first + 1) n)
    (λ has. (first, omega arith, omega arith, has)) (λ is. (is.0, omega (arith, is.1), omega (arith, is.2), is.3))
    (λ has is. let same = only first is.0 has is.3 in omega (arith, same, is.1))

-- ---- a frame

-- channels whose bindings rise
abbrev Rises : List ℕ → List ℕ → Type 0
Rises bindings list = (i j : ℕ) → i < j → j < length list → slice_index bindings (slice_index list i) < slice_index bindings (slice_index list j)

has-bound : (bindings : List ℕ) (channel q : ℕ) → q < length bindings → slice_index bindings q ≡ channel → has_channel bindings channel ≡ true
has-bound bindings channel q within is = subst (λ (c : ℕ). has_channel bindings c ≡ true) is (has_channel-at bindings q within)

module _ (member : ℕ) (bindings : List ℕ) (sample_of : ℕ → ℤ) (card frame channel : ℕ) where
  -- where a frame with so many channels has a sample
  abbrev pub IsInFrame : ℕ → Type 0
  IsInFrame n = (card ≡ frame) × (has_channel bindings channel ≡ true) × (0 < n)

  -- the sample of one channel
  channel-one : (q : ℕ) → IsOne (at (entry_of member bindings sample_of card q ∷ []) frame channel) ((card ≡ frame) × (slice_index bindings q ≡ channel))
  channel-one q = grind (arith, nat_tests)

  -- those of the first channels of a list
  abbrev IsAmong : List ℕ → ℕ → Type 0
  IsAmong list n = (j : ℕ) × (j < n) × (j < length list) × (card ≡ frame) × (slice_index bindings (slice_index list j) ≡ channel)

  channels-one : (list : List ℕ) (n : ℕ) → Rises bindings list → IsOne (at (map (entry_of member bindings sample_of card) (take n list)) frame channel) (IsAmong list n)
  channels-one [] zero rises = inl refl
  channels-one [] (suc n) rises = inl refl
  channels-one (q ∷ list) zero rises = inl refl
  channels-one (q ∷ list) (suc n) rises = subst (λ (l : List ℤ). IsOne l (IsAmong (q ∷ list) (suc n)))
      (sym (at-append (entry_of member bindings sample_of card q ∷ []) (map (entry_of member bindings sample_of card) (take n list)) frame channel))
      (one-append (at (entry_of member bindings sample_of card q ∷ []) frame channel) (at (map (entry_of member bindings sample_of card) (take n list)) frame channel) (channel-one q)
      (channels-one list n (λ i j before within. rises (suc i) (suc j) (omega (arith, before)) (omega (arith, within))))
      (λ is. (0, omega arith, omega arith, is.0, is.1)) (λ is. (suc is.0, omega (arith, is.1), omega (arith, is.2), is.3, is.4))
      (λ is others.
      let past : slice_index bindings q < slice_index bindings (slice_index list others.0) = rises 0 (suc others.0) (omega arith) (omega (arith, others.2)) in
      omega (arith, past, is.1, others.4)))

  frame-one : (n : ℕ) → IsOne (at (frame_entries member bindings sample_of n card) frame channel) (IsInFrame n)
  unfolding rising
  frame-one n = one-map (at (frame_entries member bindings sample_of n card) frame channel) (IsAmong (rising bindings) n) (IsInFrame n)
      (λ is. (is.3, has-bound bindings channel (slice_index (rising bindings) is.0) (rising_from-within bindings 0 256 is.0 is.2).client_in_range is.4, omega (arith, is.1)))
      (channels-one (rising bindings) n (rising_from-rises bindings 0 256))

-- ---- a segment

-- the frame of the card after a segment
abbrev pub seg_end : Segment → ℕ
seg_end s = s.card + s.whole + begun s.part

module _ (member : ℕ) (segment : Segment) (samples : List ℤ) (bindings : List ℕ) (frame channel : ℕ) where
  -- where it has a sample
  abbrev pub IsInSegment : Type 0
  IsInSegment = (has_channel bindings channel ≡ true) × (segment.card ≤ frame) × (frame < seg_end segment)

  pub segment-one : IsOne (at (expand member segment samples bindings) frame channel) IsInSegment
  segment-one = subst (λ (l : List ℤ). IsOne l IsInSegment) (sym (at-append (flat_map whole (range_with_len 0 segment.whole)) part frame channel
      ∙ ap (λ l. l ++ at part frame channel) (at-flat whole frame channel (range_with_len 0 segment.whole))))
      (one-append (flat_map (λ j. at (whole j) frame channel) (range_with_len 0 segment.whole)) (at part frame channel)
      (range-one (λ j. at (whole j) frame channel) IsInWhole (λ j k one two. omega (arith, one.0, two.0)) each 0 segment.whole)
      (frame-one member bindings (sample_of (0 + segment.whole)) (segment.card + (0 + segment.whole)) frame channel segment.part)
      (λ is. (is.3.1, omega (arith, is.3.0), inside (begun segment.part) is.0 is.2 is.3.0))
      (λ is. (is.1, omega (arith, is.0), rw (begun-some segment.part is.2) (omega (arith, is.0)))) (λ is last. omega (arith, is.2, is.3.0, last.0)))
    where
      sample_of : ℕ → ℕ → ℤ
      sample_of j = sample_at samples (length bindings) (segment.source + j)

      whole : ℕ → List Entry
      whole = whole_at member segment samples bindings

      part : List Entry
      part = part_at member segment samples bindings

      IsInWhole : ℕ → Type 0
      IsInWhole j = (segment.card + j ≡ frame) × (has_channel bindings channel ≡ true)

      each : (j : ℕ) → IsOne (at (whole j) frame channel) (IsInWhole j)
      each j = one-map (at (whole j) frame channel) ((segment.card + j ≡ frame) × (has_channel bindings channel ≡ true) × (0 < length bindings)) (IsInWhole j) (λ is. (is.0, is.1))
          (frame-one member bindings (sample_of j) (segment.card + j) frame channel (length bindings))

      inside : (begins : ℕ) → (j : ℕ) → j < 0 + segment.whole → segment.card + j ≡ frame → frame < segment.card + segment.whole + begins
      inside begins j low is = omega (arith, low, is)

  pub none-at : (IsInSegment → ⊥) → at (expand member segment samples bindings) frame channel ≡ []
  none-at not = by_list (at (expand member segment samples bindings) frame channel) segment-one
    where
      by_list : (l : List ℤ) → IsOne l IsInSegment → l ≡ []
      by_list [] one = refl
      by_list (x ∷ l) (inl none) = absurd (omega (arith, none))
      by_list (x ∷ l) (inr (one, is)) = absurd (not is)

pub segment-once : (number : ℕ) (segment : Segment) (samples : List ℤ) (bindings : List ℕ) → PlacesOnce number segment samples bindings
segment-once number segment samples bindings frame channel = one-most (at (expand number segment samples bindings) frame channel)
    (IsInSegment number segment samples bindings frame channel) (segment-one number segment samples bindings frame channel)

-- ---- the samples of a client at a frame and channel

-- the channels of a client
abbrev pub bound_of : Session → ℕ → List ℕ
bound_of session n = bindings_of (slice_index_or session.clients n None)

module _ (session : Session) (frame channel : ℕ) where
  -- the samples of some segments of a client, and their number
  abbrev pub heard_by : ℕ → List Segment → List ℤ
  heard_by n segments = flat_map (λ s. at (entries_by session (n, s)) frame channel) segments

  abbrev pub heard_count : ℕ → List Segment → ℕ
  heard_count n segments = length (heard_by n segments)

  -- a segment has a sample only on a channel of its client, and in one of its frames
  abbrev pub Lands : ℕ → Segment → Type 0
  Lands n s = (has_channel (bound_of session n) channel ≡ true) × (s.card ≤ frame) × (frame < seg_end s)

  pub count-one : (n : ℕ) (s : Segment) → IsOne (at (entries_by session (n, s)) frame channel) (Lands n s)
  count-one n s = entries-so session n s (λ es. IsOne (at es frame channel) (Lands n s)) (inl refl) (λ wav setup wav_is setup_is.
      subst (λ (o : Option Setup). IsOne (at (expand n s wav.samples setup.bindings) frame channel) ((has_channel (bindings_of o) channel ≡ true) × (s.card ≤ frame) × (frame < seg_end s)))
      (sym setup_is) (segment-one n s wav.samples setup.bindings frame channel))

  pub count-more : (n : ℕ) (segments : List Segment) (s : Segment) → heard_count n (segments ++ s ∷ []) ≡ heard_count n segments + length (at (entries_by session (n, s)) frame channel)
  count-more n segments s = ap length (flat_map-append (λ t. at (entries_by session (n, t)) frame channel) segments (s ∷ []))
      ∙ length-append (heard_by n segments) (heard_by n (s ∷ [])) ∙ ap (λ k. heard_count n segments + k) (ap length (append-nil (at (entries_by session (n, s)) frame channel)))

  pub count-unbound : (n : ℕ) (segments : List Segment) → has_channel (bound_of session n) channel ≡ false → heard_count n segments ≡ 0
  count-unbound n [] not = refl
  count-unbound n (s ∷ segments) not = by_one (count-one n s) (count-unbound n segments not)
    where
      by_one : IsOne (at (entries_by session (n, s)) frame channel) (Lands n s) → heard_count n segments ≡ 0 → heard_count n (s ∷ segments) ≡ 0
      by_one (inl none) rest = length-append (at (entries_by session (n, s)) frame channel) (heard_by n segments) ∙ omega (arith, none, rest)
      by_one (inr (one, lands)) rest = absurd (false≢true (sym not ∙ lands.0))

  -- ---- all clients

  -- where but one client has a sample, there is one
  pub all-once : (clients : List (AtPort × Client)) (Has : ℕ → Type 0) → ((n m : ℕ) → Has n → Has m → n ≡ m)
      → ((n : ℕ) → IsOne (heard_by n (segments_of (slice_index_or clients n (no_client session.ring)).1)) (Has n))
      → length (at (entries_of session (all_segments clients)) frame channel) ≤ 1
  all-once clients Has only each = subst (λ (l : List ℤ). length l ≤ 1)
      (sym (at-flat (entries_by session) frame channel (all_segments clients)
      ∙ numbered-parts (λ (x : AtPort × Client). segments_of x.1) (λ part. at (entries_by session part) frame channel) 0 clients))
      (one-most (flat_map (λ n. heard_by n (members_of n (all_segments clients))) (range_with_len 0 (length clients))) _ (range-one (λ n. heard_by n (members_of n (all_segments clients))) Has only (λ n. subst (λ (l : List Segment). IsOne (heard_by n l) (Has n))
      (sym (numbered-at (λ (x : AtPort × Client). segments_of x.1) (no_client session.ring) n 0 n clients (omega arith) refl)) (each n)) 0 (length clients)))
