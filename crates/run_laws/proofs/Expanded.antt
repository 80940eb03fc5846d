-- Right after a segment there is no sample of it.
use Rattle.run_laws.specs.Prelude.{ap, arith, length, List, None, Option, refl, Some, ℕ, [], ◌++◌, ◌+◌, ◌<◌, ◌∙◌, ◌∷◌, ◌≡◌, ◌≤◌, eq-eqb, nat_tests, flat_map}
use Rattle.run_laws.specs.Prelude.{range_with_len, false, map, slice_get, slice_index, slice_index_or, suc, take, true, zero, ℤ, ⊤, ◌==◌, Segment, rising}
use Rattle.run_laws.specs.Prelude.{rising_from-rises, Entry, Added, at-append, at, expand, frame_entries, sample_at, Sound, entries_by, Session, Setup}

-- the sample of a client channel at a frame
abbrev pub entry_of : ℕ → List ℕ → (ℕ → ℤ) → ℕ → ℕ → Entry
entry_of member bindings sample_of card q = record { member = member; frame = card; channel = slice_index bindings q; sample = sample_of q; kind = Added }

-- those of another frame
pub other-frame : (member : ℕ) (bindings : List ℕ) (sample_of : ℕ → ℤ) (card frame channel : ℕ) (qs : List ℕ) → (card == frame) ≡ false
    → at (map (entry_of member bindings sample_of card) qs) frame channel ≡ []
other-frame member bindings sample_of card frame channel [] is = refl
other-frame member bindings sample_of card frame channel (q ∷ qs) is = rw is (other-frame member bindings sample_of card frame channel qs is)

-- channels none of which is bound to a card channel
abbrev pub AreOther : List ℕ → ℕ → List ℕ → Type 0
AreOther bindings channel [] = ⊤
AreOther bindings channel (q ∷ qs) = ((slice_index bindings q == channel) ≡ false) × AreOther bindings channel qs

pub other-channels : (member : ℕ) (bindings : List ℕ) (sample_of : ℕ → ℤ) (card frame channel : ℕ) (qs : List ℕ) → (card == frame) ≡ true → AreOther bindings channel qs
    → at (map (entry_of member bindings sample_of card) qs) frame channel ≡ []
other-channels member bindings sample_of card frame channel [] is are = refl
other-channels member bindings sample_of card frame channel (q ∷ qs) is are =
    rw is (rw are.0 (other-channels member bindings sample_of card frame channel qs is are.1))

-- the first ones of a list, where none of them is
pub others-than : (bindings : List ℕ) (channel : ℕ) (list : List ℕ) (n : ℕ)
    → ((j : ℕ) → j < n → j < length list → (slice_index bindings (slice_index list j) == channel) ≡ false) → AreOther bindings channel (take n list)
others-than bindings channel [] zero none = tt
others-than bindings channel [] (suc n) none = tt
others-than bindings channel (q ∷ list) zero none = tt
others-than bindings channel (q ∷ list) (suc n) none =
    (none 0 (omega arith) (omega arith), others-than bindings channel list n (λ j below within. none (suc j) (omega (arith, below)) (omega (arith, within))))

less-other : (a b : ℕ) → a < b → (a == b) ≡ false
less-other a b less = grind (arith, nat_tests)

-- the first channels of a rising list are before the next one
rising-before : (bindings : List ℕ) (part : ℕ) → part < length (rising bindings)
    → AreOther bindings (slice_index bindings (slice_index (rising bindings) part)) (take part (rising bindings))
unfolding rising
rising-before bindings part low = others-than bindings (slice_index bindings (slice_index (rising bindings) part)) (rising bindings) part
    (λ j below within. less-other (slice_index bindings (slice_index (rising bindings) j)) (slice_index bindings (slice_index (rising bindings) part))
    (rising_from-rises bindings 0 256 j part below low))

-- ---- lists of entries, one after the other

pub at-flat : {X : Type 0} (f : X → List Entry) (frame channel : ℕ) (xs : List X) → at (flat_map f xs) frame channel ≡ flat_map (λ x. at (f x) frame channel) xs
at-flat f frame channel [] = refl
at-flat f frame channel (x ∷ xs) = at-append (f x) (flat_map f xs) frame channel ∙ ap (λ l. at (f x) frame channel ++ l) (at-flat f frame channel xs)

pub flat-none : (f : ℕ → List Entry) (frame channel first n : ℕ) → ((j : ℕ) → first ≤ j → j < first + n → at (f j) frame channel ≡ []) → at (flat_map f (range_with_len first n)) frame channel ≡ []
flat-none f frame channel first zero none = refl
flat-none f frame channel first (suc n) none =
    at-append (f first) (flat_map f (range_with_len (first + 1) n)) frame channel
    ∙ ap (λ l. l ++ at (flat_map f (range_with_len (first + 1) n)) frame channel) (none first (omega arith) (omega arith))
    ∙ flat-none f frame channel (first + 1) n (λ j low high. none j (omega (arith, low)) (omega (arith, high)))

-- ---- the entries of a segment

module _ (member : ℕ) (segment : Segment) (samples : List ℤ) (bindings : List ℕ) where
  -- those of a whole frame, and those of the frame that is begun
  abbrev pub whole_at : ℕ → List Entry
  whole_at j = frame_entries member bindings (sample_at samples (length bindings) (segment.source + j)) (length bindings) (segment.card + j)

  abbrev pub part_at : List Entry
  part_at = frame_entries member bindings (sample_at samples (length bindings) (segment.source + (0 + segment.whole))) segment.part (segment.card + (0 + segment.whole))

  -- where none of these is
  pub expand-none : (frame channel : ℕ) → ((j : ℕ) → j < segment.whole → at (whole_at j) frame channel ≡ []) → at part_at frame channel ≡ []
      → at (expand member segment samples bindings) frame channel ≡ []
  expand-none frame channel each last = at-append (flat_map whole_at (range_with_len 0 segment.whole)) part_at frame channel
      ∙ ap (λ l. l ++ at part_at frame channel) (flat-none whole_at frame channel 0 segment.whole (λ j low high. each j (omega (arith, high)))) ∙ last

  -- at the frame and channel right after a segment
  pub next-free : (frame channel : ℕ) → segment.part < length (rising bindings)
      → frame ≡ segment.card + segment.whole → channel ≡ slice_index bindings (slice_index (rising bindings) segment.part)
      → at (expand member segment samples bindings) frame channel ≡ []
  next-free frame channel low frame_is channel_is = expand-none frame channel
      (λ j before. other-frame member bindings _ (segment.card + j) frame channel (take (length bindings) (rising bindings)) (grind (arith, nat_tests, before, frame_is)))
      (other-channels member bindings _ (segment.card + (0 + segment.whole)) frame channel (take segment.part (rising bindings))
      (eq-eqb (segment.card + (0 + segment.whole)) frame (omega (arith, frame_is))) (rw channel_is (rising-before bindings segment.part low)))

-- ---- the entries of a client's segment

-- a fact of no entries, and of those of the segments of a client with a file and a setup, is one of a client's segments
pub entries-each : (session : Session) (n : ℕ) (P : (Segment → List Entry) → Type 0) → P (λ s. [])
    → ((wav : Sound) (setup : Setup) → slice_get session.sounds n ≡ Some wav → slice_index_or session.clients n None ≡ Some setup → P (λ s. expand n s wav.samples setup.bindings))
    → P (λ s. entries_by session (n, s))
entries-each session n P none some = by_file (slice_get session.sounds n) (slice_index_or session.clients n None) refl refl
  where
    by_file : (wav : Option Sound) (setup : Option Setup) → slice_get session.sounds n ≡ wav → slice_index_or session.clients n None ≡ setup → P (λ s. entries_by session (n, s))
    by_file (Some wav) (Some setup) wav_is setup_is = rw wav_is (rw setup_is (some wav setup wav_is setup_is))
    by_file None setup wav_is setup_is = rw wav_is none
    by_file (Some wav) None wav_is setup_is = rw wav_is (rw setup_is none)

pub entries-so : (session : Session) (n : ℕ) (s : Segment) (P : List Entry → Type 0) → P []
    → ((wav : Sound) (setup : Setup) → slice_get session.sounds n ≡ Some wav → slice_index_or session.clients n None ≡ Some setup → P (expand n s wav.samples setup.bindings))
    → P (entries_by session (n, s))
entries-so session n s P none some = entries-each session n (λ entries. P (entries s)) none some
