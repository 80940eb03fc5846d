-- The frames and channels at which a segment has a sample, by its numbers.
use Rattle.lab_check.specs.Prelude.{ap, arith, drop, length, length-take, List, None, refl, Some, subst, sym, take, ℕ, [], ◌+◌, ◌-◌, ◌<◌, ◌==◌, ◌∙◌, ◌∷◌, ◌≡◌}
use Rattle.lab_check.specs.Prelude.{◌≤◌, and-false, eq-eqb, nat_tests, drop_more, get_or-take, take-append-drop, take-take, list_any-append, flat_map, list_any}
use Rattle.lab_check.specs.Prelude.{range_with_len, Bool, false, if◌then◌else◌, map, nat_eq, nat_le, nat_lt, slice_get, slice_index, suc, true, zero, ℤ, ◌&&◌}
use Rattle.lab_check.specs.Prelude.{◌||◌, Segment, rising, Entry, Added, is_at, expand, frame_entries, sample_at, Sound, ClientLine, Script, bound_by, last_on}
use Rattle.lab_check.specs.Prelude.{reaches_channel, reaches_frame, covers, has_sample}

-- a part of both of two tests
and-or : (t a b : Bool) → ((t && a) || (t && b)) ≡ (t && (a || b))
and-or true a b = refl
and-or false a b = refl

or-and : (t u a : Bool) → ((t && a) || (u && a)) ≡ ((t || u) && a)
or-and t u a = grind (arith, nat_tests)

-- ---- a frame and the whole frames behind it

module _ (member : ℕ) (bindings : List ℕ) (frame channel : ℕ) where
  abbrev pub entry_at : (ℕ → ℤ) → ℕ → ℕ → Entry
  entry_at sample_of card q = record { member = member; frame = card; channel = slice_index bindings q; sample = sample_of q; kind = Added }

  -- the entries of a frame have a sample where it is the frame and one of the channels is bound
  in-frame : (sample_of : ℕ → ℤ) (card : ℕ) (qs : List ℕ) → list_any (is_at frame channel) (map (entry_at sample_of card) qs)
      ≡ ((card == frame) && list_any (λ q. slice_index bindings q == channel) qs)
  in-frame sample_of card [] = sym (and-false (card == frame))
  in-frame sample_of card (q ∷ qs) = ap (λ b. ((card == frame) && (slice_index bindings q == channel)) || b) (in-frame sample_of card qs)
      ∙ and-or (card == frame) (slice_index bindings q == channel) (list_any (λ q. slice_index bindings q == channel) qs)

  module _ (sample_of : ℕ → ℕ → ℤ) (card : ℕ) where
    abbrev pub frames_from : ℕ → ℕ → List Entry
    frames_from first whole = flat_map (λ j. frame_entries member bindings (sample_of j) (length bindings) (card + j)) (range_with_len first whole)

    in-frames : (first whole : ℕ) → list_any (is_at frame channel) (frames_from first whole)
        ≡ ((nat_le (card + first) frame && nat_lt frame (card + (first + whole))) && reaches_channel bindings (length bindings) channel)
    in-frames first zero = sym (ap (λ b. b && reaches_channel bindings (length bindings) channel) (out (nat_le (card + first) frame) refl))
      where
        out : (b : Bool) → nat_le (card + first) frame ≡ b → (b && nat_lt frame (card + (first + 0))) ≡ false
        out b is = grind (arith, nat_tests, is)
    in-frames first (suc whole) =
        list_any-append (is_at frame channel) (frame_entries member bindings (sample_of first) (length bindings) (card + first)) (frames_from (first + 1) whole)
        ∙ ap (λ b. b || list_any (is_at frame channel) (frames_from (first + 1) whole)) (in-frame (sample_of first) (card + first) (take (length bindings) (rising bindings)))
        ∙ ap (λ b. ((card + first == frame) && reaches_channel bindings (length bindings) channel) || b) (in-frames (first + 1) whole)
        ∙ or-and (card + first == frame) _ (reaches_channel bindings (length bindings) channel)
        ∙ ap (λ b. b && reaches_channel bindings (length bindings) channel) next
      where
        next : ((card + first == frame) || (nat_le (card + (first + 1)) frame && nat_lt frame (card + (first + 1 + whole))))
            ≡ (nat_le (card + first) frame && nat_lt frame (card + (first + suc whole)))
        next = grind (arith, nat_tests)

-- ---- a segment

-- the first places of a list have what fewer of them have
kept : (test : ℕ → Bool) (m n : ℕ) (xs : List ℕ) → m ≤ n → list_any test (take m xs) ≡ true → list_any test (take n xs) ≡ true
kept test m n xs low is =
    ap (list_any test) (sym (take-append-drop m (take n xs))) ∙ list_any-append test (take m (take n xs)) (drop m (take n xs))
    ∙ ap (λ b. b || list_any test (drop m (take n xs))) (ap (list_any test) (take-take m n xs low) ∙ is)

-- whole frames in which a channel is bound, and a part in which it is only where it's bound, end at the last frame that has a sample
in-reach : (first whole frame : ℕ) (all part : Bool) → (part ≡ true → all ≡ true)
    → (((nat_le (first + 0) frame && nat_lt frame (first + (0 + whole))) && all) || ((first + (0 + whole) == frame) && part))
    ≡ reaches_frame first (if part then Some whole else (if nat_lt 0 whole && all then Some (whole - 1) else None)) frame
in-reach first whole frame all part bound = grind (arith, nat_tests)

segment-covers : (number : ℕ) (segment : Segment) (samples : List ℤ) (bindings : List ℕ) (frame channel : ℕ) → segment.part ≤ length bindings
    → has_sample (expand number segment samples bindings) frame channel ≡ reaches_frame segment.card (last_on bindings segment channel) frame
segment-covers number segment samples bindings frame channel few =
    list_any-append (is_at frame channel) whole_part last_part
    ∙ ap (λ b. b || has_sample last_part frame channel) (in-frames number bindings frame channel sample_of segment.card 0 segment.whole)
    ∙ ap (λ b. ((nat_le (segment.card + 0) frame && nat_lt frame (segment.card + (0 + segment.whole))) && reaches_channel bindings (length bindings) channel) || b)
    (in-frame number bindings frame channel (sample_of (0 + segment.whole)) (segment.card + (0 + segment.whole)) (take segment.part (rising bindings)))
    ∙ in-reach segment.card segment.whole frame (reaches_channel bindings (length bindings) channel) (reaches_channel bindings segment.part channel)
    (kept (λ q. slice_index bindings q == channel) segment.part (length bindings) (rising bindings) few)
  where
    sample_of : ℕ → ℕ → ℤ
    sample_of = λ j. sample_at samples (length bindings) (segment.source + j)

    whole_part : List Entry
    whole_part = frames_from number bindings frame channel sample_of segment.card 0 segment.whole

    last_part : List Entry
    last_part = frame_entries number bindings (sample_of (0 + segment.whole)) segment.part (segment.card + (0 + segment.whole))

-- of a client with this line and file
pub covers-source : (script : Script) (wavs : List Sound) (number frame channel client : ℕ) (segment : Segment) (line : ClientLine) (wav : Sound) → client ≡ number
    → slice_get script.clients client ≡ Some line → slice_get wavs client ≡ Some wav → segment.part ≤ length (bound_by line wav)
    → covers script wavs number frame channel (client, segment)
    ≡ reaches_frame segment.card (last_on (bound_by line wav) segment channel) frame
covers-source script wavs number frame channel client segment line wav same line_is wav_is few =
    let own_line : slice_get script.clients number ≡ Some line = subst (λ n. slice_get script.clients n ≡ Some line) same line_is in
    let own_wav : slice_get wavs number ≡ Some wav = subst (λ n. slice_get wavs n ≡ Some wav) same wav_is in
    let test : nat_eq client number ≡ true = eq-eqb client number same in
    rw (test, own_line, own_wav) (segment-covers number segment wav.samples (bound_by line wav) frame channel few)

-- and of another client
pub covers-other : (script : Script) (wavs : List Sound) (number frame channel client : ℕ) (segment : Segment) → (client ≡ number → ⊥)
    → covers script wavs number frame channel (client, segment) ≡ false
covers-other script wavs number frame channel client segment other = grind (arith, nat_tests)

-- ---- a search among places

-- among the first ones of a list, by the test of the next
pub any-next : (p : ℕ → Bool) (n k q : ℕ) (xs : List ℕ) → k < n → n ≤ length xs → q ≡ slice_index xs k → (b : Bool) → p q ≡ b
    → list_any p (drop k (take n xs)) ≡ (b || list_any p (drop (k + 1) (take n xs)))
any-next p n k q xs low few is b test =
    let size : k < length (take n xs) = rw (length-take n xs) (omega (arith, low, few)) in
    rw (drop_more (take n xs) k 0 size) (ap (λ t. t || list_any p (drop (k + 1) (take n xs))) (ap p (get_or-take n xs k 0 low ∙ sym is) ∙ test))
