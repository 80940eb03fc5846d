-- Segments that place the same below a position p of the card.
--     IsPast      a segment that places nothing there
--     IsAlike      two that place the same there
--     past-none, past-later, ends-alike      such segments, by where they begin and end
use Rattle.run_laws.specs.Prelude.{ap, arith, inl, inr, length, List, refl, subst, sym, ℕ, [], ◌++◌, ◌+◌, ◌<◌, ◌∙◌, ◌∷◌, ◌≡◌, ◌≤◌, ◌⊎◌, nat_tests, append-nil}
use Rattle.run_laws.specs.Prelude.{flat_map-append, flat_map, range_with_len, Bool, false, if◌then◌else◌, nat_eq, suc, take, true, zero, ℤ, ◌&&◌, Segment}
use Rattle.run_laws.specs.Prelude.{rising, Entry, at-append, PlaybackStream, segment_of, expand, frame_entries, sample_at, stretch_of, entries_by, Session}
use Rattle.run_laws.proofs.AtMostOne.{none-at}
use Rattle.run_laws.proofs.Expanded.{entries-each, entries-so, flat-none, other-frame}
use Rattle.run_laws.proofs.Onward.{begun}
use Rattle.mix_core.specs.Laid as laid

-- whatever client has it, nothing of a segment is below p
abbrev pub IsPast : ℕ → Segment → Type 0
IsPast p s = (member : ℕ) (samples : List ℤ) (bindings : List ℕ) (frame channel : ℕ) → frame < p → laid.at (expand member s samples bindings) frame channel ≡ []

-- two segments of a client are the same there
abbrev pub IsAlike : ℕ → Segment → Segment → Type 0
IsAlike p s t = (member : ℕ) (samples : List ℤ) (bindings : List ℕ) (frame channel : ℕ) → frame < p
    → laid.at (expand member s samples bindings) frame channel ≡ laid.at (expand member t samples bindings) frame channel

pub alike-same : (p : ℕ) (s : Segment) → IsAlike p s s
alike-same p s member samples bindings frame channel before = refl

pub alike-then : (p : ℕ) (s t u : Segment) → IsAlike p s t → IsAlike p t u → IsAlike p s u
alike-then p s t u one two member samples bindings frame channel before =
    one member samples bindings frame channel before ∙ two member samples bindings frame channel before

pub past-alike : (p : ℕ) (s t : Segment) → IsPast p s → IsPast p t → IsAlike p s t
past-alike p s t one two member samples bindings frame channel before =
    one member samples bindings frame channel before ∙ sym (two member samples bindings frame channel before)

pub past-of : (p : ℕ) (s t : Segment) → IsPast p s → IsAlike p s t → IsPast p t
past-of p s t past alike member samples bindings frame channel before =
    sym (alike member samples bindings frame channel before) ∙ past member samples bindings frame channel before

-- ---- what they place

module _ (member : ℕ) (bindings : List ℕ) (sample_of : ℕ → ℕ → ℤ) (card frame channel : ℕ) where
  abbrev run : ℕ → ℕ → List Entry
  run first n = flat_map (λ j. frame_entries member bindings (sample_of j) (length bindings) (card + j)) (range_with_len first n)

  abbrev one_frame : ℕ → List Entry
  one_frame j = frame_entries member bindings (sample_of j) (length bindings) (card + j)

  -- frames of the card past this one
  run-early : (first n : ℕ) → frame < card + first → laid.at (run first n) frame channel ≡ []
  run-early first n before = flat-none one_frame frame channel first n
      (λ j past within. other-frame member bindings (sample_of j) (card + j) frame channel (take (length bindings) (rising bindings)) (grind (arith, nat_tests, before, past)))

  -- two runs that both end past it
  run-cut : (first a b : ℕ) → frame < card + (first + a) → frame < card + (first + b) → laid.at (run first a) frame channel ≡ laid.at (run first b) frame channel
  run-cut first zero b one two = sym (run-early first b (omega (arith, one)))
  run-cut first (suc a) zero one two = run-early first (suc a) (omega (arith, two))
  run-cut first (suc a) (suc b) one two =
      at-append (one_frame first) (run (first + 1) a) frame channel
      ∙ ap (λ l. laid.at (one_frame first) frame channel ++ l) (run-cut (first + 1) a b (omega (arith, one)) (omega (arith, two)))
      ∙ sym (at-append (one_frame first) (run (first + 1) b) frame channel)

module _ (member : ℕ) (samples : List ℤ) (bindings : List ℕ) (frame channel : ℕ) where
  -- a segment whose whole frames end past this one
  whole-at : (source card whole part : ℕ) → frame < card + whole
      → laid.at (expand member (record { source = source; card = card; whole = whole; part = part }) samples bindings) frame channel
      ≡ laid.at (run member bindings (λ j. sample_at samples (length bindings) (source + j)) card frame channel 0 whole) frame channel
  whole-at source card whole part before =
      at-append (run member bindings of_file card frame channel 0 whole) (frame_entries member bindings (of_file (0 + whole)) part (card + (0 + whole))) frame channel
      ∙ ap (λ l. laid.at (run member bindings of_file card frame channel 0 whole) frame channel ++ l)
      (other-frame member bindings (of_file (0 + whole)) (card + (0 + whole)) frame channel (take part (rising bindings)) (grind (arith, nat_tests, before)))
      ∙ append-nil (laid.at (run member bindings of_file card frame channel 0 whole) frame channel)
    where
      of_file : ℕ → ℕ → ℤ
      of_file j = sample_at samples (length bindings) (source + j)

-- a segment without a sample, and one that begins at p or past it
pub past-none : (p : ℕ) (s : Segment) → s.whole ≡ 0 → s.part ≡ 0 → IsPast p s
past-none p s none no_part member samples bindings frame channel before = none-at member s samples bindings frame channel (λ is.
    let low = is.1 in let high : frame < s.card + s.whole + begun 0 = subst (λ (q : ℕ). frame < s.card + s.whole + begun q) no_part is.2 in omega (arith, low, high, none))

pub past-later : (p : ℕ) (s : Segment) → p ≤ s.card → IsPast p s
past-later p s later member samples bindings frame channel before = none-at member s samples bindings frame channel (λ is. let low = is.1 in omega (arith, before, later, low))

-- two that begin alike, and end in the same place, or both at p or past it
pub ends-alike : (p source card whole others part more : ℕ) → ((whole ≡ others) × (part ≡ more)) ⊎ ((p ≤ card + whole) × (p ≤ card + others))
    → IsAlike p (record { source = source; card = card; whole = whole; part = part }) (record { source = source; card = card; whole = others; part = more })
ends-alike p source card whole others part more (inl same) member samples bindings frame channel before =
    λ k. laid.at (expand member (record { source = source; card = card; whole = same.0 k; part = same.1 k }) samples bindings) frame channel
ends-alike p source card whole others part more (inr past) member samples bindings frame channel before =
    whole-at member samples bindings frame channel source card whole part (omega (arith, before, past.0))
    ∙ run-cut member bindings (λ j. sample_at samples (length bindings) (source + j)) card frame channel 0 whole others (omega (arith, before, past.0)) (omega (arith, before, past.1))
    ∙ sym (whole-at member samples bindings frame channel source card others more (omega (arith, before, past.1)))

-- ---- the segments of a client

module _ (session : Session) (n frame channel : ℕ) where
  -- what the client of a number placed there by some segments
  abbrev pub heard : List Segment → List ℤ
  heard segments = laid.at (flat_map (λ segment. entries_by session (n, segment)) segments) frame channel

  past-at : (p : ℕ) (s : Segment) → frame < p → IsPast p s → laid.at (entries_by session (n, s)) frame channel ≡ []
  past-at p s before past = entries-so session n s (λ es. laid.at es frame channel ≡ []) refl
      (λ wav setup wav_is setup_is. past n wav.samples setup.bindings frame channel before)

  alike-at : (p : ℕ) (s t : Segment) → frame < p → IsAlike p s t
      → laid.at (entries_by session (n, s)) frame channel ≡ laid.at (entries_by session (n, t)) frame channel
  alike-at p s t before alike = entries-each session n (λ entries. laid.at (entries s) frame channel ≡ laid.at (entries t) frame channel) refl
      (λ wav setup wav_is setup_is. alike n wav.samples setup.bindings frame channel before)

  -- of a stretch
  pub stretch-at : (c : PlaybackStream) → heard (stretch_of c) ≡ laid.at (entries_by session (n, segment_of c)) frame channel
  stretch-at c = by_test (nat_eq c.stretch.committed 0 && nat_eq c.stretch.part 0) refl
    where
      nothing : (n m : ℕ) → (nat_eq n 0 && nat_eq m 0) ≡ true → (n ≡ 0) × (m ≡ 0)
      nothing n m is = (grind (arith, nat_tests), grind (arith, nat_tests))

      by_test : (none : Bool) → (nat_eq c.stretch.committed 0 && nat_eq c.stretch.part 0) ≡ none
          → laid.at (flat_map (λ segment. entries_by session (n, segment)) (if none then [] else segment_of c ∷ [])) frame channel
          ≡ laid.at (entries_by session (n, segment_of c)) frame channel
      by_test true is = let none = nothing c.stretch.committed c.stretch.part is in
          sym (past-at (frame + 1) (segment_of c) (omega arith) (past-none (frame + 1) (segment_of c) none.0 none.1))
      by_test false is = ap (λ es. laid.at es frame channel) (append-nil (entries_by session (n, segment_of c)))

  -- segments, and others after them
  pub heard-append : (xs ys : List Segment) → heard (xs ++ ys) ≡ heard xs ++ heard ys
  heard-append xs ys = ap (λ es. laid.at es frame channel) (flat_map-append (λ segment. entries_by session (n, segment)) xs ys)
      ∙ at-append (flat_map (λ segment. entries_by session (n, segment)) xs) (flat_map (λ segment. entries_by session (n, segment)) ys) frame channel

  -- the same stretch
  pub stretch-alike : (p : ℕ) (c d : PlaybackStream) → frame < p → IsAlike p (segment_of c) (segment_of d) → heard (stretch_of c) ≡ heard (stretch_of d)
  stretch-alike p c d before alike = stretch-at c ∙ alike-at p (segment_of c) (segment_of d) before alike ∙ sym (stretch-at d)

  -- a new one
  pub stretch-past : (p : ℕ) (c : PlaybackStream) → frame < p → IsPast p (segment_of c) → heard (stretch_of c) ≡ []
  stretch-past p c before past = stretch-at c ∙ past-at p (segment_of c) before past
