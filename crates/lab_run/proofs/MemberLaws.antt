-- A client's member is in no report, and changes no frame, channel or sample that is placed.
use Rattle.lab_run.specs.Prelude.{ap, arith, length, refl, sym, take, ℕ, ◌+◌, ◌∙◌, ◌≡◌, nat_tests, map-append, flat_map, range_with_len, Bool, false, filter}
use Rattle.lab_run.specs.Prelude.{List, map, true, ℤ, [], ◌++◌, ◌∷◌, rising, Entry, is_at, sum_of_samples, value_of, PlaybackStream, Op, Answer, ended_by}
use Rattle.lab_run.specs.Prelude.{MembersAreUnreported, MembersLayAlike, of_member, with_member}
use Rattle.std.proofs.lemmas.Simd.{map-map}
use Rattle.dmix_client.specs.Expansion.{frame_entries, run_entries, sample_at}

pub ended-member : (member : ℕ) (asked : Op) (answer : Answer) (c d : PlaybackStream) → ended_by asked answer (with_member member c) (with_member member d) ≡ ended_by asked answer c d
ended-member member other answer c d = grind (arith, nat_tests)

pub members-unreported : (member : ℕ) → MembersAreUnreported member
members-unreported member = grind (arith, nat_tests)

module _ (member other : ℕ) where
  frame-entries_member : (bindings : List ℕ) (sample_of : ℕ → ℤ) (channels card : ℕ)
      → frame_entries member bindings sample_of channels card ≡ map (of_member member) (frame_entries other bindings sample_of channels card)
  frame-entries_member bindings sample_of channels card = sym (map-map (of_member member) _ (take channels (rising bindings)))

  frames-member : (bindings : List ℕ) (sample_of : ℕ → ℕ → ℤ) (card channels : ℕ) (frames : List ℕ)
      → flat_map (λ j. frame_entries member bindings (sample_of j) channels (card + j)) frames
      ≡ map (of_member member) (flat_map (λ j. frame_entries other bindings (sample_of j) channels (card + j)) frames)
  frames-member bindings sample_of card channels [] = refl
  frames-member bindings sample_of card channels (j ∷ frames) =
      let first : List Entry = frame_entries other bindings (sample_of j) channels (card + j) in
      let more : List Entry = flat_map (λ k. frame_entries other bindings (sample_of k) channels (card + k)) frames in
      ap (λ es. es ++ flat_map (λ k. frame_entries member bindings (sample_of k) channels (card + k)) frames) (frame-entries_member bindings (sample_of j) channels (card + j))
      ∙ ap (λ es. map (of_member member) first ++ es) (frames-member bindings sample_of card channels frames)
      ∙ sym (map-append (of_member member) first more)

  run-member : (bindings : List ℕ) (sample_of : ℕ → ℕ → ℤ) (card first whole part : ℕ)
      → run_entries member bindings sample_of card first whole part ≡ map (of_member member) (run_entries other bindings sample_of card first whole part)
  run-member bindings sample_of card first whole part =
      let frames : List ℕ = range_with_len first whole in
      let all : List Entry = flat_map (λ j. frame_entries other bindings (sample_of j) (length bindings) (card + j)) frames in
      let rest : List Entry = frame_entries other bindings (sample_of (first + whole)) part (card + (first + whole)) in
      ap (λ es. es ++ frame_entries member bindings (sample_of (first + whole)) part (card + (first + whole))) (frames-member bindings sample_of card (length bindings) frames)
      ∙ ap (λ es. map (of_member member) all ++ es) (frame-entries_member bindings (sample_of (first + whole)) part (card + (first + whole)))
      ∙ sym (map-append (of_member member) all rest)

  values-member : (es : List Entry) (frame channel : ℕ)
      → map value_of (filter (is_at frame channel) (map (of_member member) es)) ≡ map value_of (filter (is_at frame channel) es)
  values-member [] frame channel = refl
  values-member (e ∷ es) frame channel = by_test (is_at frame channel e) refl (values-member es frame channel)
    where
      by_test : (test : Bool) → is_at frame channel e ≡ test
          → map value_of (filter (is_at frame channel) (map (of_member member) es)) ≡ map value_of (filter (is_at frame channel) es)
          → map value_of (filter (is_at frame channel) (map (of_member member) (e ∷ es))) ≡ map value_of (filter (is_at frame channel) (e ∷ es))
      by_test true is rest = rw is (ap (λ xs. value_of e ∷ xs) rest)
      by_test false is rest = rw is rest

  pub members-lay_alike : MembersLayAlike member other
  members-lay_alike = record {
    segment = λ segment samples bindings.
        run-member bindings (λ j. sample_at samples (length bindings) (segment.source + j)) segment.card 0 segment.whole segment.part;
    run = run-member;
    totals = λ es frame channel. ap sum_of_samples (values-member es frame channel);
  }
