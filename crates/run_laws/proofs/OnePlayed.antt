-- In a card that is shared by channels the one sample of a place is played as it is, since a sample of 16 bits isn't saturated.
use Rattle.run_laws.specs.Prelude.{ap, arith, length, List, Option, Some, subst, sym, ℕ, [], ◌+◌, ◌∙◌, ◌∷◌, ◌≡◌, int_max_is, int_min_is, ints}
use Rattle.run_laws.specs.Prelude.{recursion_from_All, AllByRecursion, flat_map, range_with_len, All, Bool, cond, false, filter, map, negsuc, pos, slice_get}
use Rattle.run_laws.specs.Prelude.{slice_index, slice_index_or, suc, take, true, zero, ℤ, Segment, rising, ClaimRow as Claim, clamp_of, IsSample, Entry, Added}
use Rattle.run_laws.specs.Prelude.{is_at, value_of, expand, frame_entries, sample_at, Sound, Script, ClaimIsOwners, entries_by, LabRun, Outcome, IsSessionOf}
use Rattle.run_laws.specs.Prelude.{Session, IsMixOf, placed_entries, AreBound, AreSamples, only_of, PlaysOneSample}
use Rattle.std.specs.Int.{int_min}
use Rattle.run_laws.proofs.Expanded.{entries-so}
use Rattle.run_laws.proofs.Lists.{each-append}
use Rattle.run_laws.proofs.Mixes.{LabRun-mix}
use Rattle.run_laws.proofs.OneSample.{LabRun-once}
use Rattle.mix_core.specs.Laid as laid

-- a sample isn't saturated
sample-clamp : (x : ℤ) → IsSample x → clamp_of x ≡ x
sample-clamp x is = let low = is.low in let high = is.high in omega (arith, ints, int_min_is x (pos 32767), int_max_is (negsuc 32767) (int_min x (pos 32767)), low, high)

silence : IsSample (pos 0)
silence = record { low = omega (arith, ints); high = omega (arith, ints) }

-- ---- entries of samples

abbrev pub AreEntries : List Entry → Type 0
AreEntries es = AllByRecursion (λ (e : Entry). IsSample (value_of e)) es

flat-entries : {X : Type 0} (f : X → List Entry) (xs : List X) → ((x : X) → AreEntries (f x)) → AreEntries (flat_map f xs)
flat-entries f [] each = tt
flat-entries f (x ∷ xs) each = each-append (λ (e : Entry). IsSample (value_of e)) (f x) (flat_map f xs) (each x) (flat-entries f xs each)

-- the first of some of them
only-sample : (test : Entry → Bool) (es : List Entry) → AreEntries es → IsSample (only_of (map value_of (filter test es)))
only-sample test [] each = silence
only-sample test (e ∷ es) each = by_test (only-sample test es each.1) (test e)
  where
    by_test : IsSample (only_of (map value_of (filter test es))) → (here : Bool) → IsSample (only_of (map value_of (cond here (e ∷ filter test es) (filter test es))))
    by_test rest true = each.0
    by_test rest false = rest

-- ---- the files

sample-of : (samples : List ℤ) (i : ℕ) → AllByRecursion IsSample samples → IsSample (slice_index_or samples i (pos 0))
sample-of [] i each = silence
sample-of (x ∷ samples) zero each = each.0
sample-of (x ∷ samples) (suc i) each = sample-of samples i each.1

frame-samples : (member : ℕ) (bindings : List ℕ) (sample_of : ℕ → ℤ) (n card : ℕ) → ((q : ℕ) → IsSample (sample_of q)) → AreEntries (frame_entries member bindings sample_of n card)
frame-samples member bindings sample_of n card each = by_list (take n (rising bindings))
  where
    by_list : (qs : List ℕ) → AreEntries (map (λ q. record {
      member = member;
      frame = card;
      channel = slice_index bindings q;
      sample = sample_of q;
      kind = Added;
    }) qs)
    by_list [] = tt
    by_list (q ∷ qs) = (each q, by_list qs)

pub expand-samples : (member : ℕ) (segment : Segment) (samples : List ℤ) (bindings : List ℕ) → AllByRecursion IsSample samples → AreEntries (expand member segment samples bindings)
expand-samples member segment samples bindings each =
    each-append (λ (e : Entry). IsSample (value_of e)) (flat_map (λ j. frame_entries member bindings (of_file j) (length bindings) (segment.card + j)) (range_with_len 0 segment.whole)) _
    (flat-entries (λ j. frame_entries member bindings (of_file j) (length bindings) (segment.card + j)) (range_with_len 0 segment.whole)
    (λ j. frame-samples member bindings (of_file j) (length bindings) (segment.card + j) (sampled j)))
    (frame-samples member bindings (of_file (0 + segment.whole)) segment.part (segment.card + (0 + segment.whole)) (sampled (0 + segment.whole)))
  where
    of_file : ℕ → ℕ → ℤ
    of_file j = sample_at samples (length bindings) (segment.source + j)

    sampled : (j q : ℕ) → IsSample (of_file j q)
    sampled j q = sample-of samples _ each

pub file-of : (wavs : List Sound) (number : ℕ) (wav : Sound) → AllByRecursion (λ (w : Sound). All IsSample w.samples) wavs → slice_get wavs number ≡ Some wav
    → AllByRecursion IsSample wav.samples
file-of [] number wav each is = absurd (let none = is in cc)
file-of (w ∷ wavs) zero wav each is = let same : w ≡ wav = cc in
    subst (λ (x : Sound). AllByRecursion IsSample x.samples) same (recursion_from_All IsSample w.samples each.0)
file-of (w ∷ wavs) (suc number) wav each is = file-of wavs number wav each.1 is

entries-samples : (session : Session) (part : ℕ × Segment) → AreSamples session.sounds → AreEntries (entries_by session part)
entries-samples session (n, s) samples = entries-so session n s AreEntries tt (λ wav setup wav_is setup_is. expand-samples n s wav.samples setup.bindings
    (file-of session.sounds n wav (recursion_from_All (λ (w : Sound). All IsSample w.samples) session.sounds samples) wav_is))

-- ---- a run

pub LabRun-one_played : (script : Script) (wavs : List Sound) (session : Session) (capture : Option Sound) (client_stops reader_stops : ℕ → ℕ) (outcome : Outcome)
    → ((claims : List Claim) (channels : List ℕ) (position : ℕ) → ClaimIsOwners claims channels position) → IsSessionOf script wavs session → AreBound session
    → AreSamples wavs → LabRun session capture script.body client_stops reader_stops outcome → PlaysOneSample session outcome
LabRun-one_played script wavs session capture client_stops reader_stops outcome owners is bound samples run share frame channel within of_card =
    mix.sums frame channel within of_card
    ∙ ap clamp_of (LabRun-once script wavs session capture client_stops reader_stops outcome owners is bound run share (outcome.report.first + frame) channel).1
    ∙ sample-clamp (only_of (laid.at placed (outcome.report.first + frame) channel)) (only-sample (is_at (outcome.report.first + frame) channel) placed
    (flat-entries (entries_by session) outcome.report.segments (λ part. entries-samples session part (subst AreSamples (sym is.sounds) samples))))
  where
    placed : List Entry
    placed = placed_entries session outcome.report

    mix : IsMixOf session outcome.report outcome.played
    mix = LabRun-mix session capture script.body client_stops reader_stops outcome run
