-- What the readers recorded is the captured frames of their runs.
use Rattle.run_laws.specs.Prelude.{ap, arith, inl, inr, length, List, None, Option, refl, Some, subst, sym, ℕ, [], ◌*◌, ◌+◌, ◌∙◌, ◌∷◌, ◌≡◌, ◌⊎◌, nat_tests}
use Rattle.run_laws.specs.Prelude.{length-append, length-map, length-range_with_len, flat_map, range_with_len, map, slice_get, slice_index_or, suc, zero, ℤ}
use Rattle.run_laws.specs.Prelude.{Sound, Item, CardLine, ReaderLine, Script, bindings_of, captured_sample, joined_runs, LabRun, Outcome, runs_of}
use Rattle.run_laws.specs.Prelude.{AreReaderOpenings, IsReaderOpening, IsSessionOf, read_by, rows_by, runs_by, is_reader, Session, Setup, AreSlices}
use Rattle.run_laws.specs.Prelude.{ReadersReadInSlices, ReadsInSlices, recorded_from-size, AreRecordingsOf, bindings_at, frames_in_runs, frames_of_runs}
use Rattle.run_laws.specs.Prelude.{IsRecordingOf, ReadersAreBound, recording_of}
use Rattle.run_laws.proofs.Sizes.{run-size}

-- the frames of the runs of some frames are these frames
joined-frames : (frame : ℕ) (runs : List (ℕ × ℕ)) → frames_of_runs (joined_runs frame runs) ≡ frame ∷ frames_of_runs runs
joined-frames frame runs = grind (arith, nat_tests)

runs-frames : (frames : List ℕ) → frames_of_runs (runs_of frames) ≡ frames
runs-frames [] = refl
runs-frames (frame ∷ frames) = joined-frames frame (runs_of frames) ∙ ap (λ fs. frame ∷ fs) (runs-frames frames)

-- how many samples a recording has
pub frames-count : (runs : List (ℕ × ℕ)) → length (frames_of_runs runs) ≡ frames_in_runs runs
frames-count [] = refl
frames-count ((first, count) ∷ runs) =
    length-append (range_with_len first count) (frames_of_runs runs)
    ∙ ap (λ n. n + length (frames_of_runs runs)) (length-range_with_len first count)
    ∙ ap (λ n. count + n) (frames-count runs)

pub samples-count : (sample_of : ℕ → ℕ → ℤ) (bindings frames : List ℕ) → length (flat_map (λ frame. map (sample_of frame) bindings) frames) ≡ length frames * length bindings
samples-count sample_of bindings [] = omega arith
samples-count sample_of bindings (frame ∷ frames) =
    length-append (map (sample_of frame) bindings) (flat_map (λ f. map (sample_of f) bindings) frames)
    ∙ ap (λ n. n + length (flat_map (λ f. map (sample_of f) bindings) frames)) (length-map bindings (sample_of frame))
    ∙ ap (λ n. length bindings + n) (samples-count sample_of bindings frames)
    ∙ step
  where
    step : length bindings + length frames * length bindings ≡ suc (length frames) * length bindings
    step = omega arith

reader-recording : (session : Session) (capture : Option Sound) (outcome : Outcome) (number : ℕ) → ReadsInSlices session capture outcome number
    → IsRecordingOf session capture outcome.report number (slice_index_or outcome.recorded number [])
reader-recording session capture outcome number reads =
    let runs = runs_by number outcome.report.runs in
    let bindings = bindings_at session number in
    let frames : frames_of_runs runs ≡ reads.frames = ap frames_of_runs reads.runs ∙ runs-frames reads.frames in
    let samples : slice_index_or outcome.recorded number [] ≡ recording_of session capture bindings runs =
    reads.samples ∙ ap (flat_map (λ frame. map (captured_sample session capture frame) bindings)) (sym frames) in
    record {
      frames = samples;
      samples_are = ap length samples ∙ samples-count (captured_sample session capture) bindings (frames_of_runs runs) ∙ ap (λ n. n * length bindings) (frames-count runs);
      after = reads.after;
      stretches = subst (λ f. AreSlices None (rows_by (is_reader number) outcome.report.rows) f reads.after) (sym frames) reads.slices;
    }

pub LabRun-recordings : (session : Session) (capture : Option Sound) (body : List Item) (client_stops reader_stops : ℕ → ℕ) (outcome : Outcome)
    → ReadersReadInSlices session capture body → LabRun session capture body client_stops reader_stops outcome
    → AreRecordingsOf session capture outcome.report outcome.recorded
LabRun-recordings session capture body client_stops reader_stops outcome read run = record {
  readers = ap (λ (o : Outcome). length o.recorded) run.is ∙ recorded_from-size session capture 0 run.end.readers ∙ (run-size session body run.end run.may).readers;
  each = λ number low. reader-recording session capture outcome number (read client_stops reader_stops outcome run number low);
}

-- ---- bindings

-- the opening of the reader of a number
pub opening-at : (card : CardLine) (lines : List ReaderLine) (setups : List (Option Setup)) (number : ℕ) (line : ReaderLine) → AreReaderOpenings card lines setups
    → slice_get lines number ≡ Some line → IsReaderOpening card line (slice_index_or setups number None)
opening-at card [] setups number line are is = absurd (cc)
opening-at card (first ∷ lines) [] number line are is = absurd are
opening-at card (first ∷ lines) (setup ∷ setups) zero line are is = let same : first ≡ line = cc in subst (λ (l : ReaderLine). IsReaderOpening card l setup) same are.0
opening-at card (first ∷ lines) (setup ∷ setups) (suc number) line are is = opening-at card lines setups number line are.1 is

reader-bound : (card : CardLine) (line : ReaderLine) (setup : Option Setup) → IsReaderOpening card line setup → (setup ≡ None) ⊎ (bindings_of setup ≡ read_by card line)
reader-bound card line None opening = inl refl
reader-bound card line (Some s) opening = inr opening.bindings

pub session-bound : (script : Script) (wavs : List Sound) (session : Session) → IsSessionOf script wavs session → ReadersAreBound script session
session-bound script wavs session is number line line_is = reader-bound script.card line (slice_index_or session.readers number None)
    (opening-at script.card script.readers session.readers number line is.readers line_is)
