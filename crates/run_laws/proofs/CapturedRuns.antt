-- The runs of each reader of a run are of captured frames.
use Rattle.run_laws.specs.Prelude.{arith, List, refl, subst, sym, ℕ, [], ◌+◌, ◌-◌, ◌∙◌, ◌∷◌, ◌≡◌, ◌≤◌, nat_tests, first_frame, all_runs, joined_runs, Outcome}
use Rattle.run_laws.specs.Prelude.{runs_of, with_numbers, runs_by, Reader, AtPort, no_reader, reader_at, AreCapturedRuns, AreRisingFrames, ReadersCapture}
use Rattle.run_laws.proofs.Captured.{AreWithin, reader_at-within, run-within}
use Rattle.run_laws.proofs.Numbered.{numbered-at}
use Rattle.run_laws.proofs.OwnReaders.{runs-members}
use Rattle.run_laws.proofs.ReaderFrames.{HasFrames, rising-end, rising-later}

-- ---- the runs of frames that rise

-- with one frame before the first run
joined-captured : (least end frame : ℕ) (runs : List (ℕ × ℕ)) → least ≤ frame → frame + 1 ≤ end → AreCapturedRuns (frame + 1) end runs
    → AreCapturedRuns least end (joined_runs frame runs)
joined-captured least end frame runs low few captured = grind (arith, nat_tests)

runs-captured : (least end : ℕ) (frames : List ℕ) → AreRisingFrames least end frames → AreCapturedRuns least end (runs_of frames)
runs-captured least end [] rising = tt
runs-captured least end (frame ∷ frames) (low, rising) =
    joined-captured least end frame (runs_of frames) low (rising-end (frame + 1) end frames rising) (runs-captured (frame + 1) end frames rising)

-- the runs of a reader
reader-captured : (first position : ℕ) (reader : Reader) → HasFrames first position reader → AreCapturedRuns first position (runs_of reader.frames)
reader-captured first position reader (end, rising, few, past) = runs-captured first position reader.frames (rising-later first end position reader.frames few rising)

pub readers-capture : ReadersCapture
readers-capture script wavs session capture client_stops reader_stops outcome script_is session_is run number within =
    subst (λ (o : Outcome). AreCapturedRuns o.report.first (o.report.first + o.report.frames) (runs_by number o.report.runs)) (sym run.is)
    (subst (λ (end : ℕ). AreCapturedRuns (first_frame session.card) end (runs_by number (all_runs run.end.readers))) ends
    (subst (AreCapturedRuns (first_frame session.card) run.end.position) (sym members)
    (reader-captured (first_frame session.card) run.end.position (reader_at session run.end number).1
    (reader_at-within (first_frame session.card) session run.end number inside).1)))
  where
    inside : AreWithin (first_frame session.card) run.end
    inside = run-within session run.end script.body run.may

    members : runs_by number (all_runs run.end.readers) ≡ runs_of (reader_at session run.end number).1.frames
    members = runs-members number (with_numbers (λ (reader : AtPort × Reader). runs_of reader.1.frames) 0 run.end.readers)
        ∙ numbered-at (λ (reader : AtPort × Reader). runs_of reader.1.frames) (no_reader session.ring) number 0 number run.end.readers (omega arith) refl

    ends : run.end.position ≡ first_frame session.card + (run.end.position - first_frame session.card)
    ends = let low : first_frame session.card ≤ run.end.position = inside.low in omega (arith, low)
