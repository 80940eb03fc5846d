-- Worked reports of a reader, by computation.
use Rattle.std.proofs.Common.{◌≡◌, refl, Some, None}
use Rattle.std.specs.Prelude.{List, [], ◌∷◌}
use Rattle.snd_base.specs.declared.errors.PcmError.TheVariants as error
use Rattle.snd_base.specs.declared.errors.XrunWhy.TheVariants as why
use Rattle.pcm_states.specs.declared.states.State.TheVariants as state
use Rattle.lab_lines.specs.declared.line.Item.TheVariants as item
use Rattle.lab_lines.specs.declared.line.Op.TheVariants as op
use Rattle.lab_lines.specs.declared.script.Share.TheVariants as share
use Rattle.lab_lines.specs.declared.row.Answer.TheVariants.{Count, Done, Failed}
use Rattle.lab_run.specs.Stage.{Session}
use Rattle.lab_worked_runs.proofs.Printouts.{mono}
use Rattle.lab_worked_runs.proofs.Sessions.{Worked, card, opened, phase, play, played, players, r, reported, reports_of, row, some, worked_out, works}

-- one reader
reads : Session
reads = record (players (card 1 64 share.Dmix) mono [] []) { readers = some (0 ∷ []) ∷ [] }

readers : List Worked
readers =
    -- a reader is too late
    works reads (item.Opens 0 r ∷ phase r (op.Start ∷ []) ∷ play 64 ∷ phase r (op.Read 64 ∷ []) ∷ play 320
    ∷ phase r (op.Read 64 ∷ op.Prepare ∷ op.Read 64 ∷ []) ∷ play 64 ∷ phase r (op.Read 64 ∷ []) ∷ [])
    (reported (opened 0 r
    ∷ row 1 r op.Start Done state.Running (Some 0)
    ∷ played 2 64 64
    ∷ row 3 r (op.Read 64) (Count 64) state.Running (Some 64)
    ∷ played 4 320 384
    ∷ row 5 r (op.Read 64) (Failed (error.Xrun (why.Avail 320 0))) state.Xrun (Some 384)
    ∷ row 5 r op.Prepare Done state.Prepared (Some 384)
    ∷ row 5 r (op.Read 64) (Failed error.Again) state.Running (Some 384)
    ∷ played 6 64 448
    ∷ row 7 r (op.Read 64) (Count 64) state.Running (Some 448) ∷ [])
    [] ((0, 0, 64) ∷ (0, 384, 64) ∷ []) 448)
    -- a reader starts again
    ∷ works reads (item.Opens 0 r ∷ phase r (op.Start ∷ []) ∷ play 64 ∷ phase r (op.Read 64 ∷ [])
    ∷ phase r (op.Drop ∷ op.Prepare ∷ op.Start ∷ op.Read 1 ∷ []) ∷ [])
    (reported (opened 0 r
    ∷ row 1 r op.Start Done state.Running (Some 0)
    ∷ played 2 64 64
    ∷ row 3 r (op.Read 64) (Count 64) state.Running (Some 64)
    ∷ row 4 r op.Drop Done state.Setup (Some 64)
    ∷ row 4 r op.Prepare Done state.Prepared (Some 64)
    ∷ row 4 r op.Start Done state.Running (Some 64)
    ∷ row 4 r (op.Read 1) (Failed error.Again) state.Running (Some 64) ∷ [])
    [] ((0, 0, 64) ∷ []) 64)
    -- a reader ends and is opened again
    ∷ works reads (item.Opens 0 r ∷ phase r (op.Start ∷ []) ∷ play 64 ∷ phase r (op.Avail ∷ op.Read 32 ∷ op.Avail ∷ [])
    ∷ item.Closes 0 r ∷ item.Closes 0 r ∷ item.Opens 0 r ∷ phase r (op.Avail ∷ op.Pause ∷ op.Read 0 ∷ []) ∷ [])
    (reported (opened 0 r
    ∷ row 1 r op.Start Done state.Running (Some 0)
    ∷ played 2 64 64
    ∷ row 3 r op.Avail (Count 64) state.Running (Some 64)
    ∷ row 3 r (op.Read 32) (Count 32) state.Running (Some 64)
    ∷ row 3 r op.Avail (Count 32) state.Running (Some 64)
    ∷ row 3 r op.Closes Done state.Open (Some 64)
    ∷ row 3 r op.Closes (Failed error.BadState) state.Open None
    ∷ opened 3 r
    ∷ row 4 r op.Avail (Count 0) state.Prepared None
    ∷ row 4 r op.Pause (Failed error.NotSupported) state.Prepared None
    ∷ row 4 r (op.Read 0) (Count 0) state.Prepared None ∷ [])
    [] ((0, 0, 32) ∷ []) 64)
    -- a reader stops inside a read
    ∷ works reads (item.Opens 0 r ∷ phase r (op.Start ∷ []) ∷ play 64 ∷ phase r (op.Die 10 ∷ op.Read 64 ∷ op.Read 1 ∷ [])
    ∷ phase r (op.Read 1 ∷ []) ∷ [])
    (reported (opened 0 r
    ∷ row 1 r op.Start Done state.Running (Some 0)
    ∷ played 2 64 64
    ∷ row 3 r (op.Die 10) Done state.Running (Some 0)
    ∷ row 3 r (op.Read 64) (Failed error.Stopped) state.Running (Some 64)
    ∷ row 3 r (op.Read 1) (Failed error.Stopped) state.Running (Some 64)
    ∷ row 4 r (op.Read 1) (Failed error.BadState) state.Open None ∷ [])
    [] [] 64)
    ∷ []

readers_reports : reports_of readers ≡ worked_out readers
unfolding reports_of readers reads
readers_reports = refl
