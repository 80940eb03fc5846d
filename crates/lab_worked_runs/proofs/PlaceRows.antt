-- Worked reports of places and of channels with one owner, by computation.
use Rattle.std.proofs.Common.{◌≡◌, refl, Some, None}
use Rattle.std.specs.Prelude.{List, [], ◌∷◌}
use Rattle.snd_base.specs.declared.errors.PcmError.TheVariants as error
use Rattle.pcm_states.specs.declared.states.State.TheVariants as state
use Rattle.lab_lines.specs.declared.line.Item.TheVariants as item
use Rattle.lab_lines.specs.declared.line.Op.TheVariants as op
use Rattle.lab_lines.specs.declared.script.Share.TheVariants as share
use Rattle.lab_lines.specs.declared.row.Answer.TheVariants.{Count, Done, Failed}
use Rattle.lab_run.specs.Stage.{Session}
use Rattle.lab_worked_runs.proofs.Printouts.{a_file, mono, silence, stereo}
use Rattle.lab_worked_runs.proofs.Sessions.{Worked, a, b, c, card, opened, phase, play, played, players, reported, reports_of, row, segment, some, worked_out, works}

-- two clients and one place
one_place : Session
one_place = players (card 1 1 share.Dmix) mono (a_file 1 (silence 64) ∷ a_file 1 (silence 64) ∷ []) (some (0 ∷ []) ∷ some (0 ∷ []) ∷ [])

-- three stereo clients and two places
two_places : Session
two_places = players (card 2 2 share.Dmix) stereo
    (a_file 2 (silence 128) ∷ a_file 2 (silence 128) ∷ a_file 2 (silence 128) ∷ [])
    (some (0 ∷ 1 ∷ []) ∷ some (0 ∷ 1 ∷ []) ∷ some (0 ∷ 1 ∷ []) ∷ [])

-- three mono clients of a stereo card whose channels have one owner, two of them of the same channel
owners : Session
owners = players (card 2 64 share.Dshare) stereo
    (a_file 1 (silence 64) ∷ a_file 1 (silence 64) ∷ a_file 1 (silence 64) ∷ [])
    (some (0 ∷ []) ∷ some (1 ∷ []) ∷ some (0 ∷ []) ∷ [])

places : List Worked
places =
    -- a place is handed out again once it is silent
    works one_place (item.Opens 0 a ∷ phase a (op.Write 64 ∷ []) ∷ item.Closes 0 a ∷ item.Opens 0 b ∷ play 128
    ∷ item.Opens 0 b ∷ [])
    (reported (opened 0 a
    ∷ row 1 a (op.Write 64) (Count 64) state.Running (Some 0)
    ∷ row 1 a op.Closes Done state.Open (Some 0)
    ∷ row 1 b op.Opens (Failed (error.Busy (Some 128) 0)) state.Open None
    ∷ played 2 128 128
    ∷ opened 2 b ∷ [])
    (segment 0 0 64 64 0 ∷ []) [] 128)
    -- so is that of a client that was reaped
    ∷ works two_places (item.Opens 0 a ∷ item.Opens 0 b ∷ phase a (op.Die 3 ∷ op.Write 64 ∷ []) ∷ item.Opens 0 c
    ∷ phase b (op.Write 64 ∷ []) ∷ play 128 ∷ item.Opens 0 c ∷ [])
    (reported (opened 0 a
    ∷ opened 0 b
    ∷ row 1 a (op.Die 3) Done state.Prepared None
    ∷ row 1 a (op.Write 64) (Failed error.Stopped) state.Running (Some 0)
    ∷ row 1 c op.Opens (Failed (error.Busy (Some 65) 0)) state.Open None
    ∷ row 2 b (op.Write 64) (Count 64) state.Running (Some 0)
    ∷ played 3 128 128
    ∷ opened 3 c ∷ [])
    (segment 0 0 64 0 1 ∷ segment 1 0 64 64 0 ∷ []) [] 128)
    -- no place is free
    ∷ works one_place (item.Opens 0 a ∷ play 64 ∷ item.Opens 0 b ∷ item.Opens 0 a ∷ [])
    (reported (opened 0 a
    ∷ played 1 64 64
    ∷ row 1 b op.Opens (Failed (error.Busy None 0)) state.Open None
    ∷ row 1 a op.Opens (Failed error.BadState) state.Prepared None ∷ [])
    [] [] 64)
    -- a channel has one owner
    ∷ works owners (item.Opens 0 a ∷ item.Opens 0 b ∷ item.Opens 0 c ∷ [])
    (reported (opened 0 a
    ∷ opened 0 b
    ∷ row 0 c op.Opens (Failed (error.Busy None 0)) state.Open None ∷ [])
    [] [] 0)
    -- a released channel can be claimed once it is silent
    ∷ works owners (item.Opens 0 a ∷ item.Opens 0 b ∷ phase a (op.Write 64 ∷ []) ∷ item.Closes 0 a ∷ item.Opens 0 c
    ∷ play 128 ∷ item.Opens 0 c ∷ [])
    (reported (opened 0 a
    ∷ opened 0 b
    ∷ row 1 a (op.Write 64) (Count 64) state.Running (Some 0)
    ∷ row 1 a op.Closes Done state.Open (Some 0)
    ∷ row 1 c op.Opens (Failed (error.Busy (Some 128) 0)) state.Open None
    ∷ played 2 128 128
    ∷ opened 2 c ∷ [])
    (segment 0 0 64 64 0 ∷ []) [] 128)
    ∷ []

places_reports : reports_of places ≡ worked_out places
unfolding reports_of places one_place two_places owners
places_reports = refl
