-- A client that is stopped before each of its steps: what it placed of 64 stereo frames, and that another client is as before.
use Rattle.std.proofs.Common.{◌≡◌, ℕ, ◌-◌, ◌/◌, ◌%◌, refl, None, Some}
use Rattle.std.specs.Prelude.{List, [], ◌∷◌, ◌++◌, map, nat_eq, nat_le, if◌then◌else◌}
use Rattle.std.specs.List.{range_with_len}
use Rattle.snd_base.specs.declared.errors.PcmError.TheVariants as error
use Rattle.snd_base.specs.declared.places.Segment.{Segment}
use Rattle.pcm_states.specs.declared.states.State.TheVariants as state
use Rattle.lab_lines.specs.declared.line.Item.{Item}
use Rattle.lab_lines.specs.declared.line.Item.TheVariants as item
use Rattle.lab_lines.specs.declared.line.Op.TheVariants as op
use Rattle.lab_lines.specs.declared.script.Share.TheVariants as share
use Rattle.lab_lines.specs.declared.report.Report.{Report}
use Rattle.lab_lines.specs.declared.row.Answer.TheVariants.{Count, Done, Failed}
use Rattle.lab_lines.specs.declared.row.Row.{Row}
use Rattle.lab_run.specs.Stage.{Session}
use Rattle.lab_worked_runs.proofs.Printouts.{a_file, silence, stereo}
use Rattle.lab_worked_runs.proofs.Sessions.{Worked, a, b, card, opened, phase, play, played, players, reported, reports_of, row, segment, some, worked_out, works}

-- two stereo clients with 64 frames
two : Session
two = players (card 2 64 share.Dmix) stereo
    (a_file 2 (silence 128) ∷ a_file 2 (silence 128) ∷ [])
    (some (0 ∷ 1 ∷ []) ∷ some (0 ∷ 1 ∷ []) ∷ [])

-- the first one may make so many steps
dies_after : ℕ → List Item
dies_after steps =
    item.Opens 0 a ∷ item.Opens 0 b ∷ phase a (op.Die steps ∷ op.Write 64 ∷ []) ∷ phase b (op.Write 64 ∷ []) ∷ play 128 ∷ []

-- the first step is the load of the position, then each word takes two
words_placed : ℕ → ℕ
words_placed steps = (steps - 1) / 2

write_row : ℕ → Row
write_row steps =
    if nat_eq steps 0 then row 1 a (op.Write 64) (Failed error.Stopped) state.Prepared None else
    (if nat_le steps 256 then row 1 a (op.Write 64) (Failed error.Stopped) state.Running (Some 0)
    else row 1 a (op.Write 64) (Count 64) state.Running (Some 0))

own_segment : ℕ → List (ℕ × Segment)
own_segment steps =
    if nat_eq (words_placed steps) 0 then [] else segment 0 0 64 (words_placed steps / 2) (words_placed steps % 2) ∷ []

dies_report : ℕ → Report
dies_report steps = reported (opened 0 a
    ∷ opened 0 b
    ∷ row 1 a (op.Die steps) Done state.Prepared None
    ∷ write_row steps
    ∷ row 2 b (op.Write 64) (Count 64) state.Running (Some 0)
    ∷ played 3 128 128 ∷ [])
    (own_segment steps ++ segment 1 0 64 64 0 ∷ []) [] 128

-- for each number of steps up to the one with which all 64 frames are placed
stops : List Worked
stops = map (λ steps. works two (dies_after steps) (dies_report steps)) (range_with_len 0 258)

stops_reports : reports_of stops ≡ worked_out stops
unfolding reports_of stops two dies_after dies_report write_row own_segment words_placed
stops_reports = refl

-- after a stop no line of the phase does anything, and the actor is not open from the next phase on
after_a_stop : List Worked
after_a_stop =
    works two (item.Opens 0 a
    ∷ phase a (op.Die 3 ∷ op.Write 64 ∷ op.Die 5 ∷ op.Pause ∷ op.Sync ∷ [])
    ∷ phase a (op.Pause ∷ op.Die 2 ∷ op.Write 1 ∷ []) ∷ item.Opens 0 a ∷ phase a (op.Write 1 ∷ []) ∷ [])
    (reported (opened 0 a
    ∷ row 1 a (op.Die 3) Done state.Prepared None
    ∷ row 1 a (op.Write 64) (Failed error.Stopped) state.Running (Some 0)
    ∷ row 1 a (op.Die 5) (Failed error.Stopped) state.Running (Some 0)
    ∷ row 1 a op.Pause (Failed error.Stopped) state.Running (Some 0)
    ∷ row 1 a op.Sync (Failed error.Stopped) state.Running (Some 0)
    ∷ row 2 a op.Pause (Failed error.BadState) state.Open None
    ∷ row 2 a (op.Die 2) (Failed error.BadState) state.Open None
    ∷ row 2 a (op.Write 1) (Failed error.BadState) state.Open None
    ∷ opened 2 a
    ∷ row 3 a (op.Write 1) (Count 1) state.Running (Some 0) ∷ [])
    (segment 0 0 64 0 1 ∷ segment 0 0 64 1 0 ∷ []) [] 0) ∷ []

after_a_stop_reports : reports_of after_a_stop ≡ worked_out after_a_stop
unfolding reports_of after_a_stop two
after_a_stop_reports = refl
