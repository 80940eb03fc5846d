-- Worked reports of clients, by computation: one that plays, that pauses while the card may be unplugged, and that takes frames back.
use Rattle.std.proofs.Common.{◌≡◌, refl, arith, Some, None}
use Rattle.std.specs.Prelude.{List, [], ◌∷◌}
use Rattle.snd_base.specs.declared.errors.PcmError.TheVariants as error
use Rattle.snd_base.specs.declared.errors.XrunWhy.TheVariants as why
use Rattle.pcm_states.specs.declared.states.State.TheVariants as state
use Rattle.lab_lines.specs.declared.line.Item.TheVariants as item
use Rattle.lab_lines.specs.declared.line.Op.TheVariants as op
use Rattle.lab_lines.specs.declared.script.Share.TheVariants as share
use Rattle.lab_lines.specs.declared.row.Answer.TheVariants.{Count, Done, Failed}
use Rattle.lab_run.specs.Stage.{Session}
use Rattle.lab_worked_runs.proofs.Printouts.{a_file, mono, silence, stereo}
use Rattle.lab_worked_runs.proofs.Sessions.{Worked, a, card, line, long, one, opened, phase, play, played, players, reported, reports_of, row, segment, setup, the_card, worked_out, works}

-- one client with 128 frames that no number of available frames stops
endless : Session
endless = players (card 1 64 share.Dmix) mono (a_file 1 (silence 128) ∷ []) (Some (setup 4611686018427387904 (0 ∷ [])) ∷ [])

-- a card of 512 frames with a period of 64, and a stereo client with 576 frames
music : Session
music = players
    (record (card 2 64 share.Dmix) { ring = 512 })
    (record stereo { frames = 512; frames_least = omega arith; frames_most = omega arith })
    (a_file 2 (silence 1152) ∷ [])
    (Some (record {
      config = record { channels = 2; rate = 48000; period_size = 64; buffer_size = 512; periods = 8 };
      bindings = 0 ∷ 1 ∷ [];
      params = record { start_threshold = 1; stop_threshold = 512; avail_min = 64 };
      lead = 64;
    }) ∷ [])

plays : List Worked
plays =
    -- a client plays its file
    works one (item.Opens 0 a ∷ phase a (op.Write 64 ∷ []) ∷ play 256 ∷ [])
    (reported (opened 0 a
    ∷ row 1 a (op.Write 64) (Count 64) state.Running (Some 0)
    ∷ played 2 256 256 ∷ [])
    (segment 0 0 64 64 0 ∷ []) [] 256)
    -- a client has nothing more to play
    ∷ works one (item.Opens 0 a ∷ phase a (op.Write 64 ∷ []) ∷ play 128 ∷ phase a (op.Sync ∷ op.Write 1 ∷ op.Prepare ∷ [])
    ∷ [])
    (reported (opened 0 a
    ∷ row 1 a (op.Write 64) (Count 64) state.Running (Some 0)
    ∷ played 2 128 128
    ∷ row 3 a op.Sync (Failed (error.Xrun (why.Avail 256 0))) state.Xrun (Some 128)
    ∷ row 3 a (op.Write 1) (Failed (error.Xrun why.Already)) state.Xrun (Some 128)
    ∷ row 3 a op.Prepare Done state.Prepared (Some 128) ∷ [])
    (segment 0 0 64 64 0 ∷ []) [] 128)
    -- a client starts again after what it placed
    ∷ works long (item.Opens 0 a ∷ phase a (op.Write 256 ∷ op.Drop ∷ op.Prepare ∷ op.Write 256 ∷ []) ∷ play 256
    ∷ phase a (op.Sync ∷ []) ∷ play 256 ∷ [])
    (reported (opened 0 a
    ∷ row 1 a (op.Write 256) (Count 256) state.Running (Some 0)
    ∷ row 1 a op.Drop Done state.Setup (Some 0)
    ∷ row 1 a op.Prepare Done state.Prepared (Some 0)
    ∷ row 1 a (op.Write 256) (Count 256) state.Running (Some 0)
    ∷ played 2 256 256
    ∷ row 3 a op.Sync Done state.Running (Some 256)
    ∷ played 4 256 512 ∷ [])
    (segment 0 0 64 192 0 ∷ segment 0 256 256 256 0 ∷ []) [] 512)
    -- a commit comes too late
    ∷ works endless (item.Opens 0 a ∷ phase a (op.Write 64 ∷ []) ∷ play 192
    ∷ phase a (op.Write 64 ∷ op.Prepare ∷ op.Write 64 ∷ op.Avail ∷ op.Delay ∷ []) ∷ [])
    (reported (opened 0 a
    ∷ row 1 a (op.Write 64) (Count 64) state.Running (Some 0)
    ∷ played 2 192 192
    ∷ row 3 a (op.Write 64) (Failed (error.Xrun (why.Late 128 0 0))) state.Xrun (Some 192)
    ∷ row 3 a op.Prepare Done state.Prepared (Some 192)
    ∷ row 3 a (op.Write 64) (Count 64) state.Running (Some 192)
    ∷ row 3 a op.Avail (Count 192) state.Running (Some 192)
    ∷ row 3 a op.Delay (Count 128) state.Running (Some 192) ∷ [])
    (segment 0 0 64 64 0 ∷ segment 0 64 256 64 0 ∷ []) [] 192)
    -- of the two runs of a mixed phase, the one where the client sees the phase's end
    ∷ works one (item.Opens 0 a ∷ item.Phase (line a (op.Write 64) ∷ line the_card (op.Play 64) ∷ []) ∷ play 192 ∷ [])
    (reported (opened 0 a
    ∷ played 1 64 64
    ∷ row 1 a (op.Write 64) (Count 64) state.Running (Some 64)
    ∷ played 2 192 256 ∷ [])
    (segment 0 0 128 64 0 ∷ []) [] 256)
    -- a client plays its file to the end
    ∷ works music (item.Opens 0 a ∷ phase a (op.Write 512 ∷ []) ∷ play 64 ∷ phase a (op.Write 64 ∷ []) ∷ play 64
    ∷ phase a (op.Write 64 ∷ op.Drain ∷ []) ∷ play 512 ∷ phase a (op.Drain ∷ []) ∷ [])
    (reported (opened 0 a
    ∷ row 1 a (op.Write 512) (Count 512) state.Running (Some 0)
    ∷ played 2 64 64
    ∷ row 3 a (op.Write 64) (Failed error.Again) state.Running (Some 64)
    ∷ played 4 64 128
    ∷ row 5 a (op.Write 64) (Count 64) state.Running (Some 128)
    ∷ row 5 a op.Drain (Failed error.Again) state.Draining (Some 128)
    ∷ played 6 512 640
    ∷ row 7 a op.Drain Done state.Setup (Some 640) ∷ [])
    (segment 0 0 64 576 0 ∷ []) [] 640)
    ∷ []

plays_reports : reports_of plays ≡ worked_out plays
unfolding reports_of plays endless music
plays_reports = refl

pauses : List Worked
pauses =
    -- a client pauses and goes on with a segment of its own
    works long (item.Opens 0 a ∷ phase a (op.Write 256 ∷ op.Pause ∷ []) ∷ play 256 ∷ phase a (op.Resume ∷ []) ∷ play 256
    ∷ [])
    (reported (opened 0 a
    ∷ row 1 a (op.Write 256) (Count 256) state.Running (Some 0)
    ∷ row 1 a op.Pause Done state.Paused (Some 0)
    ∷ played 2 256 256
    ∷ row 3 a op.Resume Done state.Running (Some 256)
    ∷ played 4 256 512 ∷ [])
    (segment 0 0 64 192 0 ∷ segment 0 192 320 64 0 ∷ []) [] 512)
    -- what a paused client refuses, and a resume with nothing pending
    ∷ works one (item.Opens 0 a ∷ phase a (op.Pause ∷ op.Write 64 ∷ op.Write 64 ∷ op.Pause ∷ op.Resume ∷ []) ∷ [])
    (reported (opened 0 a
    ∷ row 1 a op.Pause (Failed error.BadState) state.Prepared None
    ∷ row 1 a (op.Write 64) (Count 64) state.Running (Some 0)
    ∷ row 1 a (op.Write 64) (Count 0) state.Running (Some 0)
    ∷ row 1 a op.Pause Done state.Paused (Some 0)
    ∷ row 1 a op.Resume Done state.Prepared (Some 0) ∷ [])
    (segment 0 0 64 64 0 ∷ []) [] 0)
    -- a resume that finds the card gone has ended its segment
    ∷ works long (item.Opens 0 a ∷ phase a (op.Write 256 ∷ op.Pause ∷ []) ∷ phase the_card (op.Unplug ∷ [])
    ∷ phase a (op.Resume ∷ op.Resume ∷ []) ∷ [])
    (reported (opened 0 a
    ∷ row 1 a (op.Write 256) (Count 256) state.Running (Some 0)
    ∷ row 1 a op.Pause Done state.Paused (Some 0)
    ∷ row 2 the_card op.Unplug Done state.Disconnected (Some 0)
    ∷ row 3 a op.Resume (Failed error.NoDevice) state.Disconnected (Some 0)
    ∷ row 3 a op.Resume (Failed error.NoDevice) state.Disconnected (Some 0) ∷ [])
    (segment 0 0 64 192 0 ∷ []) [] 0)
    -- a resume that is stopped at its load leaves one segment
    ∷ works long (item.Opens 0 a ∷ phase a (op.Write 256 ∷ op.Pause ∷ []) ∷ phase a (op.Die 0 ∷ op.Resume ∷ []) ∷ [])
    (reported (opened 0 a
    ∷ row 1 a (op.Write 256) (Count 256) state.Running (Some 0)
    ∷ row 1 a op.Pause Done state.Paused (Some 0)
    ∷ row 2 a (op.Die 0) Done state.Paused (Some 0)
    ∷ row 2 a op.Resume (Failed error.Stopped) state.Paused (Some 0) ∷ [])
    (segment 0 0 64 192 0 ∷ []) [] 0)
    -- the card is unplugged
    ∷ works one (item.Opens 0 a ∷ phase a (op.Start ∷ op.Write 64 ∷ []) ∷ phase the_card (op.Unplug ∷ [])
    ∷ phase a (op.Sync ∷ op.Pause ∷ []) ∷ [])
    (reported (opened 0 a
    ∷ row 1 a op.Start (Failed (error.Xrun why.Empty)) state.Prepared None
    ∷ row 1 a (op.Write 64) (Count 64) state.Running (Some 0)
    ∷ row 2 the_card op.Unplug Done state.Disconnected (Some 0)
    ∷ row 3 a op.Sync (Failed error.NoDevice) state.Disconnected (Some 0)
    ∷ row 3 a op.Pause (Failed error.NoDevice) state.Disconnected (Some 0) ∷ [])
    (segment 0 0 64 64 0 ∷ []) [] 0)
    ∷ []

pauses_reports : reports_of pauses ≡ worked_out pauses
unfolding reports_of pauses
pauses_reports = refl

rewinds : List Worked
rewinds =
    -- a client takes back half of what it committed
    works one (item.Opens 0 a ∷ phase a (op.Write 64 ∷ []) ∷ phase a (op.Rewind 32 ∷ []) ∷ play 256 ∷ [])
    (reported (opened 0 a
    ∷ row 1 a (op.Write 64) (Count 64) state.Running (Some 0)
    ∷ row 2 a (op.Rewind 32) (Count 32) state.Running (Some 0)
    ∷ played 3 256 256 ∷ [])
    (segment 0 0 64 32 0 ∷ []) [] 256)
    -- and writes it anew
    ∷ works one (item.Opens 0 a ∷ phase a (op.Write 64 ∷ [])
    ∷ phase a (op.Rewind 32 ∷ op.Write 64 ∷ op.Rewindable ∷ op.Rewind 1 ∷ []) ∷ play 256 ∷ [])
    (reported (opened 0 a
    ∷ row 1 a (op.Write 64) (Count 64) state.Running (Some 0)
    ∷ row 2 a (op.Rewind 32) (Count 32) state.Running (Some 0)
    ∷ row 2 a (op.Write 64) (Count 32) state.Running (Some 0)
    ∷ row 2 a op.Rewindable (Count 0) state.Running (Some 0)
    ∷ row 2 a (op.Rewind 1) (Count 0) state.Running (Some 0)
    ∷ played 3 256 256 ∷ [])
    (segment 0 0 64 64 0 ∷ []) [] 256)
    -- a client stops inside a rewind
    ∷ works one (item.Opens 0 a ∷ phase a (op.Write 64 ∷ []) ∷ phase a (op.Die 4 ∷ op.Rewind 32 ∷ []) ∷ [])
    (reported (opened 0 a
    ∷ row 1 a (op.Write 64) (Count 64) state.Running (Some 0)
    ∷ row 2 a (op.Die 4) Done state.Running (Some 0)
    ∷ row 2 a (op.Rewind 32) (Failed error.Stopped) state.Running (Some 0) ∷ [])
    (segment 0 0 64 63 0 ∷ []) [] 0)
    -- pending frames are taken back first, and those that the card played not at all; with nothing left the next look is an xrun
    ∷ works long (item.Opens 0 a ∷ phase a (op.Write 256 ∷ []) ∷ phase a (op.Rewindable ∷ op.Rewind 100 ∷ []) ∷ play 96
    ∷ phase a (op.Rewindable ∷ op.Rewind 1000 ∷ op.Rewindable ∷ []) ∷ [])
    (reported (opened 0 a
    ∷ row 1 a (op.Write 256) (Count 256) state.Running (Some 0)
    ∷ row 2 a op.Rewindable (Count 256) state.Running (Some 0)
    ∷ row 2 a (op.Rewind 100) (Count 100) state.Running (Some 0)
    ∷ played 3 96 96
    ∷ row 4 a op.Rewindable (Count 124) state.Running (Some 96)
    ∷ row 4 a (op.Rewind 1000) (Count 124) state.Running (Some 96)
    ∷ row 4 a op.Rewindable (Failed (error.Xrun (why.Avail 256 0))) state.Xrun (Some 96) ∷ [])
    (segment 0 0 64 32 0 ∷ []) [] 96)
    ∷ []

rewinds_reports : reports_of rewinds ≡ worked_out rewinds
unfolding reports_of rewinds
rewinds_reports = refl
