-- The names that most proofs of this crate cite, passed on from one place. Declares nothing.
pub use Rattle.std.proofs.Common.{add-zero, ap, append_assoc, arith, count_by, drop, Err, get_or, IfOk, inl, inr, IsSome, IsTrue, length, List, map, None, refl}
pub use Rattle.std.proofs.Common.{Result, rules, slice_index_or, slice_set, subst, suc, sym, take, vec_capacity, vec_len, zero, zero-mul, ℕ, [], ◌*◌, ◌++◌, ◌+◌}
pub use Rattle.std.proofs.Common.{◌<◌, ◌↔◌, ◌∙◌, ◌∷◌, ◌≡◌, ◌≢◌, ◌≤◌}
pub use Rattle.std.proofs.Math.Nat.{add-mul, div-mul-le_self, min-eq_left, mul-div_cancel, mul-le-mul_right, suc-mul}
pub use Rattle.std.proofs.lemmas.Bool.{cases_eq, false≢true}
pub use Rattle.std.proofs.lemmas.Bool.Decides.{nat_tests}
pub use Rattle.std.proofs.lemmas.List.{append-nil, get_or-set_other, length-append, length-drop, length-map, length-replicate, length-take, length-take-le}
pub use Rattle.std.proofs.lemmas.List.{map-append, set-get_or, take-append-drop, take_all, take_at}
pub use Rattle.std.proofs.lemmas.List.Concat.{flat_map-append}
pub use Rattle.std.proofs.lemmas.List.Elements.{All-append, All-contains_itself, All-nil, All-weaker, Contains-append_left, Contains-append_right}
pub use Rattle.std.proofs.lemmas.List.Sums.{count_by_more_no, count_by_more_yes, sum_by-append, sum_by-cons, sum_by_push}
pub use Rattle.std.specs.Global.{Vec}
pub use Rattle.std.specs.List.{flat_map, range_with_len}
pub use Rattle.std.specs.Option.{option_copied, option_to_list}
pub use Rattle.std.specs.Prelude.{Bool, Contains, false, IfSome, if◌then◌else◌, min, nat_le, Ok, Option, pos, replicate, Some, sum_by, true, unwrap_or, ℤ, ⊤}
pub use Rattle.std.specs.Prelude.{◌-◌, ◌/◌, ◌⊎◌}
pub use Rattle.std.specs.Vec.{with_item}
pub use Rattle.snd_base.specs.declared.errors.PcmError.{PcmError}
pub use Rattle.snd_base.specs.declared.errors.PcmError.TheVariants.{BadState, NotSupported, Stopped}
pub use Rattle.snd_base.specs.declared.geometry.Geometry.{Geometry}
pub use Rattle.snd_base.specs.Relations.{Composes}
pub use Rattle.pcm_states.specs.declared.calls.Call.{Call}
pub use Rattle.pcm_stream.specs.declared.direction.Direction.TheVariants.{Capture}
pub use Rattle.pcm_stream.specs.Status.{refusal_of}
pub use Rattle.snoop_core.specs.declared.port.Frame.{Frame}
pub use Rattle.snoop_core.specs.Port.{frame_if, numbered_frame, SnoopView}
pub use Rattle.course.specs.AtSnoopPort.{GetsAtSnoop, LoadsAtSnoop, NoLay, TakesAtSnoop}
pub use Rattle.course.specs.Course.{Course, ends, gets, lays, loads}
unfoldable pub use Rattle.course.specs.Course.{◌>>=◌}
pub use Rattle.course.specs.CourseLaws.{Takes-keeps_getting, Takes-map, Takes-parts, Takes-then}
pub use Rattle.dsnoop_client.specs.declared.stream.CaptureStream.{CaptureStream}
pub use Rattle.dsnoop_client.specs.Calls.{Answered, configured_with, in_state, new_reader, read_after, taken_of, waits, with_avail}
pub use Rattle.dsnoop_client.specs.Course.{admitted_by, get_on, if_admitted, one_more, read_course, transfer_on}
unfoldable pub use Rattle.dsnoop_client.specs.Course.{counts, gets_frames, reads_first, reads_on, starts, syncs, transfers}
pub use Rattle.dsnoop_client.specs.FewerReads.{most_read, read_course-fewer}
pub use Rattle.dsnoop_client.specs.Reads.{bound_samples, count_of_answer, GivesFrames, through_all}
pub use Rattle.dsnoop_client.specs.View.{avail_of, CanRead, CanUse, frames_in, is_running}
pub use Rattle.lab_lines.specs.declared.line.Line.{Line}
pub use Rattle.lab_lines.specs.declared.line.Op.{Op}
pub use Rattle.lab_lines.specs.declared.row.Answer.{Answer}
pub use Rattle.lab_lines.specs.declared.row.Answer.TheVariants.{Done, Failed}
pub use Rattle.lab_lines.specs.declared.row.Row.{Row}
pub use Rattle.lab_run.specs.ActorPart.{Doing, PartsGrow}
pub use Rattle.lab_run.specs.Client.{count_answer, done_answer}
pub use Rattle.lab_run.specs.GateAsks.{AsksGate, HasAsked}
pub use Rattle.lab_run.specs.LabRun.{joined_runs, runs_of}
pub use Rattle.lab_run.specs.Phases.{is_reader, ops_by, played_at, played_in}
pub use Rattle.lab_run.specs.Reader.{call_answer, call_of, frames_by, Reader, reader_kind, row_by}
pub use Rattle.lab_run.specs.ReaderAtPort.{IsAtSnoop, IsReaderLine, ReaderLinesAreParts, ReaderLinesWithoutCall}
pub use Rattle.lab_run.specs.Stage.{after_close, after_open, Session, Setup, Stage}
pub use Rattle.lab_run.specs.Stretches.{got_by}
pub use Rattle.lab_card.specs.MeetLaws.{IsSameCard-joined}
pub use Rattle.lab_card.specs.Meets.{IsSameCard}
pub use Rattle.lab_actors.specs.Countdown.{at_gate_of, by_gate_of, KeepsGate, left_of}
pub use Rattle.lab_actors.specs.CountdownLaws.{CountsAsks-down, CountsAsks-keeps, KeepsGate-joined, KeepsGate-none, KeepsGate-passing}
pub use Rattle.lab_actors.specs.GateLaws.{both, TakesAtSnoop-gate}
pub use Rattle.lab_actors.specs.Gates.{AsksGateAt-index, AsksGateAt-other, AsksGateAt-set}
pub use Rattle.lab_actors.specs.LineLaws.{few-lines, is_die-other, line_at, ops_by-append, other-line, own-line, own-size, room-next, room-own}
pub use Rattle.lab_actors.specs.Lines.{is_actor}
pub use Rattle.lab_actors.specs.Room.{HasSpace}
pub use Rattle.lab_actors.specs.Rows.{lists-room, rows-next, rows-room}
pub use Rattle.lab_actors.specs.Usable.{IsUsable}
pub use Rattle.lab_actors.specs.Walks.{AreEach-ended, AreEach-map, AreEach-part, AreEach-walked, HasWalked, HasWalked-map, HasWalked-none, HasWalked-read}
pub use Rattle.lab_actors.specs.Walks.{HasWalked-step, HasWalked-still}
pub use Rattle.lab_readers.specs.declared.lines.ReaderActor.{ReaderActor}
pub use Rattle.lab_readers.specs.declared.reader.LabReader.{LabReader}
pub use Rattle.lab_readers.specs.declared.readers.LabReaders.{LabReaders}
pub use Rattle.lab_readers.specs.AtStage.{AreAfter, IsLaterSpare, IsOfRing, readers_of, spare_of}
pub use Rattle.lab_readers.specs.End.{all_runs-at, read_samples, recorded_by-at, recorded_from-at, runs_by}
pub use Rattle.lab_readers.specs.FrameRuns.{AreApart, frames_of_runs, RunList}
pub use Rattle.lab_readers.specs.Kept.{HasGotAllOf-join, IsLaterSpare-join, IsLaterSpare-joined, IsLaterSpare-none, IsLaterSpare-same, IsOfRing-later}
pub use Rattle.lab_readers.specs.Kept.{IsReaped-later}
pub use Rattle.lab_readers.specs.Lines.{AreSamples, HasLoaded, HasRead, HasReaderAnswered, HasReaderCalled, HasSameSetup}
pub use Rattle.lab_readers.specs.OneOpening.{HasClosed, HasOpened, IsNeverOpen}
pub use Rattle.lab_readers.specs.OneReader.{IsOfCard, number_of, OnSeat, ops_of, reader_in, rows_of, stream_at}
pub use Rattle.lab_readers.specs.OpenReader.{RunsLines}
pub use Rattle.lab_readers.specs.Opening.{AreAfter-closing, AreAfter-opening, AreAt-new, AreAt-same, AreNew, AreNew-append, Exchanges, HasClosing, HasOpening}
pub use Rattle.lab_readers.specs.Opening.{IsItemAt}
pub use Rattle.lab_readers.specs.Parts.{AppendsFrames, channels_of, HasGot, HasReaderDone, IsSameReader, reader_of, ReaderLine, ReaderPart}
pub use Rattle.lab_readers.specs.Progress.{Progress, Progress-joined, Progress-most, SeesAtMost}
pub use Rattle.lab_readers.specs.Room.{asked_by, fitting_op, frames_wanted, most_wanted, samples_wanted, spare_frames, wanted_by}
pub use Rattle.lab_readers.specs.Steps.{has_lines, HasGivenRows, HasTakenRoom, is_some_op, IsHeardBy, IsInformedBy, IsReaped, IsSameWithRows}
pub use Rattle.lab_readers.specs.Steps.{IsSameWithRows-none, RunsAt}
