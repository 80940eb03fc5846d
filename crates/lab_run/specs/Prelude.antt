-- The names that most proofs of this crate cite, passed on from one place. Declares nothing.
pub use Rattle.std.proofs.Common.{ap, arith, inl, inr, length, None, Option, refl, Some, subst, sym, take, ℕ, ◌*◌, ◌+◌, ◌-◌, ◌/◌, ◌<◌, ◌∙◌, ◌≡◌, ◌≤◌, ◌⊎◌}
pub use Rattle.std.proofs.lemmas.Bool.{and_cases, and_from, and_parts, cases_eq, cases_lt, eq-eqb, eqb-true, false≢true, lt-ltb, ltb-true, or_parts}
pub use Rattle.std.proofs.lemmas.Bool.Decides.{nat_tests}
pub use Rattle.std.proofs.lemmas.List.{append-nil, append_assoc, length-append, length-map, map-append}
pub use Rattle.std.proofs.lemmas.List.Elements.{All-append, All-cons, All-contains, All-filter, All-head, All-nil, All-push, All-tail, All-take, All-weaker}
pub use Rattle.std.proofs.lemmas.List.Elements.{Contains-append_cases, Contains-append_left, Contains-append_right, filter_passes}
pub use Rattle.std.proofs.lemmas.List.Sums.{sum_by-append, sum_by-cons}
pub use Rattle.std.specs.List.{AllByRecursion, flat_map, fold, list_all, list_any, position, range_with_len}
pub use Rattle.std.specs.Prelude.{All, Bool, cond, Contains, Err, false, filter, IfErr, IfSome, if◌then◌else◌, is_none, is_some, List, map, min, nat_eq, nat_le}
pub use Rattle.std.specs.Prelude.{nat_lt, not, Ok, OnOk, replicate, Result, slice_index_or, slice_set, suc, true, unwrap_or, zero, ℤ, [], ⊤, ◌%◌, ◌&&◌, ◌++◌}
pub use Rattle.std.specs.Prelude.{◌==◌, ◌||◌, ◌∷◌}
pub use Rattle.snd_base.specs.declared.errors.PcmError.{PcmError}
pub use Rattle.snd_base.specs.declared.geometry.Geometry.{Geometry}
pub use Rattle.snd_base.specs.declared.places.Cursor.{Cursor}
pub use Rattle.snd_base.specs.declared.places.Segment.{Segment}
pub use Rattle.snd_base.specs.Relations.{Composes, Composes-none_after}
pub use Rattle.bindings.specs.Bound.{rising}
pub use Rattle.pcm_states.specs.declared.calls.Call.{Call}
pub use Rattle.pcm_states.specs.declared.states.State.{State}
pub use Rattle.pcm_states.specs.declared.states.State.TheVariants.{Draining, Prepared, Running, Setup}
pub use Rattle.pcm_states.specs.Table.{first_outcome, next_of}
pub use Rattle.pcm_stream.specs.declared.direction.Direction.TheVariants.{Capture, Playback}
pub use Rattle.pcm_stream.specs.Status.{is_moving, refusal_of}
pub use Rattle.mix_core.specs.declared.gate.Pass.{Pass}
pub use Rattle.mix_core.specs.declared.gate.Pass.TheVariants.{Go, Stop}
pub use Rattle.mix_core.specs.declared.gate.StepKind.{StepKind}
pub use Rattle.mix_core.specs.declared.gate.StepKind.TheVariants.{Again, Look}
pub use Rattle.mix_core.specs.declared.marks.Marks.{Marks}
pub use Rattle.mix_core.specs.declared.port.Ended.{Ended}
pub use Rattle.mix_core.specs.declared.port.Ended.TheVariants.{Late, Stopped, Whole}
pub use Rattle.mix_core.specs.declared.port.Entry.{Entry}
pub use Rattle.mix_core.specs.declared.port.Position.{Position}
pub use Rattle.mix_core.specs.Laid.{is_at, marks_after, marks_with, sum_of_samples, value_of, without_last}
pub use Rattle.mix_core.specs.Port.{entry_if, IsPast, PortView, ShowsFrom}
pub use Rattle.snoop_core.specs.declared.port.Frame.{Frame}
pub use Rattle.snoop_core.specs.declared.port.Got.{Got}
pub use Rattle.snoop_core.specs.declared.port.Got.TheVariants.{Overtaken}
pub use Rattle.course.specs.AtPort.{LaysAt, LoadsAt, NoGet, TakesAt}
pub use Rattle.course.specs.AtSnoopPort.{GetsAtSnoop, LoadsAtSnoop, NoLay, TakesAtSnoop}
pub use Rattle.course.specs.Course.{Course, ends, gets, lays, loads, Takes}
unfoldable pub use Rattle.course.specs.Course.{◌>>=◌}
pub use Rattle.course.specs.CourseLaws.{Takes-map}
pub use Rattle.course.specs.Gives.{Gives, Gives-any, Gives-map, Gives-taken, Gives-then}
pub use Rattle.dmix_client.specs.declared.commit.Commit.{Commit}
pub use Rattle.dmix_client.specs.declared.stream.PlaybackStream.{PlaybackStream}
pub use Rattle.dmix_client.specs.Calls.{accepted_if, after_drop, after_pause, after_prepare, after_resume, after_start, after_sync, Answered, avail_answer}
pub use Rattle.dmix_client.specs.Calls.{avail_in, commit_count, delay_answer, delay_in, has_frames, in_draining, is_prepared, is_running, pending_of}
pub use Rattle.dmix_client.specs.Calls.{start_count, started_in, sync_count, taken_of, with_accepted, with_new_base, with_number, with_outcome, written_after}
pub use Rattle.dmix_client.specs.Course.{admitted_by, commit_at, commits, drain_course, drain_on, fills, go_on, if_admitted, lay_frame, lay_on, nothing}
pub use Rattle.dmix_client.specs.Course.{number_course, one_frame_more, one_more, pause_call, pause_course, start_course, sync_course, write_on}
unfoldable pub use Rattle.dmix_client.specs.Course.{course_with_number, drains, lay_each, lay_frames, looks, resumes, starts, starts_taking, syncs, takes_more}
unfoldable pub use Rattle.dmix_client.specs.Course.{writes_on}
pub use Rattle.dmix_client.specs.Rewind.{after_rewind, back_of, back_on, rewind_course, rewind_left, rewind_on, rewindable_course, rewindable_of, take_on}
pub use Rattle.dmix_client.specs.Rewind.{without_frames}
unfoldable pub use Rattle.dmix_client.specs.Rewind.{checks, rewinds, take_each, take_frames, takes_back}
pub use Rattle.dmix_client.specs.View.{ring_sample}
pub use Rattle.dmix_client.specs.Writes.{count_with, frames_in, ring_with, starts_with}
pub use Rattle.dsnoop_client.specs.declared.stream.CaptureStream.{CaptureStream}
pub use Rattle.dsnoop_client.specs.Calls.{in_state, read_after, waits, with_avail}
pub use Rattle.dsnoop_client.specs.Course.{avail_course, get_on, read_course, transfer_on}
unfoldable pub use Rattle.dsnoop_client.specs.Course.{counts, gets_frames, reads_first, reads_on, transfers}
pub use Rattle.wav_io.specs.Sound.{Sound}
pub use Rattle.lab_lines.specs.declared.line.Actor.{Actor}
pub use Rattle.lab_lines.specs.declared.line.Item.{Item}
pub use Rattle.lab_lines.specs.declared.line.Line.{Line}
pub use Rattle.lab_lines.specs.declared.line.Op.{Op}
pub use Rattle.lab_lines.specs.declared.row.Answer.{Answer}
pub use Rattle.lab_lines.specs.declared.row.Answer.TheVariants.{Count, Done, Failed}
pub use Rattle.lab_lines.specs.declared.row.Row.{Row}
pub use Rattle.lab_lines.specs.declared.script.Script.{Script}
pub use Rattle.lab_lines.specs.Limits.{IsItem, IsLine, IsOpOf, IsScript}
pub use Rattle.lab_lines.specs.Script.{first_frame, frames_played, is_card_line, is_mixed, is_of_card, IsCardPosition, phase_at, phases_of, played_by}
pub use Rattle.lab_lines.specs.Script.{position_after_phases, unplugs}
pub use Rattle.lab_run.specs.ActorPart.{ActorPart, AreOf, DoesGet, DoesLay, DoesLoad, Doing, Each, Findings, nothing_found, PartsAreRuns, PartsGrow, with_late}
pub use Rattle.lab_run.specs.ActorPart.{with_overtaken, with_position}
pub use Rattle.lab_run.specs.Alike.{Alike, CallsAreAlike, IsFromOn, IsSamePlace, ReadsAreAlike, SameAnswer, SameButMember, SameFrom}
pub use Rattle.lab_run.specs.Claims.{claim_refusal, ClaimIsOwners, is_free_channel, with_claim}
pub use Rattle.lab_run.specs.Client.{after_call, begins, call_answer, call_of, Client, client_kind, count_answer, dies_if, done_answer, ended_by, frames_of}
pub use Rattle.lab_run.specs.Client.{line_by, line_if, present_of, segments_of, stretch_of, write_course}
pub use Rattle.lab_run.specs.ClientAtPort.{after_seat_call, ClientLinesAreParts, ClientLinesWithoutCall, IsOffered, made_call, MakesCall}
pub use Rattle.lab_run.specs.CourseText.{asks_left, get_by, get_text, IsStill, lay_by, lay_text, load_by, load_text, out_of_asks}
unfoldable pub use Rattle.lab_run.specs.CourseText.{course_text}
pub use Rattle.lab_run.specs.Items.{client_kinds, clients_text, is_stopped, item_text, ItemMay, items_text, ItemsMay, no_sound, phase_end, phase_text, PhaseMay}
pub use Rattle.lab_run.specs.Items.{reader_kinds, readers_text, reaped_client, reaped_client_if, reaped_reader, rules_of}
pub use Rattle.lab_run.specs.LabRun.{AreWithin, joined_runs, lab_text, LabRun, Outcome, outcome_of, runs_of, with_numbers}
pub use Rattle.lab_run.specs.Lines.{each_text, EachMay, Kind, line_text, LineMay, lines_text, LinesMay}
pub use Rattle.lab_run.specs.Members.{MembersAreUnreported, MembersLayAlike, of_member, with_member}
pub use Rattle.lab_run.specs.Phases.{AreUnmixed, card_rows, is_client, is_reader, IsUnmixedItem, on_the_way, ops_by, phase_positions, played_at, played_in}
pub use Rattle.lab_run.specs.Phases.{published_by}
pub use Rattle.lab_run.specs.Places.{after_attach, attached_by, is_free, is_silent, last_of, Lobby}
pub use Rattle.lab_run.specs.PortSteps.{ask_count, CountsDown, HasLaidNone, HasOwnLast, IsActorPart, IsAnswered, IsAtPort, IsLow, IsPastFrame, laid, last_from}
pub use Rattle.lab_run.specs.PortSteps.{last_kind, MarksAlike, moved, untouched, with_gate}
pub use Rattle.lab_run.specs.Reader.{frames_by, Reader, reader_kind}
pub use Rattle.lab_run.specs.ReaderAtPort.{IsAtSnoop, ReaderLinesAreParts, ReaderLinesWithoutCall, ReadsBy}
pub use Rattle.lab_run.specs.Rules.{AtPort, CardEnd, left_after, lets_pass, May, MayGet, MayLay, MayLoad, Rules, with_asks, with_load, with_stop, with_stop_by}
pub use Rattle.lab_run.specs.Stage.{after_close, after_open, attached_client, claimed_client, claims_without, client_at, close_client, close_reader}
pub use Rattle.lab_run.specs.Stage.{ended_client, ended_reader, first_stage, lobby_without, no_client, no_reader, open_client, open_client_with, open_reader}
pub use Rattle.lab_run.specs.Stage.{open_reader_with, opened_client, opened_reader, reader_at, renewed_port, Session, Stage, stage_row, with_client_at}
pub use Rattle.lab_run.specs.Stage.{with_reader, with_row}
