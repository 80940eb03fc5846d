-- The names that most proofs of this crate cite, passed on from one place. Declares nothing.
pub use Rattle.std.proofs.Common.{add-one, ap, arith, drop, inl, inr, length, List, pos, refl, rules, subst, suc, sym, take, zero, ℕ, [], ◌*◌, ◌++◌, ◌+◌, ◌-◌}
pub use Rattle.std.proofs.Common.{◌/◌, ◌<◌, ◌∙◌, ◌∷◌, ◌≡◌, ◌≤◌}
pub use Rattle.std.proofs.Math.Nat.{mul-le-mul_right}
pub use Rattle.std.proofs.lemmas.Bool.Decides.{nat_tests}
pub use Rattle.std.proofs.lemmas.List.{append-nil, ext_get_or, get_or-map, length-append, length-map, map-append, replicate-append-replicate, take-append-drop}
pub use Rattle.std.specs.Prelude.{All, Bool, Err, false, IfErr, IfNone, IfOk, if◌then◌else◌, IsErrAnd, nat_eq, nat_le, nat_lt, None, Ok, OnOk, Option}
pub use Rattle.std.specs.Prelude.{replicate, Result, slice_index, slice_index_or, Some, true, unwrap_or, ℤ, ⊤, ◌&&◌, ◌↔◌}
pub use Rattle.snd_base.specs.declared.errors.PcmError.{PcmError}
pub use Rattle.snd_base.specs.declared.errors.PcmError.TheVariants.{Again, NoDevice, Xrun}
pub use Rattle.snd_base.specs.declared.geometry.Geometry.{Geometry}
pub use Rattle.snd_base.specs.Places.{end_frame, first_frame, IsWithin}
pub use Rattle.snd_base.specs.Relations.{Composes, Composes-none_after, Composes-none_before}
pub use Rattle.pcm_states.specs.declared.calls.Call.{Call}
pub use Rattle.pcm_states.specs.declared.states.State.{State}
pub use Rattle.pcm_states.specs.Table.{done_in, next_of, refused_in, stopped_by}
pub use Rattle.pcm_stream.specs.declared.direction.Direction.TheVariants.{Capture}
pub use Rattle.pcm_stream.specs.Status.{is_refusal, is_set_up, nothing_found, refusal_in, refusal_of, refused_by}
pub use Rattle.mix_core.specs.declared.gate.Pass.{Pass}
pub use Rattle.mix_core.specs.declared.gate.Pass.TheVariants.{Go, Stop}
pub use Rattle.mix_core.specs.declared.port.Position.{Position}
pub use Rattle.mix_core.specs.Gate.{AsksCompose, stops_after}
pub use Rattle.snoop_core.specs.declared.port.Got.{Got}
pub use Rattle.snoop_core.specs.declared.port.Got.TheVariants.{Overtaken, Stopped, Whole}
pub use Rattle.snoop_core.specs.Port.{frame_if, Gets, IsPast, numbered_frame, OnGot, OnOvertaken, pass_of_got, SnoopView}
pub use Rattle.course.specs.AtSnoopPort.{GetsAtSnoop, LoadsAtSnoop, NoLay, TakesAtSnoop}
pub use Rattle.course.specs.Course.{Course, ends}
pub use Rattle.course.specs.CourseLaws.{Takes-map, Takes-parts, Takes-then}
pub use Rattle.course.specs.Stops.{pass_by}
pub use Rattle.dsnoop_client.specs.declared.stream.CaptureStream.{CaptureStream}
pub use Rattle.dsnoop_client.specs.Calls.{after_start, after_sync, Answered, facts_with, in_state, over_of, read_after, read_to, seen_at, taken_of, waits}
pub use Rattle.dsnoop_client.specs.Calls.{with_avail, with_outcome}
pub use Rattle.dsnoop_client.specs.Causes.{Explains, ExplainsRead, FindsNone, IsMissed, IsOfSteps, Reaches}
pub use Rattle.dsnoop_client.specs.Course.{admitted_by, get_on, if_admitted, one_more, read_course, transfer_on}
unfoldable pub use Rattle.dsnoop_client.specs.Course.{counts, gets_frames, reads_first, reads_on, starts, syncs, transfers}
pub use Rattle.dsnoop_client.specs.Port.{Asks, IsLookNumber, Keeps}
pub use Rattle.dsnoop_client.specs.Reads.{AreFrames, bound_samples, Fills, GivesFrames, through_all}
pub use Rattle.dsnoop_client.specs.View.{avail_of, CanUse, frames_in, HasRoom, is_of_capture, is_running, IsGoing, IsReady, IsSoundReader, IsStart, IsSync}
pub use Rattle.dsnoop_client.specs.View.{LoadsFor}
