-- The names that most proofs of this crate cite, passed on from one place. Declares nothing.
pub use Rattle.std.proofs.Common.{add-zero, ap, append_assoc, arith, drop, get_or, inl, inr, length, List, map, of_z, refl, rules, SFits, subst, suc, sym, take}
pub use Rattle.std.proofs.Common.{to_z, to_z-of_z, w16, zero, zero-add, ℕ, [], ◌%◌, ◌*◌, ◌++◌, ◌+◌, ◌-◌, ◌/◌, ◌<◌, ◌^◌, ◌∙◌, ◌∷◌, ◌≡◌, ◌≤◌}
pub use Rattle.std.proofs.Math.Nat.{add-mod-mod, div-lt_iff_lt-mul, mod-add-mod, mul-le-mul_right}
pub use Rattle.std.proofs.Math.Seq.{take-append_seam, take-suc}
pub use Rattle.std.proofs.lemmas.Bool.Decides.{nat_tests}
pub use Rattle.std.proofs.lemmas.List.{append-nil, drop_all, drop_more, map-append}
pub use Rattle.std.specs.Prelude.{Bool, Err, false, fold, IfErr, IfNone, IfOk, IfSome, if◌then◌else◌, is_some, IsErrAnd, max, min, nat_eq, None, not, Ok, OnOk}
pub use Rattle.std.specs.Prelude.{Option, pos, Result, slice_index, slice_index_or, Some, true, unwrap_or, ℤ, ◌&&◌, ◌+ℤ◌, ◌||◌, ◌↔◌}
pub use denote.Enum.Bare.{same_true}
pub use Rattle.snd_base.specs.declared.errors.PcmError.{PcmError}
pub use Rattle.snd_base.specs.declared.errors.PcmError.TheVariants.{Again, LapEnd, NoDevice}
pub use Rattle.snd_base.specs.declared.errors.XrunWhy.{XrunWhy}
pub use Rattle.snd_base.specs.declared.errors.XrunWhy.TheVariants.{Avail, Empty}
pub use Rattle.snd_base.specs.declared.geometry.Geometry.{Geometry}
pub use Rattle.snd_base.specs.declared.places.Cursor.{Cursor}
pub use Rattle.snd_base.specs.Places.{cursor_after, end_frame, first_free, IsFrom, IsWithin, lap}
pub use Rattle.snd_base.specs.Relations.{Composes}
pub use Rattle.bindings.specs.Bound.{AreBindings, rising}
pub use Rattle.bindings.specs.RisingLaws.{length-rising, rising-rises, rising-within}
pub use Rattle.pcm_states.specs.declared.calls.Call.{Call}
pub use Rattle.pcm_states.specs.declared.calls.Outcome.{Outcome}
pub use Rattle.pcm_states.specs.declared.states.State.{State}
pub use Rattle.pcm_states.specs.declared.states.State.TheVariants.{Disconnected, Draining, Paused, Prepared, Running, Setup, Xrun}
pub use Rattle.pcm_states.specs.Table.{done_in, next_of, refused_in, stopped_by}
pub use Rattle.pcm_stream.specs.declared.direction.Direction.TheVariants.{Playback}
pub use Rattle.pcm_stream.specs.declared.status.Status.{Status}
pub use Rattle.pcm_stream.specs.Status.{is_moving, is_refusal, is_set_up, nothing_found, refusal_in, refusal_of, refused_by}
pub use Rattle.mix_core.specs.declared.gate.Pass.TheVariants.{Go}
pub use Rattle.mix_core.specs.declared.marks.Marks.{Marks}
pub use Rattle.mix_core.specs.declared.port.Ended.{Ended}
pub use Rattle.mix_core.specs.declared.port.Ended.TheVariants.{Late, Stopped, Whole}
pub use Rattle.mix_core.specs.declared.port.Entry.{Entry}
pub use Rattle.mix_core.specs.declared.port.Placed.{Placed}
pub use Rattle.mix_core.specs.declared.port.Position.{Position}
pub use Rattle.mix_core.specs.Gate.{stops_after}
pub use Rattle.mix_core.specs.Laid.{a_withdrawal, an_add, stand_after, total, without_last}
pub use Rattle.mix_core.specs.Port.{ended_of, IsPast, load_of, OnLate, OnWhole, pass_of_end, PortView}
pub use Rattle.course.specs.AtPort.{IsSamePort, LaysAt, LoadsAt, NoGet, TakesAt, TakesAt-same}
pub use Rattle.course.specs.Course.{Course, ends}
unfoldable pub use Rattle.course.specs.Course.{◌>>=◌}
pub use Rattle.course.specs.CourseLaws.{Takes-map, Takes-parts, Takes-then}
pub use Rattle.course.specs.Stops.{CountsStop, pass_by}
pub use Rattle.dmix_client.specs.declared.commit.Commit.{Commit}
pub use Rattle.dmix_client.specs.declared.stream.PlaybackStream.{PlaybackStream}
pub use Rattle.dmix_client.specs.Calls.{accepted_if, after_drop, after_pause, after_resume, after_start, after_sync, Answered, base_of, commit_count}
pub use Rattle.dmix_client.specs.Calls.{committed_by, end_channel, end_of_commit, facts_of, has_frames, in_draining, in_state, is_paused, is_prepared}
pub use Rattle.dmix_client.specs.Calls.{is_running, is_stop, late_at, late_of, over_of, pending_of, seen_at, start_count, started_in, stopped_in, sync_count}
pub use Rattle.dmix_client.specs.Calls.{taken_of, window_end, with_accepted, with_new_base, with_number, with_outcome, written_after, written_on}
pub use Rattle.dmix_client.specs.Causes.{Explains, ExplainsWrite, IsCaused, IsCausedBy, IsGone, IsOfSteps, Reaches}
pub use Rattle.dmix_client.specs.Course.{admitted_by, commits, drain_on, fills, go_on, if_admitted, lay_frame, lay_on, nothing, number_course, one_frame_more}
pub use Rattle.dmix_client.specs.Course.{one_more, pause_course, start_course, write_course, write_on}
unfoldable pub use Rattle.dmix_client.specs.Course.{course_with_number, drains, lay_each, lay_frames, looks, resumes, starts, starts_taking, syncs, takes_more}
unfoldable pub use Rattle.dmix_client.specs.Course.{writes_on}
pub use Rattle.dmix_client.specs.CourseLaws.{channel_entry, LaysFrames, TakesAt-frame, TakesAt-frames, TakesAt-looks, TakesAt-step}
pub use Rattle.dmix_client.specs.Expansion.{frame_entries, run_entries, sample_at}
pub use Rattle.dmix_client.specs.ExpansionLaws.{frames_used, run_entries-append, run_entries-same}
pub use Rattle.dmix_client.specs.Growth.{AnySamples, Follows, Keeps, KeepsAccepted, KeepsBack, Loses, segment_entries, StandsFor, StandsUpTo, TakesAway}
pub use Rattle.dmix_client.specs.Port.{CanUse, CountsEnd, entries_at, IsCommit, IsFound, IsFrameStep, IsOnCard, least_channel, LoadsAndCommits, TakesStep}
pub use Rattle.dmix_client.specs.Rewind.{after_rewind, back_of, back_on, held_entries, rewind_left, rewind_on, rewindable_of, take_on, taken_back}
pub use Rattle.dmix_client.specs.Rewind.{without_frames}
unfoldable pub use Rattle.dmix_client.specs.Rewind.{checks, rewinds, take_each, take_frames, takes_back}
pub use Rattle.dmix_client.specs.Ring.{with_frames, written_over}
pub use Rattle.dmix_client.specs.RingLaws.{HasRoom, slot-behind, slot-within, stored-HasRoom, stored-new, stored-old, stored-run}
pub use Rattle.dmix_client.specs.View.{avail_of, ClientView, hw_of, IsConfigured, IsGoing, IsLaidPast, IsMoving, IsPrepared, IsReady, IsSoundClient, queued_of}
pub use Rattle.dmix_client.specs.View.{ring_sample, slot_sample}
pub use Rattle.dmix_client.specs.Writes.{count_with, frames_in, ring_with, starts_with, taken_after}
