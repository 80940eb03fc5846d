-- The names that most proofs of this crate cite, passed on from one place. Declares nothing.
pub use Rattle.std.proofs.Common.{ap, arith, get_or, inl, inr, length, length-append, List, lit<, refl, replicate, set, subst, suc, sym, take, to_z-of_z, w64}
pub use Rattle.std.proofs.Common.{zero, ℕ, ℤ, [], ◌*◌, ◌++◌, ◌+◌, ◌<◌, ◌∙◌, ◌∷◌, ◌≡◌, ◌≤◌}
pub use Rattle.std.proofs.Math.Logic.{∥∥₁_elim, ∥∥₁_map}
pub use Rattle.std.proofs.lemmas.Bool.{cases_eq, cases_lt, false≢true}
pub use Rattle.std.proofs.lemmas.Int.{to_z_pos}
pub use Rattle.std.proofs.lemmas.List.{append-nil, get_or-set_other, get_or-set_same, get_or_default, length-set, take-append-le}
pub use Rattle.std.proofs.lemmas.Option.{none-some, same_Some}
pub use Rattle.std.proofs.raw_atomic.Walks.{leaves, proved_at}
pub use Rattle.std.specs.Option.{is_some}
pub use Rattle.std.specs.Prelude.{All, Bool, Err, false, IfErr, IfSome, if◌then◌else◌, IsSome, IsTrue, nat_lt, None, not, Ok, OnErr, OnOk, Option, pos, Result}
pub use Rattle.std.specs.Prelude.{Some, true, unwrap_or, ⊤, ◌&&◌, ◌-◌, ◌||◌, ◌↔◌, ◌⊎◌}
pub use Rattle.std.specs.declared.alloc.Global.{Global}
pub use Rattle.core.proofs.alloc.Calls.{Goes-blank, handle_tells}
pub use Rattle.core.proofs.atomic.Steps.{fm}
pub use Rattle.core.proofs.cell.Inside.{Good}
pub use Rattle.rtrb.specs.Ring.{received, sent}
pub use Rattle.rtrb.specs.declared.consumer.Consumer.{Consumer}
pub use Rattle.std_alloc.proofs.BoxSteps.Steps.{box_in, box_out}
pub use Rattle.std_alloc.proofs.ResultValues.{and_tt}
pub use Rattle.std_alloc.specs.Box.Ownership.{box_owns}
pub use Rattle.std_heap.proofs.GlobalAllocator.TheImpl.Met.{passed}
pub use base.Fml.{flft, fsep, ftrue}
pub use base.Fraction.{full_share}
pub use base.Logic.{emp, ent, fst∗, id⊢, never, SProp}
pub use contract.BorrowLft.{⊑_refl, ⊑_static, ◌⊑◌}
pub use contract.Monad.{fact, fact_i}
pub use contract.Running.{tables}
pub use denote.Builtin.{RawPtr}
pub use denote.Memory.{lone}
pub use denote.Param.{arg, layout}
pub use denote.Param.NoDrop.{glues}
pub use denote.RattleType.{owns, RattleType, Valss}
pub use denote.RawPtr.{block_ptr, in_a_block, null_ptr, Ptr, ptr_val}
pub use denote.Signature.{plain, types_at}
pub use denote.Steps.{heard, nothing, only}
pub use denote.Struct.Owning.{fields, shape, to}
pub use denote.Struct.Struct.{exits_of, within}
pub use denote.Triple.Call.{calls_at, calls_at_last}
pub use denote.Triple.Clauses.{at_exit, Ended, Lasts, lasts}
pub use denote.Triple.Entry.{alive}
pub use denote.Triple.Spec.{triple_of}
pub use denote.Triple.Walked.{Fit, stay_dropped, Stays, walk_of}
pub use mir.Raw.{raw}
pub use mir.Val.{has_ty, of_list, Val, vcons, vint, vnil, vptr, vstruct, WT}
pub use prog.Wp.{WpFn}
pub use types.ByLocal.{alloc_all, env, free_all, get, get_in, lands_as, lands_last, look_at, pass_all, sets}
pub use types.Kit.{at_ret, await, by, drop, feq_i, feq_l, fjoin, fpack, fpick, fsplit, Goal, Item, join, keep, later, move, pick, qed, rewrite, Seq, some}
pub use types.Kit.{split, split3, Step, step, suffices, use0, use1, !, ‵, ◌$◌, ◌∵◌, ◌⊛◌}
pub use types.Logic.{Logic, sem}
pub use types.Part.{agg, sub, whole}
pub use types.Run.{and_then, blocks, enter, exec, first, fld, lit, no_more, of_opd, returns, stop}
pub use Rattle.snd_base.specs.declared.errors.PcmError.{PcmError}
pub use Rattle.snd_base.specs.declared.errors.PcmError.TheVariants.{Again, Busy, Invalid, Memory, NotSupported, Stopped}
pub use Rattle.snd_base.specs.declared.geometry.Geometry.{Geometry}
pub use Rattle.snd_base.specs.declared.places.Cursor.{Cursor}
pub use Rattle.pcm_states.specs.declared.calls.Call.{Call}
pub use Rattle.pcm_states.specs.declared.states.State.{State}
pub use Rattle.pcm_states.specs.declared.states.State.TheVariants.{Prepared, Running}
pub use Rattle.pcm_states.specs.States.{state_number}
pub use Rattle.hw_space.specs.declared.config.Config.{Config}
pub use Rattle.sw_limits.specs.declared.params.SwParams.{SwParams}
pub use Rattle.pcm_stream.specs.declared.direction.Direction.TheVariants.{Capture, Playback}
pub use Rattle.pcm_stream.specs.RefusalLaws.{not-both, passed-on, refusal-of_err, refusal-of_ok, same-refusal}
pub use Rattle.pcm_stream.specs.Setup.{Checks, config_of}
pub use Rattle.pcm_stream.specs.Status.{is_moving, is_set_up, refusal_of}
pub use Rattle.mix_core.specs.declared.gate.NeverStops.{NeverStops}
pub use Rattle.mix_core.specs.Port.{PortView}
pub use Rattle.sum_table.specs.declared.seats.mix.MixSeat.{MixSeat}
pub use Rattle.sum_table.specs.Known.{last_frame}
pub use Rattle.sum_table.specs.Seats.{key_of, member_of, places_of_seat, seat_view, SeatEndsIn, SeatEndsIn-laid, SeatEndsIn-part, TableId, view_of}
pub use Rattle.snoop_table.specs.declared.seats.reader.ReaderSeat.{ReaderSeat}
pub use Rattle.snoop_table.specs.Readers.{geometry_of, IsLaterSeat, ring_of}
pub use Rattle.snoop_table.specs.Rings.{geometry_of_ring, HasSeats}
pub use Rattle.lobby.specs.declared.lobby.Lobby.{Lobby}
pub use Rattle.lobby.specs.Lobbies.{Attaches, CanTakeBack, free_seats, HandsOut, IsNewLobby, IsSilentSeat, key_of_lobby, places_of_lobby, ring_of_lobby}
pub use Rattle.lobby.specs.Lobbies.{seen_of_lobby, TakesBack}
pub use Rattle.lobby.specs.Seats.{IsPlace, KeepsLasts, last_of, lowest_free, lowest_silent, seat_at}
pub use Rattle.card_player.specs.declared.player.CardPlayer.{CardPlayer}
pub use Rattle.card_player.specs.Plays.{at_frame, period_of, seat_of}
pub use Rattle.course.specs.AtPort.{LaysAt, LoadsAt, NoGet, TakesAt}
pub use Rattle.course.specs.Course.{Course, ends}
pub use Rattle.course.specs.CourseLaws.{Takes-map}
pub use Rattle.course.specs.Gives.{Gives, Gives-any, Gives-taken}
pub use Rattle.course.specs.Stops.{CountsStop, pass_in}
pub use Rattle.dmix_client.specs.declared.stream.PlaybackStream.{PlaybackStream}
pub use Rattle.dmix_client.specs.CallRelations.{Calls, WritesFrames}
pub use Rattle.dmix_client.specs.Calls.{after_drop, after_hw_free, after_prepare, Answered, avail_answer, base_of, committed_by, delay_answer, going_on}
pub use Rattle.dmix_client.specs.Calls.{going_on_by, is_paused, new_client, with_new_base, with_number, with_outcome, with_params}
pub use Rattle.dmix_client.specs.EachCall.{CallLeaves, checks-done, CountLeaves, drain-done, number-counted, pause-done, resume-done, rewind-counted}
pub use Rattle.dmix_client.specs.EachCall.{rewindable-counted, RewindLeaves, start-done, write-counted, WriteLeaves}
pub use Rattle.dmix_client.specs.Port.{CanUse}
pub use Rattle.dmix_client.specs.Rewind.{held_entries, taken_back}
pub use Rattle.dmix_client.specs.View.{ClientView, IsSoundClient}
pub use Rattle.dsnoop_client.specs.declared.stream.CaptureStream.{CaptureStream}
pub use Rattle.dsnoop_client.specs.Calls.{configured_with, in_state, new_reader}
pub use Rattle.dmix_c.specs.declared.open_ring.OpenRing.{OpenRing}
pub use Rattle.dmix_c.specs.declared.opened.Opened.{Opened}
pub use Rattle.dmix_c.specs.declared.opened.Opened.TheVariants.{Card, Client, Duplex, Reader, Ring}
pub use Rattle.dmix_c.specs.declared.params.RingParams.{RingParams}
pub use Rattle.dmix_c.specs.declared.recording.Recording.{Recording}
pub use Rattle.dmix_c.specs.declared.way.OnePlace.{OnePlace}
pub use Rattle.dmix_c.specs.Answers.{bad_handle, done_of, error_number, handle_in_use, number_of}
pub use Rattle.dmix_c.specs.Backed.{IsBackedBy, IsBackedSeat, StaysBacked}
pub use Rattle.dmix_c.specs.Cards.{HasPlayed, IsUnplugged}
pub use Rattle.dmix_c.specs.Channels.{channels_held, channels_of, stream_channels}
pub use Rattle.dmix_c.specs.ClientCalls.{call_course, done_course, HasMade, HasSetUp, ring_after, set_up_with, Writes}
pub use Rattle.dmix_c.specs.Clients.{HasServed, HasStatus, IsNewPlayback, KeepsPlace}
pub use Rattle.dmix_c.specs.Duplex.{HasRunCard, IsDuplexUnplugged}
pub use Rattle.dmix_c.specs.Handles.{Closes, Ends, is_kind, OnCard, OnClient, OnDuplex, OnEitherCard, OnReader, OpensAt, OpensBoth, OpensBy, OpensPair}
pub use Rattle.dmix_c.specs.Handles.{OpensReaderAt, OpensStream}
pub use Rattle.dmix_c.specs.Owned.{may_own}
pub use Rattle.dmix_c.specs.Params.{CanConfigure, CanOpen, config_with, IsGeometryOf}
pub use Rattle.dmix_c.specs.ReaderCalls.{reader_course, reader_done, ReaderHasMade, ReaderHasSetUp, ReadsAt}
pub use Rattle.dmix_c.specs.ReaderPort.{reader_port, TakesAtSnoop-goes}
pub use Rattle.dmix_c.specs.Readers.{IsNewRecording, KeepsSource, ReaderHasRead, ReaderHasServed, ReaderHasStatus}
pub use Rattle.dmix_c.specs.RingPlaces.{CameBack, Collects, GivesNone, GivesPlace, GivesReader, IsAtStart, IsFree, IsHandedOut, IsNewDuplex, IsNewOpenRing}
pub use Rattle.dmix_c.specs.RingPlaces.{IsNewPair, KeepsRing, Receives, source_of, StayFree}
pub use Rattle.dmix_c.specs.SamePlace.{AreOfPlace, AreOfPlace-goes, IsSamePlace}
pub use Rattle.dmix_c.specs.SeatPort.{no_gate, seat_port, TakesAt-goes}
pub use Rattle.dmix_c.specs.SettingUp.{CanSetUp, SetsUp}
pub use Rattle.dmix_c.specs.Stands.{stands_for}
pub use Rattle.dmix_c.specs.Ways.{AreNone, IsOfRing, LeadsTo, LeadTo}
