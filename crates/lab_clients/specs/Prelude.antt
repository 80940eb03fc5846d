-- The names that most proofs of this crate cite, passed on from one place. Declares nothing.
pub use Rattle.std.proofs.Common.{ap, append_assoc, arith, drop, get_or, inl, inr, IsSome, length, List, map, refl, rules, subst, sym, take, vec_capacity}
pub use Rattle.std.proofs.Common.{vec_len, zero-add, ℕ, [], ◌%◌, ◌*◌, ◌++◌, ◌+◌, ◌∙◌, ◌∷◌, ◌≡◌, ◌≤◌}
pub use Rattle.std.proofs.lemmas.Bool.{cases_eq, cases_lt, false≢true}
pub use Rattle.std.proofs.lemmas.Bool.Decides.{nat_tests}
pub use Rattle.std.proofs.lemmas.Int.{ints}
pub use Rattle.std.proofs.lemmas.List.{append-nil, get_or-drop, get_or-map, get_or-set_other, get_or-set_same, get_or-take, get_or_default, length-append}
pub use Rattle.std.proofs.lemmas.List.{length-drop, length-map, length-set, length-take, length-take-le, set-get_or, take-append-le, take_all}
pub use Rattle.std.proofs.lemmas.Option.{none-some, same_Some}
pub use Rattle.std.specs.List.{AllByRecursion, flat_map, fold}
pub use Rattle.std.specs.Prelude.{All, Bool, Err, false, IfSome, if◌then◌else◌, is_none, is_some, IsSomeAnd, min, nat_eq, None, not, Ok, Option, option_map}
pub use Rattle.std.specs.Prelude.{pos, replicate, Result, slice_index_or, slice_set, Some, suc, true, unwrap_or, zero, ℤ, ⊤, ◌&&◌, ◌-◌, ◌/◌, ◌<◌, ◌^◌, ◌≢◌, ◌⊎◌}
pub use Rattle.std.specs.Vec.{with_item}
pub use Rattle.snd_base.specs.declared.errors.PcmError.{PcmError}
pub use Rattle.snd_base.specs.declared.errors.PcmError.TheVariants.{BadState, Invalid, Stopped}
pub use Rattle.snd_base.specs.declared.geometry.Geometry.{Geometry}
pub use Rattle.snd_base.specs.declared.places.Segment.{Segment}
pub use Rattle.snd_base.specs.Relations.{Composes}
pub use Rattle.pcm_states.specs.declared.states.State.{State}
pub use Rattle.pcm_states.specs.declared.states.State.TheVariants.{Paused, Prepared}
pub use Rattle.pcm_stream.specs.declared.direction.Direction.TheVariants.{Playback}
pub use Rattle.pcm_stream.specs.Status.{is_moving, refusal_of}
pub use Rattle.mix_core.specs.declared.port.Entry.{Entry}
pub use Rattle.mix_core.specs.HistoryLaws.{total-append}
pub use Rattle.mix_core.specs.Laid.{AreAdds, stand_after, standing, total}
pub use Rattle.mix_core.specs.Marks.{high_frame}
pub use Rattle.sum_table.specs.declared.seats.mix.MixSeat.{MixSeat}
pub use Rattle.sum_table.specs.Players.{player_key, player_ring, position_of_player}
pub use Rattle.sum_table.specs.Seats.{key_of, member_of, places_of_seat, ring_of, TableId, view_of}
pub use Rattle.lobby.specs.Lobbies.{free_seats, laid_by, laid_by_all}
pub use Rattle.lobby.specs.Seats.{AreFree, last_of, seat_at}
pub use Rattle.course.specs.Course.{Course, ends}
unfoldable pub use Rattle.course.specs.Course.{◌>>=◌}
pub use Rattle.course.specs.Gives.{Gives, Gives-any, Gives-behind, Gives-map, Gives-taken, Gives-then}
pub use Rattle.dmix_client.specs.declared.stream.PlaybackStream.{PlaybackStream}
pub use Rattle.dmix_client.specs.Calls.{after_drop, after_pause, after_prepare, Answered, avail_answer, base_of, committed_by, configured_with, delay_answer}
pub use Rattle.dmix_client.specs.Calls.{going_on, in_state, is_paused, is_running, segment_of, with_new_base}
pub use Rattle.dmix_client.specs.Course.{commits, if_admitted, write_course}
pub use Rattle.dmix_client.specs.EachCall.{CallLeaves, CountLeaves, drain-done, if_admitted-gives, number-counted, pause-done, resume-done, rewindable-counted}
pub use Rattle.dmix_client.specs.EachCall.{start-done, sync-done, write-counted, WriteLeaves}
pub use Rattle.dmix_client.specs.Growth.{AnySamples, Follows, Grows, IsBacked, Keeps, KeepsBack, Loses, segment_entries}
pub use Rattle.dmix_client.specs.StandingLaws.{AreAdds-end, AreAdds-segment, IsBacked-back, IsBacked-grows, IsBacked-held, IsBacked-new, IsBacked-rebased}
pub use Rattle.dmix_client.specs.View.{ClientView, IsSoundClient}
pub use Rattle.dmix_client.specs.Writes.{frames_in, IsOffer}
pub use Rattle.wav_io.specs.Sound.{Sound}
pub use Rattle.lab_lines.specs.declared.line.Line.{Line}
pub use Rattle.lab_lines.specs.declared.line.Op.{Op}
pub use Rattle.lab_lines.specs.declared.row.Answer.{Answer}
pub use Rattle.lab_lines.specs.declared.row.Answer.TheVariants.{Done, Failed}
pub use Rattle.lab_lines.specs.declared.row.Row.{Row}
pub use Rattle.lab_lines.specs.declared.script.Share.{Share}
pub use Rattle.lab_run.specs.ActorPart.{Doing, PartsGrow}
pub use Rattle.lab_run.specs.Client.{call_answer, Client, client_kind, count_answer, done_answer, ended_by, frames_of, present_of, reported_error, row_by}
pub use Rattle.lab_run.specs.Client.{segments_of, stretch_of}
pub use Rattle.lab_run.specs.ClientAtPort.{ClientLinesAreParts, ClientLinesWithoutCall, is_die, IsClientLine, IsOffered, made_call}
pub use Rattle.lab_run.specs.GateAsks.{AsksGate, HasAsked}
pub use Rattle.lab_run.specs.Items.{Held, held_after, held_of, held_without, is_stopped, no_sound, reaped_client}
pub use Rattle.lab_run.specs.Members.{with_member}
pub use Rattle.lab_run.specs.Phases.{is_client, ops_by}
pub use Rattle.lab_run.specs.PortSteps.{IsAtPort}
pub use Rattle.lab_run.specs.Rules.{AtPort}
pub use Rattle.lab_run.specs.Stage.{after_close, after_open, client_at, close_client, ended_client, first_stage, new_port, no_client, open_client}
pub use Rattle.lab_run.specs.Stage.{open_client_with, opened_client, renewed_port, Session, Setup, Stage, with_row}
pub use Rattle.lab_places.specs.Held.{AreAtPlaces, CanClose, closed_held, Closes, HoldsNone, HoldsPlace, IsGiven, IsHeldBy, IsOwnLast, IsSameCard}
pub use Rattle.lab_places.specs.Held.{key_of_places, lobby_of, new_held, next_place, Opens, ring_of_places, share_of, shares_of}
pub use Rattle.lab_places.specs.Holdings.{AreHeld, AreHeld-closed, AreHeld-new, AreHeld-opened, AreHeld-refused, CanClose-held, Holding, Holdings}
pub use Rattle.lab_places.specs.Laid.{IsUnlaid, laid_list, laid_lists}
pub use Rattle.lab_card.specs.MeetLaws.{IsSameCard-joined}
pub use Rattle.lab_card.specs.Moves.{seat_of_card}
pub use Rattle.lab_actors.specs.Countdown.{at_gate_of, by_gate_of, KeepsGate, left_of}
pub use Rattle.lab_actors.specs.CountdownLaws.{CountsAsks-down, CountsAsks-keeps, KeepsGate-joined, KeepsGate-none, KeepsGate-passing}
pub use Rattle.lab_actors.specs.EachLaws.{AreEach-set_rest, AreEach-set_same}
pub use Rattle.lab_actors.specs.GateLaws.{both, TakesAt-gate}
pub use Rattle.lab_actors.specs.LineLaws.{is_die-other, line_at, other-line, own-line, room-next, room-own}
pub use Rattle.lab_actors.specs.Lines.{line_count}
pub use Rattle.lab_actors.specs.Room.{HasSpace}
pub use Rattle.lab_actors.specs.Rows.{lists-next, lists-room, rows-next, rows-room}
pub use Rattle.lab_actors.specs.Walks.{AreEach, AreEach-at, AreEach-ended, AreEach-length, AreEach-map, AreEach-part, HasWalked, HasWalked-map, HasWalked-read}
pub use Rattle.lab_actors.specs.Walks.{HasWalked-step, HasWalked-still}
pub use Rattle.lab_clients.specs.declared.client.LabClient.{LabClient}
pub use Rattle.lab_clients.specs.declared.clients.LabClients.{LabClients}
pub use Rattle.lab_clients.specs.declared.open_client.OpenClient.{OpenClient}
pub use Rattle.lab_clients.specs.AtStage.{AreAfter, AreAt, AreDone, AreIn, clients_of, holding_by, IsClientAt, IsClientDone, IsClientIn, IsNewCardOf, IsSetUp}
pub use Rattle.lab_clients.specs.AtStage.{places_of}
pub use Rattle.lab_clients.specs.End.{all_segments-listed, AreNewClients, HasEnded, IsNewClient, IsPlacedAll, segments_by}
pub use Rattle.lab_clients.specs.Exchanged.{all_segments-set, AreIn-exchanged, AreIn-places, ChangesAt-with_holding, IsAsOften, IsAsOften-exchanged}
pub use Rattle.lab_clients.specs.Exchanged.{IsClientAt-holding, IsClientAt-in_run, IsInRun, IsLaidAlike, IsLaidWith, IsSameCard-same, KeepsHolding, MovesLaid}
pub use Rattle.lab_clients.specs.Exchanged.{Relation, with_holding, worth_all-with}
pub use Rattle.lab_clients.specs.Lines.{ends_stretch, entries_by, ExtendsStretches, HasClientAnswered, HasClientCalled, IsFew, IsReady, laid_of}
pub use Rattle.lab_clients.specs.Lines.{stretches_entries}
pub use Rattle.lab_clients.specs.OneClient.{AllRefused, CanRun, client_by, client_in, ended_of, ended_segments, GoesOrRests, HasRoomAt, HasRoomBy, is_open}
pub use Rattle.lab_clients.specs.OneClient.{IsAt, IsAtBy, IsOfCard, last_by, number_of, open_of, rows_of, RunsLines, seen_by}
pub use Rattle.lab_clients.specs.OneClientLaws.{IsOfCard-ring, IsOfRing-card}
pub use Rattle.lab_clients.specs.OneOpening.{closed_client, HasClosed, HasKeptLast, HasOpened, IsHigh, IsNewlyOpen}
pub use Rattle.lab_clients.specs.OneOpeningLaws.{client-opened, IsAt-closed, IsAt-opened, IsOwnLast-closed, new_client}
pub use Rattle.lab_clients.specs.OpenClient.{HasRun, IsOpenAt, IsOpenReady, stream_of}
pub use Rattle.lab_clients.specs.Opening.{AreAtStage, AreBeforeOpening, AreOfRun, client_among, clients_but, HasKeptLastAt, held_but, IsClosedAt, IsMadeFor}
pub use Rattle.lab_clients.specs.Opening.{open_at}
pub use Rattle.lab_clients.specs.Parts.{client_of, ClientLine, ClientPart, HasClientDone}
pub use Rattle.lab_clients.specs.Placed.{client_segments, IsClientPlaced, IsPlacedBy, IsPlacedFor, IsPlacedOpen, IsReported, laid_for, open_lists}
pub use Rattle.lab_clients.specs.Placed.{place_segments, SeatSegment, with_number, worth_all, worth_left, worth_of}
pub use Rattle.lab_clients.specs.PlacedLaws.{client_segments-more, client_segments-other, place_segments-more, place_segments-other, seat_segments}
pub use Rattle.lab_clients.specs.PlacedLaws.{worth_all-new, worth_at, worth_of-append, worth_of-worth_at}
pub use Rattle.lab_clients.specs.Reaped.{AreAt-reaped, clients_reaped, held_reaped, held_to, held_to-all, held_to-next, IsClientDone-in_run, reaped_to}
pub use Rattle.lab_clients.specs.Reaped.{reaped_to-all, reaped_to-next}
pub use Rattle.lab_clients.specs.Steps.{AreReady, AreSameFrom, HasGivenRows, HasTakenRoom, IsHeardBy, IsInformedBy, IsReadyAt, IsSameWithRows}
pub use Rattle.lab_clients.specs.Steps.{IsSameWithRows-none, RunsAt, sound_at}
