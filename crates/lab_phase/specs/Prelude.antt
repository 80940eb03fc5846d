-- The names that most proofs of this crate cite, passed on from one place. Declares nothing.
pub use Rattle.std.proofs.Common.{ap, append_assoc, arith, if◌then◌else◌, refl, rules, subst, sym, ◌+◌, ◌<◌, ◌∙◌, ◌≡◌}
pub use Rattle.std.proofs.lemmas.Bool.Decides.{nat_tests}
pub use Rattle.std.proofs.lemmas.List.{append-nil, drop-append-le, drop_all, get_or_default, length-append, take-append-le, take_all}
pub use Rattle.std.proofs.lemmas.Option.{get_or_from_slice_get, none-some, same_Some}
pub use Rattle.std.specs.Global.{Vec}
pub use Rattle.std.specs.List.{flat_map}
pub use Rattle.std.specs.Option.{option_copied}
pub use Rattle.std.specs.Prelude.{All, Bool, cond, count_by, drop, IfOk, IfSome, IsSomeAnd, length, List, map, nat_lt, None, Option, slice_get, slice_index_or}
pub use Rattle.std.specs.Prelude.{Some, suc, take, vec_len, zero, ℕ, ℤ, [], ◌*◌, ◌++◌, ◌-◌, ◌∷◌, ◌≢◌, ◌≤◌}
pub use Rattle.snd_base.specs.declared.geometry.Geometry.{Geometry}
pub use Rattle.mix_core.specs.History.{AreExact, AreInOrder}
pub use Rattle.sum_table.specs.declared.seats.mix.MixSeat.{MixSeat}
pub use Rattle.sum_table.specs.declared.seats.player.PlayerSeat.{PlayerSeat}
pub use Rattle.sum_table.specs.Players.{player_key, player_ring, position_of_player, track_of}
pub use Rattle.sum_table.specs.Seats.{key_of, view_of}
pub use Rattle.snoop_table.specs.declared.seats.reader.ReaderSeat.{ReaderSeat}
pub use Rattle.snoop_table.specs.Writers.{writer_geometry, writer_ring}
pub use Rattle.card_sim.specs.declared.card.Card.{Card}
pub use Rattle.card_sim.specs.Runs.{period_of, records_of, writer_of}
pub use Rattle.wav_io.specs.Sound.{Sound}
pub use Rattle.lab_lines.specs.declared.line.Actor.{Actor}
pub use Rattle.lab_lines.specs.declared.line.Item.{Item}
pub use Rattle.lab_lines.specs.declared.line.Line.{Line}
pub use Rattle.lab_lines.specs.declared.row.Row.{Row}
pub use Rattle.lab_lines.specs.declared.script.CardLine.{CardLine}
pub use Rattle.lab_lines.specs.declared.script.ClientLine.{ClientLine}
pub use Rattle.lab_lines.specs.declared.script.Script.{Script}
pub use Rattle.lab_lines.specs.Limits.{IsBorder, IsItem, IsPhase, IsScript}
pub use Rattle.lab_lines.specs.Script.{first_frame, is_of_card, phases_of}
pub use Rattle.lab_run.specs.Items.{held_of, ItemsMay, no_sound, phase_end, reaped_client, reaped_reader}
pub use Rattle.lab_run.specs.LabRun.{all_runs, all_segments, mix_of, outcome_of, recorded_from}
pub use Rattle.lab_run.specs.Openings.{AreClientOpenings, AreReaderOpenings, IsRingOf}
pub use Rattle.lab_run.specs.Phases.{card_rows, is_reader, ops_by}
pub use Rattle.lab_run.specs.Reader.{Reader}
pub use Rattle.lab_run.specs.Rules.{AtPort}
pub use Rattle.lab_run.specs.ScriptWords.{IsReached, PhasesAreOfScripts, StagesAreOfScripts}
pub use Rattle.lab_run.specs.Stage.{after_close, after_open, first_stage, Session, Setup, Stage}
pub use Rattle.lab_places.specs.Held.{key_of_places, ring_of_places}
pub use Rattle.lab_card.specs.declared.card.CardActor.{CardActor}
pub use Rattle.lab_card.specs.MeetLaws.{IsSameCard-joined, IsSameCard-none}
pub use Rattle.lab_card.specs.Meets.{IsSameCard}
pub use Rattle.lab_card.specs.Moves.{frame_of_card, frames_since_first, geometry_of_card, seat_of_card}
pub use Rattle.lab_card.specs.Room.{FitsRing}
pub use Rattle.lab_actors.specs.Sessions.{AreUsable, session_with}
pub use Rattle.lab_actors.specs.Usable.{IsUsable}
pub use Rattle.lab_actors.specs.Walks.{AreEach, AreEach-length, AreEach-map, AreEach-same}
pub use Rattle.lab_clients.specs.declared.clients.LabClients.{LabClients}
pub use Rattle.lab_clients.specs.AtStage.{AllFitCard, AreAfter, clients_of, IsClientAt, places_of}
pub use Rattle.lab_clients.specs.Opening.{AreBeforeOpening}
pub use Rattle.lab_clients.specs.StepLaws.{AreOfCard-ring, AreOfRing, AreOfRing-at, AreOfRing-informed, AreOfRing-room, AreOfRing-run, AreReady-at}
pub use Rattle.lab_clients.specs.Steps.{AreOfCard, AreReady, HasTakenRoom, IsSameWithRows}
pub use Rattle.lab_readers.specs.declared.readers.LabReaders.{LabReaders}
pub use Rattle.lab_readers.specs.AtStage.{AreAt, IsReaderAt, readers_of, ring_of, spare_of}
pub use Rattle.lab_readers.specs.OneReader.{IsOfCard, number_of, ops_of}
pub use Rattle.lab_readers.specs.OneReaderLaws.{IsOfCard-moved, IsOver}
pub use Rattle.lab_readers.specs.StepLaws.{AreOf-at, AreOf-informed, AreOf-ran, AreOf-room, AreOf-same, AreOfRing-done, AreReady-informed}
pub use Rattle.lab_readers.specs.Steps.{EachReader, has_lines, is_some_op, IsSameWithRows-none}
pub use Rattle.lab_phase.specs.declared.lab.Lab.{Lab}
pub use Rattle.lab_phase.specs.declared.report_room.ReportRoom.{ReportRoom}
pub use Rattle.lab_phase.specs.declared.steps.PhaseInput.{PhaseInput}
pub use Rattle.lab_phase.specs.Alone.{ops_by-alone_client, ops_by-alone_reader, own-at-most, unplugs_by-others}
pub use Rattle.lab_phase.specs.AskLaws.{HaveAsked-none, HaveAskedMore-then, RunsPhase-more, same_asks-reaped_clients, same_asks-reaped_readers}
pub use Rattle.lab_phase.specs.AtStage.{AreActorsOf, AreOfRings, border_after, capture_of, DoesItem, DoesRow, HasEndRoom, IsAtStage, IsCardOf, IsNextItem}
pub use Rattle.lab_phase.specs.AtStage.{IsSameScript, played_by, played_of, session_of}
pub use Rattle.lab_phase.specs.BorderLaws.{AreSetUp-same, DoesItem-row, DoesRow-client, DoesRow-clients, DoesRow-reader, HasDone-next, IfOk-more}
pub use Rattle.lab_phase.specs.BorderLaws.{ItemMay-border, next-inside, OnErr-always, OnErr-both, OnOk-more, session_of-same}
pub use Rattle.lab_phase.specs.Borders.{after_close-keeps_clients, after_close-keeps_readers, after_open-keeps_clients, after_open-keeps_readers}
pub use Rattle.lab_phase.specs.CardStage.{first_word, has_readers, IsCardIn, IsCardIn-after, IsCardIn-same}
pub use Rattle.lab_phase.specs.Counts.{AreAll-reached}
pub use Rattle.lab_phase.specs.Ended.{HasPlayedMix, HaveAllPlaces, IsAtEnd, IsMixBy, IsMixOf}
pub use Rattle.lab_phase.specs.PhaseInput.{asks_of, CanMeet, CardCanRun, ClientsCanRun, ReadersCanRun}
pub use Rattle.lab_phase.specs.PhaseLaws.{ActorLaws, asks_at, few-rows, have-done, HaveDone, length-card_rows}
pub use Rattle.lab_phase.specs.PhaseRuns.{AreStopsOf, asks_of_lab, CountsPhase, DoesPhase, HasRunLines, HasRunPhase, HaveAsked, HaveRunLines, HaveSameAsks}
pub use Rattle.lab_phase.specs.PhaseRuns.{IsLonger, IsSameLab, PlaysAlone, Reaps, RunsPhase, StaysAtStage, Stops, stops_by}
pub use Rattle.lab_phase.specs.PhaseSteps.{AreSameButRoom, AreSameButRoom-card, Asks, CardHasRun, ClientsHaveRun, GiveFewRows, HaveGivenRows, HaveMet, HaveRoom}
pub use Rattle.lab_phase.specs.PhaseSteps.{HaveRun, IsSameButCard, IsSameButRoom, length-given, ReadersHaveRun, rows_by}
pub use Rattle.lab_phase.specs.ReportRoom.{HasReportRoom, HasReportRoom-fewer, KeepsRoom}
pub use Rattle.lab_phase.specs.Same.{DoesItem-stays, IsAtStage-room, IsNextItem-stays, IsSameLab-after, IsSameLab-room, StaysAtStage-client}
pub use Rattle.lab_phase.specs.Same.{StaysAtStage-joined, StaysAtStage-reader, StaysAtStage-room}
pub use Rattle.lab_phase.specs.Scripts.{FitsRing-next, IsFew-lines, IsFewRead-lines, IsPhase-next}
