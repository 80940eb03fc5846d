-- The names that most proofs of this crate cite, passed on from one place. Declares nothing.
pub use Rattle.std.proofs.Common.{ap, append_assoc, arith, drop, get_or, inl, inr, length, List, map, None, refl, Some, subst, sym, take, vec_capacity, vec_len}
pub use Rattle.std.proofs.Common.{ℕ, ℤ, [], ◌%◌, ◌*◌, ◌++◌, ◌+◌, ◌-◌, ◌/◌, ◌<◌, ◌∙◌, ◌≡◌, ◌≤◌}
pub use Rattle.std.proofs.Math.Nat.{add-mul-mod_self_left, div-add-mod, mod-lt, mod_self, mul-div_cancel, mul-le-mul_right, mul-mod_left}
pub use Rattle.std.proofs.Math.Seq.{take-append_seam, take-suc}
pub use Rattle.std.proofs.lemmas.Bool.{cases_lt, false≢true}
pub use Rattle.std.proofs.lemmas.List.{append-nil, drop_min, ext_get_or, get_or-append_right, get_or-drop, get_or-take, get_or_append_left, length-append}
pub use Rattle.std.proofs.lemmas.List.{length-drop, length-replicate, replicate-append-replicate, take-append-drop, take_all, take_min}
pub use Rattle.std.proofs.lemmas.List.FromFn.{get_or-map-range_with_len, length-map-range_with_len, map-range_with_len_more}
pub use Rattle.std.specs.List.{range_with_len, slice_index_or}
pub use Rattle.std.specs.Option.{option_copied}
pub use Rattle.std.specs.Prelude.{Bool, false, if◌then◌else◌, min, nat_lt, Option, pos, replicate, suc, true, zero, ◌==◌, ◌||◌, ◌∷◌, ◌⊎◌}
pub use borrow.Rule.Slice.PartMut.{post_of}
pub use Rattle.snd_base.specs.declared.geometry.Geometry.{Geometry}
pub use Rattle.snd_base.specs.declared.places.Cursor.{Cursor}
pub use Rattle.snd_base.specs.Places.{end_frame, first_frame, lap}
pub use Rattle.sum_table.specs.declared.seats.player.PlayerSeat.{PlayerSeat}
pub use Rattle.sum_table.specs.declared.view.Track.{Track}
pub use Rattle.sum_table.specs.declared.view.View.{View}
pub use Rattle.sum_table.specs.Players.{next_of_player, player_geometry, player_key, track_of}
pub use Rattle.snoop_table.specs.Writers.{desk_of, desk_track, next_frame, writer_geometry, writer_ring, writer_track}
pub use Rattle.card_player.specs.Plays.{first_samples, frames_left, HasPlayed, is_multiple, periods_to, positions_of, seat_of}
pub use Rattle.card_sim.specs.Runs.{captured_if, HasCaptured, period_of, player_of, records_of, RunsFrames, RunsThrough, writer_of}
pub use Rattle.wav_io.specs.Sound.{Sound}
pub use Rattle.lab_lines.specs.declared.line.Line.{Line}
pub use Rattle.lab_lines.specs.declared.line.Op.{Op}
pub use Rattle.lab_lines.specs.Script.{is_of_card, is_unplug, played_by}
pub use Rattle.lab_run.specs.Phases.{ops_by}
pub use Rattle.lab_card.specs.declared.card.CardActor.{CardActor}
pub use Rattle.lab_card.specs.Captures.{captured_at, captured_frame, captured_frames, sample_in}
pub use Rattle.lab_card.specs.CardLines.{CardDid, CardPart, frames_by, positions_at}
pub use Rattle.lab_card.specs.Moves.{CardMoves, frame_of_card, frames_since_first, geometry_of_card, PlayerMoves, seat_of_card, WriterMoves}
pub use Rattle.lab_card.specs.MovesLaws.{captured_frames-append, CardDid-joined, CardDid-none, CardPart-joined, CardPart-none, or-false}
pub use Rattle.lab_card.specs.Room.{HasRoom, KeepsRoom}
