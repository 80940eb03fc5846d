-- The names that most proofs of this crate cite, passed on from one place. Declares nothing.
pub use Rattle.std.proofs.Common.{ap, append-nil, arith, Bool, drop, false, if◌then◌else◌, length, List, min, nat_lt, refl, subst, suc, sym, take, true, ℕ, ℤ}
pub use Rattle.std.proofs.Common.{[], ◌&&◌, ◌*◌, ◌++◌, ◌+◌, ◌-◌, ◌/◌, ◌<◌, ◌∙◌, ◌∷◌, ◌≡◌, ◌≤◌}
pub use Rattle.snd_base.specs.declared.geometry.Geometry.{Geometry}
pub use Rattle.snd_base.specs.declared.places.Cursor.{Cursor}
pub use Rattle.snd_base.specs.Places.{end_frame, first_frame}
pub use Rattle.ring_rule.specs.Positions.{last_number, last_position}
pub use Rattle.sum_table.specs.Players.{next_of_player, position_of_player}
pub use Rattle.snoop_table.specs.declared.seats.writer.WriterSeat.{WriterSeat}
pub use Rattle.snoop_table.specs.Writers.{next_frame, writer_geometry, writer_track}
pub use Rattle.card_player.specs.declared.player.CardPlayer.{CardPlayer}
pub use Rattle.card_player.specs.FillLaws.{HasFilled, HasFilled-more}
pub use Rattle.card_player.specs.PlayLaws.{HasPlayed-none, last_number-append, last_number-positions_of}
pub use Rattle.card_player.specs.Plays.{at_frame, ends_period, first_samples, frame_of, frames_left, geometry_of, is_multiple, IsDue, period_at, periods_to}
pub use Rattle.card_player.specs.Plays.{seat_of}
pub use Rattle.card_sim.specs.Moments.{frame_moments, last_period, Moment, moment_at, moment_of, moments_of, moments_to, period_moments, position_of_writer}
pub use Rattle.card_sim.specs.Moments.{publish_moments, SightsCompose}
pub use Rattle.card_sim.specs.RunLaws.{HasCaptured-more, HasCaptured-none, HasCaptured-published, HasCaptured-stored, RunsFrames-alone, RunsFrames-ended}
pub use Rattle.card_sim.specs.RunLaws.{RunsFrames-published}
pub use Rattle.card_sim.specs.Runs.{HasCaptured, PublishesBoth, RunsFrames}
pub use Rattle.card_sim.specs.Steps.{AreInStep, AreSeatsOfCard}
