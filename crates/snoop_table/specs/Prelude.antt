-- The names that most proofs of this crate cite, passed on from one place. Declares nothing.
pub use Rattle.std.proofs.Common.{ap, arith, Bool, cond, false, get_or, inl, inr, length, List, max, None, Option, pos, refl, rules, set, Some, subst, suc, sym}
pub use Rattle.std.proofs.Common.{take, true, zero, ℕ, ℤ, [], ◌%◌, ◌*◌, ◌++◌, ◌+◌, ◌-◌, ◌<◌, ◌==◌, ◌||◌, ◌∙◌, ◌∷◌, ◌≡◌, ◌≢◌, ◌≤◌, ◌⊎◌}
pub use Rattle.std.proofs.Math.ListN.{replicate}
pub use Rattle.std.proofs.Math.Nat.{add-mod_right, lt_of_mul-lt-mul_left, mul-le-mul_left, mul-le-mul_right}
pub use Rattle.std.proofs.lemmas.Bool.{cases_eq, cases_lt, false≢true, or_left, or_right}
pub use Rattle.std.proofs.lemmas.Bool.Decides.{nat_tests}
pub use Rattle.std.proofs.lemmas.Int.{to_z-of_z}
pub use Rattle.std.proofs.lemmas.List.{append-nil, get_or-replicate, get_or-set_other, get_or-set_same, get_or_append_left, get_or_at, length-append}
pub use Rattle.std.proofs.lemmas.List.{length-replicate, length-set}
pub use Rattle.atomic_table.proofs.Lists.{at_longer, at_set, at_snoc}
pub use Rattle.atomic_table.specs.Table.{Act, Allows, carried_after, Joins, keeps, Me, opening, Splits, State, step, stepped, Valid}
pub use lib.ListN.{get_elem?}
pub use mathlib.Core.Option.{none, some, some-ne-none}
pub use mir.Syntax.{w16}
pub use mir.Val.{SFits}
pub use Rattle.snd_base.specs.declared.geometry.Geometry.{Geometry}
pub use Rattle.snd_base.specs.declared.places.Cursor.{Cursor}
pub use Rattle.snd_base.specs.PlaceLaws.{div-lt_same, div-suc_high, div-suc_low, mod-suc_high, mod-suc_low, suc-le-end_frame}
pub use Rattle.snd_base.specs.Places.{cursor_after, end_frame, first_frame, first_free, IsWithin, lap, slot}
pub use Rattle.lap_word.specs.Position.{gone_in, position_in, word_of, word_of-fields}
pub use Rattle.mix_core.specs.declared.gate.Pass.TheVariants.{Go, Stop}
pub use Rattle.mix_core.specs.declared.gate.StepKind.TheVariants.{Look}
pub use Rattle.snoop_core.specs.declared.port.Frame.{Frame}
pub use Rattle.snoop_core.specs.Port.{Gets, numbered_frame, SnoopView}
pub use Rattle.snoop_core.specs.Stored.{HoldLast, IsCaptured, IsLast, IsUnused, next_after_stored, sample_at}
pub use Rattle.snoop_core.specs.StoredLaws.{by_laps, BySlots, first_free-more, HaveLaps-holding, HoldLast-written, IsByLaps, IsCaptured-more, IsWritten}
pub use Rattle.snoop_core.specs.StoredLaws.{next_after_stored-channel, next_after_stored-grows, next_after_stored-more, own_sample, sample_at-more}
pub use Rattle.snoop_core.specs.Word.{HoldsSample, HoldsSample-fields, laps_of, sample_of}
pub use Rattle.ring_rule.specs.Lists.{at_append, at_only, at_second}
pub use Rattle.ring_rule.specs.NoteLaws.{later_notes-keeps, later_notes-length, later_notes-one, NeverFall-same, NeverFall-set, no_note, none_there, noted_set}
pub use Rattle.ring_rule.specs.PositionLaws.{has_all-more, has_all-published, has_each, IsPosition-last, IsPosition-more, last_number-more, position_fits}
pub use Rattle.ring_rule.specs.PositionLaws.{Rising-more}
pub use Rattle.ring_rule.specs.WordLaws.{index_of-lt, index_of-same, NotPast-position, NotPast-set, NotPast-upper, set_read}
pub use Rattle.ring_rule.specs.Words.{index_of, NotPast, rank, words_of}
pub use Rattle.snoop_table.specs.declared.seats.desk.Desk.{Desk}
pub use Rattle.snoop_table.specs.declared.seats.reader.ReaderSeat.{ReaderSeat}
pub use Rattle.snoop_table.specs.declared.view.Track.{Track}
pub use Rattle.snoop_table.specs.declared.view.View.{View}
pub use Rattle.snoop_table.specs.Captured.{AreViews, first_track, first_view, Holds, is_tracked, IsRing, IsSample, IsView, LoadsStored, next_to_store}
pub use Rattle.snoop_table.specs.Captured.{position_of, the_track, word_in}
pub use Rattle.snoop_table.specs.Cuts.{both_of, either_track, part_of, spent_view}
pub use Rattle.snoop_table.specs.Joins.{DeskGave, DeskHeard, IsBorneOut}
pub use Rattle.snoop_table.specs.Known.{IsReader, IsWritePlace, IsWriter}
pub use Rattle.snoop_table.specs.Readers.{HasLocated, HasLooked, IsLaterSeat, IsLaterSeat-joined, noted_word, or_false, seat_view, SeatFinds, SeatGot}
pub use Rattle.snoop_table.specs.Readers.{SeatLoaded, view_of}
pub use Rattle.snoop_table.specs.Steps.{Finds, IsNext, Knows, position_load, position_store, quiet_load, sample_store, samples_before, track_gone}
pub use Rattle.snoop_table.specs.Steps.{track_published, track_stored, unplug_store, with_gone, with_note, with_position, with_published, with_sample}
pub use Rattle.snoop_table.specs.Steps.{with_stored, word_load}
pub use Rattle.snoop_table.specs.Writers.{desk_track, desk_view, HasPublished, HasStoredPart, HasStoredSample, HasUnplugged}
