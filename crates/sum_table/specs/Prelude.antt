-- The names that most proofs of this crate cite, passed on from one place. Declares nothing.
pub use Rattle.std.proofs.Common.{add-one, ap, append_assoc, arith, Bool, Err, false, fold, get_or, IfSome, if◌then◌else◌, inl, inr, is_some, length, List, map}
pub use Rattle.std.proofs.Common.{max, nat_lt, negsuc, None, not, of_z, Ok, Option, pos, refl, Result, rules, set, Some, subst, suc, sym, to_z, true, zero, ℕ}
pub use Rattle.std.proofs.Common.{ℤ, [], ◌%◌, ◌&&◌, ◌*◌, ◌++◌, ◌+ℤ◌, ◌+◌, ◌-◌, ◌<◌, ◌==◌, ◌^◌, ◌||◌, ◌∙◌, ◌∷◌, ◌≡◌, ◌≢◌, ◌≤ℤ◌, ◌≤◌, ◌⊎◌}
pub use Rattle.std.proofs.Math.ListN.{replicate}
pub use Rattle.std.proofs.Math.Nat.{add-div_right, mod-lt}
pub use Rattle.std.proofs.lemmas.Bool.{cases_Bool, cases_eq, cases_lt, false≢true, or_right}
pub use Rattle.std.proofs.lemmas.Bool.Decides.{nat_tests}
pub use Rattle.std.proofs.lemmas.Int.{ints, to_z-of_z}
pub use Rattle.std.proofs.lemmas.List.{append-nil, get_or-replicate, get_or-set_other, get_or-set_same, length-append, length-replicate, length-set, map-append}
pub use Rattle.std.proofs.lemmas.List.Elements.{All-push, filter_map-append}
pub use Rattle.std.proofs.lemmas.List.Sums.{fold-append, fold_push}
pub use Rattle.atomic_table.proofs.Lists.{at_set, at_snoc, exchanged, set_here}
pub use Rattle.atomic_table.specs.Table.{Act, Allows, carried_after, Joins, keeps, Me, opening, Splits, State, step, stepped, Valid}
pub use lib.ListN.{get_elem?}
pub use mathlib.Core.Option.{none, some, some-injective, some-ne-none}
pub use mir.Syntax.{w16, w32}
pub use mir.Val.{SFits}
pub use prog.Atomic.{either}
pub use Rattle.snd_base.specs.declared.geometry.Geometry.{Geometry}
pub use Rattle.snd_base.specs.declared.places.Cursor.{Cursor}
pub use Rattle.snd_base.specs.PlaceLaws.{div-lt_same, mod-same, nat_lt-behind, next_word-suc, suc-le-end_frame}
pub use Rattle.snd_base.specs.Places.{cursor_after, end_frame, first_frame, first_free, IsFrom, IsWithin, lap, next_word}
pub use Rattle.lap_word.specs.Clamp.{clamp_of}
pub use Rattle.lap_word.specs.Position.{gone_in, position_in, word_of, word_of-fields}
pub use Rattle.lap_word.specs.Word.{count_of, lap_of, StandsFor, StandsFor-fields, StandsFor-of, sum_of}
pub use Rattle.mix_core.specs.declared.event.Event.TheVariants.{Add, Publish, Take, Withdraw}
pub use Rattle.mix_core.specs.declared.event.Reply.TheVariants.{In, Late, Published, Took}
pub use Rattle.mix_core.specs.declared.event.Taken.{Taken}
pub use Rattle.mix_core.specs.declared.gate.Pass.TheVariants.{Go, Stop}
pub use Rattle.mix_core.specs.declared.gate.StepKind.TheVariants.{Again, Exchange, Look}
pub use Rattle.mix_core.specs.declared.marks.Marks.{Marks}
pub use Rattle.mix_core.specs.declared.port.Entry.{Entry}
pub use Rattle.mix_core.specs.declared.port.Kind.{Kind}
pub use Rattle.mix_core.specs.declared.port.Kind.TheVariants.{Added, Withdrawn}
pub use Rattle.mix_core.specs.declared.port.Position.{Position}
pub use Rattle.mix_core.specs.Gate.{AsksCompose, placement_asks}
pub use Rattle.mix_core.specs.History.{AreExact, AreInOrder, AreReplies, entry_of, is_taken, IsHeld, IsInside, IsLegal, IsReply, IsSample, laid_of, late_row}
pub use Rattle.mix_core.specs.History.{next_to_take, position_after, position_of, Row, taken_words, taking_of}
pub use Rattle.mix_core.specs.HistoryLaws.{entry_of-late, laid_of-append_published, laid_of-append_rows, laid_of-append_took, position_after-row}
pub use Rattle.mix_core.specs.HistoryLaws.{taken_words-append_published, taken_words-append_rows, taken_words-append_took, taking_of-row, total-append}
pub use Rattle.mix_core.specs.Laid.{an_add, at, cursor_of, EndsIn, is_at, last_entry, marks_after, marks_by, marks_of, marks_with, signed_sample, stand_after}
pub use Rattle.mix_core.specs.Laid.{standing, standing_of, standing_with, sum_of_samples, total, value_of, without_last}
pub use Rattle.mix_core.specs.LegalLaws.{cursor_of-least, first_frame-le, IsLegal-more, lap-taken}
pub use Rattle.mix_core.specs.MarkLaws.{behind_up, count-append, count-elsewhere, count-here, Each, Each-append, Each-of, Each-right, free_after}
pub use Rattle.mix_core.specs.MarkLaws.{IsBeforeCursor, IsHolding, IsHolding-add, IsHolding-last, IsHolding-withdraw, IsMarked-add, IsMarked-withdraw}
pub use Rattle.mix_core.specs.MarkLaws.{later_up_to, place_cases, standing-each, up_to_later, without_last-more}
pub use Rattle.mix_core.specs.Marks.{added_at, high_frame, is_before, last_before, later_of, start_marks, start_of, withdrawn_at}
pub use Rattle.mix_core.specs.OwnLaws.{last_entry-more, marks_by-more, own-more, own-more_other, standing-more}
pub use Rattle.mix_core.specs.Port.{ended_of, load_of, Loads, OnWhole, PortView, Stays}
pub use Rattle.mix_core.specs.Sound.{IsNow}
pub use Rattle.mix_core.specs.Written.{HasPlaces, IsNow-next, now_of, words-taken, words-written}
pub use Rattle.ring_rule.specs.Lists.{at_append, at_only, at_second}
pub use Rattle.ring_rule.specs.NoteLaws.{later_notes-keeps, later_notes-length, later_notes-one, no_note, none_there, noted_set}
pub use Rattle.ring_rule.specs.PositionLaws.{has_all-more, has_all-published, has_each, IsPosition-last, IsPosition-more, last_number-more, position_fits}
pub use Rattle.ring_rule.specs.PositionLaws.{Rising-more}
pub use Rattle.ring_rule.specs.WordLaws.{index_of-lt, index_of-same, lap-le, NotPast-position, NotPast-set, set_read}
pub use Rattle.ring_rule.specs.Words.{index_of, NotPast, rank, words_of}
pub use Rattle.sum_table.specs.declared.seats.mix.MixSeat.{MixSeat}
pub use Rattle.sum_table.specs.declared.seats.player.PlayerSeat.{PlayerSeat}
pub use Rattle.sum_table.specs.declared.view.Track.{Track}
pub use Rattle.sum_table.specs.declared.view.View.{View}
pub use Rattle.sum_table.specs.Cuts.{both_of, either_track, joined_free, joined_marks, part_of, spent_view, with_places, without_places}
pub use Rattle.sum_table.specs.Exact.{AreViews, AreWithinMarks, BeginsWith, Exact, first_track, first_view, is_tracked, IsHistory, IsKept, IsLaid, IsOwn}
pub use Rattle.sum_table.specs.Exact.{IsPublishedPosition, IsRing, IsView, next_at, position_at, the_track}
pub use Rattle.sum_table.specs.Extent.{Extent}
pub use Rattle.sum_table.specs.Known.{free_from, greater, IsKnown, IsNoted, IsPlayer, IsReach, last_frame}
pub use Rattle.sum_table.specs.Laid.{all_laid, by_member, count, own_entries, SameSums, total_places}
pub use Rattle.sum_table.specs.Players.{HasTaken, IsTurnedPlayer, player_view, track_of}
pub use Rattle.sum_table.specs.Seats.{entry_by, HasLaid, HasLocated, HasLost, HasNoted, IsLaterSeat, IsLaterSeat-joined, IsLaterSeat-same, IsRingSpot, IsTurned}
pub use Rattle.sum_table.specs.Seats.{LaysCounted, MakesIn, MakesLate, MayLay, noted_word, NotesRise, NotesRise-same, pass_count, seat_view, SeatEndsIn}
pub use Rattle.sum_table.specs.Seats.{SeatEndsIn-laid, SeatLaid, SeatLaid-composes, SeatLays, SeatLoaded, SeatLoaded-composes, view_of}
pub use Rattle.sum_table.specs.Steps.{Finds, HoldsLast, in_row, IsLateAt, IsLateHeld, IsStep, IsSumOf, IsWord, Knows, Lays, Makes, MakesLook, MayStand}
pub use Rattle.sum_table.specs.Steps.{next_taken, Notes, position_load, position_store, quiet_load, sighting, Tells, track_gone, track_published, track_taken}
pub use Rattle.sum_table.specs.Steps.{unplug_store, with_entry, with_gone, with_history, with_note, with_position, with_published, with_taken}
pub use Rattle.sum_table.specs.Steps.{withdrawable_after, word_exchange, word_load, word_take}
