-- The names that most proofs of this crate cite, passed on from one place. Declares nothing.
pub use Rattle.std.proofs.Common.{ap, append_assoc, arith, Bool, drop, false, fold, get_or, inl, inr, length, List, nat_lt, negsuc, None, Option, pos, refl}
pub use Rattle.std.proofs.Common.{rules, set, slice_index, Some, subst, sym, take, true, ℕ, ℤ, [], ◌&&◌, ◌*◌, ◌++◌, ◌+ℤ◌, ◌+◌, ◌-ℤ◌, ◌-◌, ◌<◌, ◌==◌, ◌||◌, ◌∙◌}
pub use Rattle.std.proofs.Common.{◌∷◌, ◌≡◌, ◌≢◌, ◌≤ℤ◌, ◌≤◌}
pub use Rattle.std.proofs.Math.Nat.{add-div_right}
pub use Rattle.std.proofs.lemmas.Bool.{cases_Bool, cases_eq, cases_lt, false≢true}
pub use Rattle.std.proofs.lemmas.Bool.Decides.{nat_tests}
pub use Rattle.std.proofs.lemmas.Int.{ints, to_z-of_z}
pub use Rattle.std.proofs.lemmas.List.{append-nil, drop_more, get_or-replicate, get_or-set_other, get_or-set_same, get_or_default, get_or_read, length-append}
pub use Rattle.std.proofs.lemmas.List.{length-replicate, length-set, set_past, take_more, take_more_set}
pub use Rattle.std.proofs.lemmas.List.Elements.{All-push, All-replicate, All-set, filter-append, filter_map-append}
pub use Rattle.std.proofs.lemmas.List.Sums.{fold-append, fold_push, sum_by-le, sum_by-set}
pub use Rattle.std.proofs.lemmas.Result.{err_from_is_err_and}
pub use Rattle.std.specs.List.{zip}
pub use Rattle.std.specs.Option.{is_some, MatchOption}
pub use Rattle.std.specs.Prelude.{slice_index_or, vec_capacity, vec_len, ⊤}
pub use mir.Syntax.{w16, w32}
pub use mir.Val.{SFits}
pub use Rattle.snd_base.specs.declared.geometry.Geometry.{Geometry}
pub use Rattle.snd_base.specs.declared.places.Cursor.{Cursor}
pub use Rattle.snd_base.specs.PlaceLaws.{div-lt_same, first_free-behind_grows, first_free-behind_low, nat_lt-behind, next_word-suc, suc-le-end_frame}
pub use Rattle.snd_base.specs.PlaceLaws.{word_index-lt}
pub use Rattle.snd_base.specs.Places.{cursor_after, end_frame, first_frame, first_free, IsFrom, lap, next_word, word_index}
pub use Rattle.lap_word.specs.Clamp.{clamp_of}
pub use Rattle.lap_word.specs.Word.{count_of, lap_of, StandsFor, StandsFor-fields, sum_of}
pub use Rattle.mix_core.specs.declared.event.Event.{Event}
pub use Rattle.mix_core.specs.declared.event.Event.TheVariants.{Add, Publish, Take, Withdraw}
pub use Rattle.mix_core.specs.declared.event.Reply.{Reply}
pub use Rattle.mix_core.specs.declared.event.Reply.TheVariants.{In, LapEnd, Late, Outside, Published, Took}
pub use Rattle.mix_core.specs.declared.event.Taken.{Taken}
pub use Rattle.mix_core.specs.declared.marks.Marks.{Marks}
pub use Rattle.mix_core.specs.declared.port.Entry.{Entry}
pub use Rattle.mix_core.specs.declared.port.Kind.{Kind}
pub use Rattle.mix_core.specs.declared.port.Kind.TheVariants.{Added, Withdrawn}
pub use Rattle.mix_core.specs.Calls.{IsLaidBy, IsNew, IsPublished, IsTaken, IsUnplugged}
pub use Rattle.mix_core.specs.HeldLaws.{held-at, held-place, HeldPlace, last_is, may_in-add, may_in-back, missed-back, TurnLaid-one}
pub use Rattle.mix_core.specs.History.{entry_of, entry_row, event_by, is_taken, IsHeld, IsReply, IsSample, laid_of, position_after, position_of, Row}
pub use Rattle.mix_core.specs.History.{taken_words, taking_of}
pub use Rattle.mix_core.specs.KeptLaws.{AreAlike-kept, IsReply-alike, kept_rows-kept, laid_of-kept}
pub use Rattle.mix_core.specs.Laid.{a_withdrawal, an_add, at, last_entry, marks_after, marks_of, marks_with, own_entries, signed_sample, stand_after, standing}
pub use Rattle.mix_core.specs.Laid.{standing_of, standing_with, total, value_of, without_last}
pub use Rattle.mix_core.specs.LegalLaws.{AreLeast, AreReplies-last, first_frame-le, IsLegal-more, marks_of-least}
pub use Rattle.mix_core.specs.MarkLaws.{later_up_to, up_to, up_to_later, without_last-more}
pub use Rattle.mix_core.specs.Marks.{added_at, is_before, later_of, start_marks, withdrawn_at}
pub use Rattle.mix_core.specs.MoreLaws.{AreInOrder-more, at-more_elsewhere, at-more_here, filter_map-none, filter_map-some, is_taken-more, is_taken-none}
pub use Rattle.mix_core.specs.MoreLaws.{total-more_elsewhere, total-more_here}
pub use Rattle.mix_core.specs.OwnLaws.{last_entry-more, marks_of-other, marks_of-own, own-more, own-more_other, standing_of-other, standing_of-own}
pub use Rattle.mix_core.specs.Port.{IsAskNumber, IsNotBefore, Lays}
pub use Rattle.mix_core.specs.Run.{AreRepliesSince, is_kept, IsAnswered, IsHeldSince, IsLastOf, IsReplied, IsReplySince, IsRun, KeepsAdds, kept_rows}
pub use Rattle.mix_core.specs.Run.{MayWithdraw}
pub use Rattle.mix_core.specs.Sound.{all_hold, AreWithin, hold_at, HoldsAtMost, IsNow, IsSound, may_hold}
pub use Rattle.mix_core.specs.Stands.{Agrees, RepresentsHistory}
pub use Rattle.mix_core.specs.Turn.{core_of, TurnFinds, TurnLaid, TurnLoaded, TurnMissed, view_of_turn, word_of_turn}
pub use Rattle.mix_core.specs.TurnLaws.{CanMiss, RepresentsHistory-missed, TurnLaid-composes, TurnLaid-late}
pub use Rattle.mix_core.specs.View.{cursor_at, IsLateWord, IsUntaken, marks_at, MayAdd, View, word_at}
pub use Rattle.mix_core.specs.Written.{IsNow-next, now_of, word_places, words-taken, words-written}
