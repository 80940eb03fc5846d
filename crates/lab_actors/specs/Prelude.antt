-- The names that most proofs of this crate cite, passed on from one place. Declares nothing.
pub use Rattle.std.proofs.Common.{add-zero, ap, append_assoc, arith, get_or, inl, inr, length, List, refl, rules, subst, suc, sym, take, vec_capacity, vec_len}
pub use Rattle.std.proofs.Common.{zero, ℕ, [], ◌++◌, ◌+◌, ◌/◌, ◌<◌, ◌∙◌, ◌∷◌, ◌≡◌, ◌≤◌}
pub use Rattle.std.proofs.lemmas.List.{append-nil, get_or-append-add, get_or-set_other, get_or-set_same, get_or_append_left, get_or_default, length-append}
pub use Rattle.std.proofs.lemmas.List.{length-set, map-append, take_all, take_more}
pub use Rattle.std.proofs.lemmas.List.Elements.{All-push}
pub use Rattle.std.proofs.lemmas.List.FromFn.{length-range_with_len}
pub use Rattle.std.proofs.lemmas.Result.{err_from_is_err_and}
pub use Rattle.std.specs.Prelude.{All, Bool, Err, false, IfOk, IfSome, if◌then◌else◌, None, Ok, Option, Result, slice_index_or, slice_set, Some, true}
pub use Rattle.std.specs.Prelude.{unwrap_or, ◌-◌}
pub use mir.Val.{bool_byte}
pub use Rattle.snd_base.specs.declared.errors.PcmError.TheVariants.{BadState, Invalid}
pub use Rattle.bindings.specs.Bound.{identity}
pub use Rattle.pcm_interval.specs.declared.empty.Empty.{Empty}
pub use Rattle.hw_space.specs.declared.config.Config.{Config}
pub use Rattle.hw_space.specs.declared.param.Param.TheVariants.{BufferSize, Channels, PeriodSize, Rate}
pub use Rattle.hw_space.specs.declared.param_box.ParamBox.{ParamBox}
pub use Rattle.hw_space.specs.Choices.{ChoiceLeaves, choices, Chooses, done, goes, IsChoice}
pub use Rattle.hw_space.specs.Narrowings.{at_least, at_most, greatest_end, least_end, LeavesOf, nearest, point, with_access, with_format, with_kind_value}
pub use Rattle.hw_space.specs.Narrowings.{with_refined, with_value}
pub use Rattle.hw_space.specs.Settled.{Leaves, space_left}
pub use Rattle.hw_space.specs.Widest.{whole_from_to, widest}
pub use Rattle.wav_io.specs.Sound.{Sound}
pub use Rattle.lab_lines.specs.declared.line.Actor.{Actor}
pub use Rattle.lab_lines.specs.declared.line.Line.{Line}
pub use Rattle.lab_lines.specs.declared.script.CardLine.{CardLine}
pub use Rattle.lab_lines.specs.declared.script.ClientLine.{ClientLine}
pub use Rattle.lab_lines.specs.declared.script.Stop.{Stop}
pub use Rattle.lab_lines.specs.Limits.{IsBoundWhere, IsCardLine, IsIn, IsStopWhere}
pub use Rattle.lab_run.specs.Openings.{AreClientOpenings, AreParams, AreReaderOpenings, client_values, IsChosen, IsClientOpening, IsNarrowed, IsReaderOpening}
pub use Rattle.lab_run.specs.Openings.{IsStop, read_by, value_if, Values, values_of}
pub use Rattle.lab_run.specs.Phases.{ops_by}
pub use Rattle.lab_run.specs.Stage.{Setup}
pub use Rattle.lab_actors.specs.LineLaws.{line_at, other-line, own-line, own-size, room-next, room-own}
pub use Rattle.lab_actors.specs.Lines.{is_actor, line_count}
pub use Rattle.lab_actors.specs.Pairs.{AreChanged, ChangesFrom, ChangesPair, ChangesPairs, IsReadyFrom}
pub use Rattle.lab_actors.specs.Refused.{AreRefused, refused_row, refused_rows}
pub use Rattle.lab_actors.specs.Sessions.{AreUsable}
pub use Rattle.lab_actors.specs.Usable.{IsConfigInRange, IsUsable}
