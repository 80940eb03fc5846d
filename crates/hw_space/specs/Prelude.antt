-- The names that most proofs of this crate cite, passed on from one place. Declares nothing.
pub use Rattle.std.proofs.Common.{add-one, ap, arith, below_more, drop, get_or, inl, inr, lit<, subst, sym, ◌∙◌}
pub use Rattle.std.proofs.lemmas.Bool.{cases_lt, or_parts}
pub use Rattle.std.proofs.lemmas.Bool.Decides.{nat_tests}
pub use Rattle.std.proofs.lemmas.List.{drop_all, get_or_default}
pub use Rattle.std.proofs.lemmas.Result.{err_from_is_err_and}
pub use Rattle.std.specs.Prelude.{All, Bool, Err, false, if◌then◌else◌, IsTrue, length, List, nat_le, None, not, Ok, OnErr, Option, refl, Result}
pub use Rattle.std.specs.Prelude.{slice_index_or, Some, true, ℕ, [], ◌%◌, ◌&&◌, ◌*◌, ◌+◌, ◌/◌, ◌<◌, ◌^◌, ◌||◌, ◌↔◌, ◌∷◌, ◌≡◌, ◌≢◌, ◌≤◌, ◌⊎◌}
pub use Rattle.pcm_interval.specs.declared.empty.Empty.{Empty}
pub use Rattle.pcm_interval.specs.declared.interval.Interval.{Interval}
pub use Rattle.pcm_interval.specs.declared.mask.Mask.{Mask}
pub use Rattle.pcm_interval.specs.IntervalLaws.{IsIntervalWithin-from_same, IsIntervalWithin-max, IsIntervalWithin-min, IsIntervalWithin-trans}
pub use Rattle.pcm_interval.specs.IntervalLaws.{IsNonEmpty-IsIntervalWithin, IsNonEmpty-IsMember, IsNonEmpty-le, refined-greatest, refined-IsMember}
pub use Rattle.pcm_interval.specs.IntervalLaws.{refined-IsWithin_left, refined-IsWithin_right, size_of-refined}
pub use Rattle.pcm_interval.specs.Intervals.{IsEmpty, IsIntervalWithin, IsLowerWithin, IsMember, IsNonEmpty, IsNormal, IsUpperWithin, refinement}
pub use Rattle.pcm_interval.specs.MaskLaws.{bits-common_mask, common_mask-greatest, common_mask-HasNumber, common_mask-IsMaskWithin_left, HasNumber-bits}
pub use Rattle.pcm_interval.specs.MaskLaws.{IsMaskWithin-bits, IsMaskWithin-from_same, IsMaskWithin-refl, IsMaskWithin-trans}
pub use Rattle.pcm_interval.specs.Masks.{common_mask, HasNumber, IsMaskWithin}
pub use Rattle.hw_space.specs.declared.param_box.ParamBox.{ParamBox}
pub use Rattle.hw_space.specs.declared.quantity.Quantity.{Quantity}
pub use Rattle.hw_space.specs.declared.quantity.Quantity.TheVariants.{BufferBytes, BufferSize, BufferTime, Channels, FrameBits, PeriodBytes, Periods}
pub use Rattle.hw_space.specs.declared.quantity.Quantity.TheVariants.{PeriodSize, PeriodTime, Rate, SampleBits}
pub use Rattle.hw_space.specs.declared.rule.Rule.{Rule}
pub use Rattle.hw_space.specs.BoxLaws.{access-with_part, format-with_part, IsBoxWithin-part, IsBoxWithin-refl, IsBoxWithin-trans, IsBoxWithin-with_part}
pub use Rattle.hw_space.specs.BoxLaws.{part-with_part, size_of_box-with_part, with_part-each, with_part-IsBoxWithin, with_part-same}
pub use Rattle.hw_space.specs.Boxes.{IsBoxWithin, part, size_of_box, with_part}
pub use Rattle.hw_space.specs.Choices.{ChoiceLeaves, choices, Chooses, done, fails, goes, HasPoints, IsChoice, IsFirstNumber}
pub use Rattle.hw_space.specs.Narrowings.{at_least, at_most, distance, greatest_end, IsNear, least_end, LeavesOf, nearest, point, with_access, with_format}
pub use Rattle.hw_space.specs.Narrowings.{with_refined}
pub use Rattle.hw_space.specs.Proper.{IsProper}
pub use Rattle.hw_space.specs.Rules.{HasScale, IsListed, no_rule, rules}
pub use Rattle.hw_space.specs.Settled.{Configuration, IsExact, IsLeft, IsResult, IsSettled, IsVoid, KeepsBox, KeepsConfigurations, Leaves, LiesInBox}
pub use Rattle.hw_space.specs.Settled.{result_of_rule, space_left}
pub use Rattle.hw_space.specs.SettledLaws.{computed-IsIntervalWithin, IsSettled-IsNormal, IsSettled-max}
pub use Rattle.hw_space.specs.Steps.{IsBoxStep}
pub use Rattle.hw_space.specs.WholeTimes.{HasNoneFrom, HasWholeTime, size_of_span, time_of_span}
pub use Rattle.hw_space.specs.Widest.{mask_of_one, whole_from_to}
