-- The names that most proofs of this crate cite, passed on from one place. Declares nothing.
pub use Rattle.std.proofs.Common.{ap, rules, subst, sym, ◌∙◌}
pub use Rattle.std.specs.Prelude.{Bool, refl, ◌*◌, ◌≡◌}
pub use Rattle.pcm_interval.specs.declared.interval.Interval.{Interval}
unfoldable pub use Rattle.pcm_interval.specs.Arithmetic.{product_of, quotient_of, scaled_product_of, scaled_quotient_of}
pub use Rattle.pcm_interval.specs.ArithmeticLaws.{product_of-IsMember, quotient_of-IsMember, scaled_product_of-IsMember, scaled_quotient_of-IsMember}
pub use Rattle.pcm_interval.specs.IntervalLaws.{is_point-ends, normal_form-fraction, normal_form-integer, refined-empty, refined-IsMember}
pub use Rattle.pcm_interval.specs.Intervals.{common_part, is_empty, IsEmpty, IsMember, IsNonEmpty, normal_form}
unfoldable pub use Rattle.pcm_interval.specs.Intervals.{refinement}
