-- Laws of rules: no settled box and no configuration is missed by what a rule computes.
use Rattle.hw_space.specs.Prelude.{arith, below_more, subst, ◌∙◌, or_parts, nat_tests, get_or_default, All, Bool, false, length, List, slice_index_or, ℕ, ◌+◌}
use Rattle.hw_space.specs.Prelude.{◌<◌, ◌||◌, ◌≡◌, IsIntervalWithin-from_same, IsIntervalWithin-trans, refinement, IsMaskWithin-from_same, IsMaskWithin-trans}
use Rattle.hw_space.specs.Prelude.{common_mask, ParamBox, SampleBits, Rule, part, IsProper, HasScale, IsListed, no_rule, rules, Configuration, IsExact}
use Rattle.hw_space.specs.Prelude.{IsResult, IsSettled, KeepsBox, result_of_rule, computed-IsIntervalWithin, IsBoxStep}
use Rattle.hw_space.specs.ConfigurationLaws.{computed-IsMember}
use Rattle.hw_space.specs.FormatLaws.{bits_of_formats-IsIntervalWithin, bits_of_formats-IsMember, formats_of_bits-IsMaskWithin, formats_of_bits-HasNumber}
use Rattle.hw_space.specs.Formats.{bits_of_formats, formats_of_bits}
use Rattle.hw_space.proofs.StepLaws.{IsMissedByNone, IsFormatMissedByNone}

-- ---- the table

-- each rule of the table has a number of at least 1, if it has one
pub IsListed-HasScale : (r : Rule) → IsListed r → HasScale r.operation
IsListed-HasScale r listed = grind (arith, nat_tests)

-- a settled box is kept by each rule of the table
pub IsListed-KeepsBox : (s : ParamBox) (r : Rule) → IsSettled s → IsListed r → KeepsBox s r
IsListed-KeepsBox s r settled listed = subst (KeepsBox s) listed.found (settled.by_rules listed.place no_rule listed.below)

-- a configuration meets each rule of the table
pub IsListed-IsResult : (x : Configuration) (r : Rule) → IsExact x → IsListed r
    → IsResult r.operation (x.value r.first) (x.value r.second) (x.value r.target)
IsListed-IsResult x r exact listed = grind (arith, nat_tests)

-- ---- nothing is missed

pub computed-IsMissedByNone : (b : ParamBox) (r : Rule) → IsProper b → IsListed r → IsMissedByNone b r.target (result_of_rule r b)
computed-IsMissedByNone b r proper listed = record {
  settled = λ s settled within.
      let same = IsListed-KeepsBox s r settled listed in
      IsIntervalWithin-trans (part s r.target) (result_of_rule r s) (result_of_rule r b)
      (IsIntervalWithin-from_same (part s r.target) (result_of_rule r s) same)
      (computed-IsIntervalWithin s b settled within proper r (IsListed-HasScale r listed) same);
  configurations = λ x exact held.
      computed-IsMember b r x proper (IsListed-HasScale r listed) held (IsListed-IsResult x r exact listed);
}

pub bits_of_formats-IsMissedByNone : (b : ParamBox) → IsMissedByNone b SampleBits (bits_of_formats b.format)
bits_of_formats-IsMissedByNone b = record {
  settled = λ s settled within.
      IsIntervalWithin-trans s.sample_bits (bits_of_formats s.format) (bits_of_formats b.format)
      (IsIntervalWithin-from_same s.sample_bits (bits_of_formats s.format) settled.by_formats)
      (bits_of_formats-IsIntervalWithin s.format b.format within.format);
  configurations = λ x exact held.
      bits_of_formats-IsMember b.format x.format (x.value SampleBits).over (x.value SampleBits).under
      held.format exact.format (held.parts SampleBits).positive exact.sample_bits;
}

pub formats_of_bits-IsMissedByNone : (b : ParamBox) → IsFormatMissedByNone b (formats_of_bits b.sample_bits)
formats_of_bits-IsMissedByNone b = record {
  settled = λ s settled within.
      IsMaskWithin-trans s.format (formats_of_bits s.sample_bits) (formats_of_bits b.sample_bits)
      (IsMaskWithin-from_same s.format (formats_of_bits s.sample_bits) settled.by_sample_bits)
      (formats_of_bits-IsMaskWithin s.sample_bits b.sample_bits (within.parts SampleBits));
  configurations = λ x exact held.
      formats_of_bits-HasNumber b.sample_bits x.format (x.value SampleBits).over (x.value SampleBits).under
      (held.parts SampleBits) exact.format exact.sample_bits;
}

-- ---- some rules in a row

-- what keeps a box up to a place, and at it, keeps it up to the next
pub kept_more : (a b : ParamBox) (rs : List Rule) (i : ℕ) (x : Rule) → i < length rs → b ≡ a
    → ((k : ℕ) (d : Rule) → k < i → KeepsBox a (slice_index_or rs k d)) → KeepsBox b (slice_index_or rs i x)
    → (k : ℕ) (d : Rule) → k < i + 1 → KeepsBox a (slice_index_or rs k d)
kept_more a b rs i x inside same so_far here k d below =
    let at_a : KeepsBox a (slice_index_or rs i x) = subst (λ (v : ParamBox). KeepsBox v (slice_index_or rs i x)) same here in
    below_more (λ j. KeepsBox a (slice_index_or rs j d)) i (λ j h. so_far j d h) (subst (KeepsBox a) (get_or_default rs i x d inside) at_a) k below

-- ---- the tables that are passed

-- each rule of the table is listed
pub all-IsListed : All IsListed rules
all-IsListed k d below = record {
  place = k;
  below = below;
  found = get_or_default rules k no_rule d below;
}

-- ---- a pass over all rules

-- where a pass changes nothing, the box was settled
pub pass-IsSettled : {a b c d e : ParamBox} (p q r s t : Bool)
    → IsProper a → IsBoxStep a b p → IsBoxStep b c q → IsBoxStep c d r → IsBoxStep d e s
    → (r ≡ false → All (KeepsBox c) rules)
    → (s ≡ false → refinement d.sample_bits (bits_of_formats d.format) ≡ d.sample_bits)
    → (t ≡ false → common_mask e.format (formats_of_bits e.sample_bits) ≡ e.format)
    → ((((p || q) || r) || s) || t) ≡ false → IsSettled a
pass-IsSettled {a} {b} {c} {d} {e} p q r s t proper one two three four by_rules by_formats by_sample_bits none =
    let last = or_parts (((p || q) || r) || s) t none in
    let fourth = or_parts ((p || q) || r) s last.0 in
    let third = or_parts (p || q) r fourth.0 in
    let second = or_parts p q third.0 in
    let c_is : c ≡ a = two.still second.1 ∙ one.still second.0 in
    let d_is : d ≡ a = three.still third.1 ∙ c_is in
    record {
      access = proper.access;
      format = proper.format;
      parts = proper.filled;
      by_rules = subst (λ (x : ParamBox). All (KeepsBox x) rules) c_is (by_rules third.1);
      by_formats = subst (λ (x : ParamBox). refinement x.sample_bits (bits_of_formats x.format) ≡ x.sample_bits) d_is (by_formats fourth.1);
      by_sample_bits = subst (λ (x : ParamBox). common_mask x.format (formats_of_bits x.sample_bits) ≡ x.format) (four.still fourth.1 ∙ d_is) (by_sample_bits last.1);
    }
