-- Laws of steps: they compose, and each refinement that no settled box and no configuration can miss is one.
use Rattle.hw_space.specs.Prelude.{ap, arith, subst, sym, ◌∙◌, or_parts, nat_tests, Bool, false, IsTrue, refl, true, ◌<◌, ◌||◌, ◌↔◌, ◌≡◌, ◌≢◌, ◌≤◌, Interval}
use Rattle.hw_space.specs.Prelude.{Mask, IsIntervalWithin-max, IsIntervalWithin-min, IsNonEmpty-IsIntervalWithin, IsNonEmpty-IsMember, refined-greatest}
use Rattle.hw_space.specs.Prelude.{refined-IsMember, refined-IsWithin_left, size_of-refined, IsEmpty, IsIntervalWithin, IsMember, IsNonEmpty, refinement}
use Rattle.hw_space.specs.Prelude.{bits-common_mask, common_mask-greatest, common_mask-HasNumber, common_mask-IsMaskWithin_left, HasNumber-bits}
use Rattle.hw_space.specs.Prelude.{IsMaskWithin-bits, IsMaskWithin-refl, common_mask, HasNumber, IsMaskWithin, ParamBox, Quantity, BufferBytes, BufferSize}
use Rattle.hw_space.specs.Prelude.{BufferTime, Channels, FrameBits, PeriodBytes, Periods, PeriodSize, PeriodTime, Rate, SampleBits, access-with_part}
use Rattle.hw_space.specs.Prelude.{format-with_part, IsBoxWithin-part, IsBoxWithin-trans, IsBoxWithin-with_part, part-with_part, size_of_box-with_part}
use Rattle.hw_space.specs.Prelude.{with_part-each, with_part-IsBoxWithin, with_part-same, IsBoxWithin, part, size_of_box, with_part, with_refined, IsProper}
use Rattle.hw_space.specs.Prelude.{Configuration, IsExact, IsSettled, IsVoid, KeepsConfigurations, LiesInBox, IsSettled-IsNormal, IsBoxStep}

-- ---- what lay within a box

-- what lay within an old box lies within the new one: settled boxes, and configurations
pub record IsKept (old new : ParamBox) : Type 0 where
  pub settled : (s : ParamBox) → IsSettled s → IsBoxWithin s old → IsBoxWithin s new
  pub configurations : KeepsConfigurations old new

-- where nothing is left, nothing was left before
pub IsVoid-before : {a b : ParamBox} → IsKept a b → IsVoid b → IsVoid a
IsVoid-before h void = grind (arith, nat_tests)

-- ---- steps compose

size-moved : {a b d : ParamBox} (c e : Bool) → IsBoxStep a b c → IsBoxStep b d e → (c || e) ≡ true → size_of_box d < size_of_box a
size-moved c e h g some = grind (arith, nat_tests)

pub IsBoxStep-trans : {a b d : ParamBox} {c e : Bool} → IsBoxStep a b c → IsBoxStep b d e → IsBoxStep a d (c || e)
IsBoxStep-trans {a} {b} {d} {c} {e} h g = record {
  within = IsBoxWithin-trans d b a g.within h.within;
  settled = λ s settled in_a. g.settled s settled (h.settled s settled in_a);
  configurations = λ x exact held. g.configurations x exact (h.configurations x exact held);
  proper = g.proper;
  moved = size-moved c e h g;
  still = λ none. let both = or_parts c e none in g.still both.1 ∙ h.still both.0;
}

-- ---- a smaller box is proper too

pub IsProper-within : {a b : ParamBox} → IsProper b → IsBoxWithin a b → a.access.bits ≢ 0 → a.format.bits ≢ 0
    → ((q : Quantity) → IsNonEmpty (part a q)) → IsProper a
IsProper-within {a} {b} proper within access format filled =
    let low : (q : Quantity) → (part b q).min ≤ (part a q).min = λ q. IsIntervalWithin-min (part a q) (part b q) (within.parts q) in
    let high : (q : Quantity) → (part a q).max ≤ (part b q).max = λ q. IsIntervalWithin-max (part a q) (part b q) (within.parts q) in
    record {
      access = access;
      format = format;
      filled = filled;
      positive = λ q. omega (arith, proper.positive q, low q);
      capped = λ q. omega (arith, proper.capped q, high q);
      channels = omega (arith, proper.channels, high Channels);
      slowest = omega (arith, proper.slowest, low Rate);
      fastest = omega (arith, proper.fastest, high Rate);
      period_size = omega (arith, proper.period_size, high PeriodSize);
      periods = omega (arith, proper.periods, high Periods);
      buffer_size = omega (arith, proper.buffer_size, high BufferSize);
      whole_channels = (within.parts Channels).integer proper.whole_channels;
      whole_rate = (within.parts Rate).integer proper.whole_rate;
      whole_period_size = (within.parts PeriodSize).integer proper.whole_period_size;
      whole_periods = (within.parts Periods).integer proper.whole_periods;
      whole_buffer_size = (within.parts BufferSize).integer proper.whole_buffer_size;
    }

-- ---- a part is refined

-- each settled box within a box lies within an interval at a quantity, and each configuration has a member there
pub record IsMissedByNone (b : ParamBox) (q : Quantity) (x : Interval) : Type 0 where
  pub settled : (s : ParamBox) → IsSettled s → IsBoxWithin s b → IsIntervalWithin (part s q) x
  pub configurations : (y : Configuration) → IsExact y → LiesInBox b y → IsMember x (y.value q).over (y.value q).under

refined-IsKept : (b : ParamBox) (q : Quantity) (x : Interval) → IsMissedByNone b q x → IsKept b (with_refined b q x)
refined-IsKept b q x missed = record {
  settled = λ s h in_b.
      IsBoxWithin-with_part s b q (refinement (part b q) x) in_b
      (refined-greatest (part s q) (part b q) x (h.parts q) (IsSettled-IsNormal s h q) (in_b.parts q) (missed.settled s h in_b));
  configurations = λ y exact held. record {
    access = rw (access-with_part b q (refinement (part b q) x)) held.access;
    format = rw (format-with_part b q (refinement (part b q) x)) held.format;
    parts =
        with_part-each (λ p i. IsMember i (y.value p).over (y.value p).under) b q (refinement (part b q) x) held.parts
        (refined-IsMember (part b q) x (y.value q).over (y.value q).under (held.parts q) (missed.configurations y exact held));
  };
}

-- nothing lies within a box with an empty part
with_part-IsVoid : (b : ParamBox) (q : Quantity) (i : Interval) → IsEmpty i → IsVoid (with_part b q i)
with_part-IsVoid b q i empty = record {
  settled = λ s settled within. absurd (cc (IsNonEmpty-IsIntervalWithin (part s q) i (IsBoxWithin-part s b q i within) (settled.parts q)));
  configurations = λ x exact held.
      let P : Interval → Type 0 = λ j. IsMember j (x.value q).over (x.value q).under in
      absurd (cc (IsNonEmpty-IsMember i (x.value q).over (x.value q).under (subst P (part-with_part b q i) (held.parts q))));
}

pub IsVoid-refined : (b : ParamBox) (q : Quantity) (x : Interval) → IsEmpty (refinement (part b q) x) → IsVoid (with_refined b q x)
IsVoid-refined b q x empty = with_part-IsVoid b q (refinement (part b q) x) empty

pub IsVoid-part : (b : ParamBox) (q : Quantity) {x : Interval} → IsMissedByNone b q x → IsEmpty (refinement (part b q) x) → IsVoid b
IsVoid-part b q {x} missed empty = IsVoid-before (refined-IsKept b q x missed) (IsVoid-refined b q x empty)

pub with_part-IsProper : (b : ParamBox) (q : Quantity) (x : Interval) → IsProper b → IsNonEmpty (refinement (part b q) x)
    → IsProper (with_refined b q x)
with_part-IsProper b q x proper filled =
    IsProper-within proper (with_part-IsBoxWithin b q (refinement (part b q) x) (refined-IsWithin_left (part b q) x))
    (rw (access-with_part b q (refinement (part b q) x)) proper.access)
    (rw (format-with_part b q (refinement (part b q) x)) proper.format)
    (with_part-each (λ p i. IsNonEmpty i) b q (refinement (part b q) x) proper.filled filled)

pub IsBoxStep-refined : {b new : ParamBox} {changed : Bool} (q : Quantity) {x : Interval} → IsProper b → IsMissedByNone b q x
    → IsNonEmpty (refinement (part b q) x) → (changed ≡ false ↔ (refinement (part b q) x ≡ part b q)) → new ≡ with_refined b q x
    → IsBoxStep b new changed
IsBoxStep-refined {b} {new} {changed} q {x} proper missed filled unchanged becomes =
    let kept = refined-IsKept b q x missed in
    subst (λ (d : ParamBox). IsBoxStep b d changed) (sym becomes) (record {
      within = with_part-IsBoxWithin b q (refinement (part b q) x) (refined-IsWithin_left (part b q) x);
      settled = kept.settled;
      configurations = kept.configurations;
      proper = with_part-IsProper b q x proper filled;
      moved = λ e. size_of_box-with_part b q (refinement (part b q) x) (size_of-refined (part b q) x filled (λ s. absurd (cc (unchanged.1 s))));
      still = λ e. rw (unchanged.0 e) (with_part-same b q);
    })

-- ---- a mask is refined

-- each settled box within a box has a mask within another, and each configuration has its number there
pub record IsFormatMissedByNone (b : ParamBox) (m : Mask) : Type 0 where
  pub settled : (s : ParamBox) → IsSettled s → IsBoxWithin s b → IsMaskWithin s.format m
  pub configurations : (x : Configuration) → IsExact x → LiesInBox b x → HasNumber m x.format

abbrev pub with_masks : ParamBox → Mask → Mask → ParamBox
with_masks b access format = record b { access = access; format = format }

-- the intervals stay
parts-masks : (b : ParamBox) (access format : Mask) (P : Quantity → Interval → Type 0) → ((q : Quantity) → P q (part b q)) → (q : Quantity)
    → P q (part (with_masks b access format) q)
parts-masks b access format P h SampleBits = h SampleBits
parts-masks b access format P h FrameBits = h FrameBits
parts-masks b access format P h Channels = h Channels
parts-masks b access format P h Rate = h Rate
parts-masks b access format P h PeriodTime = h PeriodTime
parts-masks b access format P h PeriodSize = h PeriodSize
parts-masks b access format P h PeriodBytes = h PeriodBytes
parts-masks b access format P h Periods = h Periods
parts-masks b access format P h BufferTime = h BufferTime
parts-masks b access format P h BufferSize = h BufferSize
parts-masks b access format P h BufferBytes = h BufferBytes

pub with_masks-IsBoxWithin : (b : ParamBox) (access format : Mask) → IsMaskWithin access b.access → IsMaskWithin format b.format
    → IsBoxWithin (with_masks b access format) b
with_masks-IsBoxWithin b access format in_access in_format = grind (arith, nat_tests)

abbrev pub with_formats : ParamBox → Mask → ParamBox
with_formats b m = with_masks b b.access (common_mask b.format m)

pub with_formats-IsBoxWithin : (b : ParamBox) (m : Mask) → IsBoxWithin (with_formats b m) b
with_formats-IsBoxWithin b m =
    with_masks-IsBoxWithin b b.access (common_mask b.format m) (IsMaskWithin-refl b.access) (common_mask-IsMaskWithin_left b.format m)

pub with_formats-IsProper : (b : ParamBox) (m : Mask) → IsProper b → (common_mask b.format m).bits ≢ 0 → IsProper (with_formats b m)
with_formats-IsProper b m proper filled = grind (arith, nat_tests)

formats-IsKept : (b : ParamBox) (m : Mask) → IsFormatMissedByNone b m → IsKept b (with_formats b m)
formats-IsKept b m missed = record {
  settled = λ s h in_b. record {
    access = in_b.access;
    format = common_mask-greatest s.format b.format m in_b.format (missed.settled s h in_b);
    parts = parts-masks b b.access (common_mask b.format m) (λ p i. IsIntervalWithin (part s p) i) in_b.parts;
  };
  configurations = λ x exact held. record {
    access = held.access;
    format = common_mask-HasNumber b.format m x.format held.format (missed.configurations x exact held);
    parts = parts-masks b b.access (common_mask b.format m) (λ p i. IsMember i (x.value p).over (x.value p).under) held.parts;
  };
}

pub IsBoxStep-formats : {b new : ParamBox} {changed : Bool} {m : Mask} → IsProper b → IsFormatMissedByNone b m
    → (common_mask b.format m).bits ≢ 0 → (changed ≡ false ↔ (common_mask b.format m ≡ b.format)) → new ≡ with_formats b m
    → IsBoxStep b new changed
IsBoxStep-formats {b} {new} {changed} {m} proper missed filled unchanged becomes =
    let kept = formats-IsKept b m missed in
    subst (λ (d : ParamBox). IsBoxStep b d changed) (sym becomes) (record {
      within = with_formats-IsBoxWithin b m;
      settled = kept.settled;
      configurations = kept.configurations;
      proper = with_formats-IsProper b m proper filled;
      moved = λ e. omega (arith, bits-common_mask b.format m (λ s. absurd (cc (unchanged.1 s))));
      still = λ e. ap (with_masks b b.access) (unchanged.0 e);
    })

-- nothing lies within a box with an empty mask
pub IsVoid-access : (b : ParamBox) → b.access.bits ≡ 0 → IsVoid b
IsVoid-access b empty = record {
  settled = λ s settled within. IsMaskWithin-bits s.access b.access within.access settled.access empty;
  configurations = λ x exact held. HasNumber-bits b.access x.access held.access empty;
}

pub IsVoid-formats : (b : ParamBox) (m : Mask) → (common_mask b.format m).bits ≡ 0 → IsVoid (with_formats b m)
IsVoid-formats b m empty = record {
  settled = λ s settled within. IsMaskWithin-bits s.format (common_mask b.format m) within.format settled.format empty;
  configurations = λ x exact held. HasNumber-bits (common_mask b.format m) x.format held.format empty;
}

pub IsVoid-format : (b : ParamBox) {m : Mask} → IsFormatMissedByNone b m → (common_mask b.format m).bits ≡ 0 → IsVoid b
IsVoid-format b {m} missed empty = IsVoid-before (formats-IsKept b m missed) (IsVoid-formats b m empty)

-- ---- a step that changes something

pub IsBoxStep-moved : {a b d : ParamBox} (c : Bool) {e : Bool} → IsBoxStep a b c → IsBoxStep b d e → e ≡ true → IsBoxStep a d true
IsBoxStep-moved true h g some = IsBoxStep-trans h g
IsBoxStep-moved false h g some = rw some at (IsBoxStep-trans h g)

-- a step changes the box exactly where it says so
pub changed-IsBoxStep : {a b : ParamBox} (changed : Bool) → IsBoxStep a b changed → (IsTrue changed → b ≡ a → ⊥) × ((b ≡ a → ⊥) → IsTrue changed)
changed-IsBoxStep true step = (λ is same. omega (arith, ap size_of_box same, step.moved refl), λ differs. refl)
changed-IsBoxStep false step = (λ is same. absurd (cc), λ differs. absurd (differs (step.still refl)))
