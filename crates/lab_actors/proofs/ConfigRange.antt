-- What is chosen is within what the card gives to its clients.
use Rattle.lab_actors.specs.Prelude.{ap, arith, List, refl, subst, sym, ℕ, [], ◌/◌, ◌∷◌, ◌≡◌, Bool, Err, false, IfOk, if◌then◌else◌, None, Ok, Option, Result}
use Rattle.lab_actors.specs.Prelude.{Some, true, Empty, Config, ParamBox, ChoiceLeaves, choices, Chooses, done, goes, IsChoice, at_least, at_most, greatest_end}
use Rattle.lab_actors.specs.Prelude.{least_end, LeavesOf, nearest, point, with_access, with_format, with_kind_value, with_refined, with_value, Leaves}
use Rattle.lab_actors.specs.Prelude.{whole_from_to, widest, IsNarrowed, Values, IsConfigInRange}
use Rattle.pcm_interval.specs.declared.interval.Interval.{Interval}
use Rattle.pcm_interval.specs.IntervalLaws.{IsIntervalWithin-max, IsIntervalWithin-min, IsIntervalWithin-trans, refined-IsWithin_left, refined-IsWithin_right}
use Rattle.pcm_interval.specs.Intervals.{IsIntervalWithin, refinement}
use Rattle.pcm_interval.specs.MaskLaws.{common_mask-IsMaskWithin_left}
use Rattle.hw_space.specs.declared.choice.Choice.{Choice}
use Rattle.hw_space.specs.declared.choice.Choice.TheVariants.{Settle, FirstAccess, FirstFormat, First, Last, Near}
use Rattle.hw_space.specs.declared.param.ParamKind.{ParamKind}
use Rattle.hw_space.specs.declared.quantity.Quantity.{Quantity}
use Rattle.hw_space.specs.BoxLaws.{IsBoxWithin-part, IsBoxWithin-refl, IsBoxWithin-trans, with_part-IsBoxWithin}
use Rattle.hw_space.specs.Boxes.{IsBoxWithin, part}
use Rattle.hw_space.specs.Params.{kind_of}
use Rattle.hw_space.specs.declared.param.Param.TheVariants as param
use Rattle.hw_space.specs.declared.param.ParamKind.TheVariants as kind
use Rattle.hw_space.specs.declared.quantity.Quantity.TheVariants as quantity

-- a narrowed space is within the space
narrowed-IsBoxWithin : (b : ParamBox) (q : Quantity) (i : Interval) → IsBoxWithin (with_refined b q i) b
narrowed-IsBoxWithin b q i = with_part-IsBoxWithin b q (refinement (part b q) i) (refined-IsWithin_left (part b q) i)

Leaves-IsBoxWithin : (b d whole : ParamBox) → Leaves b (Some d) → IsBoxWithin b whole → IsBoxWithin d whole
Leaves-IsBoxWithin b d whole left within = IsBoxWithin-trans d b whole left.greatest.within within

nearest-IsBoxWithin : (q : Quantity) (n : ℕ) (low high : Option ParamBox) (whole d : ParamBox)
    → ((x : ParamBox) → low ≡ Some x → IsBoxWithin x whole) → ((x : ParamBox) → high ≡ Some x → IsBoxWithin x whole)
    → LeavesOf (nearest q n low high) (Some d) → IsBoxWithin d whole
nearest-IsBoxWithin q n (Some low) (Some high) whole d in_low in_high left =
    let there : IsBoxWithin (with_refined low q (greatest_end (part low q))) whole =
    IsBoxWithin-trans (with_refined low q (greatest_end (part low q))) low whole (narrowed-IsBoxWithin low q (greatest_end (part low q))) (in_low low refl) in
    let here : IsBoxWithin (with_refined high q (least_end (part high q))) whole =
    IsBoxWithin-trans (with_refined high q (least_end (part high q))) high whole (narrowed-IsBoxWithin high q (least_end (part high q))) (in_high high refl) in
    IsBoxWithin-trans d _ whole left.greatest.within (if_within _ there here)
  where
    if_within : (test : Bool) {x y : ParamBox} → IsBoxWithin x whole → IsBoxWithin y whole → IsBoxWithin (if test then x else y) whole
    if_within true first second = first
    if_within false first second = second
nearest-IsBoxWithin q n (Some low) None whole d in_low in_high left =
    Leaves-IsBoxWithin (with_refined low q (greatest_end (part low q))) d whole left
    (IsBoxWithin-trans (with_refined low q (greatest_end (part low q))) low whole (narrowed-IsBoxWithin low q (greatest_end (part low q))) (in_low low refl))
nearest-IsBoxWithin q n None (Some high) whole d in_low in_high left =
    Leaves-IsBoxWithin (with_refined high q (least_end (part high q))) d whole left
    (IsBoxWithin-trans (with_refined high q (least_end (part high q))) high whole (narrowed-IsBoxWithin high q (least_end (part high q))) (in_high high refl))
nearest-IsBoxWithin q n None None whole d in_low in_high left = absurd (cc)

each_part : (b d : ParamBox) → d.sample_bits ≡ b.sample_bits → d.frame_bits ≡ b.frame_bits → d.channels ≡ b.channels → d.rate ≡ b.rate
    → d.period_time ≡ b.period_time → d.period_size ≡ b.period_size → d.period_bytes ≡ b.period_bytes → d.periods ≡ b.periods
    → d.buffer_time ≡ b.buffer_time → d.buffer_size ≡ b.buffer_size → d.buffer_bytes ≡ b.buffer_bytes
    → (q : Quantity) → part d q ≡ part b q
each_part b d a e f g h i j k l m n quantity.SampleBits = a
each_part b d a e f g h i j k l m n quantity.FrameBits = e
each_part b d a e f g h i j k l m n quantity.Channels = f
each_part b d a e f g h i j k l m n quantity.Rate = g
each_part b d a e f g h i j k l m n quantity.PeriodTime = h
each_part b d a e f g h i j k l m n quantity.PeriodSize = i
each_part b d a e f g h i j k l m n quantity.PeriodBytes = j
each_part b d a e f g h i j k l m n quantity.Periods = k
each_part b d a e f g h i j k l m n quantity.BufferTime = l
each_part b d a e f g h i j k l m n quantity.BufferSize = m
each_part b d a e f g h i j k l m n quantity.BufferBytes = n

with_access-IsBoxWithin : (b : ParamBox) (n : ℕ) → IsBoxWithin (with_access b n) b
with_access-IsBoxWithin b n = record {
  access = common_mask-IsMaskWithin_left b.access _;
  format = (IsBoxWithin-refl b).format;
  parts = λ q. subst (λ (i : Interval). IsIntervalWithin i (part b q)) (sym (each_part b (with_access b n) refl refl refl refl refl refl refl refl refl refl refl q)) ((IsBoxWithin-refl b).parts q);
}

with_format-IsBoxWithin : (b : ParamBox) (n : ℕ) → IsBoxWithin (with_format b n) b
with_format-IsBoxWithin b n = record {
  access = (IsBoxWithin-refl b).access;
  format = common_mask-IsMaskWithin_left b.format _;
  parts = λ q. subst (λ (i : Interval). IsIntervalWithin i (part b q)) (sym (each_part b (with_format b n) refl refl refl refl refl refl refl refl refl refl refl q)) ((IsBoxWithin-refl b).parts q);
}

with_kind_value-IsBoxWithin : (b : ParamBox) (k : ParamKind) (n : ℕ) → IsBoxWithin (with_kind_value b k n) b
with_kind_value-IsBoxWithin b (kind.Number q) n = narrowed-IsBoxWithin b q (point n)
with_kind_value-IsBoxWithin b kind.Access n = with_access-IsBoxWithin b n
with_kind_value-IsBoxWithin b kind.Format n = with_format-IsBoxWithin b n

-- a step of a choice leaves a space within
ChoiceLeaves-IsBoxWithin : (c : Choice) (b d : ParamBox) → ChoiceLeaves c b (Some d) → IsBoxWithin d b
ChoiceLeaves-IsBoxWithin Settle b d made = made.greatest.within
ChoiceLeaves-IsBoxWithin FirstAccess b d made = Leaves-IsBoxWithin (with_access b made.0) d b made.2 (with_access-IsBoxWithin b made.0)
ChoiceLeaves-IsBoxWithin FirstFormat b d made = Leaves-IsBoxWithin (with_format b made.0) d b made.2 (with_format-IsBoxWithin b made.0)
ChoiceLeaves-IsBoxWithin (First q) b d made = Leaves-IsBoxWithin (with_refined b q (least_end (part b q))) d b made (narrowed-IsBoxWithin b q (least_end (part b q)))
ChoiceLeaves-IsBoxWithin (Last q) b d made = Leaves-IsBoxWithin (with_refined b q (greatest_end (part b q))) d b made (narrowed-IsBoxWithin b q (greatest_end (part b q)))
ChoiceLeaves-IsBoxWithin (Near q n) b d made =
    nearest-IsBoxWithin q n made.low made.high b d
    (λ x is. Leaves-IsBoxWithin (with_refined b q (at_most n)) x b (subst (Leaves (with_refined b q (at_most n))) is made.below) (narrowed-IsBoxWithin b q (at_most n)))
    (λ x is. Leaves-IsBoxWithin (with_refined b q (at_least n)) x b (subst (Leaves (with_refined b q (at_least n))) is made.above) (narrowed-IsBoxWithin b q (at_least n)))
    made.left

-- and so do all steps, and all values
Chooses-IsBoxWithin : (cs : List Choice) (b d : ParamBox) → Chooses cs b (Some d) → IsBoxWithin d b
Chooses-IsBoxWithin [] b d done = IsBoxWithin-refl b
Chooses-IsBoxWithin (c ∷ cs) b d (goes {d = x} made later) = IsBoxWithin-trans d x b (Chooses-IsBoxWithin cs x d later) (ChoiceLeaves-IsBoxWithin c b x made)

IsNarrowed-IsBoxWithin : (values : Values) (b d : ParamBox) → IsNarrowed b values (Some d) → IsBoxWithin d b
IsNarrowed-IsBoxWithin [] b d same = let is : b ≡ d = cc in subst (λ (x : ParamBox). IsBoxWithin d x) (sym is) (IsBoxWithin-refl d)
IsNarrowed-IsBoxWithin ((p, v) ∷ more) b d narrow =
    IsBoxWithin-trans d narrow.0 b (IsNarrowed-IsBoxWithin more narrow.0 d narrow.2)
    (Leaves-IsBoxWithin (with_value b p v) narrow.0 b narrow.1 (with_kind_value-IsBoxWithin b (kind_of p) v))

-- what is chosen with a number of channels has that number, and is within the card's space
chosen-IsConfigInRange : (most speed ring channels period : ℕ) (more : Values) (d : ParamBox) (config : Config)
    → IsNarrowed (widest most speed ring) ((param.Channels, channels) ∷ more) (Some d) → IsChoice d period (Ok config)
    → IsConfigInRange config channels most ring
chosen-IsConfigInRange most speed ring channels period more d config narrow choice =
    let last = choice.0 in
    let within_first : IsBoxWithin last (with_value (widest most speed ring) param.Channels channels) =
    IsBoxWithin-trans last d (with_value (widest most speed ring) param.Channels channels) (Chooses-IsBoxWithin (choices period) d last choice.1)
    (IsBoxWithin-trans d narrow.0 (with_value (widest most speed ring) param.Channels channels)
    (IsNarrowed-IsBoxWithin more narrow.0 d narrow.2) narrow.1.greatest.within) in
    let within_widest : IsBoxWithin last (widest most speed ring) =
    IsBoxWithin-trans last (with_value (widest most speed ring) param.Channels channels) (widest most speed ring) within_first
    (narrowed-IsBoxWithin (widest most speed ring) quantity.Channels (point channels)) in
    let both : IsIntervalWithin last.channels (refinement (whole_from_to 1 most) (point channels)) =
    IsBoxWithin-part last (widest most speed ring) quantity.Channels (refinement (whole_from_to 1 most) (point channels)) within_first in
    let at_point : IsIntervalWithin last.channels (point channels) =
    IsIntervalWithin-trans last.channels (refinement (whole_from_to 1 most) (point channels)) (point channels) both (refined-IsWithin_right (whole_from_to 1 most) (point channels)) in
    let low = IsIntervalWithin-min last.channels (point channels) at_point in
    let high = IsIntervalWithin-max last.channels (point channels) at_point in
    let few = IsIntervalWithin-max last.channels (whole_from_to 1 most) (within_widest.parts quantity.Channels) in
    let period_low = IsIntervalWithin-min last.period_size (whole_from_to 16 (ring / 2)) (within_widest.parts quantity.PeriodSize) in
    let buffer_low = IsIntervalWithin-min last.buffer_size (whole_from_to 32 ring) (within_widest.parts quantity.BufferSize) in
    let buffer_high = IsIntervalWithin-max last.buffer_size (whole_from_to 32 ring) (within_widest.parts quantity.BufferSize) in
    let is_min : last.channels.min ≡ config.channels = ap (λ (i : Interval). i.min) choice.2.channels in
    let is_max : last.channels.max ≡ config.channels = ap (λ (i : Interval). i.max) choice.2.channels in
    let period_min : last.period_size.min ≡ config.period_size = ap (λ (i : Interval). i.min) choice.2.period_size in
    let buffer_min : last.buffer_size.min ≡ config.buffer_size = ap (λ (i : Interval). i.min) choice.2.buffer_size in
    let buffer_max : last.buffer_size.max ≡ config.buffer_size = ap (λ (i : Interval). i.max) choice.2.buffer_size in
    record {
      channels_are = omega arith;
      few = omega arith;
      period_least = omega arith;
      buffer_least = omega arith;
      buffer_most = omega arith;
    }

-- the same of an answer
pub IsConfigInRange-choice : (most speed ring channels period : ℕ) (more : Values) (w d : ParamBox) (r : Result Config Empty)
    → w ≡ widest most speed ring → IsNarrowed w ((param.Channels, channels) ∷ more) (Some d) → IsChoice d period r
    → IfOk r (λ config. IsConfigInRange config channels most ring)
IsConfigInRange-choice most speed ring channels period more w d (Ok config) is narrow choice =
    chosen-IsConfigInRange most speed ring channels period more d config
    (subst (λ (x : ParamBox). IsNarrowed x ((param.Channels, channels) ∷ more) (Some d)) is narrow) choice
IsConfigInRange-choice most speed ring channels period more w d (Err e) is narrow choice = tt
