-- Laws of choices: after all steps the chosen parameters are points.
use Rattle.hw_space.specs.Prelude.{add-one, arith, drop, get_or, inl, inr, sym, nat_tests, drop_all, Bool, Err, false, if◌then◌else◌, IsTrue, length, List}
use Rattle.hw_space.specs.Prelude.{nat_le, None, Ok, Option, Result, Some, true, ℕ, [], ◌+◌, ◌<◌, ◌^◌, ◌∷◌, ◌≡◌, ◌≢◌, ◌≤◌, ◌⊎◌, Empty, Interval, Mask}
use Rattle.hw_space.specs.Prelude.{IsIntervalWithin-max, IsIntervalWithin-min, IsIntervalWithin-trans, IsNonEmpty-le, refined-IsWithin_left}
use Rattle.hw_space.specs.Prelude.{refined-IsWithin_right, IsNormal, refinement, common_mask-IsMaskWithin_left, IsMaskWithin-refl, common_mask, ParamBox}
use Rattle.hw_space.specs.Prelude.{Quantity, BufferSize, Channels, Periods, PeriodSize, Rate, IsBoxWithin-part, IsBoxWithin-refl, IsBoxWithin-trans}
use Rattle.hw_space.specs.Prelude.{with_part-IsBoxWithin, IsBoxWithin, part, ChoiceLeaves, choices, Chooses, done, fails, goes, HasPoints, IsChoice}
use Rattle.hw_space.specs.Prelude.{IsFirstNumber, at_least, at_most, distance, greatest_end, IsNear, least_end, LeavesOf, nearest, point, with_access}
use Rattle.hw_space.specs.Prelude.{with_format, with_refined, IsProper, IsLeft, IsSettled, Leaves, IsSettled-IsNormal, mask_of_one, whole_from_to}
use Rattle.std.proofs.Math.Seq.{drop-cons}
use Rattle.std.proofs.lemmas.Nat.Bits.{bit_at-trailing_zeros}
use Rattle.std.specs.Int.{w64}
use Rattle.std.specs.Int.Count.{count_trailing_zeros}
use Rattle.hw_space.specs.declared.choice.Choice.{Choice}
use Rattle.hw_space.specs.declared.choice.Choice.TheVariants.{Settle, FirstAccess, FirstFormat, First, Last, Near}
use Rattle.hw_space.specs.declared.config.Config.{Config}
use Rattle.hw_space.proofs.StepLaws.{with_formats-IsBoxWithin, with_masks-IsBoxWithin}

-- ---- the first number of a mask

pub IsFirstNumber-trailing_zeros : (m : Mask) → m.bits ≢ 0 → m.bits < 2 ^ 64 → IsFirstNumber m (count_trailing_zeros 64 m.bits)
IsFirstNumber-trailing_zeros m filled fits =
    let lowest = bit_at-trailing_zeros w64 m.bits (omega arith) fits in
    record {
      has = lowest.1;
      least = λ k below has. absurd (omega (arith, lowest.2 k below));
    }

-- ---- steps in a row

-- the steps from a place on, one of them first
pub Chooses-next : (cs : List Choice) (i : ℕ) (c : Choice) (b d : ParamBox) (o : Option ParamBox) → i < length cs
    → ChoiceLeaves (get_or cs i c) b (Some d) → Chooses (drop (i + 1) cs) d o → Chooses (drop i cs) b o
Chooses-next cs i c b d o inside makes rest = rw (drop-cons cs i c inside) (goes makes (rw add-one at rest))

pub Chooses-stop : (cs : List Choice) (i : ℕ) (c : Choice) (b : ParamBox) → i < length cs
    → ChoiceLeaves (get_or cs i c) b None → Chooses (drop i cs) b None
Chooses-stop cs i c b inside makes = rw (drop-cons cs i c inside) (fails makes)

pub Chooses-end : (cs : List Choice) (i : ℕ) (b : ParamBox) → length cs ≤ i → Chooses (drop i cs) b (Some b)
Chooses-end cs i b past = rw (drop_all i cs past) done

-- ---- points

-- an interval has one number at most
abbrev IsSingle : Interval → Type 0
IsSingle i = i.max ≤ i.min

-- a settled box has a point where it has one number at most
point-IsSettled : (d : ParamBox) (q : Quantity) → IsSettled d → IsSingle (part d q) → part d q ≡ whole_from_to (part d q).min (part d q).min
point-IsSettled d q settled single =
    let normal = IsSettled-IsNormal d settled q in
    let same : (part d q).max ≡ (part d q).min = omega (arith, single, IsNonEmpty-le (part d q) (settled.parts q)) in
    let whole : IsTrue (part d q).integer = normal.point (sym same) in
    λ k. record {
      min = (part d q).min;
      max = same k;
      openmin = normal.lower whole k;
      openmax = normal.upper whole k;
      integer = whole k;
    }

-- the ends of a whole interval of normal form are closed: each is one number
IsSingle-least_end : (i : Interval) → IsNormal i → IsTrue i.integer → IsSingle (least_end i)
IsSingle-least_end i normal whole = rw (normal.lower whole) (omega arith)

IsSingle-greatest_end : (i : Interval) → IsNormal i → IsTrue i.integer → IsSingle (greatest_end i)
IsSingle-greatest_end i normal whole = rw (normal.upper whole) (omega arith)

-- ---- steps of a choice

-- a step leaves a settled box within
record IsMoved (b d : ParamBox) : Type 0 where
  settled : IsSettled d
  within : IsBoxWithin d b

IsMoved-left : (b c d : ParamBox) → IsBoxWithin c b → IsLeft c d → IsMoved b d
IsMoved-left b c d within left = grind (arith, nat_tests)

IsMoved-narrowed : (b d : ParamBox) (q : Quantity) (i : Interval) → IsLeft (with_refined b q i) d → IsMoved b d
IsMoved-narrowed b d q i left =
    IsMoved-left b (with_refined b q i) d (with_part-IsBoxWithin b q (refinement (part b q) i) (refined-IsWithin_left (part b q) i)) left

-- a settled box within, with one number where the quantity is whole
record IsAtEnd (b d : ParamBox) (q : Quantity) : Type 0 where
  moved : IsMoved b d
  single : IsTrue (part b q).integer → IsSingle (part d q)

-- what is left of a settled box within, at an end of a quantity
at_end : (b m d : ParamBox) (q : Quantity) (i : Interval) → IsMoved b m → IsLeft (with_refined m q i) d
    → (IsNormal (part m q) → IsTrue (part m q).integer → IsSingle i) → IsAtEnd b d q
at_end b m d q i before left single =
    let here = IsMoved-narrowed m d q i left in
    let within = IsIntervalWithin-trans (part d q) (refinement (part m q) i) i
    (IsBoxWithin-part d m q (refinement (part m q) i) left.greatest.within) (refined-IsWithin_right (part m q) i) in
    record {
      moved = record { settled = here.settled; within = IsBoxWithin-trans d m b here.within before.within };
      single = λ whole.
          let one = single (IsSettled-IsNormal m before.settled q) ((before.within.parts q).integer whole) in
          omega (arith, one, IsIntervalWithin-min (part d q) i within, IsIntervalWithin-max (part d q) i within);
    }

at_last : (b m d : ParamBox) (q : Quantity) → IsMoved b m → IsLeft (with_refined m q (greatest_end (part m q))) d → IsAtEnd b d q
at_last b m d q before left = at_end b m d q (greatest_end (part m q)) before left (IsSingle-greatest_end (part m q))

at_first : (b m d : ParamBox) (q : Quantity) → IsMoved b m → IsLeft (with_refined m q (least_end (part m q))) d → IsAtEnd b d q
at_first b m d q before left = at_end b m d q (least_end (part m q)) before left (IsSingle-least_end (part m q))

left_of_either : (t : Bool) (x y d : ParamBox) → IsLeft (if t then x else y) d → IsLeft x d ⊎ IsLeft y d
left_of_either true x y d left = inl left
left_of_either false x y d left = inr left

near-cases : (b d : ParamBox) (q : Quantity) (n : ℕ) (low high : Option ParamBox)
    → Leaves (with_refined b q (at_most n)) low → Leaves (with_refined b q (at_least n)) high
    → LeavesOf (nearest q n low high) (Some d) → IsAtEnd b d q
near-cases b d q n (Some low) (Some high) below above left =
    elim (left_of_either (nat_le (distance (part low q).max n) (distance (part high q).min n))
    (with_refined low q (greatest_end (part low q))) (with_refined high q (least_end (part high q))) d left) [
      | inl last ↦ at_last b low d q (IsMoved-narrowed b low q (at_most n) below) last
      | inr first ↦ at_first b high d q (IsMoved-narrowed b high q (at_least n) above) first
    ]
near-cases b d q n (Some low) None below above left = at_last b low d q (IsMoved-narrowed b low q (at_most n) below) left
near-cases b d q n None (Some high) below above left = at_first b high d q (IsMoved-narrowed b high q (at_least n) above) left
near-cases b d q n None None below above left = absurd (cc)

IsAtEnd-near : (b d : ParamBox) (q : Quantity) (n : ℕ) → IsNear b q n (Some d) → IsAtEnd b d q
IsAtEnd-near b d q n h = near-cases b d q n h.low h.high h.below h.above h.left

IsMoved-makes : (c : Choice) (b d : ParamBox) → ChoiceLeaves c b (Some d) → IsMoved b d
IsMoved-makes Settle b d makes = IsMoved-left b b d (IsBoxWithin-refl b) makes
IsMoved-makes FirstAccess b d makes =
    IsMoved-left b (with_access b makes.0) d (with_masks-IsBoxWithin b (common_mask b.access (mask_of_one makes.0)) b.format
    (common_mask-IsMaskWithin_left b.access (mask_of_one makes.0)) (IsMaskWithin-refl b.format)) makes.2
IsMoved-makes FirstFormat b d makes = IsMoved-left b (with_format b makes.0) d (with_formats-IsBoxWithin b (mask_of_one makes.0)) makes.2
IsMoved-makes (First q) b d makes = IsMoved-narrowed b d q (least_end (part b q)) makes
IsMoved-makes (Last q) b d makes = IsMoved-narrowed b d q (greatest_end (part b q)) makes
IsMoved-makes (Near q n) b d makes = (IsAtEnd-near b d q n makes).moved

-- so do all steps
IsMoved-Chooses : (cs : List Choice) (b f : ParamBox) → IsSettled b → Chooses cs b (Some f) → IsMoved b f
IsMoved-Chooses [] b f settled done = record { settled = settled; within = IsBoxWithin-refl b }
IsMoved-Chooses (c ∷ cs) b f settled (goes {d = d} makes rest) =
    let moved = IsMoved-makes c b d makes in
    let after = IsMoved-Chooses cs d f moved.settled rest in
    record { settled = after.settled; within = IsBoxWithin-trans f d b after.within moved.within }

-- ---- the points of a choice

-- a step takes an end of a quantity
data Takes : Choice → Quantity → Type 0 where
  first : {q : Quantity} → Takes (First q) q
  last : {q : Quantity} → Takes (Last q) q
  near : {q : Quantity} {n : ℕ} → Takes (Near q n) q

IsAtEnd-taken : {c : Choice} {q : Quantity} (b d : ParamBox) → Takes c q → IsSettled b → ChoiceLeaves c b (Some d) → IsAtEnd b d q
IsAtEnd-taken b d (first {q = q}) settled makes = at_first b b d q (record { settled = settled; within = IsBoxWithin-refl b }) makes
IsAtEnd-taken b d (last {q = q}) settled makes = at_last b b d q (record { settled = settled; within = IsBoxWithin-refl b }) makes
IsAtEnd-taken b d (near {q = q} {n = n}) settled makes = IsAtEnd-near b d q n makes

-- one of some steps does
data TakenBy : List Choice → Quantity → Type 0 where
  here : {c : Choice} {cs : List Choice} {q : Quantity} → Takes c q → TakenBy (c ∷ cs) q
  later : {c : Choice} {cs : List Choice} {q : Quantity} → TakenBy cs q → TakenBy (c ∷ cs) q

-- what all steps leave of a settled box has a point at each quantity of which a step takes an end
point-taken : {cs : List Choice} {q : Quantity} (b f : ParamBox) → TakenBy cs q → IsSettled b → IsTrue (part b q).integer → Chooses cs b (Some f)
    → part f q ≡ whole_from_to (part f q).min (part f q).min
point-taken b f (here {cs = cs} {q = q} takes) settled whole (goes {d = d} makes rest) =
    let ended = IsAtEnd-taken b d takes settled makes in
    let after = IsMoved-Chooses cs d f ended.moved.settled rest in
    point-IsSettled f q after.settled
    (omega (
      arith,
      ended.single whole,
      IsIntervalWithin-min (part f q) (part d q) (after.within.parts q),
      IsIntervalWithin-max (part f q) (part d q) (after.within.parts q),
    ))
point-taken b f (later {c = c} {q = q} taken) settled whole (goes {d = d} makes rest) =
    let moved = IsMoved-makes c b d makes in point-taken d f taken moved.settled ((moved.within.parts q).integer whole) rest

-- and of any box, where the first step settles it
point-settled : {cs : List Choice} (b f : ParamBox) (q : Quantity) → TakenBy cs q → IsTrue (part b q).integer → Chooses (Settle ∷ cs) b (Some f)
    → part f q ≡ whole_from_to (part f q).min (part f q).min
point-settled b f q taken whole (goes {d = d} makes rest) =
    point-taken d f taken makes.greatest.settled ((makes.greatest.within.parts q).integer whole) rest

-- the configuration of the least ends
abbrev pub least_config : ParamBox → Config
least_config f = record {
  channels = f.channels.min;
  rate = f.rate.min;
  period_size = f.period_size.min;
  buffer_size = f.buffer_size.min;
  periods = f.periods.min;
}

pub HasPoints-Chooses : (b f : ParamBox) (period : ℕ) → IsProper b → Chooses (choices period) b (Some f) → HasPoints f (least_config f)
HasPoints-Chooses b f period proper chosen = record {
  channels = point-settled b f Channels (later (later (here first))) proper.whole_channels chosen;
  rate = point-settled b f Rate (later (later (later (here first)))) proper.whole_rate chosen;
  period_size = point-settled b f PeriodSize (later (later (later (later (here near))))) proper.whole_period_size chosen;
  buffer_size = point-settled b f BufferSize (later (later (later (later (later (here last)))))) proper.whole_buffer_size chosen;
  periods = point-settled b f Periods (later (later (later (later (later (later (here first))))))) proper.whole_periods chosen;
}

-- an answer that a step left nothing
pub IsChoice-err : (b : ParamBox) (period : ℕ) (r : Result Config Empty) (e : Empty) → r ≡ Err e → Chooses (choices period) b None → IsChoice b period r
IsChoice-err b period (Ok c) e same stopped = absurd (cc)
IsChoice-err b period (Err x) e same stopped = stopped
