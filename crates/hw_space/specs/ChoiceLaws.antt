-- Laws of choices: what refinement leaves, what a step leaves and what is chosen is settled by the box.
use Rattle.std.specs.Prelude.{◌≡◌, ◌⊎◌, ℕ, List, [], ◌∷◌, Option, Some, None, Result, Ok, Err, refl}
use Rattle.std.proofs.Common.{arith, subst, ap, ◌∙◌, sym, inl, inr}
use Rattle.std.proofs.lemmas.Bool.{cases_lt}
use Rattle.pcm_interval.specs.declared.empty.Empty.{Empty}
use Rattle.pcm_interval.specs.declared.mask.Mask.{Mask}
use Rattle.hw_space.specs.declared.choice.Choice.{Choice}
use Rattle.hw_space.specs.declared.choice.Choice.TheVariants.{Settle, FirstAccess, FirstFormat, First, Last, Near}
use Rattle.hw_space.specs.declared.config.Config.{Config}
use Rattle.hw_space.specs.declared.param_box.ParamBox.{ParamBox}
use Rattle.hw_space.specs.declared.quantity.Quantity.{Quantity}
use Rattle.hw_space.specs.Boxes.{part}
use Rattle.hw_space.specs.Choices.{IsFirstNumber, ChoiceLeaves, Chooses, done, fails, goes, choices, HasPoints, IsChoice}
use Rattle.hw_space.specs.Narrowings.{with_refined, at_most, at_least, least_end, greatest_end, with_access, with_format, nearest, LeavesOf, IsNear}
use Rattle.hw_space.specs.Settled.{Leaves}
use Rattle.hw_space.specs.SettledLaws.{IsGreatest-unique}

-- a box leaves one box, or nothing
pub Leaves-unique : (b : ParamBox) (o p : Option ParamBox) → Leaves b o → Leaves b p → o ≡ p
Leaves-unique b (Some g) (Some h) one other = ap (λ x. Some x) (IsGreatest-unique b g h one.greatest other.greatest)
Leaves-unique b (Some g) None one other = absurd (other.settled g one.greatest.settled one.greatest.within)
Leaves-unique b None (Some h) one other = absurd (one.settled h other.greatest.settled other.greatest.within)
Leaves-unique b None None one other = refl

LeavesOf-unique : (m : Option ParamBox) (o p : Option ParamBox) → LeavesOf m o → LeavesOf m p → o ≡ p
LeavesOf-unique (Some b) o p one other = Leaves-unique b o p one other
LeavesOf-unique None o p one other = one ∙ sym other

-- the nearest end leaves one box, or nothing
pub IsNear-unique : (b : ParamBox) (q : Quantity) (n : ℕ) (o p : Option ParamBox) → IsNear b q n o → IsNear b q n p → o ≡ p
IsNear-unique b q n o p one other =
    let low = Leaves-unique (with_refined b q (at_most n)) one.low other.low one.below other.below in
    let high = Leaves-unique (with_refined b q (at_least n)) one.high other.high one.above other.above in
    let same : nearest q n other.low other.high ≡ nearest q n one.low one.high =
    sym (ap (λ x. nearest q n x one.high) low ∙ ap (λ x. nearest q n other.low x) high) in
    LeavesOf-unique (nearest q n one.low one.high) o p one.left (subst (λ (m : Option ParamBox). LeavesOf m p) same other.left)

-- a mask has one first number at most
IsFirstNumber-unique : (m : Mask) (n k : ℕ) → IsFirstNumber m n → IsFirstNumber m k → n ≡ k
IsFirstNumber-unique m n k one other =
    elim (cases_lt n k) [
      | inl below ↦ absurd (other.least n below one.has)
      | inr above ↦ elim (cases_lt k n) [
        | inl below ↦ absurd (one.least k below other.has)
        | inr same ↦ omega arith
      ]
    ]

-- a step leaves one box, or nothing
pub ChoiceLeaves-unique : (c : Choice) (b : ParamBox) (o p : Option ParamBox) → ChoiceLeaves c b o → ChoiceLeaves c b p → o ≡ p
ChoiceLeaves-unique Settle b o p one other = Leaves-unique b o p one other
ChoiceLeaves-unique FirstAccess b o p one other =
    let same = IsFirstNumber-unique b.access other.0 one.0 other.1 one.1 in
    Leaves-unique (with_access b one.0) o p one.2 (subst (λ (n : ℕ). Leaves (with_access b n) p) same other.2)
ChoiceLeaves-unique FirstFormat b o p one other =
    let same = IsFirstNumber-unique b.format other.0 one.0 other.1 one.1 in
    Leaves-unique (with_format b one.0) o p one.2 (subst (λ (n : ℕ). Leaves (with_format b n) p) same other.2)
ChoiceLeaves-unique (First q) b o p one other = Leaves-unique (with_refined b q (least_end (part b q))) o p one other
ChoiceLeaves-unique (Last q) b o p one other = Leaves-unique (with_refined b q (greatest_end (part b q))) o p one other
ChoiceLeaves-unique (Near q n) b o p one other = IsNear-unique b q n o p one other

-- how steps can end: there are none, the first leaves nothing, or the others go on
end_case : (b : ParamBox) (o : Option ParamBox) → Chooses [] b o → o ≡ Some b
end_case b (Some x) done = refl
end_case b None ended = elim ended [ ]

first_case : (c : Choice) (cs : List Choice) (b : ParamBox) (o : Option ParamBox) → Chooses (c ∷ cs) b o
    → ((o ≡ None) × ChoiceLeaves c b None) ⊎ ((d : ParamBox) × ChoiceLeaves c b (Some d) × Chooses cs d o)
first_case c cs b o (fails makes) = inl (refl, makes)
first_case c cs b o (goes {d = d} makes rest) = inr (d, makes, rest)

-- so all steps leave one box, or nothing
pub Chooses-unique : (cs : List Choice) (b : ParamBox) (o p : Option ParamBox) → Chooses cs b o → Chooses cs b p → o ≡ p
Chooses-unique [] b o p one other = end_case b o one ∙ sym (end_case b p other)
Chooses-unique (c ∷ cs) b o p one other =
    elim (first_case c cs b o one) [
      | inl x ↦ elim (first_case c cs b p other) [
        | inl y ↦ x.0 ∙ sym y.0
        | inr y ↦ let e : None ≡ Some y.0 = ChoiceLeaves-unique c b None (Some y.0) x.1 y.1 in absurd (cc)
      ]
      | inr x ↦ elim (first_case c cs b p other) [
        | inl y ↦ let e : Some x.0 ≡ None = ChoiceLeaves-unique c b (Some x.0) None x.1 y.1 in absurd (cc)
        | inr y ↦
            let e : Some x.0 ≡ Some y.0 = ChoiceLeaves-unique c b (Some x.0) (Some y.0) x.1 y.1 in
            let same : y.0 ≡ x.0 = cc in
            Chooses-unique cs x.0 o p x.2 (subst (λ (d : ParamBox). Chooses cs d p) same y.2)
      ]
    ]

-- the points of a box are one configuration
HasPoints-unique : (b : ParamBox) (c d : Config) → HasPoints b c → HasPoints b d → c ≡ d
HasPoints-unique b c d one other = λ k. record {
  channels = ap (λ i. i.min) (sym one.channels ∙ other.channels) k;
  rate = ap (λ i. i.min) (sym one.rate ∙ other.rate) k;
  period_size = ap (λ i. i.min) (sym one.period_size ∙ other.period_size) k;
  buffer_size = ap (λ i. i.min) (sym one.buffer_size ∙ other.buffer_size) k;
  periods = ap (λ i. i.min) (sym one.periods ∙ other.periods) k;
}

-- and a choice has one answer
pub IsChoice-unique : (b : ParamBox) (period : ℕ) (r s : Result Config Empty) → IsChoice b period r → IsChoice b period s → r ≡ s
IsChoice-unique b period (Ok c) (Ok d) one other =
    let e : Some one.0 ≡ Some other.0 = Chooses-unique (choices period) b (Some one.0) (Some other.0) one.1 other.1 in
    let same : other.0 ≡ one.0 = cc in
    ap (λ x. Ok x) (HasPoints-unique one.0 c d one.2 (subst (λ (f : ParamBox). HasPoints f d) same other.2))
IsChoice-unique b period (Ok c) (Err e) one other =
    let same : Some one.0 ≡ None = Chooses-unique (choices period) b (Some one.0) None one.1 other in absurd (cc)
IsChoice-unique b period (Err e) (Ok d) one other =
    let same : None ≡ Some other.0 = Chooses-unique (choices period) b None (Some other.0) one other.1 in absurd (cc)
IsChoice-unique b period (Err e) (Err f) one other = refl
