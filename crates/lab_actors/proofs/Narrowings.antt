-- Laws of narrowings: values narrow one after the other, and what they leave is one space, or nothing.
use Rattle.lab_actors.specs.Prelude.{inl, inr, subst, sym, ℕ, [], ◌++◌, ◌∷◌, ◌≡◌, Err, None, Ok, Option, Result, Some, Empty, Config, ParamBox, IsChoice}
use Rattle.lab_actors.specs.Prelude.{with_value, Leaves, space_left, widest, CardLine, IsChosen, IsNarrowed, Values}
use Rattle.hw_space.specs.declared.param.Param.{Param}

-- a value leaves nothing, or the others narrow what it leaves
pub IsNarrowed-fails : (b : ParamBox) (p : Param) (v : ℕ) (more : Values) → Leaves (with_value b p v) None → IsNarrowed b ((p, v) ∷ more) None
IsNarrowed-fails b p v more none = inl none

pub IsNarrowed-goes : (b d : ParamBox) (p : Param) (v : ℕ) (more : Values) (o : Option ParamBox)
    → Leaves (with_value b p v) (Some d) → IsNarrowed d more o → IsNarrowed b ((p, v) ∷ more) o
IsNarrowed-goes b d p v more (Some left) one others = (d, one, others)
IsNarrowed-goes b d p v more None one others = inr (d, one, others)

-- values that leave nothing leave nothing with more of them
pub IsNarrowed-none : (xs ys : Values) (b : ParamBox) → IsNarrowed b xs None → IsNarrowed b (xs ++ ys) None
IsNarrowed-none [] ys b none = absurd (cc)
IsNarrowed-none ((p, v) ∷ xs) ys b none =
    elim none [
      | inl first ↦ inl first
      | inr x ↦ inr (x.0, x.1, IsNarrowed-none xs ys x.0 x.2)
    ]

-- more values narrow what the first leave
pub IsNarrowed-append : (xs ys : Values) (b d : ParamBox) (o : Option ParamBox)
    → IsNarrowed b xs (Some d) → IsNarrowed d ys o → IsNarrowed b (xs ++ ys) o
IsNarrowed-append [] ys b d o same others = let is : d ≡ b = cc in subst (λ (x : ParamBox). IsNarrowed x ys o) is others
IsNarrowed-append ((p, v) ∷ xs) ys b d o first others =
    IsNarrowed-goes b first.0 p v (xs ++ ys) o first.1 (IsNarrowed-append xs ys first.0 d o first.2 others)

-- what a call narrowed that was refused
pub IsNarrowed-refused : (values : Values) (b x : ParamBox) (r : Result (Unit {0}) Empty) (e : Empty) → r ≡ Err e → IsNarrowed b values None
    → IsNarrowed b values (space_left r x)
IsNarrowed-refused values b x r e is none = subst (λ (q : Result (Unit {0}) Empty). IsNarrowed b values (space_left q x)) (sym is) none

-- a choice from what values leave of the card's space, or that they leave nothing
pub IsChosen-narrowed : (card : CardLine) (values : Values) (w d : ParamBox) (r : Result Config Empty) → w ≡ widest card.channels card.rate card.ring
    → IsNarrowed w values (Some d) → IsChoice d card.period r → IsChosen card values r
IsChosen-narrowed card values w d (Ok c) is narrow choice = (d, subst (λ (x : ParamBox). IsNarrowed x values (Some d)) is narrow, choice)
IsChosen-narrowed card values w d (Err e) is narrow choice = inr (d, subst (λ (x : ParamBox). IsNarrowed x values (Some d)) is narrow, choice)

pub IsChosen-nothing : (card : CardLine) (values : Values) (w : ParamBox) (r : Result Config Empty) (e : Empty) → w ≡ widest card.channels card.rate card.ring
    → r ≡ Err e → IsNarrowed w values None → IsChosen card values r
IsChosen-nothing card values w r e is refused none =
    subst (IsChosen card values) (sym refused) (inl (subst (λ (x : ParamBox). IsNarrowed x values None) is none))
