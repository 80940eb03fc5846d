-- A call by a handle, from the call by what it stands for.
use Rattle.dmix_c.specs.Prelude.{ap, subst, sym, ℤ, ◌∙◌, ◌≡◌, Option, Some, Opened}

-- of any relation of what a handle stands for before and after: `was` was taken from it, and `given` put back
pub handed : (Does : Option Opened → Option Opened → ℤ → Type 0) {before after : Option Opened} {taken seen given : Opened} (was : Opened) {answer said : ℤ}
    → before ≡ Some taken → seen ≡ taken → seen ≡ was → after ≡ Some given → said ≡ answer → Does (Some was) (Some given) answer → Does before after said
handed Does {before} {after} {given = given} was {answer} is_taken is_seen is_was is_given is_said does =
    subst (λ (z : ℤ). Does before after z) (sym is_said)
    (subst (λ (h : Option Opened). Does before h answer) (sym is_given)
    (subst (λ (h : Option Opened). Does h (Some given) answer) (ap (λ (o : Opened). Some o) (sym is_was ∙ is_seen) ∙ sym is_taken) does))

-- and of what it was before a call, and is afterwards
pub called : (Does : Option Opened → Option Opened → ℤ → Type 0) (before after was given : Opened) (answer said : ℤ)
    → before ≡ was → after ≡ given → said ≡ answer → Does (Some was) (Some given) answer → Does (Some before) (Some after) said
called Does before after was given answer said is_was is_given is_said does =
    subst (λ (z : ℤ). Does (Some before) (Some after) z) (sym is_said)
    (subst (λ (o : Opened). Does (Some before) (Some o) answer) (sym is_given)
    (subst (λ (o : Opened). Does (Some o) (Some given) answer) (sym is_was) does))

-- what was asked was answered
pub answered : {R X : Type 0} (Does : R → X → X → ℤ → Type 0) (asked was : R) (p q : X) (answer said : ℤ) → asked ≡ was → said ≡ answer → Does was p q answer
    → Does asked p q said
answered {R} Does asked was p q answer said is is_said does =
    subst (λ (z : ℤ). Does asked p q z) (sym is_said) (subst (λ (r : R). Does r p q answer) (sym is) does)
