-- What tokens mean, one by one.
use Rattle.asound_conf.specs.Prelude.{ap, arith, Err, length, List, Ok, refl, Result, subst, sym, ℕ, [], ◌<◌, ◌∙◌, ◌∷◌, ◌≡◌, Awaits, ConfWhy, Refuses}
use Rattle.asound_conf.specs.Prelude.{after_token, Bracket, end_of_text, meaning, State, step, Reads, RefusesText, LineToken, Entries}
use Rattle.asound_conf.specs.declared.error.ConfError.{ConfError}
use Rattle.asound_conf.specs.declared.error.ConfWhy.TheVariants as why

-- after a token that leads on
pub meaning-next : (s next : State) (last : ℕ) (t : LineToken) (ts : List LineToken) → step s t.line t.token ≡ Ok next → meaning s last (t ∷ ts) ≡ meaning next last ts
unfolding meaning
meaning-next s next last t ts leads = ap (λ r. after_token t.line r (λ n. meaning n last ts)) leads

-- at the end
pub meaning-nil : (s : State) (last : ℕ) → meaning s last [] ≡ end_of_text s last s.outer s.awaits
unfolding meaning
meaning-nil s last = refl

refused-by : (cause : ConfWhy) (line : ℕ) (r : Result State ConfWhy) (more : State → Result Entries ConfError) (given : Result Entries ConfError) → given ≡ after_token line r more → Refuses cause r → RefusesText cause (record { line = line; why = cause }) given
refused-by why.Memory line r more given is refuses = tt
refused-by cause line r more given is refuses = is ∙ ap (λ x. after_token line x more) refuses

-- a token that is refused is the first defect
pub meaning-refused : (cause : ConfWhy) (s : State) (last : ℕ) (t : LineToken) (ts : List LineToken) (given : Result Entries ConfError) → given ≡ meaning s last (t ∷ ts) → Refuses cause (step s t.line t.token) → RefusesText cause (record { line = t.line; why = cause }) given
unfolding meaning
meaning-refused cause s last t ts given is refuses = refused-by cause t.line (step s t.line t.token) (λ n. meaning n last ts) given is refuses

-- what was read is what is given
pub Reads-along : (result given other : Result Entries ConfError) → given ≡ other → Reads result other → Reads result given
Reads-along result given other same reads = subst (λ g. Reads result g) (sym same) reads

-- at a text's end within a bracket
pub end_of_text-open : (s : State) (last : ℕ) (outer : List Bracket) (awaits : Awaits) → 0 < length outer → end_of_text s last outer awaits ≡ Err (record { line = s.here.line; why = why.Unclosed })
end_of_text-open s last [] awaits some = absurd (omega (arith, some))
end_of_text-open s last (around ∷ outer) awaits some = refl
