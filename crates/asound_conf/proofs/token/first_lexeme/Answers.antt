use Rattle.asound_conf.specs.Prelude.{ap, arith, drop, length, subst, sym, ◌∙◌, ◌≤◌, take_rest, IsSuffix, token_end}
use Rattle.asound_conf.proofs.Starts.{IsBefore-first, IsSuffix-drop, IsSuffix-self}
use Rattle.asound_conf.proofs.token.first_lexeme.Goals as goal

pub returns-clause-before : goal.returns-clause-before
returns-clause-before c =
    let text = c.args.text.now in
    let end = c.token_at-end.ensures.end in
    let within : token_end text ≤ length text = omega (arith, end, c.token_at-end.ensures.within) in
    IsBefore-first text _ c.token_at-end.result.0 c.token_at-end.ensures.token (take_rest text c.token_at-end.result.1 ∙ ap (λ k. drop k text) end) within

pub returns-clause-suffix : goal.returns-clause-suffix
returns-clause-suffix c =
    let text = c.args.text.now in
    subst (IsSuffix text) (sym (take_rest text c.token_at-end.result.1)) (IsSuffix-drop text text c.token_at-end.result.1 (IsSuffix-self text) c.token_at-end.ensures.within)
