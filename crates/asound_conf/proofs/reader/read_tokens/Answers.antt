use Rattle.asound_conf.specs.Prelude.{ap, arith, length, List, subst, sym, ℕ, ◌<◌, ◌^◌, ◌∙◌, end_of_text, last_line, meaning, start, state_of, IsTokenAt}
use Rattle.asound_conf.specs.Prelude.{LineToken, token_of, tokens}
use Rattle.asound_conf.proofs.Readings.{meaning-next, meaning-nil, meaning-refused, Reads-along}
use Rattle.asound_conf.proofs.Starts.{IsBefore-suffix, IsSuffix-both, IsSuffix-self}
use Rattle.asound_conf.proofs.reader.read_tokens.Goals as goal

pub loop-lexeme-init : goal.loop-lexeme-init
loop-lexeme-init c =
    let text = c.args.text.now in
    record {
      means = ap (λ s. meaning s (last_line text) (tokens 0 1 text)) (sym c.in-Ok.ensures.start);
      bound = omega arith;
      suffix = IsSuffix-self text;
      valid = c.in-Ok.ensures.valid;
      text = c.in-Ok.ensures.text;
    }

pub start_of-start-requires : goal.start_of-start-requires
start_of-start-requires c = record {
  small = omega arith;
  before = IsBefore-suffix c.args.text.now c.loop-lexeme.rest.now c.in-Some.lexeme.rest.now c.in-Some.lexeme.token c.loop-lexeme.invariant.suffix c.in-Some.ensures.before;
}

pub take-requires : goal.take-requires
take-requires c = record {
  valid = c.loop-lexeme.invariant.valid;
  given = subst (λ (t : List ℕ). IsTokenAt t c.start_of-start.result c.in-Some.lexeme.token) (sym c.loop-lexeme.invariant.text) c.start_of-start.ensures;
}

pub returns-in-Err-take : goal.returns-in-Err-take
returns-in-Err-take c =
    let text = c.args.text.now in
    let s = state_of c.loop-lexeme.reading in
    let t : LineToken = record { line = c.in-Some.lexeme.line; token = token_of c.in-Some.lexeme.token } in
    let ts = tokens 0 c.in-Some.lexeme.line c.in-Some.lexeme.rest.now in
    meaning-refused c.in-Err-take.why s (last_line text) t ts (meaning start (last_line text) (tokens 0 1 text))
    (c.loop-lexeme.invariant.means ∙ ap (meaning s (last_line text)) c.in-Some.ensures.some) c.in-Err-take.ensures.leads

pub loop-lexeme-preserved : goal.loop-lexeme-preserved
loop-lexeme-preserved c =
    let text = c.args.text.now in
    let s = state_of c.loop-lexeme.reading in
    let t : LineToken = record { line = c.in-Some.lexeme.line; token = token_of c.in-Some.lexeme.token } in
    let ts = tokens 0 c.in-Some.lexeme.line c.in-Some.lexeme.rest.now in
    record {
      means = c.loop-lexeme.invariant.means ∙ ap (meaning s (last_line text)) c.in-Some.ensures.some
          ∙ meaning-next s (state_of c.take.new.self) (last_line text) t ts c.in_default-take.ensures.leads;
      bound = omega (arith, c.in-Some.ensures.shorter);
      suffix = IsSuffix-both text c.loop-lexeme.rest.now c.in-Some.lexeme.rest.now c.loop-lexeme.invariant.suffix c.in-Some.ensures.suffix;
      valid = c.in_default-take.ensures.valid;
      text = c.take.ensures.text ∙ c.loop-lexeme.invariant.text;
    }

pub finish-requires : goal.finish-requires
finish-requires c = subst (λ (t : List ℕ). length t < 2 ^ 31) (sym c.loop-lexeme.invariant.text) c.requires

pub returns : goal.returns
returns c =
    let text = c.args.text.now in
    let s = state_of c.loop-lexeme.reading in
    Reads-along c.finish.result (meaning start (last_line text) (tokens 0 1 text)) (end_of_text s (last_line c.loop-lexeme.reading.table.text) s.outer s.awaits)
    (c.loop-lexeme.invariant.means ∙ ap (meaning s (last_line text)) c.in_default.ensures.none ∙ meaning-nil s (last_line text) ∙ ap (λ (t : List ℕ). end_of_text s (last_line t) s.outer s.awaits) (sym c.loop-lexeme.invariant.text)) c.finish.ensures
