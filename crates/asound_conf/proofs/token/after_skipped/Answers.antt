use Rattle.asound_conf.specs.Prelude.{subst, sym, take_rest, IsSuffix}
use Rattle.asound_conf.proofs.Starts.{IsSuffix-drop, IsSuffix-self}
use Rattle.asound_conf.proofs.token.after_skipped.Goals as goal

pub returns-clause-suffix : goal.returns-clause-suffix
returns-clause-suffix c =
    let text = c.args.text.now in
    subst (IsSuffix text) (sym (take_rest text c.skipped_end.result)) (IsSuffix-drop text text c.skipped_end.result (IsSuffix-self text) c.skipped_end.ensures.within)
