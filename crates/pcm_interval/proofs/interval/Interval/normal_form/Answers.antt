-- An integer interval gets closed ends, and another is integer where it is a point.
use Rattle.pcm_interval.specs.Prelude.{ap, sym, ◌∙◌, Bool, Interval, is_point-ends, normal_form-fraction, normal_form-integer}
use Rattle.pcm_interval.proofs.interval.Interval.normal_form.Goals as goal

pub returns-then-self : goal.returns-then-self
returns-then-self c = c.with_ends_closed.ensures ∙ sym (normal_form-integer c.args.self.now c.requires c.if-self.true)

pub returns : goal.returns
returns c =
    let interval : Interval = c.args.self.now in
    sym (normal_form-fraction interval c.requires c.if-self.false ∙ ap (λ (v : Bool). record interval { integer = v }) (is_point-ends interval c.requires))
