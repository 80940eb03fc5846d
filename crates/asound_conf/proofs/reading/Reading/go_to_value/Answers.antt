use Rattle.asound_conf.specs.Prelude.{ap, value_place, state_of}
use Rattle.asound_conf.proofs.reading.Reading.go_to_value.Goals as goal

pub returns-in-Value-clause-place : goal.returns-in-Value-clause-place
returns-in-Value-clause-place c =
    let r = c.args.self.now in
    ap (λ awaits. value_place (state_of r) awaits r.here.array) c.in-Value.is
