use Rattle.lab_actors.specs.Prelude.{◌++◌, ◌∷◌, err_from_is_err_and, None, BufferSize, Channels, PeriodSize, Rate, space_left, value_if, values_of}
use Rattle.lab_actors.proofs.Narrowings.{IsNarrowed-append, IsNarrowed-fails, IsNarrowed-goes, IsNarrowed-none, IsNarrowed-refused}
use Rattle.lab_actors.proofs.configuration.narrow.Goals as goal

pub returns-in_err-set-2 : goal.returns-in_err-set-2
returns-in_err-set-2 c =
    let wanted = c.args.wanted.now in
    let keys = value_if PeriodSize wanted.period ++ value_if BufferSize wanted.buffer in
    let p = err_from_is_err_and c.from_residual-in_err-set-2.result c.from_residual-in_err-set-2.ensures.1 in
    IsNarrowed-refused (values_of wanted.channels wanted.rate wanted.period wanted.buffer) c.args.space.now c.set-2.new.self c.from_residual-in_err-set-2.result p.0 p.1
    (IsNarrowed-goes c.args.space.now c.set.new.self Channels wanted.channels ((Rate, wanted.rate) ∷ keys) None c.in_ok-set.ensures.left
    (IsNarrowed-fails c.set.new.self Rate wanted.rate keys c.in_err-set-2.ensures.left))

pub returns-in_err-set_if : goal.returns-in_err-set_if
returns-in_err-set_if c =
    let wanted = c.args.wanted.now in
    let keys = value_if PeriodSize wanted.period ++ value_if BufferSize wanted.buffer in
    let p = err_from_is_err_and c.from_residual-in_err-set_if.result c.from_residual-in_err-set_if.ensures.1 in
    IsNarrowed-refused (values_of wanted.channels wanted.rate wanted.period wanted.buffer) c.args.space.now c.set_if.new.space c.from_residual-in_err-set_if.result p.0 p.1
    (IsNarrowed-goes c.args.space.now c.set.new.self Channels wanted.channels ((Rate, wanted.rate) ∷ keys) None c.in_ok-set.ensures.left
    (IsNarrowed-goes c.set.new.self c.set-2.new.self Rate wanted.rate keys None c.in_ok-set-2.ensures.left
    (IsNarrowed-none (value_if PeriodSize wanted.period) (value_if BufferSize wanted.buffer) c.set-2.new.self c.in_err-set_if.ensures)))

pub returns : goal.returns
returns c =
    let wanted = c.args.wanted.now in
    let keys = value_if PeriodSize wanted.period ++ value_if BufferSize wanted.buffer in
    let left = space_left c.set_if-2.result c.set_if-2.new.space in
    IsNarrowed-goes c.args.space.now c.set.new.self Channels wanted.channels ((Rate, wanted.rate) ∷ keys) left c.in_ok-set.ensures.left
    (IsNarrowed-goes c.set.new.self c.set-2.new.self Rate wanted.rate keys left c.in_ok-set-2.ensures.left
    (IsNarrowed-append (value_if PeriodSize wanted.period) (value_if BufferSize wanted.buffer) c.set-2.new.self c.set_if.new.space left
    c.in_ok-set_if.ensures c.set_if-2.ensures))
