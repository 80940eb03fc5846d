use Rattle.std.proofs.Common.{arith}
use Rattle.asound_conf.proofs.Changes.{bytes_eq-numbers}
use Rattle.asound_conf.proofs.table.is_same_number.Goals as goal

pub returns : goal.returns
returns c = bytes_eq-numbers c.args.number c.args.other (omega arith) (omega arith)
