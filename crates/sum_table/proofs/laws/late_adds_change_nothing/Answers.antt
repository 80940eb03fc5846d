use Rattle.std.proofs.Common.{[]}
use Rattle.sum_table.proofs.Lates.{replies-late}
use Rattle.sum_table.proofs.laws.late_adds_change_nothing.Goals as goal

pub returns : goal.returns
returns c = λ g members h rs e legal late. replies-late g members [] h rs e legal late
