use Rattle.std.proofs.Common.{string_bytes}
use Rattle.lab_refine.proofs.MaskMembers.{Listing}
use Rattle.lab_refine.proofs.values.push_mask.Given as goal

abbrev pub invariant-loop-number : goal.invariant-loop-number
invariant-loop-number l = Listing l.mask (string_bytes l.fn.text) (string_bytes l.text) l.first l.number
