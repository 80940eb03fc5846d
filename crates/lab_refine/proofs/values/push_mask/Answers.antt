use Rattle.std.proofs.Common.{sym, ◌∙◌, arith}
use Rattle.lab_refine.proofs.MaskMembers.{Listing-none, Listing-member, Listing-other, Listing-all}
use Rattle.lab_refine.proofs.values.push_mask.Goals as goal
use Rattle.lab_refine.proofs.values.push_mask.Goals.{then-has_member+in_ok-push_number, else-has_member}

pub loop-number-init : goal.loop-number-init
loop-number-init c = Listing-none c.args.mask.now _

pub loop-number-preserved : goal.loop-number-preserved
loop-number-preserved c =
    elim c.if-has_member.branch [
      | then-has_member+in_ok-push_number w ↦
          rw (w.text-is, w.first-is)
          (Listing-member c.args.mask.now _ _ _ _ _ c.loop-number.invariant
          (sym w.if-has_member.true ∙ c.has_member.ensures) w.in_ok-push_number.ensures)
      | else-has_member w ↦
          rw (w.text-is, w.first-is)
          (Listing-other c.args.mask.now _ _ _ _ c.loop-number.invariant (sym w.if-has_member.false ∙ c.has_member.ensures))
    ]

pub returns : goal.returns
returns c = Listing-all c.args.mask.now _ _ c.loop-number.first c.loop-number.number c.loop-number.invariant (omega arith)
