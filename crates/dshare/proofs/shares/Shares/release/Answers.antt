use Rattle.std.proofs.Common.{◌≡◌, ap, ◌∙◌, false}
use Rattle.dshare.specs.Shared.{Ownership, with_value_at, with_later_at}
use Rattle.dshare.proofs.Laws.{StandsFor-released}
use Rattle.dshare.proofs.shares.Shares.release.Goals as goal

pub returns-clause-released : goal.returns-clause-released
returns-clause-released c = λ h stands.
    let both : c.raise.new.self ≡ record c.args.self.now { owned = with_value_at false c.args.self.now.owned c.args.bindings.now; last = with_later_at c.args.last c.args.self.now.last c.args.bindings.now } =
    c.raise.ensures ∙ ap (λ (v : Ownership). record v { last = with_later_at c.args.last v.last c.args.bindings.now }) c.mark.ensures.marked
    in
    StandsFor-released c.args.self.now c.raise.new.self h c.args.bindings.now c.args.last c.mark.ensures.bound both stands
