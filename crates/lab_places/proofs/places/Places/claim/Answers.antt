use Rattle.lab_places.specs.Prelude.{subst, sym, IsClaimed, shares_of}
use Rattle.lab_places.proofs.Claiming.{claim-is}
use Rattle.lab_places.proofs.places.Places.claim.Goals as goal

pub returns-in-Dshare-clause-claims : goal.returns-in-Dshare-clause-claims
returns-in-Dshare-clause-claims c h stands =
    subst (λ sharing. IsClaimed sharing h c.args.bindings.now c.args.position c.claim.result c.claim.new.self) (sym c.in-Dshare.is)
    (claim-is h c.args.bindings.now c.args.position (shares_of c.args.self.now) c.claim.new.self c.claim.result
    (c.claims_are_of_owners.ensures h c.args.bindings.now c.args.position) stands c.claim.ensures.free c.claim.ensures.ok c.claim.ensures.busy c.claim.ensures.not_free)
