use Rattle.lab_places.specs.Prelude.{Err, Ok, refl, subst, sym, ℕ, ◌∙◌, StandsFor, with_claim, IsClaimed, IsHeldBy, share_of, shares_of}
use Rattle.lab_places.proofs.Opening.{IsLobby-same, Opens-attached, Opens-handed, Opens-undone}
use Rattle.lab_places.proofs.places.Places.open.Goals as goal

pub returns-in_err-claim-clause-opens : goal.returns-in_err-claim-clause-opens
returns-in_err-claim-clause-opens c number held held_by =
    let refused = subst (λ (n : ℕ). IsClaimed (share_of c.args.self.now) held.claims c.args.bindings.now n (Err c.in_err-claim.field-0.0) (shares_of c.claim.new.self)) c.position.ensures.value
    (c.in_err-claim.ensures.claims held.claims held_by.claims) in
    Opens-handed (share_of c.args.self.now) number c.args.bindings.now _ held c.in_err-claim.field-0.0 c.from_residual.result c.claim.new.self c.from_residual.ensures.1
    refused (subst (λ p. IsHeldBy p held) (sym c.in_err-claim.ensures.refused) held_by)

pub returns-then-is_err-clause-opens : goal.returns-then-is_err-clause-opens
returns-then-is_err-clause-opens c number held held_by =
    let granted = subst (λ (n : ℕ). IsClaimed (share_of c.args.self.now) held.claims c.args.bindings.now n (Ok c.in_ok-claim.field-0) (shares_of c.claim.new.self)) c.position.ensures.value
    (c.in_ok-claim.ensures.claims held.claims held_by.claims) in
    Opens-undone (share_of c.args.self.now) number c.args.bindings.now _ held c.attach-attached.result c.attach-attached.new.self _ refl (sym c.is_err.ensures.value ∙ c.if-is_err.true)
    granted.0 (c.attach-attached.ensures.attaches number held.lobby (IsLobby-same c.args.self.now c.claim.new.self held.lobby c.claim.ensures.same.lobby held_by.lobby)) held_by.claims

pub returns-else-is_err-clause-opens : goal.returns-else-is_err-clause-opens
returns-else-is_err-clause-opens c number held held_by =
    let granted = subst (λ (n : ℕ). IsClaimed (share_of c.args.self.now) held.claims c.args.bindings.now n (Ok c.in_ok-claim.field-0) (shares_of c.claim.new.self)) c.position.ensures.value
    (c.in_ok-claim.ensures.claims held.claims held_by.claims) in
    Opens-attached (share_of c.args.self.now) number c.args.bindings.now _ held c.attach-attached.result c.attach-attached.new.self (sym c.is_err.ensures.value ∙ c.if-is_err.false)
    granted.0 (c.attach-attached.ensures.attaches number held.lobby (IsLobby-same c.args.self.now c.claim.new.self held.lobby c.claim.ensures.same.lobby held_by.lobby))
    (subst (λ v. StandsFor v (with_claim (share_of c.args.self.now) c.args.bindings.now held.claims)) (sym c.attach-attached.ensures.shares) granted.1)
