use Rattle.std.proofs.Common.{◌≡◌, ◌<◌, true, false, if◌then◌else◌, Some, None, sym, ap, subst, ◌∙◌, arith}
use Rattle.std.specs.List.{flat_map, list_any}
use Rattle.std.proofs.lemmas.List.Elements.{recursion_from_All}
use Rattle.snd_base.specs.declared.errors.PcmError.TheVariants.{Busy}
use Rattle.dshare.specs.Owners.{any_owned, position_past, greatest, last_frames}
use Rattle.dshare.specs.Shared.{is_owned, latest_of}
use Rattle.dshare.proofs.Laws.{AreOwned-marked, AreFree-before, AreFree-from, AreFree-unowned, IsBefore, StandsFor-claimed, any_owned-is, behind-is, latest_of-is}
use Rattle.dshare.proofs.shares.Shares.claim.Goals as goal
use Rattle.dshare.proofs.shares.Shares.claim.Goals.{in-Some+else-last-position, in_default}

pub returns-then-any_owned-clause-busy : goal.returns-then-any_owned-clause-busy
returns-then-any_owned-clause-busy c = λ h stands.
    let owned : any_owned h c.args.bindings.now ≡ true = sym (any_owned-is c.args.self.now h c.args.bindings.now stands (recursion_from_All (λ k. k < c.args.self.now.channels) c.args.bindings.now c.requires)) ∙ (sym c.any_owned.ensures ∙ c.if-any_owned.true) in
    sym (ap (λ b. Busy (if b then None else position_past (greatest (flat_map (last_frames h) c.args.bindings.now))) c.args.position) owned)

pub returns-then-any_owned-clause-not_free : goal.returns-then-any_owned-clause-not_free
returns-then-any_owned-clause-not_free c = λ h stands free.
    let unowned : list_any (is_owned c.args.self.now) c.args.bindings.now ≡ false = AreFree-unowned c.args.self.now h c.args.position c.args.bindings.now stands (recursion_from_All (λ k. k < c.args.self.now.channels) c.args.bindings.now c.requires) free in
    let owned : list_any (is_owned c.args.self.now) c.args.bindings.now ≡ true = sym c.any_owned.ensures ∙ c.if-any_owned.true in
    cc

pub returns-then-last-position-clause-busy : goal.returns-then-last-position-clause-busy
returns-then-last-position-clause-busy c = λ h stands.
    let unowned : any_owned h c.args.bindings.now ≡ false = sym (any_owned-is c.args.self.now h c.args.bindings.now stands (recursion_from_All (λ k. k < c.args.self.now.channels) c.args.bindings.now c.requires)) ∙ (sym c.any_owned.ensures ∙ c.if-any_owned.false) in
    let last : latest_of c.args.self.now c.args.bindings.now ≡ Some c.in-Some.last = sym c.latest.ensures ∙ c.in-Some.is in
    let all : greatest (flat_map (last_frames h) c.args.bindings.now) ≡ Some c.in-Some.last = sym (latest_of-is c.args.self.now h c.args.bindings.now stands (recursion_from_All (λ k. k < c.args.self.now.channels) c.args.bindings.now c.requires)) ∙ last in
    ap (λ o. Busy o c.args.position) (behind-is c.checked_add.result c.in-Some.last c.checked_add.ensures ∙ ap position_past (sym all))
    ∙ sym (ap (λ b. Busy (if b then None else position_past (greatest (flat_map (last_frames h) c.args.bindings.now))) c.args.position) unowned)

pub returns-then-last-position-clause-not_free : goal.returns-then-last-position-clause-not_free
returns-then-last-position-clause-not_free c = λ h stands free.
    let last : latest_of c.args.self.now c.args.bindings.now ≡ Some c.in-Some.last = sym c.latest.ensures ∙ c.in-Some.is in
    let before : c.in-Some.last < c.args.position = subst (λ o. IsBefore o c.args.position) last (AreFree-before c.args.self.now h c.args.position c.args.bindings.now stands (recursion_from_All (λ k. k < c.args.self.now.channels) c.args.bindings.now c.requires) free) in
    absurd (omega (arith, before, c.if-last-position.true))

pub returns-clause-free : goal.returns-clause-free
returns-clause-free c = λ h stands.
    let unowned : list_any (is_owned c.args.self.now) c.args.bindings.now ≡ false = sym c.any_owned.ensures ∙ c.if-any_owned.false in
    let before : IsBefore (latest_of c.args.self.now c.args.bindings.now) c.args.position = elim c.match-latest.branch [
      | in-Some+else-last-position w ↦ subst (λ o. IsBefore o c.args.position) (sym (sym c.latest.ensures ∙ w.in-Some.is)) w.if-last-position.false
      | in_default w ↦ subst (λ o. IsBefore o c.args.position) (sym (sym c.latest.ensures ∙ w.in_default.is)) tt
    ] in
    AreFree-from c.args.self.now h c.args.position c.args.bindings.now stands (recursion_from_All (λ k. k < c.args.self.now.channels) c.args.bindings.now c.requires) unowned before

pub returns-clause-ok : goal.returns-clause-ok
returns-clause-ok c = λ h stands. StandsFor-claimed c.args.self.now c.mark.new.self h c.args.bindings.now c.mark.ensures.bound c.mark.ensures.marked stands

pub returns-clause-owned : goal.returns-clause-owned
returns-clause-owned c = AreOwned-marked c.args.self.now c.mark.new.self c.args.bindings.now c.mark.ensures.bound c.mark.ensures.marked c.requires
