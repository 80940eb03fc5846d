use Rattle.dmix_c.specs.Prelude.{refl, subst, ◌∙◌, ◌≡◌, false, Geometry, seat_view, CanUse, ClientView, HasSetUp, set_up_with}
use Rattle.dmix_c.proofs.Making.{CanUse-resting}
use Rattle.dmix_c.proofs.SettingUp.{SetsUp-keeps}
use Rattle.dmix_c.proofs.playback.Playback.hw_params.Goals as goal

pub set_up-requires : goal.set_up-requires
set_up-requires c = c.geometry-geometry.ensures ∙ c.args.self.now.usable.same_geometry

pub returns-clause-set_up : goal.returns-clause-set_up
returns-clause-set_up c =
    let p = c.args.self.now in
    subst (λ (g : Geometry). HasSetUp g p.rate c.args.params.now c.args.list.now p.client c.set_up.new.client c.set_up.result) c.geometry-geometry.ensures c.set_up.ensures.set_up

pub invariant_of-self : goal.invariant_of-self
invariant_of-self c =
    let p = c.args.self.now in
    let params = c.args.params.now in
    record {
      unstopped = SetsUp-keeps (λ (v : ClientView). v.stream.status.stopped ≡ false) c.set_up.result c.set_up.ensures.set_up (λ bindings. p.unstopped) p.unstopped;
      usable = SetsUp-keeps (λ (v : ClientView). CanUse v.stream (seat_view p.seat)) c.set_up.result c.set_up.ensures.set_up
          (λ bindings. CanUse-resting p.client.stream (set_up_with p.client params bindings).stream (seat_view p.seat) refl refl p.usable) p.usable;
      backed = c.set_up.ensures.backed p.seat p.backed;
      own_way = p.own_way;
      has_room = p.has_room;
    }
