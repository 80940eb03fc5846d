use Rattle.dmix_c.specs.Prelude.{refl, subst, ◌∙◌, ◌≡◌, false, Geometry, CaptureStream, configured_with, config_with, ReaderHasSetUp}
use Rattle.snoop_table.specs.Readers.{seat_view}
use Rattle.dsnoop_client.specs.View.{CanUse}
use Rattle.dmix_c.proofs.ReaderMaking.{CanUse-seen}
use Rattle.dmix_c.proofs.SettingUp.{SetsUp-keeps}
use Rattle.dmix_c.proofs.recording.Recording.hw_params.Goals as goal

pub set_up-requires : goal.set_up-requires
set_up-requires c = c.geometry-geometry.ensures ∙ c.args.self.now.usable.same_geometry

pub returns-clause-set_up : goal.returns-clause-set_up
returns-clause-set_up c =
    let p = c.args.self.now in
    subst (λ (g : Geometry). ReaderHasSetUp g p.rate c.args.params.now c.args.list.now p.reader c.set_up.new.reader c.set_up.result) c.geometry-geometry.ensures c.set_up.ensures

pub invariant_of-self : goal.invariant_of-self
invariant_of-self c =
    let p = c.args.self.now in
    let params = c.args.params.now in
    record {
      unstopped = SetsUp-keeps (λ (v : CaptureStream). v.status.stopped ≡ false) c.set_up.result c.set_up.ensures (λ bindings. p.unstopped) p.unstopped;
      usable = SetsUp-keeps (λ (v : CaptureStream). CanUse v (seat_view p.seat)) c.set_up.result c.set_up.ensures
          (λ bindings. CanUse-seen p.reader (configured_with p.reader (config_with params) bindings) (seat_view p.seat) refl refl p.usable) p.usable;
    }
