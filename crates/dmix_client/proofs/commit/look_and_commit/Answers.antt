use Rattle.dmix_client.specs.Prelude.{ap, refl, rules, subst, ◌∙◌, Some, load_of, PortView, LoadsAt, sync_count, TakesAt-looks}
use Rattle.dmix_client.proofs.CallLaws.{both}
use Rattle.dmix_client.proofs.Looking.{looks-none, looks-some}
use Rattle.dmix_client.proofs.Readiness.{IsOnCard-configured}
use Rattle.dmix_client.proofs.Sound.{configured-moving}
use Rattle.dmix_client.proofs.commit.look_and_commit.Goals as goal

pub returns-in_default-clause-takes : goal.returns-in_default-clause-takes
returns-in_default-clause-takes g c =
    let s = both c.args.port.now c.args.gate.now in
    let t = both c.position.new.self c.position.new.gate in
    looks-none g.P.MixPort g.G.Gate s t (λ position. c.args.stream.now) (sync_count c.args.stream.now) c.args.ring.now
    (subst (λ r. LoadsAt g.P.MixPort g.G.Gate s (load_of r) t) c.in_default.is c.position.ensures.step)

pub returns-clause-takes : goal.returns-clause-takes
returns-clause-takes g c =
    let s = both c.args.port.now c.args.gate.now in
    let t = both c.position.new.self c.position.new.gate in
    let u = both c.lay_frames-commit.new.port c.lay_frames-commit.new.gate in
    looks-some g.P.MixPort g.G.Gate s t u (λ position. c.args.stream.now) (sync_count c.args.stream.now) c.args.ring.now
    c.in-Ok.position c.args.stream.now c.sync_count-count.result c.lay_frames-commit.result refl c.sync_count-count.ensures
    (subst (λ r. LoadsAt g.P.MixPort g.G.Gate s (load_of r) t) c.in-Ok.is c.position.ensures.step) c.lay_frames-commit.ensures

pub returns-clause-found : goal.returns-clause-found
returns-clause-found g c =
    let s = both c.args.port.now c.args.gate.now in
    let t = both c.lay_frames-commit.new.port c.lay_frames-commit.new.gate in
    (TakesAt-looks g.P.MixPort g.G.Gate g.met.P.MixPort.laid_composes g.met.P.MixPort.loaded_composes (λ position. c.args.stream.now)
    (sync_count c.args.stream.now) c.args.ring.now c.args.stream.now.setup.bindings
    s t (Some c.in-Ok.position) c.lay_frames-commit.result
    (configured-moving c.args.stream.now c.args.ring.now c.requires.sound c.requires.moving).bound (λ position. refl) (returns-clause-takes g c)).found

pub lay_frames-commit-requires : goal.lay_frames-commit-requires
lay_frames-commit-requires g c = record {
  can_add = ap (λ (v : PortView). v.can_add) c.in-Ok.ensures.step.view_is ∙ c.requires.port.can;
  member = ap (λ (v : PortView). v.member) c.in-Ok.ensures.step.view_is ∙ c.requires.port.same_member;
  bound = IsOnCard-configured c.args.stream.now c.args.ring.now (g.P.MixPort.view c.position.new.self).geometry
      (configured-moving c.args.stream.now c.args.ring.now c.requires.sound c.requires.moving)
      (ap (λ (v : PortView). v.geometry) c.in-Ok.ensures.step.view_is ∙ c.requires.port.same_geometry);
  buffer = (configured-moving c.args.stream.now c.args.ring.now c.requires.sound c.requires.moving).buffer_least;
  room = (configured-moving c.args.stream.now c.args.ring.now c.requires.sound c.requires.moving).room;
  from_cursor = search rules;
  ahead = search rules;
}
