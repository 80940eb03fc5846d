use Rattle.dmix_client.specs.Prelude.{arith, length, refl, rules, subst, sym, ℕ, ◌-◌, run_entries, back_of, IsMoving, ring_sample}
use Rattle.dmix_client.proofs.CallLaws.{both}
use Rattle.dmix_client.proofs.Rewinding.{IsBack, IsBack-of, held-last, left-few, left-part, take_frames-took, takes_back-by}
use Rattle.dmix_client.proofs.Withdrawing.{HoldsBy}
use Rattle.dmix_client.proofs.rewind.take_back.Goals as goal

pub take_frames-left-requires-clause-held : goal.take_frames-left-requires-clause-held
take_frames-left-requires-clause-held g c =
    let port = g.P.MixPort in
    let d = c.args.stream.now in
    let floor = (port.view c.args.port.now).marks.floor in
    let m : IsMoving d = c.requires.sound.moving (rw c.requires.running refl) c.requires.unstopped in
    let is : IsBack d floor c.args.frames = IsBack-of d floor c.args.frames m c.requires.few in
    subst (λ (b : ℕ). port.ends_in c.args.port.now (run_entries d.identity.member d.setup.bindings (ring_sample d c.args.ring.now) d.stretch.card
    (d.stretch.committed - b) b 0)) (sym c.back.ensures)
    (g.met.P.MixPort.ends_in_part c.args.port.now _ _ (subst (port.ends_in c.args.port.now)
    (held-last d c.args.ring.now floor c.args.frames m is) c.requires.standing))

pub rewound-requires : goal.rewound-requires
rewound-requires g c =
    let s = both c.args.port.now c.args.gate.now in
    let t = both c.take_frames-left.new.port c.take_frames-left.new.gate in
    let port = g.P.MixPort in
    let d = c.args.stream.now in
    let floor = (port.view c.args.port.now).marks.floor in
    let m : IsMoving d = c.requires.sound.moving (rw c.requires.running refl) c.requires.unstopped in
    let holds : HoldsBy port = assumption g.met.P.MixPort in
    let x = c.take_frames-left.result in
    let is = IsBack-of d floor c.args.frames m c.requires.few in
    let are = take_frames-took d c.args.ring.now floor c.args.frames c.requires.sound c.requires.running c.requires.unstopped is port g.G.Gate holds
    s t c.back.result x c.back.ensures refl c.requires.port c.take_frames-left.ensures in
    let few = left-few x.ended x.frames x.part (back_of d c.args.frames) (length d.setup.bindings) are in
    record {
      few = omega (arith, few.0);
      written = is.few;
      fed = omega (arith, c.requires.sound.fed);
      committed = few.0;
      back = is.back;
      fits = search rules;
      part = left-part x.ended x.frames x.part (back_of d c.args.frames) (length d.setup.bindings) are;
    }

pub returns : goal.returns
returns g c =
    let s = both c.args.port.now c.args.gate.now in
    let t = both c.take_frames-left.new.port c.take_frames-left.new.gate in
    let port = g.P.MixPort in
    let d = c.args.stream.now in
    let floor = (port.view c.args.port.now).marks.floor in
    let m : IsMoving d = c.requires.sound.moving (rw c.requires.running refl) c.requires.unstopped in
    let holds : HoldsBy port = assumption g.met.P.MixPort in
    takes_back-by d c.args.ring.now floor c.args.frames c.requires.sound c.requires.running c.requires.unstopped
    (IsBack-of d floor c.args.frames m c.requires.few) port g.G.Gate holds
    s t c.back.result c.take_frames-left.result (c.rewound.new.stream, c.rewound.result) c.back.ensures c.take_frames-left.ensures (sym c.rewound.ensures)
