use Rattle.dmix_client.specs.Prelude.{ap, refl, subst, sym, ℕ, ◌∙◌, ◌≡◌, ◌≤◌, Err, min, Cursor, Running, Marks, TakesAt, rewindable_of, takes_back, IsGoing}
use Rattle.dmix_client.proofs.CallLaws.{both}
use Rattle.dmix_client.proofs.Going.{OnOk-of, ok-of}
use Rattle.dmix_client.proofs.Rewinding.{few-of, checks-kept, rewinds-by, rewinds-kept, standing-checked}
use Rattle.dmix_client.proofs.Withdrawing.{HoldsBy}
use Rattle.dmix_client.proofs.rewind.rewind_running.Goals as goal

pub returns-in-Err : goal.returns-in-Err
returns-in-Err g c =
    let s = both c.args.port.now c.args.gate.now in
    let t = both c.check-checked.new.port c.check-checked.new.gate in
    let port = g.P.MixPort in
    let holds : HoldsBy port = assumption g.met.P.MixPort in
    let takes = rewinds-by port g.G.Gate holds s t t c.args.stream.now c.args.ring.now (port.view c.args.port.now).marks.floor c.args.frames
    (c.check-checked.new.stream, c.check-checked.result) (c.check-checked.new.stream, Err c.in-Err.error) c.check-checked.ensures
    (rw c.in-Err.is (record { there = refl; result = refl })) in
    let kept = rewinds-kept port g.G.Gate holds s t c.args.stream.now c.args.ring.now c.args.frames _ c.requires.sound c.requires.running c.requires.unstopped
    c.requires.port takes in
    record { takes = takes; keeps = kept.keeps; explains = kept.explains }

pub take_back-requires : goal.take_back-requires
take_back-requires g c =
    let s = both c.args.port.now c.args.gate.now in
    let t = both c.check-checked.new.port c.check-checked.new.gate in
    let port = g.P.MixPort in
    let d = c.check-checked.new.stream in
    let floor = (port.view c.args.port.now).marks.floor in
    let holds : HoldsBy port = assumption g.met.P.MixPort in
    let ok = ok-of c.check-checked.result c.in_default.not-Err in
    let checked = checks-kept port g.G.Gate g.met.P.MixPort.laid_composes g.met.P.MixPort.loaded_composes s t c.args.stream.now c.args.ring.now
    (d, c.check-checked.result)
    c.requires.sound c.requires.running c.requires.unstopped c.requires.port c.check-checked.ensures in
    let same : (port.view c.check-checked.new.port).marks.floor ≡ floor = ap (λ (x : Marks). x.floor) checked.marks in
    let is : c.rewindable-rewindable.result ≡ rewindable_of floor d = c.rewindable-rewindable.ensures ∙ ap (λ (x : Cursor). rewindable_of x d)
    c.floor-floor.ensures.value in
    record {
      sound = checked.keeps.sound;
      running = OnOk-of c.check-checked.result (d.status.state ≡ Running) ok checked.runs;
      unstopped = (OnOk-of c.check-checked.result (IsGoing d) ok checked.goes).unstopped;
      port = checked.keeps.port;
      few = subst (λ (x : Cursor). c.min.result ≤ rewindable_of x d) (sym same) (subst (λ (k : ℕ). c.min.result ≤ k) is
          (subst (λ (k : ℕ). k ≤ c.rewindable-rewindable.result) (sym c.min.ensures) (few-of c.args.frames c.rewindable-rewindable.result)));
      standing = standing-checked port g.G.Gate holds s t c.args.stream.now c.args.ring.now (d, c.check-checked.result) checked c.requires.standing;
    }

pub returns : goal.returns
returns g c =
    let G = g.G.Gate in
    let s = both c.args.port.now c.args.gate.now in
    let t = both c.check-checked.new.port c.check-checked.new.gate in
    let u = both c.take_back.new.port c.take_back.new.gate in
    let port = g.P.MixPort in
    let d = c.check-checked.new.stream in
    let floor = (port.view c.args.port.now).marks.floor in
    let holds : HoldsBy port = assumption g.met.P.MixPort in
    let is : c.min.result ≡ min c.args.frames (rewindable_of floor d) = c.min.ensures ∙ ap (λ (k : ℕ). min c.args.frames k)
    (c.rewindable-rewindable.ensures ∙ ap (λ (x : Cursor). rewindable_of x d) c.floor-floor.ensures.value) in
    let takes = rewinds-by port G holds s t u c.args.stream.now c.args.ring.now floor c.args.frames
    (d, c.check-checked.result) (c.take_back.new.stream, c.take_back.result) c.check-checked.ensures
    (rw (ok-of c.check-checked.result c.in_default.not-Err)
    (subst (λ (k : ℕ). TakesAt port G t (takes_back d c.args.ring.now k) u (c.take_back.new.stream, c.take_back.result)) is c.take_back.ensures)) in
    let kept = rewinds-kept port G holds s u c.args.stream.now c.args.ring.now c.args.frames _ c.requires.sound c.requires.running c.requires.unstopped
    c.requires.port takes in
    record { takes = takes; keeps = kept.keeps; explains = kept.explains }
