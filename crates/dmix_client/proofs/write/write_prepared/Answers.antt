use Rattle.dmix_client.specs.Prelude.{arith, rules, subst, sym, ℕ, ◌≡◌, ◌≤◌, Err, IfOk, Ok, Result, PcmError, PlaybackStream, Follows, Keeps}
use Rattle.dmix_client.proofs.CallLaws.{both}
use Rattle.dmix_client.proofs.Keeping.{client, filled-kept, stored-kept}
use Rattle.dmix_client.proofs.write.write_prepared.Goals as goal

pub returns-then-stream-taken-clause-keeps : goal.returns-then-stream-taken-clause-keeps
returns-then-stream-taken-clause-keeps g c =
    let s = both c.args.port.now c.args.gate.now in
    let stream = c.args.stream.now in
    subst (λ (d : PlaybackStream). Keeps g.P.MixPort g.G.Gate s s (client stream c.args.ring.now) (client d c.store_taken.new.ring)
    (let r : Result ℕ PcmError = Ok c.taken_within-taken.result in r) (λ all. Follows stream all c.args.samples.now c.args.frames)) (sym c.accepted.ensures)
    (stored-kept g.P.MixPort g.G.Gate g.met.P.MixPort.laid_composes g.met.P.MixPort.loaded_composes s stream c.args.ring.now c.store_taken.new.ring
    c.args.samples.now c.args.frames c.taken_within-taken.result
    c.taken_within-taken.ensures c.store_taken.ensures.ring c.requires.sound c.store_taken.ensures.sound c.requires.prepared c.requires.held c.requires.port)

few : (r : Result ℕ PcmError) (m : ℕ) → m ≤ 16384 → IfOk r (λ k. k ≡ m) → IfOk r (λ k. k ≤ 16384)
few (Ok k) m low is = omega (arith, low, is)
few (Err e) m low is = tt

pub returns : goal.returns
returns g c =
    let s = both c.args.port.now c.args.gate.now in
    let t = both c.start_write.new.port c.start_write.new.gate in
    let kept = filled-kept g.P.MixPort g.G.Gate g.met.P.MixPort.laid_composes g.met.P.MixPort.loaded_composes s t c.args.stream.now c.args.ring.now
    c.store_taken.new.ring c.args.samples.now c.args.frames c.taken_within-taken.result
    (c.start_write.new.stream, c.start_write.result) c.taken_within-taken.ensures c.store_taken.ensures.ring c.requires.sound c.store_taken.ensures.sound
    c.requires.prepared c.requires.held c.start_write.ensures.near c.requires.port c.start_write.ensures.takes in
    record {
      takes = search rules;
      ring = search rules;
      sound = kept.keeps.sound;
      count = few c.start_write.result c.taken_within-taken.result (search rules) kept.count;
      keeps = kept.keeps;
      explains = λ starts. rw (← c.taken_within-taken.ensures) kept.explains;
    }
