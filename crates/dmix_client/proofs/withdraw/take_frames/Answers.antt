use Rattle.dmix_client.specs.Prelude.{ap, arith, length, subst, sym, ℕ, ◌++◌, ◌+◌, ◌-◌, ◌∙◌, ◌≡◌, append-nil, Geometry, Cursor, IsFrom, Ended, Whole, PortView}
use Rattle.dmix_client.specs.Prelude.{TakesAt, Commit, frame_entries, run_entries, IsOnCard, least_channel, take_each, take_frames, ring_sample}
use Rattle.dmix_client.proofs.CallLaws.{both}
use Rattle.dmix_client.proofs.Withdrawing.{BackFrames-all, BackFrames-ended, BackFrames-next, HoldsBy, TakesAt-took, stands-run}
use Rattle.dmix_client.proofs.withdraw.take_frames.Goals as goal

pub take_frame-left-requires-clause-held : goal.take_frame-left-requires-clause-held
take_frame-left-requires-clause-held g c =
    let stream = c.args.stream.now in
    let first : ℕ = stream.stretch.committed - c.args.count in
    let n : ℕ = c.loop-frame.frame - 1 in
    g.met.P.MixPort.ends_in_part c.loop-frame.port (run_entries stream.identity.member stream.setup.bindings (ring_sample stream c.args.ring.now)
    stream.stretch.card first n 0) _
    (stands-run g.P.MixPort.ends_in c.loop-frame.port stream.identity.member stream.setup.bindings (ring_sample stream c.args.ring.now) stream.stretch.card
    first n c.loop-frame.frame (omega (arith, c.loop-frame-test.true)) c.loop-frame.invariant.stand)

pub loop-frame-preserved : goal.loop-frame-preserved
loop-frame-preserved g c =
    let G = g.G.Gate in
    let t = both c.loop-frame.port c.loop-frame.gate in
    let u = both c.take_frame-left.new.port c.take_frame-left.new.gate in
    let port = g.P.MixPort in
    let stream = c.args.stream.now in
    let before = c.loop-frame.invariant in
    let first : ℕ = stream.stretch.committed - c.args.count in
    let n : ℕ = c.loop-frame.frame - 1 in
    let counted : c.loop-frame.frame ≡ n + 1 = omega (arith, c.loop-frame-test.true) in
    let samples = ring_sample stream c.args.ring.now in
    let step : TakesAt port G t (take_each stream.identity.member (stream.stretch.card + (first + n)) stream.setup.bindings (samples (first + n))
    (length stream.setup.bindings)) u (c.take_frame-left.result.channels, Whole) =
    subst (λ (e : Ended). TakesAt port G t (take_each stream.identity.member (stream.stretch.card + (first + n)) stream.setup.bindings (samples (first + n))
    (length stream.setup.bindings)) u (c.take_frame-left.result.channels, e)) c.in-Whole.is c.take_frame-left.ensures in
    let holds : HoldsBy port = assumption g.met.P.MixPort in
    let floor : IsFrom (port.view c.loop-frame.port).marks.floor (stream.stretch.card + first) (least_channel stream.setup.bindings) = before.from_floor
    (omega (arith, before.few, c.loop-frame-test.true)) in
    let took = TakesAt-took port G holds stream.identity.member (stream.stretch.card + (first + n)) stream.setup.bindings (samples (first + n))
    (length stream.setup.bindings) t u
    c.take_frame-left.result.channels Whole before.bound.bound (omega arith) before.member (omega (arith, floor)) step in
    record {
      member = ap (λ (v : PortView). v.member) took.view_is ∙ before.member;
      bound = subst (λ (x : Geometry). IsOnCard stream.setup.bindings x) (sym (ap (λ (v : PortView). v.geometry) took.view_is)) before.bound;
      from_floor = λ some. subst (λ (x : Cursor). IsFrom x (stream.stretch.card + first) (least_channel stream.setup.bindings)) (sym took.same_floor) floor;
      few = omega (arith, before.few);
      stand = subst (port.ends_in c.take_frame-left.new.port) (ap (λ (k : ℕ). run_entries stream.identity.member stream.setup.bindings samples
          stream.stretch.card first n 0 ++ frame_entries stream.identity.member stream.setup.bindings (samples (first + n)) k
          (stream.stretch.card + (first + n))) took.is_left ∙ append-nil _)
          (took.away.held (run_entries stream.identity.member stream.setup.bindings samples stream.stretch.card first n 0)
          (stands-run port.ends_in c.loop-frame.port stream.identity.member stream.setup.bindings samples stream.stretch.card first n
          c.loop-frame.frame counted before.stand));
      takes = BackFrames-next c.take_frame-left.result.channels counted before.takes step;
    }

pub returns-in_default : goal.returns-in_default
returns-in_default g c =
    let s = both c.args.port.now c.args.gate.now in
    let t = both c.take_frame-left.new.port c.take_frame-left.new.gate in
    let port = g.P.MixPort in
    let stream = c.args.stream.now in
    let first : ℕ = stream.stretch.committed - c.args.count in
    let n : ℕ = c.loop-frame.frame - 1 in
    subst (λ (x : Commit). TakesAt port g.G.Gate s (take_frames stream.identity.member stream.stretch.card stream.setup.bindings
    (ring_sample stream c.args.ring.now) first c.args.count) t x)
    (let e = c.left_of.ensures in let l = c.len-channels.ensures.value in cc)
    (BackFrames-ended t n c.take_frame-left.result.channels c.take_frame-left.result.ended (omega (arith, c.loop-frame-test.true)) c.in_default.not-Whole
    c.loop-frame.invariant.takes c.take_frame-left.ensures)

pub returns : goal.returns
returns g c = BackFrames-all (omega (arith, c.loop-frame-test.false)) c.loop-frame.invariant.takes
