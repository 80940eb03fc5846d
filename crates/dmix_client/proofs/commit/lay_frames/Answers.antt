use Rattle.dmix_client.specs.Prelude.{arith, length, refl, subst, ℕ, ◌+◌, ◌≤◌, first_free, Ended, OnWhole, TakesAt-frames, IsCommit, least_channel, ring_sample}
use Rattle.dmix_client.proofs.CallLaws.{both}
use Rattle.dmix_client.proofs.Frames.{marks-joined}
use Rattle.dmix_client.proofs.Laying.{RestFrames-all, RestFrames-none, RestFrames-run, RestFrames-run_ended}
use Rattle.dmix_client.proofs.Sound.{frames-le}
use Rattle.dmix_client.proofs.commit.lay_frames.Goals as goal

pub loop-done-init : goal.loop-done-init
loop-done-init g c = record { view_is = refl; few = omega arith; cursor = omega (arith, c.requires.from_cursor); takes = RestFrames-none }

pub overflow_add-result : goal.overflow_add-result
overflow_add-result g c =
    let t = both c.loop-done.port c.loop-done.gate in
    let u = both c.lay_run-laid.new.port c.lay_run-laid.new.gate in
    let stream = c.args.stream.now in
    let x = c.lay_run-laid.result in
    let laid = TakesAt-frames g.P.MixPort g.G.Gate g.met.P.MixPort.laid_composes g.met.P.MixPort.loaded_composes stream.identity.member stream.stretch.card
    stream.setup.bindings (ring_sample stream c.args.ring.now) c.min-run.result (stream.stretch.committed + c.loop-done.done)
    t u x c.requires.bound.bound c.lay_run-laid.ensures in
    let frames : x.frames ≤ c.min-run.result = frames-le x.ended x.frames x.part c.min-run.result (length stream.setup.bindings) laid.commit_is in
    omega (arith, frames, c.min-run.ensures, c.loop-done.invariant.few, c.ranges.count)

pub returns-in_default : goal.returns-in_default
returns-in_default g c =
    RestFrames-run_ended (both c.lay_run-laid.new.port c.lay_run-laid.new.gate) c.min-run.result c.lay_run-laid.result
    (omega (arith, c.min-run.ensures, c.loop-done.invariant.few)) c.in_default.not-Whole c.loop-done.invariant.takes c.lay_run-laid.ensures

pub loop-done-preserved : goal.loop-done-preserved
loop-done-preserved g c =
    let t = both c.loop-done.port c.loop-done.gate in
    let u = both c.lay_run-laid.new.port c.lay_run-laid.new.gate in
    let port = g.P.MixPort in
    let stream = c.args.stream.now in
    let before = c.loop-done.invariant in
    let x = c.lay_run-laid.result in
    let first : ℕ = stream.stretch.committed + c.loop-done.done in
    let least : ℕ = least_channel stream.setup.bindings in
    let laid = TakesAt-frames port g.G.Gate g.met.P.MixPort.laid_composes g.met.P.MixPort.loaded_composes stream.identity.member stream.stretch.card
    stream.setup.bindings (ring_sample stream c.args.ring.now) c.min-run.result first
    t u x c.requires.bound.bound c.lay_run-laid.ensures in
    let commit = subst (λ (e : Ended). IsCommit e x.frames x.part c.min-run.result (length stream.setup.bindings)) c.in-Whole.is laid.commit_is in
    let free = subst (λ (e : Ended). OnWhole e (first_free (port.view c.lay_run-laid.new.port).marks.cursor least ≤ stream.stretch.card + (first + x.frames)))
    c.in-Whole.is (laid.free least (omega (arith, before.cursor))) in
    record {
      view_is = marks-joined (port.view c.args.port.now) (port.view c.loop-done.port) (port.view c.lay_run-laid.new.port) _ before.view_is laid.view_is;
      few = omega (arith, c.min-run.ensures, before.few);
      cursor = omega (arith, free, commit.0);
      takes = RestFrames-run c.min-run.result x (omega (arith, c.min-run.ensures, before.few)) c.in-Whole.is before.takes c.lay_run-laid.ensures;
    }

pub returns : goal.returns
returns g c = RestFrames-all (omega (arith, c.loop-done-test.false, c.loop-done.invariant.few)) c.loop-done.invariant.takes
