use Rattle.dmix_client.specs.Prelude.{ap, arith, of_z, rules, SFits, subst, sym, to_z, to_z-of_z, w16, ℕ, [], ◌+◌, ◌-◌, ◌∙◌, ◌∷◌, ◌≡◌, Result, slice_index, ℤ}
use Rattle.dmix_client.specs.Prelude.{PcmError, Cursor, IsFrom, rising, Ended, Whole, Placed, a_withdrawal, an_add, ended_of, PortView, LaysAt, frame_entries}
use Rattle.dmix_client.specs.Prelude.{least_channel, ring_sample}
use Rattle.dmix_client.proofs.CallLaws.{both}
use Rattle.dmix_client.proofs.Frames.{IsFrom-later, entry-ring_sample, rising-least}
use Rattle.dmix_client.proofs.Withdrawing.{Back-all, Back-ended, Back-next, stands-last}
use Rattle.mix_core.specs.declared.gate.Gate as gates
use Rattle.mix_core.specs.declared.port.MixPort as mixport
use Rattle.dmix_client.proofs.withdraw.take_frame.Goals as goal

-- the step of a withdrawal, with the sample as it is, by how it ended
LaysAt-withdrawn : {S T : Type 0} (P : mixport.Ghosts S) (G : gates.Ghosts T) (s t : S × T) (frame channel : ℕ) (sample : ℤ) (answer : Result Placed PcmError) (ended : Ended)
    → SFits w16 sample → ended ≡ ended_of answer
    → LaysAt P G s (a_withdrawal (P.view s.0).member frame channel (to_z w16 (of_z w16 sample))) (ended_of answer) t
    → LaysAt P G s (a_withdrawal (P.view s.0).member frame channel sample) ended t
LaysAt-withdrawn P G s t frame channel sample answer ended fits is step =
    subst (λ (e : Ended). LaysAt P G s (a_withdrawal (P.view s.0).member frame channel sample) e t) (sym is)
    (subst (λ (x : ℤ). LaysAt P G s (a_withdrawal (P.view s.0).member frame channel x) (ended_of answer) t) (to_z-of_z fits) step)

pub withdraw-answer-requires : goal.withdraw-answer-requires
withdraw-answer-requires g c =
    let P = g.P.MixPort in
    let stream = c.args.stream.now in
    let before = c.loop-place.invariant in
    let n : ℕ = c.loop-place.place - 1 in
    let frame : ℕ = stream.stretch.card + c.args.number in
    let bound = c.bound_sample-bound.ensures in
    let fits : SFits w16 c.bound_sample-bound.result.sample = search rules in
    record {
      last = subst (λ (x : ℤ). P.ends_in c.loop-place.port (an_add (P.view c.loop-place.port).member frame c.bound_sample-bound.result.channel x ∷ [])) (sym (to_z-of_z fits))
          (g.met.P.MixPort.ends_in_part c.loop-place.port (frame_entries stream.identity.member stream.setup.bindings
          (ring_sample stream c.args.ring.now c.args.number) n frame) _
          (stands-last P.ends_in c.loop-place.port stream.identity.member frame stream.setup.bindings (ring_sample stream c.args.ring.now c.args.number) n
          c.loop-place.place _ before.bound (omega (arith, c.loop-place-test.true)) before.few
          (entry-ring_sample (λ m k x. an_add m frame k x) stream c.args.ring.now c.args.number c.held_from-slot.result
          (slice_index (rising stream.setup.bindings) n) _ _ _ before.member bound.channel c.held_from-slot.ensures.value bound.sample) before.stand));
      from_floor = subst (λ (k : ℕ). IsFrom (P.view c.loop-place.port).marks.floor frame k) (sym bound.channel)
          (IsFrom-later (P.view c.loop-place.port).marks.floor _ _ _ (rising-least stream.setup.bindings n before.bound
          (omega (arith, before.few, c.loop-place-test.true))) before.from_floor);
    }

pub loop-place-preserved : goal.loop-place-preserved
loop-place-preserved g c =
    let t = both c.loop-place.port c.loop-place.gate in
    let u = both c.withdraw-answer.new.self c.withdraw-answer.new.gate in
    let port = g.P.MixPort in
    let stream = c.args.stream.now in
    let before = c.loop-place.invariant in
    let n : ℕ = c.loop-place.place - 1 in
    let frame : ℕ = stream.stretch.card + c.args.number in
    let samples = ring_sample stream c.args.ring.now c.args.number in
    let bound = c.bound_sample-bound.ensures in
    let one : c.loop-place.place ≡ n + 1 = omega (arith, c.loop-place-test.true) in
    let from_floor = subst (λ (k : ℕ). IsFrom (port.view c.loop-place.port).marks.floor frame k) (sym bound.channel)
    (IsFrom-later (port.view c.loop-place.port).marks.floor frame _ _ (rising-least stream.setup.bindings n before.bound
    (omega (arith, before.few, one))) before.from_floor) in
    let fits : SFits w16 c.bound_sample-bound.result.sample = search rules in
    let step = LaysAt-withdrawn port g.G.Gate t u frame c.bound_sample-bound.result.channel c.bound_sample-bound.result.sample c.withdraw-answer.result Whole fits
    (sym c.in-Whole.is ∙ c.of.ensures) c.withdraw-answer.ensures.step in
    record {
      member = ap (λ (v : PortView). v.member) step.view_is ∙ before.member;
      from_floor = subst (λ (x : Cursor). IsFrom x frame (least_channel stream.setup.bindings))
          (sym (ap (λ (v : PortView). v.marks.floor) step.view_is)) before.from_floor;
      bound = before.bound;
      few = omega (arith, before.few);
      stand = g.met.P.MixPort.held_back c.loop-place.port c.withdraw-answer.new.self (frame_entries stream.identity.member stream.setup.bindings samples n frame)
          frame _ _ from_floor step.laid_it
          (stands-last port.ends_in c.loop-place.port stream.identity.member frame stream.setup.bindings samples n c.loop-place.place _
          before.bound one before.few
          (entry-ring_sample (λ m k x. an_add m frame k x) stream c.args.ring.now c.args.number c.held_from-slot.result
          (slice_index (rising stream.setup.bindings) n) _ _ _ before.member bound.channel c.held_from-slot.ensures.value bound.sample) before.stand);
      takes = Back-next _ one (entry-ring_sample (λ m k x. a_withdrawal m frame k x) stream c.args.ring.now c.args.number c.held_from-slot.result
          (slice_index (rising stream.setup.bindings) n) _ _ _ before.member bound.channel c.held_from-slot.ensures.value bound.sample) before.takes step;
    }

pub returns-in_default : goal.returns-in_default
returns-in_default g c =
    let t = both c.loop-place.port c.loop-place.gate in
    let u = both c.withdraw-answer.new.self c.withdraw-answer.new.gate in
    let stream = c.args.stream.now in
    let before = c.loop-place.invariant in
    let n : ℕ = c.loop-place.place - 1 in
    let frame : ℕ = stream.stretch.card + c.args.number in
    let bound = c.bound_sample-bound.ensures in
    let fits : SFits w16 c.bound_sample-bound.result.sample = search rules in
    let step = LaysAt-withdrawn g.P.MixPort g.G.Gate t u frame c.bound_sample-bound.result.channel c.bound_sample-bound.result.sample c.withdraw-answer.result c.of.result fits
    c.of.ensures c.withdraw-answer.ensures.step in
    let ended = Back-ended u n _ c.of.result (omega (arith, c.loop-place-test.true))
    (entry-ring_sample (λ m k x. a_withdrawal m frame k x) stream c.args.ring.now c.args.number c.held_from-slot.result
    (slice_index (rising stream.setup.bindings) n) _ _ _ before.member bound.channel c.held_from-slot.ensures.value bound.sample) c.in_default.not-Whole
    before.takes step in
    rw (let one : n + 1 ≡ c.loop-place.place = omega (arith, c.loop-place-test.true) in one) ended

pub returns : goal.returns
returns g c = Back-all (omega (arith, c.loop-place-test.false)) c.loop-place.invariant.takes
