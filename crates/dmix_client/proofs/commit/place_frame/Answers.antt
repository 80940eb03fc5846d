use Rattle.dmix_client.specs.Prelude.{ap, arith, length, of_z, refl, rules, SFits, subst, sym, to_z, to_z-of_z, w16, ℕ, ◌+◌, ◌<◌, ◌∙◌, ◌≡◌, Result, slice_index}
use Rattle.dmix_client.specs.Prelude.{ℤ, PcmError, end_frame, IsFrom, lap, rising, length-rising, rising-rises, rising-within, Ended, Whole, Placed, an_add}
use Rattle.dmix_client.specs.Prelude.{ended_of, PortView, LaysAt, TakesAt, lay_frame, slot_sample}
use Rattle.dmix_client.proofs.CallLaws.{both}
use Rattle.dmix_client.proofs.Frames.{IsFrom-later, behind-later, entry-bound, lap-below, marks-joined, rising-least}
use Rattle.dmix_client.proofs.Laying.{Rest-all, Rest-ended, Rest-next, Rest-none}
use Rattle.mix_core.specs.declared.gate.Gate as gates
use Rattle.mix_core.specs.declared.port.MixPort as mixport
use Rattle.dmix_client.proofs.commit.place_frame.Goals as goal

pub loop-place-init : goal.loop-place-init
loop-place-init g c = let view = g.P.MixPort.view c.args.port.now in let list = c.args.bindings.now in record {
  view_is = refl;
  ahead = λ j least within. IsFrom-later view.marks.cursor _ _ _ (rising-least list j c.requires.bound.bound within) c.requires.from_cursor;
  bound = c.requires.bound.bound;
  takes = Rest-none;
}

pub place-answer-requires : goal.place-answer-requires
place-answer-requires g c =
    let port = g.P.MixPort in
    let list = c.args.bindings.now in
    let before = c.loop-place.invariant in
    let channel = c.bound_sample-bound.ensures.channel in
    let place_within : c.loop-place.place < length list = omega (arith, c.requires.channels, c.loop-place-test.true) in
    record {
      can_add = ap (λ (v : PortView). v.can_add) before.view_is ∙ c.requires.can_add;
      channel = subst (λ (v : PortView). c.bound_sample-bound.result.channel < v.geometry.channels) (sym before.view_is)
          (subst (λ (k : ℕ). k < (port.view c.args.port.now).geometry.channels) (sym channel)
          (c.requires.bound.below (slice_index (rising list) c.loop-place.place) 0 (rising-within list c.loop-place.place before.bound place_within)));
      from_cursor = subst (λ (k : ℕ). IsFrom (port.view c.loop-place.port).marks.cursor c.args.frame k) (sym channel)
          (before.ahead c.loop-place.place (omega arith) place_within);
      ahead = subst (λ (v : PortView). c.args.frame < v.seen + v.geometry.frames) (sym before.view_is) c.requires.ahead;
    }

-- the step of a placement below the last lap, with the sample as it is, by how it ended
LaysAt-placed : {S T : Type 0} (P : mixport.Ghosts S) (G : gates.Ghosts T) (s t : S × T) (frame channel : ℕ) (sample : ℤ) (answer : Result Placed PcmError) (ended : Ended)
    → SFits w16 sample → frame < end_frame (P.view s.0).geometry → ended ≡ ended_of answer
    → (lap (P.view s.0).geometry frame < 4294967295 → LaysAt P G s (an_add (P.view s.0).member frame channel (to_z w16 (of_z w16 sample))) (ended_of answer) t)
    → LaysAt P G s (an_add (P.view s.0).member frame channel sample) ended t
LaysAt-placed P G s t frame channel sample answer ended fits below is step =
    subst (λ (e : Ended). LaysAt P G s (an_add (P.view s.0).member frame channel sample) e t) (sym is)
    (subst (λ (x : ℤ). LaysAt P G s (an_add (P.view s.0).member frame channel x) (ended_of answer) t) (to_z-of_z fits)
    (step (lap-below frame (P.view s.0).geometry.frames below)))

pub loop-place-preserved : goal.loop-place-preserved
loop-place-preserved g c =
    let t = both c.loop-place.port c.loop-place.gate in
    let u = both c.place-answer.new.self c.place-answer.new.gate in
    let port = g.P.MixPort in
    let list = c.args.bindings.now in
    let before = c.loop-place.invariant in
    let frame : ℕ = c.args.frame in
    let bound = c.bound_sample-bound.ensures in
    let member : (port.view c.loop-place.port).member ≡ (port.view c.args.port.now).member = ap (λ (v : PortView). v.member) before.view_is in
    let fits : SFits w16 c.bound_sample-bound.result.sample = search rules in
    let step = LaysAt-placed port g.G.Gate t u frame c.bound_sample-bound.result.channel c.bound_sample-bound.result.sample c.place-answer.result Whole fits
    (subst (λ (v : PortView). frame < end_frame v.geometry) (sym before.view_is) c.requires.fits) (sym c.in-Whole.is ∙ c.of.ensures) c.place-answer.ensures.step in
    let place_within : c.loop-place.place < length list = omega (arith, c.requires.channels, c.loop-place-test.true) in
    let in_range : (j : ℕ) → j < length list → slice_index list (slice_index (rising list) j) < (port.view c.loop-place.port).geometry.channels =
    λ j within. subst (λ (v : PortView). slice_index list (slice_index (rising list) j) < v.geometry.channels) (sym before.view_is)
    (c.requires.bound.below (slice_index (rising list) j) 0 (rising-within list j before.bound within)) in
    record {
      view_is = marks-joined (port.view c.args.port.now) (port.view c.loop-place.port) (port.view c.place-answer.new.self) _ before.view_is step.view_is;
      ahead = λ j least within. subst (λ (v : PortView). IsFrom v.marks.cursor frame (slice_index list (slice_index (rising list) j))) (sym step.view_is)
          (behind-later (port.view c.loop-place.port).geometry frame c.bound_sample-bound.result.channel (slice_index list (slice_index (rising list) j))
          (omega (arith, bound.channel, rising-rises list c.loop-place.place j before.bound (omega arith) within)) (in_range j within));
      bound = before.bound;
      takes = Rest-next _ (omega (arith, place_within, length-rising list before.bound)) (entry-bound (λ m k x. an_add m frame k x) list c.args.ring.now c.args.slot _ _ _ _ _
          member bound.channel bound.sample) before.takes step;
    }

pub returns-in_default : goal.returns-in_default
returns-in_default g c =
    let t = both c.loop-place.port c.loop-place.gate in
    let u = both c.place-answer.new.self c.place-answer.new.gate in
    let port = g.P.MixPort in
    let list = c.args.bindings.now in
    let before = c.loop-place.invariant in
    let frame : ℕ = c.args.frame in
    let bound = c.bound_sample-bound.ensures in
    let fits : SFits w16 c.bound_sample-bound.result.sample = search rules in
    let step = LaysAt-placed port g.G.Gate t u frame c.bound_sample-bound.result.channel c.bound_sample-bound.result.sample c.place-answer.result c.of.result fits
    (subst (λ (v : PortView). frame < end_frame v.geometry) (sym before.view_is) c.requires.fits) c.of.ensures c.place-answer.ensures.step in
    Rest-ended u _ c.of.result
    (omega (arith, c.requires.channels, c.loop-place-test.true, length-rising list before.bound))
    (entry-bound (λ m k x. an_add m frame k x) list c.args.ring.now c.args.slot _ _ _ _ _ (ap (λ (v : PortView). v.member) before.view_is) bound.channel
    bound.sample) c.in_default.not-Whole before.takes step

pub returns : goal.returns
returns g c =
    let s = both c.args.port.now c.args.gate.now in
    let t = both c.loop-place.port c.loop-place.gate in
    let port = g.P.MixPort in
    let list = c.args.bindings.now in
    let all : c.loop-place.place ≡ c.args.channels = omega (arith, c.loop-place-test.false, c.loop-place.auto.place-end) in
    subst (λ n. TakesAt port g.G.Gate s (lay_frame (port.view c.args.port.now).member c.args.frame list
    (slot_sample c.args.ring.now c.args.slot)) t (n, Whole)) all
    (Rest-all (omega (arith, length-rising list c.requires.bound.bound, c.loop-place-test.false, c.requires.channels)) c.loop-place.invariant.takes)
