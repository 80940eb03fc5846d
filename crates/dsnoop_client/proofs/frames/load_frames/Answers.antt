use Rattle.dsnoop_client.specs.Prelude.{arith, length, refl, subst, sym, ℕ, ◌*◌, ◌+◌, ◌-◌, ◌<◌, ◌∙◌, ◌≡◌, ◌≤◌, mul-le-mul_right, All, first_frame, Whole, Gets}
use Rattle.dsnoop_client.specs.Prelude.{numbered_frame, SnoopView, Fills}
use Rattle.dsnoop_client.proofs.CallLaws.{both}
use Rattle.dsnoop_client.proofs.Filling.{Fills-ended, Fills-next, Fills-none}
use Rattle.dsnoop_client.proofs.Getting.{Rest-all, Rest-ended, Rest-next, Rest-none}
use Rattle.dsnoop_client.proofs.frames.load_frames.Goals as goal

pub loop-index-preserved : goal.loop-index-preserved
loop-index-preserved g c =
    let G = g.G.Gate in
    let port = g.P.SnoopPort in
    let before = c.loop-index.invariant in
    let step : Gets port.view port.shows port.loaded port.got port.finds G.stops G.asked c.loop-index.port c.loop-index.gate
    (numbered_frame (c.args.first + c.loop-index.index) c.load_through.new.frame) Whole c.load_through.new.port c.load_through.new.gate =
    c.in-Whole.ensures.step in
    let room : (c.loop-index.index + 1) * length c.args.bindings.now ≤ c.args.count * length c.args.bindings.now = mul-le-mul_right
    (length c.args.bindings.now) (omega arith) in
    record {
      view_is = step.view_is ∙ before.view_is;
      takes = Rest-next c.loop-index-test.true before.takes (c.load_through.new.frame, step);
      fills = Fills-next port g.met.P.SnoopPort.got_composes c.len-channels.result
          (c.loop-index.index * c.len-channels.result + c.len-channels.result - c.loop-index.index * c.len-channels.result) c.load_through.new.part
          (numbered_frame (c.args.first + c.loop-index.index) c.load_through.new.frame) before.view_is c.len-channels.ensures.value (omega arith) refl step.size
          c.in-Whole.ensures.part (omega (arith, room, c.requires.fits)) before.fills step.got_it;
    }

pub returns-in_default : goal.returns-in_default
returns-in_default g c =
    let G = g.G.Gate in
    let u = both c.load_through.new.port c.load_through.new.gate in
    let port = g.P.SnoopPort in
    let before = c.loop-index.invariant in
    let step : Gets port.view port.shows port.loaded port.got port.finds G.stops G.asked c.loop-index.port c.loop-index.gate
    (numbered_frame (c.args.first + c.loop-index.index) c.load_through.new.frame) c.load_through.result c.load_through.new.port c.load_through.new.gate =
    c.load_through.ensures.step in
    record {
      takes = Rest-ended u c.load_through.result c.loop-index-test.true c.in_default.not-Whole before.takes (c.load_through.new.frame, step);
      most = omega arith;
      fills = Fills-ended port g.met.P.SnoopPort.got_composes (numbered_frame (c.args.first + c.loop-index.index) c.load_through.new.frame)
          c.in_default.not-Whole before.fills step.got_it;
    }

pub returns-clause-takes : goal.returns-clause-takes
returns-clause-takes g c = Rest-all (omega (arith, c.loop-index-test.false, c.loop-index.auto.index-end)) c.loop-index.invariant.takes

pub loop-index-init : goal.loop-index-init
loop-index-init g c = record {
  view_is = refl;
  takes = Rest-none;
  fills = Fills-none g.P.SnoopPort g.met.P.SnoopPort.got_composes;
}

pub load_through-requires-clause-on_card : goal.load_through-requires-clause-on_card
load_through-requires-clause-on_card g c =
    subst (λ (v : SnoopView). All (λ channel. channel < v.geometry.channels) c.args.bindings.now) (sym c.loop-index.invariant.view_is) c.requires.on_card

pub load_through-requires-clause-least : goal.load_through-requires-clause-least
load_through-requires-clause-least g c =
    subst (λ (v : SnoopView). first_frame v.geometry ≤ c.args.first + c.loop-index.index) (sym c.loop-index.invariant.view_is) (omega (arith, c.requires.least))

pub load_through-requires-clause-captured : goal.load_through-requires-clause-captured
load_through-requires-clause-captured g c =
    subst (λ (v : SnoopView). c.args.first + c.loop-index.index < v.seen) (sym c.loop-index.invariant.view_is)
    (omega (arith, c.requires.captured, c.loop-index-test.true))

pub returns-clause-fills : goal.returns-clause-fills
returns-clause-fills g c =
    let all : c.loop-index.index ≡ c.args.count = omega (arith, c.loop-index-test.false, c.loop-index.auto.index-end) in
    subst (λ (n : ℕ). Fills g.P.SnoopPort c.args.port.now c.loop-index.port c.args.bindings.now c.args.first n Whole c.args.out.now c.loop-index.out) all
    c.loop-index.invariant.fills
