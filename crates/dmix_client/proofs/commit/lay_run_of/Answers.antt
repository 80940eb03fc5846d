use Rattle.dmix_client.specs.Prelude.{ap, arith, length, refl, rules, subst, sym, ℕ, ◌%◌, ◌*◌, ◌+◌, ◌<◌, ◌∙◌, ◌≡◌, Geometry, rising, Ended, Whole, PortView}
use Rattle.dmix_client.specs.Prelude.{TakesAt, lay_frame, TakesAt-frame, IsOnCard, least_channel, slot-within, ring_sample}
use Rattle.dmix_client.proofs.CallLaws.{both}
use Rattle.dmix_client.proofs.Frames.{IsFrom-next, marks-joined, slot-run}
use Rattle.dmix_client.proofs.Laying.{RestFrames-all, RestFrames-ended, RestFrames-next, RestFrames-none, TakesAt-ring_sample}
use Rattle.dmix_client.proofs.commit.lay_run_of.Goals as goal

slot_is : (buffer channels length_is source first frame from : ℕ) → length_is ≡ channels → (source + first) % buffer + frame < buffer
    → from ≡ (source + first) % buffer * length_is → from + frame * channels ≡ (source + (first + frame)) % buffer * length_is
slot_is buffer channels length_is source first frame from same below is =
    omega (arith, is, ap (λ (n : ℕ). frame * n) same) ∙ sym (slot-run buffer length_is (source + first) frame below)
    ∙ ap (λ (n : ℕ). n % buffer * length_is) (let sum : source + first + frame ≡ source + (first + frame) = omega arith in sum)

pub loop-frame-init : goal.loop-frame-init
loop-frame-init g c = record { view_is = refl; cursor = omega (arith, c.requires.from_cursor); takes = RestFrames-none }

pub place_frame-placed-requires : goal.place_frame-placed-requires
place_frame-placed-requires g c =
    let stream = c.args.stream.now in
    let within = slot-within stream.setup.config.buffer_size (length stream.setup.bindings)
    (stream.stretch.source + (c.args.first + c.loop-frame.frame)) c.requires.buffer in
    record {
      channels = c.requires.channels;
      can_add = ap (λ (v : PortView). v.can_add) c.loop-frame.invariant.view_is ∙ c.requires.can_add;
      bound = subst (λ (h : Geometry). IsOnCard c.args.stream.now.setup.bindings h) (sym (ap (λ (v : PortView). v.geometry)
          c.loop-frame.invariant.view_is)) c.requires.bound;
      slot = omega (
        arith,
        c.requires.room,
        slot_is stream.setup.config.buffer_size c.args.channels (length stream.setup.bindings) stream.stretch.source c.args.first
            c.loop-frame.frame c.held_from-from.result (sym c.requires.channels) (omega (arith, c.requires.run, c.loop-frame-test.true))
            c.held_from-from.ensures.value,
        within,
      );
      from_cursor = search rules;
      ahead = search rules;
      fits = search rules;
    }

pub loop-frame-preserved : goal.loop-frame-preserved
loop-frame-preserved g c =
    let G = g.G.Gate in
    let t = both c.loop-frame.port c.loop-frame.gate in
    let u = both c.place_frame-placed.new.port c.place_frame-placed.new.gate in
    let port = g.P.MixPort in
    let before = c.loop-frame.invariant in
    let stream = c.args.stream.now in
    let number : ℕ = c.args.first + c.loop-frame.frame in
    let member : (port.view c.loop-frame.port).member ≡ stream.identity.member = ap (λ (v : PortView). v.member) before.view_is ∙ c.requires.member in
    let placed = TakesAt-ring_sample port G stream c.args.ring.now (port.view c.loop-frame.port).member (stream.stretch.card + number)
    (c.held_from-from.result + c.loop-frame.frame * c.args.channels) number t u
    (c.place_frame-placed.result.placed, c.place_frame-placed.result.ended) member refl (slot_is stream.setup.config.buffer_size c.args.channels
    (length stream.setup.bindings) stream.stretch.source c.args.first c.loop-frame.frame c.held_from-from.result (sym c.requires.channels)
    (omega (arith, c.requires.run, c.loop-frame-test.true)) c.held_from-from.ensures.value) c.place_frame-placed.ensures in
    let step : TakesAt port G t (lay_frame stream.identity.member (stream.stretch.card + number) stream.setup.bindings
    (ring_sample stream c.args.ring.now number)) u (c.place_frame-placed.result.placed, Whole) =
    subst (λ (e : Ended). TakesAt port G t (lay_frame stream.identity.member (stream.stretch.card + number) stream.setup.bindings
    (ring_sample stream c.args.ring.now number)) u (c.place_frame-placed.result.placed, e)) c.in-Whole.is placed in
    let frame = TakesAt-frame port G g.met.P.MixPort.laid_composes g.met.P.MixPort.loaded_composes stream.identity.member (stream.stretch.card + number)
    stream.setup.bindings (ring_sample stream c.args.ring.now number) (rising stream.setup.bindings)
    t u c.place_frame-placed.result.placed Whole step in
    record {
      view_is = marks-joined (port.view c.args.port.now) (port.view c.loop-frame.port) (port.view c.place_frame-placed.new.port) _ before.view_is frame.view_is;
      cursor = omega (
        arith,
        frame.free (least_channel stream.setup.bindings) (IsFrom-next (port.view c.loop-frame.port).marks.cursor
            (stream.stretch.card + number) (least_channel stream.setup.bindings) (least_channel stream.setup.bindings) (omega (arith, before.cursor))),
      );
      takes = RestFrames-next c.place_frame-placed.result.placed c.loop-frame-test.true before.takes step;
    }

pub returns-in_default : goal.returns-in_default
returns-in_default g c =
    let t = both c.loop-frame.port c.loop-frame.gate in
    let u = both c.place_frame-placed.new.port c.place_frame-placed.new.gate in
    let port = g.P.MixPort in
    let before = c.loop-frame.invariant in
    let stream = c.args.stream.now in
    let number : ℕ = c.args.first + c.loop-frame.frame in
    RestFrames-ended u c.place_frame-placed.result.placed c.place_frame-placed.result.ended c.loop-frame-test.true c.in_default.not-Whole before.takes
    (TakesAt-ring_sample port g.G.Gate stream c.args.ring.now (port.view c.loop-frame.port).member (stream.stretch.card + number)
    (c.held_from-from.result + c.loop-frame.frame * c.args.channels) number t u
    (c.place_frame-placed.result.placed, c.place_frame-placed.result.ended) (ap (λ (v : PortView). v.member) before.view_is ∙ c.requires.member) refl
    (slot_is stream.setup.config.buffer_size c.args.channels (length stream.setup.bindings) stream.stretch.source c.args.first c.loop-frame.frame
    c.held_from-from.result (sym c.requires.channels) (omega (arith, c.requires.run, c.loop-frame-test.true)) c.held_from-from.ensures.value)
    c.place_frame-placed.ensures)

pub returns : goal.returns
returns g c = RestFrames-all (omega (arith, c.loop-frame-test.false, c.loop-frame.auto.frame-end)) c.loop-frame.invariant.takes
