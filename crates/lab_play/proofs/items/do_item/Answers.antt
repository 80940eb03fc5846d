use Rattle.lab_play.specs.Prelude.{ap, refl, rules, subst, sym, ◌∙◌, List, Option, ℕ, ◌≡◌, Files, Item, Line, Stage, Lab, HaveAsked-none, IsNextItem, OnOk-more}
use Rattle.lab_play.specs.Prelude.{HaveAsked, Stops, stops_by, StoresAndPuts-nothing, GoesOnWriting, IsPlaying, IsStoppedAt, Scene, scene, Start, StopsAt}
use Rattle.lab_play.specs.Prelude.{StopsWritingPhase, WritesPhase}
use Rattle.lab_phase.specs.Same.{StaysAtStage-same}
use Rattle.lab_play.proofs.ItemsDone.{GoesOn-written, HasLeftUnwritten-phase, StaysWritten-stage}
use Rattle.lab_play.proofs.ItemsResults.{OnErr-all, OnErr-more, OnOk-all}
use Rattle.lab_play.proofs.ItemsStopped.{IsStoppedAt-playing}
use Rattle.lab_lines.specs.declared.line.Item.TheVariants as item
use Rattle.lab_play.proofs.items.do_item.Goals as goal

-- the next item is the phase whose lines these are
next-phase : (lab : Lab) (next : Item) (lines own : List Line) → next ≡ item.Phase own → lines ≡ own → IsNextItem lab next → IsNextItem lab (item.Phase lines)
next-phase lab next lines own is same at = subst (λ (i : Item). IsNextItem lab i) (is ∙ ap (λ (xs : List Line). item.Phase xs) (sym same)) at

pub write_phase-requires : goal.write_phase-requires
write_phase-requires g c =
    let next : IsNextItem c.args.lab.now (item.Phase c.as_slice.result.now) = next-phase c.args.lab.now c.args.item.now c.as_slice.result.now _ c.in-Phase.is c.as_slice.ensures c.requires.next in
    let playing = c.requires.playing in
    record {
      start = playing.start;
      stops = stops_by g.G.Gate.stops c.run_phase.new.gates;
      script_is = playing.script_is;
      is = (HasLeftUnwritten-phase (HaveAsked g.G.Gate.asked c.args.gates.now c.run_phase.new.gates) c.stages_grow.ensures.grow (stops_by g.G.Gate.stops c.args.gates.now)
          (stops_by g.G.Gate.stops c.run_phase.new.gates) c.args.lab.now c.run_phase.new.self c.as_slice.result.now c.in-Ok.ensures.does next c.args.outputs.now
          (g.S.Shelf.files c.args.shelf.now) (g.K.Sink.taken c.args.out.now) playing.start playing.is).behind;
    }

pub returns-in-Ok : goal.returns-in-Ok
returns-in-Ok g c =
    let next : IsNextItem c.args.lab.now (item.Phase c.as_slice.result.now) = next-phase c.args.lab.now c.args.item.now c.as_slice.result.now _ c.in-Phase.is c.as_slice.ensures c.requires.next in
    let stops : Stops = stops_by g.G.Gate.stops c.args.gates.now in
    let stops_after : Stops = stops_by g.G.Gate.stops c.run_phase.new.gates in
    let files : Option Files = g.S.Shelf.files c.args.shelf.now in
    let taken : Option (List ℕ) = g.K.Sink.taken c.args.out.now in
    let before : Scene = scene c.args.lab.now c.args.outputs.now files taken in
    let behind : Scene = scene c.run_phase.new.self c.args.outputs.now files taken in
    let after : Scene =
    scene c.run_phase.new.self c.write_phase.new.outputs (g.S.Shelf.files c.write_phase.new.shelf) (g.K.Sink.taken c.write_phase.new.out) in
    let Gates : Stage → Stage → Type 0 = HaveAsked g.G.Gate.asked c.args.gates.now c.run_phase.new.gates in
    let files_now : Option Files = g.S.Shelf.files c.write_phase.new.shelf in
    let taken_now : Option (List ℕ) = g.K.Sink.taken c.write_phase.new.out in
    let left = λ (start : Start) (is : IsPlaying start stops before). HasLeftUnwritten-phase Gates c.stages_grow.ensures.grow stops stops_after c.args.lab.now c.run_phase.new.self
    c.as_slice.result.now c.in-Ok.ensures.does next c.args.outputs.now files taken start is in
    record {
      done = OnOk-more (WritesPhase behind after) (GoesOnWriting Gates stops before stops_after after) c.write_phase.result
          (λ catches start is. GoesOn-written Gates start is.stage stops_after behind after (left start is) (catches start stops_after (left start is).behind)) c.write_phase.ensures.done;
      next = search rules;
      same = search rules;
      part = OnErr-more (StopsWritingPhase behind files_now taken_now) (StopsAt stops before stops_after c.run_phase.new.self files_now taken_now) c.write_phase.result
          (λ stopped start is. stopped start stops_after (left start is).behind) c.write_phase.ensures.part;
      stores_and_puts = c.write_phase.ensures.stores_and_puts;
      never = λ shelf out known. c.write_phase.ensures.never shelf out
          (record { start = known.start; stops = stops_after; is = (left known.start known.is).behind; known = known.known });
    }

pub returns-in-Err-clause-part : goal.returns-in-Err-clause-part
returns-in-Err-clause-part g c start is =
    let stops : Stops = stops_by g.G.Gate.stops c.args.gates.now in
    let files : Option Files = g.S.Shelf.files c.args.shelf.now in
    let taken : Option (List ℕ) = g.K.Sink.taken c.args.out.now in
    let stays = StaysAtStage-same c.args.lab.now c.run_phase.new.self c.in-Err.ensures.kept in
    let stopped : IsStoppedAt start stops c.run_phase.new.self files taken =
    IsStoppedAt-playing start stops (scene c.run_phase.new.self c.args.outputs.now files taken)
    (StaysWritten-stage c.args.lab.now c.run_phase.new.self stays stops c.args.outputs.now files taken start is).playing in
    subst (λ (s : Stops). IsStoppedAt start s c.run_phase.new.self files taken) (ap (stops_by g.G.Gate.stops) (sym c.in-Err.ensures.gates)) stopped

pub returns-in-Err-clause-stores_and_puts : goal.returns-in-Err-clause-stores_and_puts
returns-in-Err-clause-stores_and_puts g c = StoresAndPuts-nothing g.S.Shelf g.K.Sink _ _ refl

pub returns-in-Opens-clause-done : goal.returns-in-Opens-clause-done
returns-in-Opens-clause-done g c =
    let stops : Stops = stops_by g.G.Gate.stops c.args.gates.now in
    let before : Scene = scene c.args.lab.now c.args.outputs.now (g.S.Shelf.files c.args.shelf.now) (g.K.Sink.taken c.args.out.now) in
    let after : Scene = scene c.do_border.new.lab before.outputs before.files before.taken in
    OnOk-all (GoesOnWriting (HaveAsked g.G.Gate.asked c.args.gates.now c.args.gates.now) stops before stops after) c.do_border.result
    (λ start is. let goes = c.do_border.ensures.written stops before.outputs before.files before.taken start is in
    record { playing = goes.playing; gates = HaveAsked-none g.G.Gate.asked c.args.gates.now is.stage goes.playing.stage goes.gates })

pub returns-in-Opens-clause-part : goal.returns-in-Opens-clause-part
returns-in-Opens-clause-part g c =
    let stops : Stops = stops_by g.G.Gate.stops c.args.gates.now in
    let before : Scene = scene c.args.lab.now c.args.outputs.now (g.S.Shelf.files c.args.shelf.now) (g.K.Sink.taken c.args.out.now) in
    let after : Scene = scene c.do_border.new.lab before.outputs before.files before.taken in
    OnErr-all (StopsAt stops before stops after.lab before.files before.taken) c.do_border.result
    (λ start is. IsStoppedAt-playing start stops after (c.do_border.ensures.written stops before.outputs before.files before.taken start is).playing)

pub returns-in-Opens-clause-stores_and_puts : goal.returns-in-Opens-clause-stores_and_puts
returns-in-Opens-clause-stores_and_puts g c = StoresAndPuts-nothing g.S.Shelf g.K.Sink c.do_border.result _ c.do_border.ensures.only
