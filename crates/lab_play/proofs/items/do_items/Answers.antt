use Rattle.lab_play.specs.Prelude.{ap, refl, sym, ◌∙◌, length, List, slice_get, ℕ, ◌+◌, Item, HaveAsked-joined, HaveAsked-none, HaveSameAsks-none}
use Rattle.lab_play.specs.Prelude.{IsNextItem-at, stops_by, BothCountNoFault-done, BothCountNoFault-same, BothCountNoFault-then, StoresAndPuts-after}
use Rattle.lab_play.specs.Prelude.{StoresAndPuts-done, StoresAndPuts-passed, Scene, scene, StopsAt}
use Rattle.std.proofs.lemmas.Option.{slice_get_read}
use Rattle.lab_play.proofs.ItemsResults.{OnErr-all, stopped-with}
use Rattle.lab_play.proofs.items.do_items.Goals as goal

pub loop-index-init : goal.loop-index-init
loop-index-init g c = record {
  goes_on = λ start is. record {
    playing = is;
    gates = HaveAsked-none g.G.Gate.asked c.args.gates.now is.stage is.stage (HaveSameAsks-none is.stage);
  };
  done = c.requires.first;
  same = record { script = refl; wavs = refl; capture = refl; openings = refl };
  counts = BothCountNoFault-same g.S.Shelf g.K.Sink (c.args.shelf.now, c.args.out.now);
}

pub do_item-requires-clause-playing : goal.do_item-requires-clause-playing
do_item-requires-clause-playing g c κs within =
    let playing = c.requires.playing in
    record { start = playing.start; script_is = playing.script_is; is = (c.loop-index.invariant.goes_on playing.start playing.is).playing }

pub do_item-requires-clause-next : goal.do_item-requires-clause-next
do_item-requires-clause-next g c κs within =
    let playing = c.requires.playing in
    let now = (c.loop-index.invariant.goes_on playing.start playing.is).playing in
    IsNextItem-at c.loop-index.lab c.args.script.now c.loop-index.index c.index-items-index.result (now.lab_is.script_is.script_is ∙ playing.script_is)
    c.loop-index.invariant.done
    (ap (λ (items : List Item). slice_get items c.loop-index.index) (sym c.as_slice-items.ensures)
    ∙ slice_get_read c.as_slice-items.result.now (length c.as_slice-items.result.now) c.loop-index.index c.index-items-index.result refl c.loop-index-test.true
    c.index-items-index.is)

pub returns-in_err-do_item-clause-part : goal.returns-in_err-do_item-clause-part
returns-in_err-do_item-clause-part g c =
    let before : Scene = scene c.args.lab.now c.args.outputs.now (g.S.Shelf.files c.args.shelf.now) (g.K.Sink.taken c.args.out.now) in
    OnErr-all
    (StopsAt (stops_by g.G.Gate.stops c.args.gates.now) before (stops_by g.G.Gate.stops c.do_item.new.gates) c.do_item.new.lab (g.S.Shelf.files c.do_item.new.shelf)
    (g.K.Sink.taken c.do_item.new.out))
    c.from_residual.result
    (λ start is. c.in_err-do_item.ensures.part start (c.loop-index.invariant.goes_on start is).playing)

pub returns-in_err-do_item-clause-never : goal.returns-in_err-do_item-clause-never
returns-in_err-do_item-clause-never g c shelf_reliable out_reliable known =
    let so_far = c.loop-index.invariant in
    λ at_write. c.in_err-do_item.ensures.never (so_far.counts.reliable shelf_reliable) (so_far.counts.reliable_out out_reliable)
    (record { start = known.start; is = (so_far.goes_on known.start known.is).playing; known = known.known })
    (sym (stopped-with c.from_residual.result c.in_err-do_item.field-0.0 c.from_residual.ensures.1) ∙ at_write)

pub loop-index-preserved : goal.loop-index-preserved
loop-index-preserved g c =
    let so_far = c.loop-index.invariant in
    let item = c.in_ok-do_item.ensures in
    record {
      goes_on = λ start is.
          let earlier = so_far.goes_on start is in
          let later = item.done start earlier.playing in
          record {
            playing = later.playing;
            gates = HaveAsked-joined g.G.Gate.asked c.args.gates.now c.loop-index.gates c.do_item.new.gates is.stage earlier.playing.stage later.playing.stage earlier.gates
                later.gates;
          };
      done = item.next ∙ ap (λ (n : ℕ). n + 1) so_far.done;
      same = record {
        script = item.same.script ∙ so_far.same.script;
        wavs = item.same.wavs ∙ so_far.same.wavs;
        capture = item.same.capture ∙ so_far.same.capture;
        openings = item.same.openings ∙ so_far.same.openings;
      };
      counts = BothCountNoFault-then g.S.Shelf g.K.Sink _ _ _ so_far.counts (BothCountNoFault-done g.S.Shelf g.K.Sink _ _ _ item.stores_and_puts);
    }

pub returns-clause-done : goal.returns-clause-done
returns-clause-done g c = c.loop-index.invariant.goes_on

pub returns-clause-same : goal.returns-clause-same
returns-clause-same g c = c.loop-index.invariant.same

pub returns-clause-stores_and_puts : goal.returns-clause-stores_and_puts
returns-clause-stores_and_puts g c = StoresAndPuts-done g.S.Shelf g.K.Sink _ _ _ c.loop-index.invariant.counts

pub returns-in_err-do_item-clause-stores_and_puts : goal.returns-in_err-do_item-clause-stores_and_puts
returns-in_err-do_item-clause-stores_and_puts g c =
    StoresAndPuts-passed g.S.Shelf g.K.Sink c.from_residual.result c.in_err-do_item.field-0.0 _ _ c.from_residual.ensures.1
    (StoresAndPuts-after g.S.Shelf g.K.Sink _ _ _ _ c.loop-index.invariant.counts c.in_err-do_item.ensures.stores_and_puts)
