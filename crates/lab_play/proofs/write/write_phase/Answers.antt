use Rattle.lab_play.specs.Prelude.{◌∙◌, length, List, Option, ℕ, ◌++◌, ◌≡◌, Files, TookPart, Row, Lab, CountsNoFault-writes, StoresAndPuts-passed}
use Rattle.lab_play.specs.Prelude.{StoresAndPuts-puts, StoresAndPuts-writes, rows_text, scene, StopsWritingPhase, WritesPhase}
use Rattle.std.proofs.Common.{option_map}
use Rattle.lab_play.proofs.ItemsResults.{OnErr-all, OnErr-more}
use Rattle.lab_play.proofs.WritingPhase.{OnOk-both, can-append, can-put, catches-up, stops-appending, stops-putting}
use Rattle.lab_play.proofs.write.write_phase.Goals as goal

pub append_all-requires : goal.append_all-requires
append_all-requires g c =
    can-append c.requires.start c.requires.stops c.args.lab.now c.args.outputs.now (g.S.Shelf.files c.args.shelf.now) (g.K.Sink.taken c.args.out.now) c.stages_have_sizes.ensures
    c.requires.is

pub returns-in_err-append_all-clause-part : goal.returns-in_err-append_all-clause-part
returns-in_err-append_all-clause-part g c =
    OnErr-all (StopsWritingPhase (scene c.args.lab.now c.args.outputs.now (g.S.Shelf.files c.args.shelf.now) (g.K.Sink.taken c.args.out.now)) (g.S.Shelf.files c.append_all.new.shelf)
    (g.K.Sink.taken c.args.out.now)) c.from_residual.result
    (λ start stops is. stops-appending start stops c.args.lab.now c.args.outputs.now (g.S.Shelf.files c.args.shelf.now) (g.S.Shelf.files c.append_all.new.shelf)
    (g.K.Sink.taken c.args.out.now) c.append_all.ensures.changes is)

pub put_rows-requires-clause-rows : goal.put_rows-requires-clause-rows
put_rows-requires-clause-rows g c =
    can-put c.requires.start c.requires.stops c.args.script.now c.args.lab.now c.args.outputs.now (g.S.Shelf.files c.args.shelf.now) (g.K.Sink.taken c.args.out.now) c.rows.result.now
    c.stages_have_rows.ensures c.requires.script_is c.rows.ensures c.requires.is

pub returns : goal.returns
returns g c =
    let lab : Lab = c.args.lab.now in
    let files : Option Files = g.S.Shelf.files c.args.shelf.now in
    let files_after : Option Files = g.S.Shelf.files c.append_all.new.shelf in
    let taken : Option (List ℕ) = g.K.Sink.taken c.args.out.now in
    let taken_after : Option (List ℕ) = g.K.Sink.taken c.put_rows.new.out in
    let rows : List Row = c.rows.result.now in
    record {
      done = OnOk-both (c.put_rows.new.self.rows ≡ length rows)
          (taken_after ≡ option_map (λ t. t ++ rows_text c.args.script.now c.append_all.new.outputs.rows rows) taken)
          (WritesPhase (scene lab c.args.outputs.now files taken) (scene lab c.put_rows.new.self files_after taken_after)) c.put_rows.result
          (λ count text start stops is.
          catches-up start stops c.args.script.now lab c.args.outputs.now c.append_all.new.outputs c.put_rows.new.self files files_after taken taken_after rows
          (c.requires.is.lab_is.script_is.script_is ∙ c.requires.script_is) c.rows.ensures
          (record {
            going_on = c.in_ok-append_all.ensures.going_on;
            outputs_are = c.append_all.ensures.outputs;
            files = c.append_all.ensures.files;
            rows = c.append_all.ensures.rows;
            last_files = c.put_rows.ensures.files;
            last_samples = c.put_rows.ensures.samples;
          }) count text is)
          c.put_rows.ensures.rows c.put_rows.ensures.puts_text.taken;
      part = OnErr-more (TookPart taken taken_after (rows_text c.args.script.now c.append_all.new.outputs.rows rows))
          (StopsWritingPhase (scene lab c.args.outputs.now files taken) files_after taken_after) c.put_rows.result
          (λ part start stops is.
          stops-putting start stops lab c.args.outputs.now files files_after taken c.append_all.ensures.changes is c.args.script.now c.append_all.new.outputs rows taken_after
          (c.requires.is.lab_is.script_is.script_is ∙ c.requires.script_is) c.in_ok-append_all.ensures.going_on c.append_all.ensures.files c.append_all.ensures.rows c.rows.ensures part)
          c.put_rows.ensures.puts_text.text;
      stores_and_puts = StoresAndPuts-puts g.S.Shelf g.K.Sink _ _ _ _ _ _ (CountsNoFault-writes g.S.Shelf _ _ _ c.in_ok-append_all.ensures.only_writes)
          c.put_rows.ensures.puts_text;
      never = λ shelf out known. c.put_rows.ensures.puts_text.reliable out;
    }

pub returns-in_err-append_all-clause-stores_and_puts : goal.returns-in_err-append_all-clause-stores_and_puts
returns-in_err-append_all-clause-stores_and_puts g c =
    StoresAndPuts-passed g.S.Shelf g.K.Sink c.from_residual.result c.in_err-append_all.field-0.0 _ _ c.from_residual.ensures.1
    (StoresAndPuts-writes g.S.Shelf g.K.Sink _ _ _ _ c.in_err-append_all.ensures.only_writes)
