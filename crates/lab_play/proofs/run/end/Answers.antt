use Rattle.lab_play.specs.Prelude.{ap, rules, subst, sym, ◌∙◌, option_map, Err, length, List, Option, ℕ, ◌++◌, ◌≡◌, TookPart, Script, IsReportOf, items_done}
use Rattle.lab_play.specs.Prelude.{CountsNoFault-writes, BothCountNoFault-done, StoresAndPuts-done, StoresAndPuts-passed, StoresAndPuts-puts}
use Rattle.lab_play.specs.Prelude.{StoresAndPuts-writes, tail_from, StopsAtEnd, Scene, scene, sounds_at}
use Rattle.lab_play.proofs.Ending.{EndsAt-all, HasStopped-finish, HasStopped-tail, report-at_end, rows-few, same-script, stop-passed}
use Rattle.lab_play.proofs.ItemsResults.{OnErr-all}
use Rattle.lab_stop.specs.declared.stop.Stop.TheVariants as stop
use Rattle.lab_play.proofs.run.end.Goals as goal

pub returns-in_err-finish : goal.returns-in_err-finish
returns-in_err-finish g c =
    let at : Scene = scene c.args.lab c.args.outputs.now (g.S.Shelf.files c.args.shelf.now) (g.K.Sink.taken c.args.out.now) in
    let script : Script = c.args.script.now in
    let own = c.requires.playing in
    record {
      done = search rules;
      part = OnErr-all (StopsAtEnd at (g.S.Shelf.files c.finish.new.shelf) (g.K.Sink.taken c.args.out.now)) c.from_residual.result
          (λ start stops is. HasStopped-finish start stops c.args.lab c.args.outputs.now (g.S.Shelf.files c.args.shelf.now) (g.K.Sink.taken c.args.out.now) is
          (subst (λ (s : Script). items_done c.args.lab ≡ length s.body) (same-script script own.start start own.stops stops at own.script_is own.is is) c.requires.all) c.finish-outcome.result
          c.finish-outcome.ensures.stage c.finish-outcome.ensures.played (g.S.Shelf.files c.finish.new.shelf)
          (c.finish.ensures.changes start.files (sounds_at c.args.lab is.stage) is.written.going_on)
          (c.finish.ensures.kept start.files (sounds_at c.args.lab is.stage) is.written.going_on));
      stores_and_puts = StoresAndPuts-passed g.S.Shelf g.K.Sink c.from_residual.result c.in_err-finish.field-0.0 _ _ c.from_residual.ensures.1
          (StoresAndPuts-writes g.S.Shelf g.K.Sink _ _ _ _ c.in_err-finish.ensures.only_writes);
      never = λ shelf out known failed. c.finish.ensures.never known.start.files (sounds_at c.args.lab known.is.stage) known.is.written.going_on known.known shelf
          (c.in_err-finish.was ∙ ap Err (stop-passed c.from_residual.result c.in_err-finish.field-0.0 stop.Write c.from_residual.ensures.1 failed));
    }

pub put_tail-requires-clause-rows : goal.put_tail-requires-clause-rows
put_tail-requires-clause-rows g c =
    let own = c.requires.playing in
    (subst (λ (s : Script). IsReportOf s c.finish-outcome.result.report) own.script_is
    (report-at_end own.start own.stops c.args.lab c.args.outputs.now (g.S.Shelf.files c.args.shelf.now) (g.K.Sink.taken c.args.out.now) own.is
    (subst (λ (s : Script). items_done c.args.lab ≡ length s.body) (sym own.script_is) c.requires.all) c.finish-outcome.result c.finish-outcome.ensures.stage c.finish-outcome.ensures.played
    c.outcomes_are_of_scripts.ensures)).rows

pub put_tail-requires-clause-tail : goal.put_tail-requires-clause-tail
put_tail-requires-clause-tail g c =
    let own = c.requires.playing in
    (subst (λ (s : Script). IsReportOf s c.finish-outcome.result.report) own.script_is
    (report-at_end own.start own.stops c.args.lab c.args.outputs.now (g.S.Shelf.files c.args.shelf.now) (g.K.Sink.taken c.args.out.now) own.is
    (subst (λ (s : Script). items_done c.args.lab ≡ length s.body) (sym own.script_is) c.requires.all) c.finish-outcome.result c.finish-outcome.ensures.stage c.finish-outcome.ensures.played
    c.outcomes_are_of_scripts.ensures)).tail

pub put_tail-requires-clause-more : goal.put_tail-requires-clause-more
put_tail-requires-clause-more g c =
    let own = c.requires.playing in
    rows-few own.start own.stops c.args.lab c.args.outputs.now (g.S.Shelf.files c.args.shelf.now) (g.K.Sink.taken c.args.out.now) own.is
    (subst (λ (s : Script). items_done c.args.lab ≡ length s.body) (sym own.script_is) c.requires.all) c.finish-outcome.result c.finish-outcome.ensures.stage c.finish-outcome.ensures.played

pub returns-in_err-put_tail : goal.returns-in_err-put_tail
returns-in_err-put_tail g c =
    let at : Scene = scene c.args.lab c.args.outputs.now (g.S.Shelf.files c.args.shelf.now) (g.K.Sink.taken c.args.out.now) in
    let script : Script = c.args.script.now in
    let own = c.requires.playing in
    let taken : Option (List ℕ) = g.K.Sink.taken c.args.out.now in
    let taken_after : Option (List ℕ) = g.K.Sink.taken c.put_tail.new.out in
    record {
      done = search rules;
      part = OnErr-all (StopsAtEnd at (g.S.Shelf.files c.finish.new.shelf) taken_after) c.from_residual-in_err-put_tail.result
          (λ start stops is. let same = same-script script own.start start own.stops stops at own.script_is own.is is in
          HasStopped-tail start stops c.args.lab c.args.outputs.now (g.S.Shelf.files c.args.shelf.now) taken is
          (subst (λ (s : Script). items_done c.args.lab ≡ length s.body) same c.requires.all) c.finish-outcome.result c.finish-outcome.ensures.stage c.finish-outcome.ensures.played
          (g.S.Shelf.files c.finish.new.shelf) taken_after (c.finish.ensures.changes start.files (sounds_at c.args.lab is.stage) is.written.going_on)
          (c.in_ok-finish.ensures.stored start.files (sounds_at c.args.lab is.stage) is.written.going_on)
          (subst (λ (s : Script). TookPart taken taken_after (tail_from s c.args.outputs.now.rows c.finish-outcome.result.report)) same c.in_err-put_tail.ensures.puts_text.text));
      stores_and_puts = StoresAndPuts-passed g.S.Shelf g.K.Sink c.from_residual-in_err-put_tail.result c.in_err-put_tail.field-0.0 _ _ c.from_residual-in_err-put_tail.ensures.1
          (StoresAndPuts-puts g.S.Shelf g.K.Sink _ _ _ _ _ _ (CountsNoFault-writes g.S.Shelf _ _ _ c.in_ok-finish.ensures.only_writes)
          c.in_err-put_tail.ensures.puts_text);
      never = λ shelf out known failed. c.put_tail.ensures.puts_text.reliable out
          (c.in_err-put_tail.was ∙ ap Err (stop-passed c.from_residual-in_err-put_tail.result c.in_err-put_tail.field-0.0 stop.Write c.from_residual-in_err-put_tail.ensures.1 failed));
    }

pub returns-clause-done : goal.returns-clause-done
returns-clause-done g c start stops is =
    let at : Scene = scene c.args.lab c.args.outputs.now (g.S.Shelf.files c.args.shelf.now) (g.K.Sink.taken c.args.out.now) in
    let script : Script = c.args.script.now in
    let own = c.requires.playing in
    let taken : Option (List ℕ) = g.K.Sink.taken c.args.out.now in
    let taken_after : Option (List ℕ) = g.K.Sink.taken c.put_tail.new.out in
    let same = same-script script own.start start own.stops stops at own.script_is own.is is in
    EndsAt-all start stops c.args.lab c.args.outputs.now (g.S.Shelf.files c.args.shelf.now) taken is
    (subst (λ (s : Script). items_done c.args.lab ≡ length s.body) same c.requires.all) c.finish-outcome.result c.finish-outcome.ensures.stage c.finish-outcome.ensures.played
    c.runs_keep_headline.ensures.headline c.runs_keep_headline.ensures.one (g.S.Shelf.files c.finish.new.shelf) taken_after
    (c.in_ok-finish.ensures.stored start.files (sounds_at c.args.lab is.stage) is.written.going_on)
    (subst (λ (s : Script). taken_after ≡ option_map (λ t. t ++ tail_from s c.args.outputs.now.rows c.finish-outcome.result.report) taken) same c.in_ok-put_tail.ensures.puts_text.taken)

pub returns-clause-stores_and_puts : goal.returns-clause-stores_and_puts
returns-clause-stores_and_puts g c =
    StoresAndPuts-done g.S.Shelf g.K.Sink _ _ _
    (BothCountNoFault-done g.S.Shelf g.K.Sink _ _ _
    (StoresAndPuts-puts g.S.Shelf g.K.Sink _ _ _ _ _ _ (CountsNoFault-writes g.S.Shelf _ _ _ c.in_ok-finish.ensures.only_writes)
    c.in_ok-put_tail.ensures.puts_text))
