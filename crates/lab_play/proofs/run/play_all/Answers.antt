use Rattle.lab_play.specs.Prelude.{ap, refl, rules, sym, ◌∙◌, IfOk-weaker, Err, List, Option, ℕ, ◌≡◌, Files, first_stage, session_of, session_of-same}
use Rattle.lab_play.specs.Prelude.{outcome_in, Stops, stops_by, BothCountNoFault-done, BothCountNoFault-then, StoresAndPuts-after, StoresAndPuts-passed}
use Rattle.lab_play.specs.Prelude.{RunInput, EndsWith, IsNewRun, StopsAtEnd, HasPlayedAsking, HasStopped, Scene, scene, Start, rises}
use Rattle.lab_play.proofs.Beginning.{HasStopped-first, IsPlaying-first, stage-first, start-of}
use Rattle.lab_play.proofs.Ending.{HasPlayedAsking-end}
use Rattle.lab_play.proofs.ItemsResults.{OnErr-all, OnErr-more}
use Rattle.lab_play.proofs.ItemsStopped.{HasStopped-closed}
use Rattle.lab_stop.specs.declared.stop.Stop.TheVariants as stop
use Rattle.lab_play.proofs.run.play_all.Goals as goal

pub returns-in_err-begin-clause-part : goal.returns-in_err-begin-clause-part
returns-in_err-begin-clause-part g c =
    let stops : Stops = stops_by g.G.Gate.stops c.args.gates.now in
    let files : Option Files = g.S.Shelf.files c.args.shelf.now in
    let taken : Option (List ℕ) = g.K.Sink.taken c.args.out.now in
    OnErr-all
    ((input : RunInput) (name : List ℕ) → IsNewRun input name c.args.lab c.args.outputs
    → HasStopped input name (rises stops stops) files (g.S.Shelf.files c.begin.new.shelf) taken (g.K.Sink.taken c.begin.new.out))
    c.from_residual.result
    (λ input name is. HasStopped-first input name stops c.args.lab c.args.outputs files taken is (g.S.Shelf.files c.begin.new.shelf) (g.K.Sink.taken c.begin.new.out)
    c.in_err-begin.ensures.changes c.in_err-begin.ensures.text)

pub do_items-requires-clause-playing : goal.do_items-requires-clause-playing
do_items-requires-clause-playing g c κs within =
    let stops : Stops = stops_by g.G.Gate.stops c.args.gates.now in
    let files : Option Files = g.S.Shelf.files c.args.shelf.now in
    let taken : Option (List ℕ) = g.K.Sink.taken c.args.out.now in
    let new = c.requires.new in
    record {
      start = start-of new.input new.out stops c.args.lab c.args.outputs files taken new.is;
      script_is = new.script_is;
      is = IsPlaying-first new.input new.out stops c.args.lab c.args.outputs files taken new.is (g.S.Shelf.files c.begin.new.shelf) (g.K.Sink.taken c.begin.new.out)
          c.in_ok-begin.ensures.going_on c.in_ok-begin.ensures.taken;
    }

pub stop-requires : goal.stop-requires
stop-requires g c =
    let stops : Stops = stops_by g.G.Gate.stops c.args.gates.now in
    let files : Option Files = g.S.Shelf.files c.args.shelf.now in
    let taken : Option (List ℕ) = g.K.Sink.taken c.args.out.now in
    let new = c.requires.new in
    let stopped = c.in-Err.ensures.part (start-of new.input new.out stops c.args.lab c.args.outputs files taken new.is)
    (IsPlaying-first new.input new.out stops c.args.lab c.args.outputs files taken new.is (g.S.Shelf.files c.begin.new.shelf) (g.K.Sink.taken c.begin.new.out) c.in_ok-begin.ensures.going_on
    c.in_ok-begin.ensures.taken) in
    record { at = record { stage = stopped.stage; at = stopped.lab_is.stage_is } }

pub returns : goal.returns
returns g c =
    let stops : Stops = stops_by g.G.Gate.stops c.args.gates.now in
    let files : Option Files = g.S.Shelf.files c.args.shelf.now in
    let taken : Option (List ℕ) = g.K.Sink.taken c.args.out.now in
    let new = c.requires.new in
    record {
      done = search rules;
      part = λ input name is.
          let start : Start = start-of input name stops c.args.lab c.args.outputs files taken is in
          HasStopped-closed start (stops_by g.G.Gate.stops c.do_items.new.gates) c.do_items.new.lab (g.S.Shelf.files c.do_items.new.shelf) (g.K.Sink.taken c.do_items.new.out)
          (c.in-Err.ensures.part start
          (IsPlaying-first input name stops c.args.lab c.args.outputs files taken is (g.S.Shelf.files c.begin.new.shelf) (g.K.Sink.taken c.begin.new.out) c.in_ok-begin.ensures.going_on
          c.in_ok-begin.ensures.taken))
          c.stop.ensures.mix;
      stores_and_puts = StoresAndPuts-after g.S.Shelf g.K.Sink _ _ _ _ (BothCountNoFault-done g.S.Shelf g.K.Sink _ _ _ c.in_ok-begin.ensures.stores_and_puts)
          (StoresAndPuts-passed g.S.Shelf g.K.Sink _ c.in-Err.stop _ _ refl c.in-Err.ensures.stores_and_puts);
      never = λ shelf out known failed.
          let files : Option Files = g.S.Shelf.files c.args.shelf.now in
          let taken : Option (List ℕ) = g.K.Sink.taken c.args.out.now in
          c.do_items.ensures.never (c.begin.ensures.stores_and_puts.reliable shelf) (c.begin.ensures.stores_and_puts.reliable_out out)
          (record {
            start = start-of new.input new.out stops c.args.lab c.args.outputs files taken new.is;
            is = IsPlaying-first new.input new.out stops c.args.lab c.args.outputs files taken new.is (g.S.Shelf.files c.begin.new.shelf) (g.K.Sink.taken c.begin.new.out)
                c.in_ok-begin.ensures.going_on c.in_ok-begin.ensures.taken;
            known = known;
          })
          (let stop_is : c.in-Err.stop ≡ stop.Write = cc in c.in-Err.is ∙ ap Err stop_is);
    }

pub end-requires-clause-playing : goal.end-requires-clause-playing
end-requires-clause-playing g c =
    let stops : Stops = stops_by g.G.Gate.stops c.args.gates.now in
    let files : Option Files = g.S.Shelf.files c.args.shelf.now in
    let taken : Option (List ℕ) = g.K.Sink.taken c.args.out.now in
    let new = c.requires.new in
    record {
      start = start-of new.input new.out stops c.args.lab c.args.outputs files taken new.is;
      stops = stops_by g.G.Gate.stops c.do_items.new.gates;
      script_is = new.script_is;
      is = (c.in-Ok.ensures.done (start-of new.input new.out stops c.args.lab c.args.outputs files taken new.is)
          (IsPlaying-first new.input new.out stops c.args.lab c.args.outputs files taken new.is (g.S.Shelf.files c.begin.new.shelf) (g.K.Sink.taken c.begin.new.out)
          c.in_ok-begin.ensures.going_on c.in_ok-begin.ensures.taken)).playing;
    }

pub returns-in-Ok : goal.returns-in-Ok
returns-in-Ok g c =
    let stops : Stops = stops_by g.G.Gate.stops c.args.gates.now in
    let after : Stops = stops_by g.G.Gate.stops c.do_items.new.gates in
    let files : Option Files = g.S.Shelf.files c.args.shelf.now in
    let taken : Option (List ℕ) = g.K.Sink.taken c.args.out.now in
    let at : Scene = scene c.do_items.new.lab c.do_items.new.outputs (g.S.Shelf.files c.do_items.new.shelf) (g.K.Sink.taken c.do_items.new.out) in
    let first = λ (input : RunInput) (name : List ℕ) (is : IsNewRun input name c.args.lab c.args.outputs).
    IsPlaying-first input name stops c.args.lab c.args.outputs files taken is (g.S.Shelf.files c.begin.new.shelf) (g.K.Sink.taken c.begin.new.out)
    c.in_ok-begin.ensures.going_on c.in_ok-begin.ensures.taken in
    let goes = λ (input : RunInput) (name : List ℕ) (is : IsNewRun input name c.args.lab c.args.outputs).
    c.in-Ok.ensures.done (start-of input name stops c.args.lab c.args.outputs files taken is) (first input name is) in
    record {
      done = IfOk-weaker c.end.result (λ outcome. EndsWith at (outcome_in outcome) (g.S.Shelf.files c.end.new.shelf) (g.K.Sink.taken c.end.new.out))
          (λ outcome. (input : RunInput) (name : List ℕ) → IsNewRun input name c.args.lab c.args.outputs
          → HasPlayedAsking g.G.Gate.asked c.args.gates.now c.do_items.new.gates input name (rises stops after) (outcome_in outcome) files (g.S.Shelf.files c.end.new.shelf) taken
          (g.K.Sink.taken c.end.new.out))
          (λ outcome ends input name is.
          let start : Start = start-of input name stops c.args.lab c.args.outputs files taken is in
          let first_is = stage-first input name stops c.args.lab c.args.outputs files taken is (g.S.Shelf.files c.begin.new.shelf) (g.K.Sink.taken c.begin.new.out)
          c.in_ok-begin.ensures.going_on c.in_ok-begin.ensures.taken in
          let went = goes input name is in
          HasPlayedAsking-end g.G.Gate.asked c.args.gates.now c.do_items.new.gates (session_of c.do_items.new.lab) (first input name is).stage went.playing.stage start after (outcome_in outcome)
          (g.S.Shelf.files c.end.new.shelf) (g.K.Sink.taken c.end.new.out)
          (first_is ∙ ap first_stage (sym (session_of-same c.args.lab c.do_items.new.lab c.in-Ok.ensures.same))) went.gates (ends start after went.playing))
          c.end.ensures.done;
      part = OnErr-more (StopsAtEnd at (g.S.Shelf.files c.end.new.shelf) (g.K.Sink.taken c.end.new.out))
          ((input : RunInput) (name : List ℕ) → IsNewRun input name c.args.lab c.args.outputs
          → HasStopped input name (rises stops after) files (g.S.Shelf.files c.end.new.shelf) taken (g.K.Sink.taken c.end.new.out))
          c.end.result
          (λ ends input name is. ends (start-of input name stops c.args.lab c.args.outputs files taken is) after (goes input name is).playing)
          c.end.ensures.part;
      stores_and_puts = StoresAndPuts-after g.S.Shelf g.K.Sink c.end.result _ _ _
          (BothCountNoFault-then g.S.Shelf g.K.Sink _ _ _ (BothCountNoFault-done g.S.Shelf g.K.Sink _ _ _ c.in_ok-begin.ensures.stores_and_puts)
          (BothCountNoFault-done g.S.Shelf g.K.Sink _ _ _ c.in-Ok.ensures.stores_and_puts)) c.end.ensures.stores_and_puts;
      never = λ shelf out known failed.
          let new = c.requires.new in
          c.end.ensures.never (c.do_items.ensures.stores_and_puts.reliable (c.begin.ensures.stores_and_puts.reliable shelf))
          (c.do_items.ensures.stores_and_puts.reliable_out (c.begin.ensures.stores_and_puts.reliable_out out))
          (record { start = start-of new.input new.out stops c.args.lab c.args.outputs files taken new.is; stops = after; is = (goes new.input new.out new.is).playing; known = known })
          failed;
    }

pub do_items-requires-clause-gates : goal.do_items-requires-clause-gates
do_items-requires-clause-gates g c κs within = c.requires.gates

pub returns-in_err-begin-clause-stores_and_puts : goal.returns-in_err-begin-clause-stores_and_puts
returns-in_err-begin-clause-stores_and_puts g c =
    StoresAndPuts-passed g.S.Shelf g.K.Sink c.from_residual.result c.in_err-begin.field-0.0 _ _ c.from_residual.ensures.1
    c.in_err-begin.ensures.stores_and_puts
