use Rattle.lab_play.specs.Prelude.{inr, refl, subst, IfOk-weaker, option_copied, Err, List, Option, ℕ, Sound, Files, IsOfScript, outcome_in, Stops, stops_by}
use Rattle.lab_play.specs.Prelude.{AreSamples, StoresAndPuts-nothing, StoresAndPuts-passed, RunInput, IsNewRun, HasPlayedAsking, HasPlayedPart, HasStopped}
use Rattle.lab_play.specs.Prelude.{rises}
use Rattle.lab_input.specs.Read.{input_of}
use Rattle.lab_play.proofs.Exactly.{HasStoppedRun-stopped}
use Rattle.lab_play.proofs.ItemsResults.{OnErr-more}
use Rattle.lab_play.proofs.run.play.Goals as goal

pub play_all-requires-clause-new : goal.play_all-requires-clause-new
play_all-requires-clause-new g c κs within = record {
  input = input_of c.args.input.now;
  out = c.args.name.now;
  script_is = refl;
  is = record {
    script_is =
        subst (λ (capture : Option Sound). IsOfScript c.args.input.now.script c.args.input.now.wavs.items capture c.in-Ok.lab) c.as_ref.ensures.value
        (subst (λ (wavs : List Sound). IsOfScript c.args.input.now.script wavs (option_copied c.as_ref.result) c.in-Ok.lab) c.deref.ensures.value c.in-Ok.ensures.script);
    samples = subst AreSamples c.as_slice.ensures.value c.samples_are_of_16_bits.ensures;
    first = c.in-Ok.ensures.first;
    none = c.in-Ok.ensures.none;
    silent = c.in-Ok.ensures.silent;
    outputs_are = c.in_ok-outputs.ensures.outputs;
    new = c.in_ok-outputs.ensures.new;
  };
}

pub play_all-requires-clause-gates : goal.play_all-requires-clause-gates
play_all-requires-clause-gates g c κs within = c.requires.gates

pub returns : goal.returns
returns g c =
    let input : RunInput = input_of c.args.input.now in
    let stops : Stops = rises (stops_by g.G.Gate.stops c.args.gates.now) (stops_by g.G.Gate.stops c.play_all.new.gates) in
    let files : Option Files = g.S.Shelf.files c.args.shelf.now in
    let taken : Option (List ℕ) = g.K.Sink.taken c.args.out.now in
    let files_after : Option Files = g.S.Shelf.files c.play_all.new.shelf in
    let taken_after : Option (List ℕ) = g.K.Sink.taken c.play_all.new.out in
    let new : IsNewRun input c.args.name.now c.in-Ok.lab c.in_ok-outputs.outputs = record {
      script_is =
          subst (λ (capture : Option Sound). IsOfScript c.args.input.now.script c.args.input.now.wavs.items capture c.in-Ok.lab) c.as_ref.ensures.value
          (subst (λ (wavs : List Sound). IsOfScript c.args.input.now.script wavs (option_copied c.as_ref.result) c.in-Ok.lab) c.deref.ensures.value c.in-Ok.ensures.script);
      samples = subst AreSamples c.as_slice.ensures.value c.samples_are_of_16_bits.ensures;
      first = c.in-Ok.ensures.first;
      none = c.in-Ok.ensures.none;
      silent = c.in-Ok.ensures.silent;
      outputs_are = c.in_ok-outputs.ensures.outputs;
      new = c.in_ok-outputs.ensures.new;
    } in
    record {
      done = IfOk-weaker c.play_all.result
          (λ outcome. (own : RunInput) (name : List ℕ) → IsNewRun own name c.in-Ok.lab c.in_ok-outputs.outputs
          → HasPlayedAsking g.G.Gate.asked c.args.gates.now c.play_all.new.gates own name stops (outcome_in outcome) files files_after taken taken_after)
          (λ outcome. HasPlayedAsking g.G.Gate.asked c.args.gates.now c.play_all.new.gates input c.args.name.now stops (outcome_in outcome) files files_after taken taken_after)
          (λ outcome done. done input c.args.name.now new)
          c.play_all.ensures.done;
      part = OnErr-more
          ((own : RunInput) (name : List ℕ) → IsNewRun own name c.in-Ok.lab c.in_ok-outputs.outputs → HasStopped own name stops files files_after taken taken_after)
          (HasPlayedPart input c.args.name.now stops files files_after taken taken_after) c.play_all.result
          (λ part. inr (HasStoppedRun-stopped (record {
            one = c.one_run.ensures;
            on = c.runs_go_on.ensures;
            grow = c.stages_grow.ensures.grow;
            bound = c.scripts_bind_channels.ensures;
            stays = c.played_samples_stay.ensures;
          }) input c.args.name.now stops files files_after taken taken_after (part input c.args.name.now new)))
          c.play_all.ensures.part;
      stores_and_puts = c.play_all.ensures.stores_and_puts;
      never = c.play_all.ensures.never;
    }

pub returns-in_err-outputs-clause-stores_and_puts : goal.returns-in_err-outputs-clause-stores_and_puts
returns-in_err-outputs-clause-stores_and_puts g c =
    StoresAndPuts-passed g.S.Shelf g.K.Sink c.from_residual.result c.in_err-outputs.field-0.0 _ _ c.from_residual.ensures.1
    (StoresAndPuts-nothing {X = Unit {0}} g.S.Shelf g.K.Sink (Err c.in_err-outputs.field-0.0) _ c.in_err-outputs.ensures.only)

pub returns-in_err-rings-clause-stores_and_puts : goal.returns-in_err-rings-clause-stores_and_puts
returns-in_err-rings-clause-stores_and_puts g c =
    StoresAndPuts-passed g.S.Shelf g.K.Sink c.from_residual-in_err-rings.result c.in_err-rings.field-0.0 _ _ c.from_residual-in_err-rings.ensures.1
    (StoresAndPuts-nothing {X = Unit {0}} g.S.Shelf g.K.Sink (Err c.in_err-rings.field-0.0) _ c.in_err-rings.ensures.only)

pub returns-in-Err-clause-stores_and_puts : goal.returns-in-Err-clause-stores_and_puts
returns-in-Err-clause-stores_and_puts g c = StoresAndPuts-nothing g.S.Shelf g.K.Sink _ _ refl
