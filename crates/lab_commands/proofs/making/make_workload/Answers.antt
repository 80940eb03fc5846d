use Rattle.lab_commands.specs.Prelude.{ap, inr, List, refl, rules, subst, ℕ, ◌∙◌, err_from_is_err_and, on_err_weaker, on_ok_weaker, option_map, All, Err, Ok}
use Rattle.lab_commands.specs.Prelude.{Option, Files, IsPartWritten, with_file, IsScript, outcome_in, Stops, stops_by, OutputFaults-after, OutputFaults-kept}
use Rattle.lab_commands.specs.Prelude.{OutputFaults-memory, OutputFaults-puts, OutputFaults-writes, RunInput, input_of, Workload, IsMadeSound, IsReadBack}
use Rattle.lab_commands.specs.Prelude.{rises, report_name}
use Rattle.lab_commands.proofs.MadeParts.{IsMade-all, IsMadePart-before, IsMadePart-report, IsMadePart-run, IsMadePart-summary}
use Rattle.lab_commands.proofs.making.make_workload.Goals as goal

pub returns-in_err-store_input : goal.returns-in_err-store_input
returns-in_err-store_input g c =
    let w : Workload = c.args.workload.now in
    let stops : Stops = rises (stops_by g.G.Gate.stops c.args.gates.now) (stops_by g.G.Gate.stops c.args.gates.now) in
    let p = err_from_is_err_and c.from_residual-in_err-store_input.result c.from_residual-in_err-store_input.ensures.1 in
    record {
      done = search rules;
      part = rw p.1
          (inr (IsMadePart-before w stops c.as_slice.result.now c.as_slice-2.result.now (g.S.Shelf.files c.args.shelf.now) (g.S.Shelf.files c.store_input.new.shelf) (g.K.Sink.taken c.args.out.now)
          (c.as_slice.ensures.value ∙ ap (λ (i : RunInput). i.sounds) c.in_ok-made.ensures.input) (c.as_slice-2.ensures.value ∙ c.in_ok-made.ensures.text)
          c.in_err-store_input.ensures.part));
      only = rw (p.1, p.2) c.in_err-store_input.ensures.only_writes.only;
      fetch_faults = c.in_err-store_input.ensures.only_writes.fetch_faults;
      faults = rw (p.1, p.2)
          (OutputFaults-writes {X = Unit {0}} (Err c.in_err-store_input.field-0.0) _ _ _ _ c.in_err-store_input.ensures.only_writes.faults refl);
      never = search rules;
    }

pub returns-in_err-finished_run-clause-part : goal.returns-in_err-finished_run-clause-part
returns-in_err-finished_run-clause-part g c =
    let w : Workload = c.args.workload.now in
    let stops : Stops = rises (stops_by g.G.Gate.stops c.args.gates.now) (stops_by g.G.Gate.stops c.run_input.new.gates) in
    let p = err_from_is_err_and c.from_residual-in_err-finished_run.result c.from_residual-in_err-finished_run.ensures.1 in
    rw p.1
    (inr (IsMadePart-run w stops (input_of c.in_ok-made.made.input) c.as_slice.result.now c.as_slice-2.result.now (g.S.Shelf.files c.args.shelf.now) (g.S.Shelf.files c.store_input.new.shelf)
    (g.K.Sink.taken c.args.out.now) c.in_ok-made.ensures.input
    (c.as_slice.ensures.value ∙ ap (λ (i : RunInput). i.sounds) c.in_ok-made.ensures.input) (c.as_slice-2.ensures.value ∙ c.in_ok-made.ensures.text)
    c.in_ok-store_input.ensures.stored (g.S.Shelf.files c.run_input.new.shelf) c.in_err-finished_run.ensures.part))

pub returns-in_err-store : goal.returns-in_err-store
returns-in_err-store g c =
    let w : Workload = c.args.workload.now in
    let stops : Stops = rises (stops_by g.G.Gate.stops c.args.gates.now) (stops_by g.G.Gate.stops c.run_input.new.gates) in
    let ran : Option Files = g.S.Shelf.files c.run_input.new.shelf in
    let after : Option Files = g.S.Shelf.files c.store.new.shelf in
    let p = err_from_is_err_and c.from_residual-in_err-store.result c.from_residual-in_err-store.ensures.1 in
    record {
      done = search rules;
      part = rw p.1
          (inr (IsMadePart-report w stops (input_of c.in_ok-made.made.input) c.as_slice.result.now c.as_slice-2.result.now (g.S.Shelf.files c.args.shelf.now) (g.S.Shelf.files c.store_input.new.shelf)
          (g.K.Sink.taken c.args.out.now) c.in_ok-made.ensures.input
          (c.as_slice.ensures.value ∙ ap (λ (i : RunInput). i.sounds) c.in_ok-made.ensures.input) (c.as_slice-2.ensures.value ∙ c.in_ok-made.ensures.text)
          c.in_ok-store_input.ensures.stored g.G.Gate.asked c.args.gates.now c.run_input.new.gates ran (outcome_in c.in_ok-finished_run.finished_run.outcome) c.in_ok-finished_run.finished_run.report.items c.in_ok-finished_run.ensures.done after
          (subst (λ (bytes : List ℕ). IsPartWritten ran after report_name bytes) c.as_slice-3.ensures.value c.in_err-store.ensures.part)));
      only = rw (p.1, p.2) c.in_err-store.ensures.only_writes.only;
      fetch_faults = c.in_err-store.ensures.only_writes.fetch_faults ∙ c.in_ok-finished_run.ensures.fetch_faults ∙ c.in_ok-store_input.ensures.only_writes.fetch_faults;
      faults = rw (p.1, p.2)
          (OutputFaults-after {X = Unit {0}} (Err c.in_err-store.field-0.0) _ _ _ _ _ _
          (record { writes_same = c.in_ok-finished_run.ensures.faults.writes_same ∙ c.in_ok-store_input.ensures.only_writes.faults; puts_same = refl })
          (OutputFaults-writes {X = Unit {0}} (Err c.in_err-store.field-0.0) _ _ _ _ c.in_err-store.ensures.only_writes.faults refl));
      never = search rules;
    }

pub returns : goal.returns
returns g c =
    let w : Workload = c.args.workload.now in
    let stops : Stops = rises (stops_by g.G.Gate.stops c.args.gates.now) (stops_by g.G.Gate.stops c.run_input.new.gates) in
    let ran : Option Files = g.S.Shelf.files c.run_input.new.shelf in
    let after : Option Files = g.S.Shelf.files c.store.new.shelf in
    let input_is = c.in_ok-made.ensures.input in
    record {
      done = on_ok_weaker c.put_summary.result
          (λ put. IsMade-all w stops (input_of c.in_ok-made.made.input) c.as_slice.result.now c.as_slice-2.result.now (g.S.Shelf.files c.args.shelf.now) (g.S.Shelf.files c.store_input.new.shelf)
          (g.K.Sink.taken c.args.out.now) input_is
          (c.as_slice.ensures.value ∙ ap (λ (i : RunInput). i.sounds) input_is) (c.as_slice-2.ensures.value ∙ c.in_ok-made.ensures.text)
          c.in_ok-store_input.ensures.stored g.G.Gate.asked c.args.gates.now c.run_input.new.gates ran (outcome_in c.in_ok-finished_run.finished_run.outcome) c.in_ok-finished_run.finished_run.report.items c.in_ok-finished_run.ensures.done
          (record { exact = c.runs_are_exact.ensures; own = c.actors_do_their_own.ensures; one = c.scripts_have_one_session.ensures })
          (subst IsScript (ap (λ (i : RunInput). i.script) input_is) c.in_ok-made.ensures.script) after (g.K.Sink.taken c.put_summary.new.out)
          (c.in_ok-store.ensures.stored ∙ ap (λ (bytes : List ℕ). option_map (λ files. with_file files report_name bytes) ran) c.as_slice-3.ensures.value) put
          c.requires.workload (c.in_ok-made.ensures.spelled ∙ ap (λ (i : RunInput). Ok i.script) input_is)
          (subst (All IsMadeSound) (ap (λ (i : RunInput). i.sounds) input_is) c.in_ok-made.ensures.sounds)
          (subst (All IsReadBack) (c.as_slice.ensures.value ∙ ap (λ (i : RunInput). i.sounds) input_is) c.in_ok-store_input.ensures.read))
          c.put_summary.ensures.done;
      part = on_err_weaker c.put_summary.result
          (λ part. inr (IsMadePart-summary w stops (input_of c.in_ok-made.made.input) c.as_slice.result.now c.as_slice-2.result.now (g.S.Shelf.files c.args.shelf.now) (g.S.Shelf.files c.store_input.new.shelf)
          (g.K.Sink.taken c.args.out.now) c.in_ok-made.ensures.input
          (c.as_slice.ensures.value ∙ ap (λ (i : RunInput). i.sounds) c.in_ok-made.ensures.input) (c.as_slice-2.ensures.value ∙ c.in_ok-made.ensures.text)
          c.in_ok-store_input.ensures.stored g.G.Gate.asked c.args.gates.now c.run_input.new.gates ran (outcome_in c.in_ok-finished_run.finished_run.outcome) c.in_ok-finished_run.finished_run.report.items c.in_ok-finished_run.ensures.done after (g.K.Sink.taken c.put_summary.new.out)
          (c.in_ok-store.ensures.stored ∙ ap (λ (bytes : List ℕ). option_map (λ files. with_file files report_name bytes) ran) c.as_slice-3.ensures.value) part))
          c.put_summary.ensures.part;
      only = search rules;
      fetch_faults = c.in_ok-store.ensures.only_writes.fetch_faults ∙ c.in_ok-finished_run.ensures.fetch_faults ∙ c.in_ok-store_input.ensures.only_writes.fetch_faults;
      faults = OutputFaults-puts c.put_summary.result _ _ _ _
          (c.in_ok-store.ensures.only_writes.faults ∙ c.in_ok-finished_run.ensures.faults.writes_same ∙ c.in_ok-store_input.ensures.only_writes.faults)
          c.put_summary.ensures.faults;
      never = search rules;
    }

pub returns-in_err-made-clause-faults : goal.returns-in_err-made-clause-faults
returns-in_err-made-clause-faults g c =
    let p = err_from_is_err_and c.from_residual.result c.from_residual.ensures.1 in
    rw (p.1, p.2)
    (OutputFaults-memory {X = Unit {0}} (Err c.in_err-made.field-0.0) _ _ c.in_err-made.ensures.only)

pub returns-in_err-finished_run-clause-faults : goal.returns-in_err-finished_run-clause-faults
returns-in_err-finished_run-clause-faults g c =
    let p = err_from_is_err_and c.from_residual-in_err-finished_run.result c.from_residual-in_err-finished_run.ensures.1 in
    rw (p.1, p.2)
    (OutputFaults-after {X = Unit {0}} (Err c.in_err-finished_run.field-0.0) _ _ _ _ _ _
    (record { writes_same = c.in_ok-store_input.ensures.only_writes.faults; puts_same = refl })
    (OutputFaults-kept {X = Unit {0}} (Err c.in_err-finished_run.field-0.0) _ _ _ c.in_err-finished_run.ensures.faults))

pub returns-in_err-finished_run-clause-fetch_faults : goal.returns-in_err-finished_run-clause-fetch_faults
returns-in_err-finished_run-clause-fetch_faults g c = c.in_err-finished_run.ensures.fetch_faults ∙ c.in_ok-store_input.ensures.only_writes.fetch_faults
