use Rattle.lab_commands.specs.Prelude.{List, refl, ℕ, ◌∙◌, err_from_is_err_and, Err, Option, Files, Stops, stops_by, status_of-read, status_of-written}
use Rattle.lab_commands.specs.Prelude.{FetchFaults-only, InputFaults-reads, InputFaults-same, OutputFaults-after, OutputFaults-reads, input_of, rises}
use Rattle.lab_commands.proofs.Leaving.{Finished-played, CommandLeaves-stopped}
use Rattle.lab_commands.proofs.commands.run_command.Goals as goal

pub returns-in_err-outcome-clause-leaves : goal.returns-in_err-outcome-clause-leaves
returns-in_err-outcome-clause-leaves g c =
    let gates : Stops = rises (stops_by g.G.Gate.stops c.args.gates.now) (stops_by g.G.Gate.stops c.play.new.gates) in
    let before : Option Files = g.S.Shelf.files c.args.shelf.now in
    let between : Option Files = g.S.Shelf.files c.read_input.new.shelf in
    let after : Option Files = g.S.Shelf.files c.play.new.shelf in
    let taken : Option (List ℕ) = g.K.Sink.taken c.args.out.now in
    let taken_after : Option (List ℕ) = g.K.Sink.taken c.play.new.out in
    let p = err_from_is_err_and c.from_residual-in_err-outcome.result c.from_residual-in_err-outcome.ensures.1 in
    rw (p.1, p.2)
    (CommandLeaves-stopped (record { exact = c.runs_are_exact.ensures; own = c.actors_do_their_own.ensures; says = c.runs_are_checked.ensures.headline; checked = c.runs_are_checked.ensures.checked }) (input_of c.in_ok-input.input) c.args.script.now c.args.name.now gates before between
    after taken taken_after c.in_ok-input.ensures.input.answer c.in_ok-input.ensures.script c.in_ok-input.ensures.only_reads.files c.in_err-outcome.field-0.0 c.in_err-outcome.ensures.stores_and_puts.only c.in_err-outcome.ensures.part)

pub returns-clause-asked : goal.returns-clause-asked
returns-clause-asked g c =
    let stops : Stops = rises (stops_by g.G.Gate.stops c.args.gates.now) (stops_by g.G.Gate.stops c.play.new.gates) in
    Finished-played g.G.Gate.asked c.args.gates.now c.play.new.gates (record { exact = c.runs_are_exact.ensures; own = c.actors_do_their_own.ensures; says = c.runs_are_checked.ensures.headline; checked = c.runs_are_checked.ensures.checked }) (input_of c.in_ok-input.input)
    c.args.script.now c.args.name.now stops (g.S.Shelf.files c.args.shelf.now) (g.S.Shelf.files c.read_input.new.shelf) (g.S.Shelf.files c.play.new.shelf)
    (g.K.Sink.taken c.args.out.now) (g.K.Sink.taken c.play.new.out) c.in_ok-input.ensures.input.answer c.in_ok-input.ensures.script c.in_ok-input.ensures.only_reads.files _ c.numbers_are_in_range.ensures c.in_ok-outcome.ensures.done

pub returns-clause-leaves : goal.returns-clause-leaves
returns-clause-leaves g c =
    let stops : Stops = rises (stops_by g.G.Gate.stops c.args.gates.now) (stops_by g.G.Gate.stops c.play.new.gates) in
    let before : Option Files = g.S.Shelf.files c.args.shelf.now in
    let between : Option Files = g.S.Shelf.files c.read_input.new.shelf in
    let after : Option Files = g.S.Shelf.files c.play.new.shelf in
    let taken : Option (List ℕ) = g.K.Sink.taken c.args.out.now in
    let taken_after : Option (List ℕ) = g.K.Sink.taken c.play.new.out in
    (Finished-played g.G.Gate.asked c.args.gates.now c.play.new.gates (record { exact = c.runs_are_exact.ensures; own = c.actors_do_their_own.ensures; says = c.runs_are_checked.ensures.headline; checked = c.runs_are_checked.ensures.checked }) (input_of c.in_ok-input.input)
    c.args.script.now c.args.name.now stops before between after taken taken_after c.in_ok-input.ensures.input.answer c.in_ok-input.ensures.script c.in_ok-input.ensures.only_reads.files _
    c.numbers_are_in_range.ensures c.in_ok-outcome.ensures.done).finished

pub returns-in_err-input-clause-statuses : goal.returns-in_err-input-clause-statuses
returns-in_err-input-clause-statuses g c =
    let p = err_from_is_err_and c.from_residual.result c.from_residual.ensures.1 in
    rw (p.1, p.2)
    (status_of-read {T = Unit {0}} (Err c.in_err-input.field-0.0)
    (FetchFaults-only {X = Unit {0}} (Err c.in_err-input.field-0.0) _ _ c.in_err-input.ensures.only_reads.faults))

pub returns-in_err-outcome-clause-statuses : goal.returns-in_err-outcome-clause-statuses
returns-in_err-outcome-clause-statuses g c =
    let p = err_from_is_err_and c.from_residual-in_err-outcome.result c.from_residual-in_err-outcome.ensures.1 in
    rw (p.1, p.2) (status_of-written {T = Unit {0}} (Err c.in_err-outcome.field-0.0) c.in_err-outcome.ensures.stores_and_puts.only)

pub returns-in_err-input-clause-reads : goal.returns-in_err-input-clause-reads
returns-in_err-input-clause-reads g c =
    let p = err_from_is_err_and c.from_residual.result c.from_residual.ensures.1 in
    rw (p.1, p.2)
    (InputFaults-reads {X = Unit {0}} (Err c.in_err-input.field-0.0) _ _ c.in_err-input.ensures.only_reads.faults)

pub returns-in_err-input-clause-writes : goal.returns-in_err-input-clause-writes
returns-in_err-input-clause-writes g c =
    let p = err_from_is_err_and c.from_residual.result c.from_residual.ensures.1 in
    rw (p.1, p.2)
    (OutputFaults-reads {X = Unit {0}} (Err c.in_err-input.field-0.0) _ _ _ _
    (FetchFaults-only {X = Unit {0}} (Err c.in_err-input.field-0.0) _ _ c.in_err-input.ensures.only_reads.faults) c.in_err-input.ensures.only_reads.write_faults refl)

pub returns-in_err-outcome-clause-reads : goal.returns-in_err-outcome-clause-reads
returns-in_err-outcome-clause-reads g c =
    let p = err_from_is_err_and c.from_residual-in_err-outcome.result c.from_residual-in_err-outcome.ensures.1 in
    rw (p.1, p.2)
    (InputFaults-same {X = Unit {0}} (Err c.in_err-outcome.field-0.0) _ _ c.in_err-outcome.ensures.stores_and_puts.only
    (c.in_err-outcome.ensures.stores_and_puts.fetch_faults ∙ c.in_ok-input.ensures.only_reads.faults))

pub returns-in_err-outcome-clause-writes : goal.returns-in_err-outcome-clause-writes
returns-in_err-outcome-clause-writes g c =
    let p = err_from_is_err_and c.from_residual-in_err-outcome.result c.from_residual-in_err-outcome.ensures.1 in
    rw (p.1, p.2)
    (OutputFaults-after {X = Unit {0}} (Err c.in_err-outcome.field-0.0) _ _ _ _ _ _
    (record { writes_same = c.in_ok-input.ensures.only_reads.write_faults; puts_same = refl }) c.in_err-outcome.ensures.stores_and_puts.faults)

pub returns-clause-reads : goal.returns-clause-reads
returns-clause-reads g c = c.in_ok-outcome.ensures.stores_and_puts.fetch_faults ∙ c.in_ok-input.ensures.only_reads.faults

pub returns-clause-writes : goal.returns-clause-writes
returns-clause-writes g c = record {
  writes_same = c.in_ok-outcome.ensures.stores_and_puts.faults.writes_same ∙ c.in_ok-input.ensures.only_reads.write_faults;
  puts_same = c.in_ok-outcome.ensures.stores_and_puts.faults.puts_same;
}
