-- What a run of a script leaves is of that script.
use Rattle.run_laws.specs.Prelude.{subst, sym, [], append-nil, IsReached, IsOutcomeOf, OutcomesAreOfScripts}
use Rattle.run_laws.proofs.RowStages.{stages-are_reported}
use Rattle.run_laws.proofs.SampleSizes.{stages-have_sizes}

pub outcomes-are_of_scripts : OutcomesAreOfScripts
outcomes-are_of_scripts script wavs session capture client_stops reader_stops outcome script_is session_is run =
    let reached : IsReached script wavs session script.body [] run.end =
    record { script_is = script_is; session_is = session_is; body = sym (append-nil script.body); may = run.may } in
    let left = stages-are_reported script wavs session script.body [] run.end reached in
    subst (IsOutcomeOf script) (sym run.is) (record {
      report = record { lines = left.lines; rows = left.rows; tail = left.tail };
      sizes = stages-have_sizes script wavs session capture script.body [] run.end reached;
    })
