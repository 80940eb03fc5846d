use Rattle.lab_commands.specs.Prelude.{EndsOf-answered, EndsReliably-answered, Refuses-tests, status_of-most, InputFaults-tests, OutputFaults-tests, check_in}
use Rattle.lab_commands.proofs.Leaving.{CommandLeaves-checked}
use Rattle.lab_commands.proofs.commands.check_command.Goals as goal

pub returns : goal.returns
returns g c = record {
  leaves = λ gates taken. CommandLeaves-checked c.args.script.now c.args.report.now c.args.name.now gates _ _ taken c.check_run.result c.check_run.ensures.done c.check_run.ensures.only_tests.files;
  cause = λ files told. EndsOf-answered (λ done. done) c.check_run.result (check_in files c.args.script.now c.args.report.now c.args.name.now) (c.check_run.ensures.check.answer files told);
  reliable = λ shelf files told.
      EndsReliably-answered (λ done. done) c.check_run.result (check_in files c.args.script.now c.args.report.now c.args.name.now)
      (c.check_run.ensures.check.answer files told) (c.check_run.ensures.check.missing shelf files told);
  statuses = status_of-most c.check_run.result;
  words = Refuses-tests c.check_run.result _ _ _ c.check_run.ensures.only_tests.faults;
  reads = InputFaults-tests c.check_run.result _ _ c.check_run.ensures.only_tests.faults;
  writes = λ puts. OutputFaults-tests c.check_run.result _ _ _ _ puts c.check_run.ensures.only_tests.faults c.check_run.ensures.only_tests.write_faults;
}
