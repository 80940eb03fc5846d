use Rattle.lab_commands.specs.Prelude.{status_of-written, InputFaults-same}
use Rattle.lab_commands.proofs.Leaving.{CommandLeaves-made}
use Rattle.lab_commands.proofs.commands.make_command.Goals as goal

pub returns-clause-leaves : goal.returns-clause-leaves
returns-clause-leaves g c =
    CommandLeaves-made g.G.Gate.asked c.args.gates.now c.make_workload.new.gates c.args.workload.now _ _ _ _ _ c.make_workload.result c.make_workload.ensures.only c.make_workload.ensures.done c.make_workload.ensures.part

pub returns-clause-asked : goal.returns-clause-asked
returns-clause-asked g c = c.make_workload.ensures.done

pub returns-clause-statuses : goal.returns-clause-statuses
returns-clause-statuses g c = status_of-written c.make_workload.result c.make_workload.ensures.only

pub returns-clause-reads : goal.returns-clause-reads
returns-clause-reads g c = InputFaults-same c.make_workload.result _ _ c.make_workload.ensures.only c.make_workload.ensures.fetch_faults
