use Rattle.lab_commands.specs.Words.{form_of, texts}
use Rattle.lab_commands.proofs.Asking.{AskedIn-none}
use Rattle.lab_commands.proofs.top.command.Goals as goal

pub returns-in-Some-Check-clause-asked : goal.returns-in-Some-Check-clause-asked
returns-in-Some-Check-clause-asked g c =
    AskedIn-none g.G.Gate.asked c.args.gates.now _ _ _ _ _ _ _ (form_of (texts c.args.words.now)) (rw c.in-Some-Check.field-0-is at c.in-Some-Check.ensures.form) tt

pub returns-in-Some-Refine-clause-asked : goal.returns-in-Some-Refine-clause-asked
returns-in-Some-Refine-clause-asked g c =
    AskedIn-none g.G.Gate.asked c.args.gates.now _ _ _ _ _ _ _ (form_of (texts c.args.words.now)) (rw c.in-Some-Refine.field-0-is at c.in-Some-Refine.ensures.form) tt

pub returns-in-Some-Conf-clause-asked : goal.returns-in-Some-Conf-clause-asked
returns-in-Some-Conf-clause-asked g c =
    AskedIn-none g.G.Gate.asked c.args.gates.now _ _ _ _ _ _ _ (form_of (texts c.args.words.now)) (rw c.in-Some-Conf.field-0-is at c.in-Some-Conf.ensures.form) tt

pub returns-in-Some-Help-clause-asked : goal.returns-in-Some-Help-clause-asked
returns-in-Some-Help-clause-asked g c =
    AskedIn-none g.G.Gate.asked c.args.gates.now _ _ _ _ _ _ _ (form_of (texts c.args.words.now)) (rw c.in-Some-Help.field-0-is at c.in-Some-Help.ensures.form) tt

pub returns-in-Some-Version-clause-asked : goal.returns-in-Some-Version-clause-asked
returns-in-Some-Version-clause-asked g c =
    AskedIn-none g.G.Gate.asked c.args.gates.now _ _ _ _ _ _ _ (form_of (texts c.args.words.now)) (rw c.in-Some-Version.field-0-is at c.in-Some-Version.ensures.form) tt
