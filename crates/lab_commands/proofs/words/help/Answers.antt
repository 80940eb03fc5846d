use Rattle.lab_commands.specs.Prelude.{rules, help_text}
use Rattle.lab_commands.proofs.words.help.Goals as goal

pub returns : goal.returns
unfolding help_text
returns c = search rules
