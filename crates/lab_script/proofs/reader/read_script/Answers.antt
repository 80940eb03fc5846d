use Rattle.text_words.specs.Lexing.{lines_from}
use Rattle.lab_script.proofs.States.{answers-valid}
use Rattle.lab_script.proofs.reader.read_script.Goals as goal

pub returns-clause-valid : goal.returns-clause-valid
returns-clause-valid c = answers-valid (lines_from 1 c.args.text.now) c.read_whole.result c.read_whole.ensures
