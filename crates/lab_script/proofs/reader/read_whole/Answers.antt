use Rattle.lab_script.specs.Prelude.{◌+◌, lines_from, words_between}
use Rattle.lab_script.proofs.Pairs.{first_refused}
use Rattle.lab_script.proofs.reader.read_whole.Goals as goal

pub returns-in-Err : goal.returns-in-Err
returns-in-Err c =
    first_refused c.in-Some.line.number (words_between c.in-Some.line.words.now) (lines_from (c.in-Some.line.number + 1) c.in-Some.line.rest.now) (lines_from 1 c.args.text.now) c.in-Err.why c.in-Some.ensures.line c.in-Err.ensures
