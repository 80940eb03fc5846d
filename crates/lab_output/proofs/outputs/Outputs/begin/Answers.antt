use Rattle.std.proofs.Common.{rules}
use Rattle.lab_output.proofs.Going.{begin-going_on, begin-Changes}
use Rattle.lab_output.proofs.outputs.Outputs.begin.Goals as goal

pub returns : goal.returns
returns g c = record {
  going_on = begin-going_on c.begin_files.result c.as_slice.result.now _ _ _ _ c.as_slice.ensures.value c.requires.outputs.number c.requires.new
      c.begin_files.ensures.opened;
  changes = begin-Changes c.begin_files.result c.as_slice.result.now _ _ _ c.as_slice.ensures.value
      c.begin_files.ensures.opened c.begin_files.ensures.part;
  only_writes = c.begin_files.ensures.only_writes;
  never = search rules;
}
