use Rattle.asound_conf.specs.Prelude.{◌≡◌, Alters, group_of, name_in, without_name}
use Rattle.asound_conf.proofs.Groups.{members}
use Rattle.asound_conf.proofs.group.remove_all.Given as goal

abbrev pub invariant-loop-number : goal.invariant-loop-number
invariant-loop-number l = record {
  left : without_name (name_in l.table.text l.name) (group_of l.group l.table.rows) ≡ without_name (name_in l.initial.table.text l.name) (group_of l.group l.initial.table.rows);
  text : l.table.text ≡ l.initial.table.text;
  alters : Alters l.group l.initial.table.rows l.table.rows;
}

abbrev pub decreases-loop-number : goal.decreases-loop-number
decreases-loop-number l = members l.group l.table.rows
