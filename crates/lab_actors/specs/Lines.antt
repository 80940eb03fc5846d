-- An actor's lines in a phase: which of them are its own.
use Rattle.std.specs.Prelude.{ℕ, Bool, false, List, length}
use Rattle.lab_lines.specs.declared.line.Actor.{Actor}
use Rattle.lab_lines.specs.declared.line.Actor.TheVariants.{Card, Client, Reader}
use Rattle.lab_lines.specs.declared.line.Line.{Line}
use Rattle.lab_run.specs.Phases.{is_client, is_reader, ops_by}

-- a client's or reader's lines are its own
abbrev pub is_actor : Actor → Actor → Bool
is_actor (Client number) = is_client number
is_actor (Reader number) = is_reader number
is_actor Card = λ other. false

abbrev pub line_count : Actor → List Line → ℕ
line_count actor lines = length (ops_by (is_actor actor) lines)
