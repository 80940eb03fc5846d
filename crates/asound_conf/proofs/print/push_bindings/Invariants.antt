use Rattle.asound_conf.specs.Prelude.{codes, map, string_bytes, take, ◌++◌, ◌≡◌, decimal, join_with_byte}
use Rattle.asound_conf.proofs.print.push_bindings.Given as goal

abbrev pub invariant-loop-client : goal.invariant-loop-client
invariant-loop-client l = string_bytes l.text ≡ (string_bytes l.fn.text ++ codes "bindings ") ++ join_with_byte 44 (map decimal (take l.client l.bindings))
