use Rattle.asound_conf.specs.Prelude.{length, ◌+◌, ◌≡◌, ◌≤◌, IsSuffix, tokens}
use Rattle.asound_conf.proofs.token.next_token.Given as goal

abbrev pub invariant-loop-rest : goal.invariant-loop-rest
invariant-loop-rest l = (tokens 0 l.fn.line l.fn.text ≡ tokens 0 l.line l.rest) × (l.line + length l.rest ≤ l.fn.line + length l.fn.text) × IsSuffix l.fn.text l.rest

abbrev pub decreases-loop-rest : goal.decreases-loop-rest
decreases-loop-rest l = length l.rest
