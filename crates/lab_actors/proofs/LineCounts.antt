-- How many lines of a phase's are an actor's.
use Rattle.lab_actors.specs.Prelude.{ap, arith, length, List, sym, take, ℕ, ◌+◌, ◌<◌, ◌≡◌, ◌≤◌, Bool, false, true, bool_byte, Actor, Line, ops_by, line_at}
use Rattle.lab_actors.specs.Prelude.{other-line, own-size}

-- how many lines of an actor's there are up to the next one
pub counted-next : (mine : Actor → Bool) (lines : List Line) (k : ℕ) → k < length lines → (test : Bool) → test ≡ mine (line_at lines k).actor
    → length (ops_by mine (take k lines)) + bool_byte test ≡ length (ops_by mine (take (k + 1) lines))
counted-next mine lines k within true same = sym (own-size mine lines k within (sym same))
counted-next mine lines k within false same = let size = ap length (other-line mine lines k within (sym same)) in omega (arith, size)

pub bool_byte-most : (test : Bool) → bool_byte test ≤ 1
bool_byte-most true = omega arith
bool_byte-most false = omega arith
