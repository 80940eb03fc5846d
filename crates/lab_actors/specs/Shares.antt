-- What an actor has of a gate's state.
use Rattle.std.specs.Prelude.{ℕ, Option}

-- an actor's share of a gate's state: what a `die` lets pass yet, the stops of its own gate, and how often this one was asked, but for the asks
-- of kind Again
abbrev pub left_in : Option ℕ × ℕ × ℕ → Option ℕ
left_in share = share.0

abbrev pub stops_in : Option ℕ × ℕ × ℕ → ℕ
stops_in share = share.1

abbrev pub at_gate_in : Option ℕ × ℕ × ℕ → ℕ
at_gate_in share = share.2
