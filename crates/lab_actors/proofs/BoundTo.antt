-- What the bindings of a line are bound to.
use Rattle.lab_actors.specs.Prelude.{arith, get_or, List, suc, zero, ℕ, ◌+◌, ◌<◌, ◌∙◌, ◌≡◌, ◌≤◌, length-range_with_len, All, None, Option, Some, unwrap_or}
use Rattle.lab_actors.specs.Prelude.{identity, IsBoundWhere}
use Rattle.std.specs.List.{range_with_len}
use Rattle.bindings.specs.AnswerLaws.{All-below-answered}

get_or-range : (a n k d : ℕ) → k < n → get_or (range_with_len a n) k d ≡ a + k
get_or-range a zero k d within = absurd (omega arith)
get_or-range a (suc n) zero d within = omega arith
get_or-range a (suc n) (suc k) d within = get_or-range (a + 1) n k d (omega arith) ∙ omega arith

-- bindings that are read, or those of the same numbers, are to channels of the card
pub bound-below : (channels n : ℕ) (o : Option (List ℕ)) → IsBoundWhere channels o → n ≤ channels
    → All (λ channel. channel < channels) (unwrap_or o (identity n))
bound-below channels n None bound few = λ k d within.
    let low : k < n = omega (arith, within, length-range_with_len 0 n) in
    omega (arith, get_or-range 0 n k d low, low, few)
bound-below channels n (Some list) bound few = All-below-answered list channels bound
