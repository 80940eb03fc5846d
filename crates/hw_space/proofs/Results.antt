-- What holds where a result is an error.
use Rattle.hw_space.specs.Prelude.{Err, Ok, OnErr, Result, ◌≡◌, Empty, ParamBox, IsVoid, Leaves, space_left}

pub OnErr-always : {T E P : Type 0} (r : Result T E) → P → OnErr r P
OnErr-always (Ok x) p = tt
OnErr-always (Err e) p = p

-- where a call answers that nothing is left, nothing was
pub Leaves-err : {T : Type 0} (b x : ParamBox) (r : Result T Empty) (y : Empty) → r ≡ Err y → IsVoid b → Leaves b (space_left r x)
Leaves-err b x (Ok v) y e void = absurd (cc)
Leaves-err b x (Err v) y e void = void
