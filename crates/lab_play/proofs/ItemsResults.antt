-- What a call answers that stopped.
use Rattle.lab_play.specs.Prelude.{ap, Err, IsErrAnd, Ok, OnErr, OnOk, Result, ◌≡◌}

pub OnErr-more : {X E : Type 0} (P Q : Type 0) (r : Result X E) → (P → Q) → OnErr r P → OnErr r Q
OnErr-more P Q (Ok x) more is = tt
OnErr-more P Q (Err e) more is = more is

-- what holds whatever it answers
pub OnErr-all : {X E : Type 0} (P : Type 0) (r : Result X E) → P → OnErr r P
OnErr-all P (Ok x) is = tt
OnErr-all P (Err e) is = is

pub OnOk-all : {X E : Type 0} (P : Type 0) (r : Result X E) → P → OnOk r P
OnOk-all P (Ok x) is = is
OnOk-all P (Err e) is = tt

-- it stopped with this
pub stopped-with : {X E : Type 0} (r : Result X E) (e : E) → IsErrAnd r (λ x. x ≡ e) → r ≡ Err e
stopped-with (Ok x) e is = absurd is
stopped-with (Err x) e is = ap Err is
