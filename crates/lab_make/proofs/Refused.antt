-- What is made isn't there where memory ran out.
use Rattle.lab_make.specs.Prelude.{err_from_is_err_and, IfOk, IsErrAnd, Result}

-- an answer that is an error has nothing of what is asked of a value
pub IfOk_err : {T E : Type 0} (P : T → Type 0) (Q : E → Type 0) (answer : Result T E) → IsErrAnd answer Q → IfOk answer P
IfOk_err P Q answer is = let p = err_from_is_err_and answer is in rw p.1 tt
