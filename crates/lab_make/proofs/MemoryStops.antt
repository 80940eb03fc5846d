-- A part of a workload that isn't made for want of memory: nothing is done or written then, and it stops for memory alone.
use Rattle.lab_make.specs.Prelude.{ap, inl, List, refl, ℕ, ◌∙◌, ◌≡◌, ◌≢◌, err_from_is_err_and, Err, IsErrAnd, OnErr, OnOk, Option, Result, Files, IsPartWritten}
use Rattle.lab_make.specs.Prelude.{Memory, Write}
use Rattle.lab_stop.specs.declared.stop.Stop.{Stop}

-- what a `?` returns where the stop that it hands on is one for memory
pub Err-memory : {T : Type 0} (cause : Stop) (end : Result T Stop) → IsErrAnd end (λ stop. stop ≡ cause) → cause ≡ Memory → end ≡ Err Memory
Err-memory cause end handed is = let p = err_from_is_err_and end handed in p.1 ∙ ap (λ stop. Err stop) (p.2 ∙ is)

-- what is said of such an end: of what is done, of what was written, and that it is no failed write
pub OnOk-memory : {T : Type 0} (P : Type 0) (end : Result T Stop) → end ≡ Err Memory → OnOk end P
OnOk-memory P end is = rw is tt

pub OnErr-memory : {T : Type 0} (before : Option Files) (name bytes : List ℕ) (end : Result T Stop) → end ≡ Err Memory → OnErr end (IsPartWritten before before name bytes)
OnErr-memory before name bytes end is = rw is (inl refl)

pub memory-no_write : {T : Type 0} (end : Result T Stop) → end ≡ Err Memory → end ≢ Err Write
memory-no_write end is failed = absurd (cc)
