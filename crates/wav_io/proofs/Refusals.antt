-- A refusal is answered wherever it is given.
use Rattle.wav_io.specs.Prelude.{arith, Err, Result, ◌≡◌, nat_tests, IsOk, WavError, Memory, Reads, Sound}

pub refusal_comes : (r given : Result Sound WavError) → Reads r given → (r ≡ Err Memory → IsOk given) → (e : WavError) → given ≡ Err e → r ≡ Err e
refusal_comes r given reads memory e is = grind (arith, nat_tests)
