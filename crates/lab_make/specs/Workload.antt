-- The size of a workload, as words of a command line give it.
use Rattle.std.specs.Prelude.{ℕ, ◌≤◌, Bool, ◌&&◌, List, length, Option, Some, None, Result, Ok, Err, nat_le, if◌then◌else◌}
use Rattle.std.specs.Str.{all_ascii_digits}
use Rattle.std.specs.Str.Parse.{digits_value}
use Rattle.lab_make.specs.declared.workload.Workload.{Workload}
use Rattle.lab_make.specs.declared.workload.WorkloadError.{WorkloadError}
use Rattle.lab_make.specs.declared.workload.WorkloadError.TheVariants as why

-- a word of 1 to 20 decimal digits
abbrev pub is_numeral : List ℕ → Bool
is_numeral word = nat_le 1 (length word) && nat_le (length word) 20 && all_ascii_digits word

-- a number, where it is in a range
abbrev pub number_between : ℕ → ℕ → ℕ → Option ℕ
number_between least most n = if nat_le least n && nat_le n most then Some n else None

-- the number that a word means, where it is one in this range
unfoldable pub number_in : ℕ → ℕ → List ℕ → Option ℕ
number_in least most word = if is_numeral word then number_between least most (digits_value 10 word) else None

-- what follows from a value where there is one; otherwise the first cause stays
infixl 10 ◌>>=◌
abbrev pub ◌>>=◌ : {A B : Type 0} → Result A WorkloadError → (A → Result B WorkloadError) → Result B WorkloadError
(Ok x) >>= f = f x
(Err e) >>= f = Err e

-- a number, or a cause where there is none
abbrev pub some_or : WorkloadError → Option ℕ → Result ℕ WorkloadError
some_or cause None = Err cause
some_or cause (Some n) = Ok n

-- the workload of three words, or the first that is refused
abbrev pub workload_of : List ℕ → List ℕ → List ℕ → Result Workload WorkloadError
workload_of seed clients phases = do
  s ← some_or why.Seed (number_in 0 18446744073709551615 seed)
  c ← some_or why.Clients (number_in 1 64 clients)
  p ← some_or why.Phases (number_in 1 1000 phases)
  Ok (record { seed = s; clients = c; phases = p })

-- the numbers of clients and of phases are those that a workload can have
pub record IsWorkload (workload : Workload) : Type 0 where
  pub some_client : 1 ≤ workload.clients
  pub few_clients : workload.clients ≤ 64
  pub some_phase : 1 ≤ workload.phases
  pub few_phases : workload.phases ≤ 1000
