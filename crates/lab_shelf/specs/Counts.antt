-- Counts of faults, which rise at each fault and stay at the greatest value of a counter.
use Rattle.std.specs.Prelude.{◌≡◌, ◌≤◌, ◌+◌, ◌-◌, ◌^◌, ℕ, min, Bool, true, false, Option, Some, None, Result, Ok, Err, ⊤}
use Rattle.lab_shelf.specs.declared.fault.ShelfFault.{ShelfFault}
use Rattle.lab_shelf.specs.declared.fault.ShelfFault.TheVariants.{Failed, Memory}

-- one more, up to the greatest value of a counter
abbrev pub count_more : ℕ → ℕ
count_more count = min (count + 1) (2 ^ 64 - 1)

-- the count rose, or is at the greatest value of a counter
abbrev pub Rose : ℕ → ℕ → Type 0
Rose before now = count_more before ≤ now

-- the count of a kind of call: it rises exactly where such a call fails
abbrev pub IsFaultCount : {T : Type 0} → Result T ShelfFault → ℕ → ℕ → Type 0
IsFaultCount (Ok x) before now = now ≡ before
IsFaultCount (Err Failed) before now = (before ≤ now) × Rose before now
IsFaultCount (Err Memory) before now = now ≡ before

-- a call answers as was known beforehand, and lacks memory only where it would have worked
abbrev pub IsAsForeseen : {T : Type 0} → Result T ShelfFault → Option Bool → Type 0
IsAsForeseen result None = ⊤
IsAsForeseen (Ok x) (Some works) = works ≡ true
IsAsForeseen (Err Failed) (Some works) = works ≡ false
IsAsForeseen (Err Memory) (Some works) = works ≡ true

-- a count of faults after a call: one more where the call failed
abbrev pub count_after : {T : Type 0} → Result T ShelfFault → ℕ → ℕ
count_after (Ok x) count = count
count_after (Err Failed) count = count_more count
count_after (Err Memory) count = count
