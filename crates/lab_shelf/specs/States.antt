-- What contracts see of the forms in memory, and of the counts of the forms over files and streams.
use Rattle.std.specs.Prelude.{◌++◌, ◌&&◌, ℕ, Bool, not, nat_eq, List, map, Result, Ok, Err, is_some, refl}
use Rattle.std.specs.FinMap.{code, from_entries}
use Rattle.std.specs.Coded.{Coded, code_by, coded×, coded_list, coded_ℕ}
use Rattle.std.specs.Global.{Vec}
use Rattle.std.specs.List.{list_any}
use Rattle.lab_shelf.specs.declared.fault.ShelfFault.{ShelfFault}
use Rattle.lab_shelf.specs.declared.fault.ShelfFault.TheVariants.{Failed, Memory}
use Rattle.lab_shelf.specs.Files.{Files, bytes_under, with_file, with_change}
use Rattle.lab_shelf.specs.Counts.{count_more}

-- a shelf in memory: its files, the numbers of the calls that fail, how many calls it had, and its two counts of faults
pub record ShelfState : Type 0 where
  pub files : Files
  pub failing : List ℕ
  pub calls : ℕ
  pub fetch_faults : ℕ
  pub write_faults : ℕ

-- a shelf in memory is stored as the tuple of its parts
abbrev pub shelf_code : Coded ShelfState
shelf_code =
    code_by (Files × (List ℕ × (ℕ × (ℕ × ℕ))))
    (coded× (code (coded_list coded_ℕ) (coded_list coded_ℕ)) (coded× (coded_list coded_ℕ) (coded× coded_ℕ (coded× coded_ℕ coded_ℕ))))
    (λ s. (s.files, (s.failing, (s.calls, (s.fetch_faults, s.write_faults)))))
    (λ p. record { files = p.0; failing = p.1.0; calls = p.1.1.0; fetch_faults = p.1.1.1.0; write_faults = p.1.1.1.1 })
    (λ _. refl)

-- a sink in memory: the bytes that it took, the numbers of the calls that fail, how many calls it had, and its count of faults
pub record SinkState : Type 0 where
  pub taken : List ℕ
  pub failing : List ℕ
  pub calls : ℕ
  pub faults : ℕ

-- a sink in memory is stored as the tuple of its parts
abbrev pub sink_code : Coded SinkState
sink_code =
    code_by (List ℕ × (List ℕ × (ℕ × ℕ))) (coded× (coded_list coded_ℕ) (coded× (coded_list coded_ℕ) (coded× coded_ℕ coded_ℕ)))
    (λ s. (s.taken, (s.failing, (s.calls, s.faults))))
    (λ p. record { taken = p.0; failing = p.1.0; calls = p.1.1.0; faults = p.1.1.1 }) (λ _. refl)

-- the counts of faults of a shelf: of its fetches, and of its writes
pub record FaultCounts : Type 0 where
  pub fetch_faults : ℕ
  pub write_faults : ℕ

-- counts are stored as their pair
abbrev pub counts_code : Coded FaultCounts
counts_code =
    code_by (ℕ × ℕ) (coded× coded_ℕ coded_ℕ) (λ s. (s.fetch_faults, s.write_faults))
    (λ p. record { fetch_faults = p.0; write_faults = p.1 }) (λ _. refl)

-- the files of a list of names with their bytes; of two with one name the first counts
abbrev pub files_of : List (Vec ℕ × Vec ℕ) → Files
files_of entries = from_entries (map (λ e. (e.0.items, e.1.items)) entries)

-- a write works where the number of its call isn't listed
abbrev pub write_answers : List ℕ → ℕ → Bool
write_answers failing calls = not (list_any (λ n. nat_eq n (count_more calls)) failing)

-- a fetch works where the number of its call isn't listed and there is a file of this name
abbrev pub fetch_answers : ShelfState → List ℕ → Bool
fetch_answers s name = write_answers s.failing s.calls && is_some (bytes_under s.files name)

-- what a fetch leaves: its call is counted, and a fault
abbrev pub after_fetch : {T : Type 0} → Result T ShelfFault → ShelfState → ShelfState
after_fetch (Ok x) s = record s { calls = count_more s.calls }
after_fetch (Err Failed) s = record s { calls = count_more s.calls; fetch_faults = count_more s.fetch_faults }
after_fetch (Err Memory) s = record s { calls = count_more s.calls }

-- what a store leaves: its call is counted, and a fault; the file is changed only where it works
abbrev pub after_store : {T : Type 0} → Result T ShelfFault → ShelfState → List ℕ → List ℕ → ShelfState
after_store (Ok x) s name bytes = record s { files = with_file s.files name bytes; calls = count_more s.calls }
after_store (Err Failed) s name bytes = record s { calls = count_more s.calls; write_faults = count_more s.write_faults }
after_store (Err Memory) s name bytes = record s { calls = count_more s.calls }

-- what a put leaves: its call is counted, and a fault; the bytes are taken only where it works
abbrev pub after_put : {T : Type 0} → Result T ShelfFault → SinkState → List ℕ → SinkState
after_put (Ok x) s bytes = record s { taken = s.taken ++ bytes; calls = count_more s.calls }
after_put (Err Failed) s bytes = record s { calls = count_more s.calls; faults = count_more s.faults }
after_put (Err Memory) s bytes = record s { calls = count_more s.calls }

-- what a change of a file in place leaves: its call is counted, and a fault; the file is changed only where it works
abbrev pub after_change : {T : Type 0} → Result T ShelfFault → ShelfState → (List ℕ → List ℕ) → List ℕ → ShelfState
after_change (Ok x) s make name = record s { files = with_change make s.files name; calls = count_more s.calls }
after_change (Err Failed) s make name = record s { calls = count_more s.calls; write_faults = count_more s.write_faults }
after_change (Err Memory) s make name = record s { calls = count_more s.calls }
