-- The names of a run's files differ.
use Rattle.lab_output.specs.Prelude.{ap, append_assoc, arith, get_or, length, length-append, List, map, suc, ℕ, [], ◌++◌, ◌+◌, ◌<◌, ◌∙◌, ◌∷◌, ◌≡◌, ◌≢◌}
use Rattle.lab_output.specs.Prelude.{append_cancel_left, append_cancel_right, AllByRecursion, AllPairs, codes, CardLine, ReaderLine, Script, IsScript}
use Rattle.lab_output.specs.Prelude.{OutputFile, AreApart, output_files, played_name, recorded_file, recorded_name}

-- the file with what the card played has no reader's name
played-apart : (out name : List ℕ) → played_name out ≢ recorded_name out name
played-apart out name same =
    let e : codes ".wav" ≡ 46 ∷ name ++ codes ".wav" = append_cancel_left out (codes ".wav") (46 ∷ name ++ codes ".wav") (same ∙ append_assoc out (46 ∷ name) (codes ".wav")) in
    let n : length (codes ".wav") ≡ length (46 ∷ name ++ codes ".wav") = ap length e in
    let k : length (name ++ codes ".wav") ≡ length name + length (codes ".wav") = length-append name (codes ".wav") in
    omega (arith, n, k)

-- names that differ give files that differ
recorded-apart : (out a b : List ℕ) → a ≢ b → recorded_name out a ≢ recorded_name out b
recorded-apart out a b apart same =
    let e : out ++ 46 ∷ a ≡ out ++ 46 ∷ b = append_cancel_right (out ++ 46 ∷ a) (out ++ 46 ∷ b) (codes ".wav") same in
    apart (append_cancel_left (46 ∷ []) a b (append_cancel_left out (46 ∷ a) (46 ∷ b) e))

-- the first reader's file has another name than those of the readers after it
first-apart : (card : CardLine) (out name : List ℕ) (readers : List ReaderLine)
    → ((k : ℕ) (d : ReaderLine) → k < length readers → name ≢ (get_or readers k d).name)
    → AllByRecursion (λ (other : OutputFile). recorded_name out name ≢ other.name) (map (recorded_file card out) readers)
first-apart card out name [] apart = tt
first-apart card out name (reader ∷ readers) apart = (
  recorded-apart out name reader.name (apart 0 reader (omega arith)),
  first-apart card out name readers (λ k d within. apart (suc k) d (omega (arith, within))),
)

-- readers' files have names that differ
recorded-AreApart : (card : CardLine) (out : List ℕ) (readers : List ReaderLine)
    → AllPairs (λ (a : ReaderLine) (b : ReaderLine). a.name ≢ b.name) readers
    → AreApart (map (recorded_file card out) readers)
recorded-AreApart card out [] apart = tt
recorded-AreApart card out (reader ∷ readers) apart = (
  first-apart card out reader.name readers (λ k d within. apart 0 (suc k) d (omega arith) (omega (arith, within))),
  recorded-AreApart card out readers (λ i j d less within. apart (suc i) (suc j) d (omega (arith, less)) (omega (arith, within))),
)

-- no reader's file has the name of the played one
played-AreApart : (card : CardLine) (out : List ℕ) (readers : List ReaderLine)
    → AllByRecursion (λ (other : OutputFile). played_name out ≢ other.name) (map (recorded_file card out) readers)
played-AreApart card out [] = tt
played-AreApart card out (reader ∷ readers) = (played-apart out reader.name, played-AreApart card out readers)

-- no two files of a run have one name
pub output_files-AreApart : (script : Script) (out : List ℕ) → IsScript script → AreApart (output_files script out)
output_files-AreApart script out is =
    (played-AreApart script.card out script.readers, recorded-AreApart script.card out script.readers is.readers_differ)
