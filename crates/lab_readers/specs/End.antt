-- What the readers of the lab recorded: the runs of a report, and the samples.
use Rattle.std.specs.Prelude.{◌≡◌, ℕ, ◌+◌, ◌<◌, ℤ, List, [], ◌∷◌, ◌++◌, length, map, Option, slice_index_or}
use Rattle.std.specs.List.{flat_map}
use Rattle.std.proofs.Common.{refl, sym, ap, subst, ◌∙◌, arith}
use Rattle.std.proofs.lemmas.List.{map-append}
use Rattle.std.proofs.lemmas.Simd.{map-map}
use Rattle.snd_base.specs.Places as rings
use Rattle.snoop_table.specs.declared.seats.reader.ReaderSeat.{ReaderSeat}
use Rattle.snoop_table.specs.Readers as seats
use Rattle.wav_io.specs.Sound.{Sound}
use Rattle.lab_lines.specs.Script.{first_frame}
use Rattle.lab_run.specs.LabRun.{all_runs, with_numbers, recorded_by, recorded_from, runs_of}
use Rattle.lab_run.specs.Reader.{Reader}
use Rattle.lab_run.specs.Rules.{AtPort}
use Rattle.lab_run.specs.Stage.{Session}
use Rattle.lab_actors.specs.Walks.{AreEach, AreEach-at}
use Rattle.lab_readers.specs.declared.reader.LabReader.{LabReader}
use Rattle.lab_readers.specs.OneReader.{actor_of, number_of, reader_in}
use Rattle.lab_readers.specs.Recorded.{recorded-by}
use Rattle.lab_readers.specs.declared.readers.LabReaders.{LabReaders}
use Rattle.lab_readers.specs.AtStage.{AreAt, IsReaderAt, readers_of, spare_of}

-- the runs of a reader's frames, each with the reader's number
abbrev pub runs_by : LabReader → List (ℕ × ℕ × ℕ)
runs_by r = map (λ (run : ℕ × ℕ). (number_of r, run.0, run.1)) (runs_of (reader_in r).frames)

-- all samples that a reader read
abbrev pub read_samples : LabReader → List ℤ
read_samples r = (actor_of r).samples.items

module _ (session : Session) (capture : Option Sound) (spare : ReaderSeat) where
  runs-each : (number : ℕ) (rs : List LabReader) (xs : List (AtPort × Reader)) → AreEach (IsReaderAt session capture spare session.ring) number rs xs
      → flat_map runs_by rs
      ≡ map (λ (run : ℕ × (ℕ × ℕ)). (run.0, run.1.0, run.1.1)) (with_numbers (λ (reader : AtPort × Reader). runs_of reader.1.frames) number xs)
  runs-each number [] [] are = refl
  runs-each number (r ∷ rs) (x ∷ xs) are =
      let flat : ℕ × (ℕ × ℕ) → ℕ × ℕ × ℕ = λ run. (run.0, run.1.0, run.1.1) in
      let others : List (ℕ × (ℕ × ℕ)) = with_numbers (λ (reader : AtPort × Reader). runs_of reader.1.frames) (number + 1) xs in
      let own : runs_by r ≡ map flat (map (λ (y : ℕ × ℕ). (number, y)) (runs_of x.1.frames)) =
      ap (λ (n : ℕ). map (λ (run : ℕ × ℕ). (n, run.0, run.1)) (runs_of (reader_in r).frames)) are.0.is.numbered
      ∙ (ap (λ (y : Reader). map (λ (run : ℕ × ℕ). (number, run.0, run.1)) (runs_of y.frames)) are.0.is.reader
      ∙ sym (map-map flat (λ (y : ℕ × ℕ). (number, y)) (runs_of x.1.frames))) in
      ap (λ (ys : List (ℕ × ℕ × ℕ)). ys ++ flat_map runs_by rs) own
      ∙ (ap (λ (ys : List (ℕ × ℕ × ℕ)). map flat (map (λ (y : ℕ × ℕ). (number, y)) (runs_of x.1.frames)) ++ ys) (runs-each (number + 1) rs xs are.1)
      ∙ sym (map-append flat (map (λ (y : ℕ × ℕ). (number, y)) (runs_of x.1.frames)) others))
  runs-each number [] (x ∷ xs) are = absurd are
  runs-each number (r ∷ rs) [] are = absurd are

  samples-each : first_frame session.card ≡ rings.first_frame session.ring → (number : ℕ) (rs : List LabReader) (xs : List (AtPort × Reader))
      → AreEach (IsReaderAt session capture spare session.ring) number rs xs → map read_samples rs ≡ recorded_from session capture number xs
  samples-each first number [] [] are = refl
  samples-each first number (r ∷ rs) (x ∷ xs) are =
      ap (λ (zs : List ℤ). zs ∷ map read_samples rs)
      (recorded-by session capture number session.ring (seats.view_of spare).got r first are.0.is.recorded ∙ ap (recorded_by session capture number) are.0.is.reader)
      ∙ ap (λ (zs : List (List ℤ)). recorded_by session capture number x.1 ∷ zs) (samples-each first (number + 1) rs xs are.1)
  samples-each first number [] (x ∷ xs) are = absurd are
  samples-each first number (r ∷ rs) [] are = absurd are

-- The runs of all readers are those of a run's report.
pub all_runs-at : (session : Session) (capture : Option Sound) (xs : List (AtPort × Reader)) (rs : LabReaders) → AreAt session capture xs rs
    → flat_map runs_by (readers_of rs) ≡ all_runs xs
all_runs-at session capture xs rs are = runs-each session capture (spare_of rs) 0 (readers_of rs) xs are.each

-- The samples of each reader are those that a run leaves of it.
pub recorded_from-at : (session : Session) (capture : Option Sound) (xs : List (AtPort × Reader)) (rs : LabReaders) → AreAt session capture xs rs
    → map read_samples (readers_of rs) ≡ recorded_from session capture 0 xs
recorded_from-at session capture xs rs are = samples-each session capture (spare_of rs) are.card.first 0 (readers_of rs) xs are.each

pub recorded_by-at : (session : Session) (capture : Option Sound) (xs : List (AtPort × Reader)) (rs : LabReaders) (number : ℕ) (d : LabReader) (e : AtPort × Reader)
    → AreAt session capture xs rs → number < length (readers_of rs)
    → read_samples (slice_index_or (readers_of rs) number d) ≡ recorded_by session capture number (slice_index_or xs number e).1
recorded_by-at session capture xs rs number d e are inside =
    let is : IsReaderAt session capture (spare_of rs) session.ring number (slice_index_or (readers_of rs) number d) (slice_index_or xs number e) =
    subst (λ n. IsReaderAt session capture (spare_of rs) session.ring n (slice_index_or (readers_of rs) number d) (slice_index_or xs number e)) (omega arith)
    (AreEach-at (IsReaderAt session capture (spare_of rs) session.ring) 0 (readers_of rs) xs are.each number d e inside) in
    recorded-by session capture number session.ring (seats.view_of (spare_of rs)).got (slice_index_or (readers_of rs) number d) are.card.first is.is.recorded ∙ ap (recorded_by session capture number) is.is.reader
