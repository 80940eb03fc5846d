-- What an item of a script's body leaves: the rows and the frames of each reader, with some more after them. So each reader's samples are
-- those from before, with some more.
use Rattle.std.proofs.Common.{refl, sym, ◌∙◌, ap, arith}
use Rattle.std.proofs.lemmas.List.Concat.{flat_map-append}
use Rattle.std.specs.List.{flat_map}
use Rattle.std.specs.Prelude.{◌≡◌, ℕ, zero, suc, ◌+◌, ◌<◌, ℤ, List, [], ◌∷◌, ◌++◌, length, map, slice_index_or, Option, None, ⊤}
use Rattle.wav_io.specs.Sound.{Sound}
use Rattle.lab_lines.specs.declared.line.Actor.{Actor}
use Rattle.lab_lines.specs.declared.line.Item.{Item}
use Rattle.lab_lines.specs.declared.line.Item.TheVariants as item
use Rattle.lab_lines.specs.declared.row.Row.{Row}
use Rattle.lab_run.specs.Items.{ItemMay}
use Rattle.lab_run.specs.LabRun.{bindings_of, captured_sample, recorded_by, recorded_from}
use Rattle.lab_run.specs.Reader.{Reader}
use Rattle.lab_run.specs.Rules.{AtPort}
use Rattle.lab_run.specs.Stage.{Session, Stage}

-- the frames of each reader
abbrev pub frames_of_readers : List (AtPort × Reader) → List (List ℕ)
frames_of_readers readers = map (λ (reader : AtPort × Reader). reader.1.frames) readers

-- a reader's frames are those of another, with some more after them
abbrev pub IsGrownReader : AtPort × Reader → AtPort × Reader → Type 0
IsGrownReader before after = (more : List ℕ) × (after.1.frames ≡ before.1.frames ++ more)

-- as many readers, each with the frames that it had, and some more after them
abbrev pub AreGrown : List (AtPort × Reader) → List (AtPort × Reader) → Type 0
AreGrown [] [] = ⊤
AreGrown (x ∷ xs) (y ∷ ys) = IsGrownReader x y × AreGrown xs ys
AreGrown xs ys = ⊥

-- a stage has the rows of one before it, with some more after them, and so each reader's frames
pub record IsGrown (stage next : Stage) : Type 0 where
  pub more : List Row
  pub rows : next.rows ≡ stage.rows ++ more
  pub readers : AreGrown stage.readers next.readers

-- each item of a body
abbrev pub StagesGrow : Type 0
StagesGrow =
    (session : Session) (stage next : Stage) (one : Item) → ItemMay session stage one next
    → IsGrown stage next

-- an opening or a closing of an actor leaves each reader's frames as they are
pub record KeepsFrames (session : Session) (stage next : Stage) (number : ℕ)
    (who : Actor) : Type 0 where
  pub opens : ItemMay session stage (item.Opens number who) next
      → frames_of_readers next.readers ≡ frames_of_readers stage.readers
  pub closes : ItemMay session stage (item.Closes number who) next
      → frames_of_readers next.readers ≡ frames_of_readers stage.readers

-- each opening and closing
abbrev pub BordersKeepFrames : Type 0
BordersKeepFrames =
    (session : Session) (stage next : Stage) (number : ℕ) (who : Actor)
    → KeepsFrames session stage next number who

-- ---- the samples of readers

-- the samples of a reader that has some frames
abbrev samples_of : Session → Option Sound → ℕ → List ℕ → List ℤ
samples_of session capture number frames =
    flat_map (λ frame. map (captured_sample session capture frame)
    (bindings_of (slice_index_or session.readers number None))) frames

-- the samples of each reader, by the frames of each; the first of them has a number
abbrev samples_from : Session → Option Sound → ℕ → List (List ℕ) → List (List ℤ)
samples_from session capture number [] = []
samples_from session capture number (frames ∷ others) =
    samples_of session capture number frames ∷ samples_from session capture (number + 1) others

module _ (session : Session) (capture : Option Sound) where
  recorded_from-frames : (number : ℕ) (xs : List (AtPort × Reader)) → recorded_from session capture number xs ≡ samples_from session capture number (frames_of_readers xs)
  recorded_from-frames number [] = refl
  recorded_from-frames number (x ∷ xs) = ap (λ more. samples_of session capture number x.1.frames ∷ more) (recorded_from-frames (number + 1) xs)

  -- readers of the same frames have the same samples
  pub recorded_from-same : (number : ℕ) (xs ys : List (AtPort × Reader)) → frames_of_readers xs ≡ frames_of_readers ys
      → recorded_from session capture number xs ≡ recorded_from session capture number ys
  recorded_from-same number xs ys same =
      recorded_from-frames number xs ∙ ap (samples_from session capture number) same ∙ sym (recorded_from-frames number ys)

  -- as many lists of samples as readers
  pub recorded_from-size : (number : ℕ) (xs : List (AtPort × Reader)) → length (recorded_from session capture number xs) ≡ length xs
  recorded_from-size number [] = refl
  recorded_from-size number (x ∷ xs) = ap suc (recorded_from-size (number + 1) xs)

  -- each reader's samples begin with those that it had before
  pub recorded_from-grown : (first : ℕ) (xs ys : List (AtPort × Reader)) → AreGrown xs ys → (number : ℕ)
      → (more : List ℤ) × (slice_index_or (recorded_from session capture first ys) number [] ≡ slice_index_or (recorded_from session capture first xs) number [] ++ more)
  recorded_from-grown first [] [] grown number = ([], refl)
  recorded_from-grown first (x ∷ xs) (y ∷ ys) ((more, is), others) zero = (
    samples_of session capture first more,
    ap (samples_of session capture first) is ∙ flat_map-append _ x.1.frames more,
  )
  recorded_from-grown first (x ∷ xs) (y ∷ ys) (one, others) (suc number) = recorded_from-grown (first + 1) xs ys others number
  recorded_from-grown first [] (y ∷ ys) grown number = absurd grown
  recorded_from-grown first (x ∷ xs) [] grown number = absurd grown

  -- the samples at an index are those of the reader there, whose number is that of the first reader and the index together
  recorded_from-index : (first index number : ℕ) (xs : List (AtPort × Reader)) (d : AtPort × Reader) → first + index ≡ number → index < length xs
      → slice_index_or (recorded_from session capture first xs) index [] ≡ recorded_by session capture number (slice_index_or xs index d).1
  recorded_from-index first index number [] d at within = absurd (omega (arith, within))
  recorded_from-index first zero number (x ∷ xs) d at within = ap (λ n. recorded_by session capture n x.1) (omega (arith, at))
  recorded_from-index first (suc index) number (x ∷ xs) d at within =
      recorded_from-index (first + 1) index number xs d (omega (arith, at)) (omega (arith, within))

  -- the samples of the reader of a number
  pub recorded_from-at : (xs : List (AtPort × Reader)) (number : ℕ) (d : AtPort × Reader) → number < length xs
      → slice_index_or (recorded_from session capture 0 xs) number [] ≡ recorded_by session capture number (slice_index_or xs number d).1
  recorded_from-at xs number d within = recorded_from-index 0 number number xs d (omega arith) within
