-- Outputs that are written one after the other: of the first ones all samples are written, of the rest those from before.
use Rattle.lab_play.specs.Prelude.{ap, arith, get_or, map, refl, subst, suc, sym, take, zero, ◌<◌, ◌∙◌, ◌≤◌, take-length, length-map, length-take, take_min}
use Rattle.lab_play.specs.Prelude.{All, length, List, Option, slice_get, slice_index_or, slice_set, Some, ℕ, ℤ, [], ◌+◌, ◌∷◌, ◌≡◌, Changes, Files, recorded_by}
use Rattle.lab_play.specs.Prelude.{Reader, AtPort, Stage, Lab, capture_of, IsAtStage, readers_in, session_of, recorded_from-at, recorded_from-size}
use Rattle.lab_play.specs.Prelude.{CountsNoFault, OutputFile, Outputs, MayHold, AreLonger, AreOutputs, FitsWavFile, IsGoingOn, IsPartOf, sounds_at}
use Rattle.std.proofs.Math.ListN.{set}
use Rattle.std.proofs.Math.Nat.{min-le_right}
use Rattle.lab_actors.specs.Walks.{AreEach-length}
use Rattle.lab_readers.specs.AtStage.{readers_of}
use Rattle.lab_shelf.specs.declared.traits.Shelf as shelves

-- ---- the samples of one output

-- samples are a part of themselves
IsPartOf-same : (sound : List ℤ) → IsPartOf sound sound
IsPartOf-same sound = (length sound, sym (take-length sound))

-- the first samples of others, as many as they are
part-first : (sound other : List ℤ) → IsPartOf sound other → sound ≡ take (length sound) other
part-first sound other (k, is) =
    is
    ∙ (sym (take_min k other)
    ∙ (ap (λ (n : ℕ). take n other) (sym (length-take k other)) ∙ ap (λ (s : List ℤ). take (length s) other) (sym is)))

-- the first samples of others are no more than these
part-length : (sound other : List ℤ) → IsPartOf sound other → length sound ≤ length other
part-length sound other (k, is) =
    subst (λ (s : List ℤ). length s ≤ length other) (sym is)
    (subst (λ (n : ℕ). n ≤ length other) (sym (length-take k other)) (min-le_right k (length other)))

-- the count of one output
pub count-at : (sounds : List (List ℤ)) (number : ℕ) → get_or (map length sounds) number 0 ≡ length (get_or sounds number [])
count-at [] number = refl
count-at (sound ∷ sounds) zero = refl
count-at (sound ∷ sounds) (suc number) = count-at sounds number

-- ---- the samples of all outputs

-- there are as many outputs
pub longer-length : (sounds targets : List (List ℤ)) → AreLonger sounds targets → length targets ≡ length sounds
longer-length [] [] longer = refl
longer-length (sound ∷ sounds) (target ∷ targets) longer = ap suc (longer-length sounds targets longer.1)
longer-length sounds targets longer = absurd longer

-- the samples of one of them
longer-at : (sounds targets : List (List ℤ)) (number : ℕ) → AreLonger sounds targets → IsPartOf (get_or sounds number []) (get_or targets number [])
longer-at [] [] number longer = (0, refl)
longer-at (sound ∷ sounds) (target ∷ targets) zero longer = longer.0
longer-at (sound ∷ sounds) (target ∷ targets) (suc number) longer = longer-at sounds targets number longer.1
longer-at sounds targets number longer = absurd longer

-- so many of the first outputs have their new samples, and the rest those from before
abbrev pub caught_up : ℕ → List (List ℤ) → List (List ℤ) → List (List ℤ)
caught_up zero sounds targets = sounds
caught_up (suc number) [] targets = []
caught_up (suc number) (sound ∷ sounds) [] = sound ∷ sounds
caught_up (suc number) (sound ∷ sounds) (target ∷ targets) = target ∷ caught_up number sounds targets

-- each of them may still get more
caught_up-longer : (number : ℕ) (sounds targets : List (List ℤ)) → AreLonger sounds targets → AreLonger (caught_up number sounds targets) targets
caught_up-longer zero sounds targets longer = longer
caught_up-longer (suc number) [] [] longer = tt
caught_up-longer (suc number) (sound ∷ sounds) (target ∷ targets) longer = (IsPartOf-same target, caught_up-longer number sounds targets longer.1)
caught_up-longer number sounds targets longer = absurd longer

-- the next one gets its new samples
caught_up-set : (number : ℕ) (sounds targets : List (List ℤ)) → AreLonger sounds targets → number < length targets
    → set (caught_up number sounds targets) number (get_or targets number []) ≡ caught_up (suc number) sounds targets
caught_up-set number sounds [] longer within = absurd (omega (arith, within))
caught_up-set zero (sound ∷ sounds) (target ∷ targets) longer within = refl
caught_up-set number [] (target ∷ targets) longer within = absurd longer
caught_up-set (suc number) (sound ∷ sounds) (target ∷ targets) longer within =
    ap (λ (rest : List (List ℤ)). target ∷ rest) (caught_up-set number sounds targets longer.1 (omega (arith, within)))

-- all of them have their new samples
caught_up-all : (number : ℕ) (sounds targets : List (List ℤ)) → AreLonger sounds targets → length targets ≤ number → caught_up number sounds targets ≡ targets
caught_up-all zero [] [] longer all = refl
caught_up-all zero (sound ∷ sounds) (target ∷ targets) longer all = absurd (omega (arith, all))
caught_up-all (suc number) [] [] longer all = refl
caught_up-all (suc number) (sound ∷ sounds) (target ∷ targets) longer all =
    ap (λ (rest : List (List ℤ)). target ∷ rest) (caught_up-all number sounds targets longer.1 (omega (arith, all)))
caught_up-all number sounds targets longer all = absurd longer

-- ---- an append to one output

-- the samples that the next output has so far are the first of its new ones
pub caught_up-first : (outputs : List OutputFile) (counts : List ℕ) (sounds targets : List (List ℤ)) (number : ℕ) (before now : Option Files)
    → AreLonger sounds targets → IsGoingOn outputs counts (caught_up number sounds targets) before now
    → slice_index_or (caught_up number sounds targets) number [] ≡ take (slice_index_or counts number 0) (slice_index_or targets number [])
caught_up-first outputs counts sounds targets number before now longer going =
    let all : List (List ℤ) = caught_up number sounds targets in
    part-first (get_or all number []) (get_or targets number []) (longer-at all targets number (caught_up-longer number sounds targets longer))
    ∙ ap (λ (n : ℕ). take n (get_or targets number [])) (sym (count-at all number) ∙ ap (λ (ns : List ℕ). get_or ns number 0) going.counted)

-- and they are no more than these
pub caught_up-few : (outputs : List OutputFile) (counts : List ℕ) (sounds targets : List (List ℤ)) (number : ℕ) (before now : Option Files)
    → AreLonger sounds targets → IsGoingOn outputs counts (caught_up number sounds targets) before now
    → slice_index_or counts number 0 ≤ length (slice_index_or targets number [])
caught_up-few outputs counts sounds targets number before now longer going =
    let all : List (List ℤ) = caught_up number sounds targets in
    subst (λ (n : ℕ). n ≤ length (get_or targets number [])) (sym (count-at all number) ∙ ap (λ (ns : List ℕ). get_or ns number 0) going.counted)
    (part-length (get_or all number []) (get_or targets number []) (longer-at all targets number (caught_up-longer number sounds targets longer)))

-- there is a next output
caught_up-within : (outputs : List OutputFile) (counts : List ℕ) (sounds targets : List (List ℤ)) (number : ℕ) (before now : Option Files)
    → AreLonger sounds targets → IsGoingOn outputs counts (caught_up number sounds targets) before now → number < length outputs → number < length targets
caught_up-within outputs counts sounds targets number before now longer going within =
    let len = longer-length (caught_up number sounds targets) targets (caught_up-longer number sounds targets longer) in
    let same = going.number in omega (arith, len, same, within)

-- what the next output is once it was appended to
pub caught_up-next : (outputs : List OutputFile) (counts : List ℕ) (sounds targets : List (List ℤ)) (number : ℕ) (samples : List ℤ) (before now : Option Files)
    → AreLonger sounds targets → IsGoingOn outputs counts (caught_up number sounds targets) before now → number < length outputs
    → samples ≡ slice_index_or targets number []
    → slice_set (caught_up number sounds targets) number samples ≡ caught_up (number + 1) sounds targets
caught_up-next outputs counts sounds targets number samples before now longer going within is =
    ap (λ (s : List ℤ). set (caught_up number sounds targets) number s) is
    ∙ (caught_up-set number sounds targets longer (caught_up-within outputs counts sounds targets number before now longer going within)
    ∙ ap (λ (n : ℕ). caught_up n sounds targets) (let next : suc number ≡ number + 1 = omega arith in next))

-- ---- the outputs of a lab

-- the member of a list at a place in it
pub member : {X : Type 0} (xs : List X) (number : ℕ) → number < length xs → (x : X) × (slice_get xs number ≡ Some x)
member [] number within = absurd (omega (arith, within))
member (x ∷ xs) zero within = (x, refl)
member (x ∷ xs) (suc number) within = member xs number (omega (arith, within))

module _ (lab : Lab) (stage : Stage) (at : IsAtStage lab stage) where
  -- as many readers as the stage has
  readers-length : length stage.readers ≡ length (readers_of (readers_in lab))
  readers-length = AreEach-length _ 0 (readers_of (readers_in lab)) stage.readers at.actors.readers_are.each

  -- an output for the card, and one for each reader
  pub sounds-length : length (sounds_at lab stage) ≡ suc (length (readers_of (readers_in lab)))
  sounds-length = ap suc (recorded_from-size (session_of lab) (capture_of lab) 0 stage.readers ∙ readers-length)

  -- the samples of a reader's output
  pub sounds-reader : (number reader : ℕ) (samples : List ℤ) → number ≡ suc reader → number ≤ length (readers_of (readers_in lab))
      → ((e : AtPort × Reader) → samples ≡ recorded_by (session_of lab) (capture_of lab) reader (slice_index_or stage.readers reader e).1)
      → samples ≡ slice_index_or (sounds_at lab stage) number []
  sounds-reader number reader samples next within are =
      let len = readers-length in
      let inside : reader < length stage.readers = omega (arith, next, within, len) in
      let one = member stage.readers reader inside in
      are one.0
      ∙ (sym (recorded_from-at (session_of lab) (capture_of lab) stage.readers reader one.0 inside)
      ∙ ap (λ (n : ℕ). get_or (sounds_at lab stage) n []) (sym next))

-- all outputs fit into WAV files
pub few-at : (sounds : List (List ℤ)) (number : ℕ) (samples : List ℤ) → All FitsWavFile (map length sounds) → number < length sounds → samples ≡ slice_index_or sounds number []
    → FitsWavFile (length samples)
few-at sounds number samples few within is =
    let len = length-map sounds length in
    subst (λ (s : List ℤ). FitsWavFile (length s)) (sym is) (subst FitsWavFile (count-at sounds number) (few number 0 (omega (arith, within, len))))

-- ---- an append, whatever the run began with

module _ (outputs after : List OutputFile) (counts counts_after : List ℕ) (sounds targets : List (List ℤ)) (number : ℕ) (samples : List ℤ) (before now then : Option Files)
    (longer : AreLonger sounds targets) (going : IsGoingOn outputs counts (caught_up number sounds targets) before now) (within : number < length outputs)
    (is : samples ≡ slice_index_or targets number []) where
  first-now : slice_index_or (caught_up number sounds targets) number [] ≡ take (slice_index_or counts number 0) samples
  first-now = caught_up-first outputs counts sounds targets number before now longer going ∙ ap (λ (s : List ℤ). take (slice_index_or counts number 0) s) (sym is)

  next-now : slice_set (caught_up number sounds targets) number samples ≡ caught_up (number + 1) sounds targets
  next-now = caught_up-next outputs counts sounds targets number samples before now longer going within is

  -- it is done
  pub appended-going : ((start : Option Files) (own : List (List ℤ)) → IsGoingOn outputs counts own start now → slice_index_or own number [] ≡ take (slice_index_or counts number 0) samples
      → IsGoingOn after counts_after (slice_set own number samples) start then) → IsGoingOn after counts_after (caught_up (number + 1) sounds targets) before then
  appended-going goes_on = subst (λ (all : List (List ℤ)). IsGoingOn after counts_after all before then) next-now (goes_on before (caught_up number sounds targets) going first-now)

  -- it failed
  pub appended-changes : ((start : Option Files) (own last : List (List ℤ)) → IsGoingOn outputs counts own start now
      → slice_index_or own number [] ≡ take (slice_index_or counts number 0) samples → AreLonger (slice_set own number samples) last → Changes (MayHold after last) start then)
      → Changes (MayHold after targets) before then
  appended-changes changes = changes before (caught_up number sounds targets) targets going first-now
      (subst (λ (all : List (List ℤ)). AreLonger all targets) (sym next-now) (caught_up-longer (number + 1) sounds targets longer))

-- all outputs have their new samples
pub all-going : (outputs : List OutputFile) (counts : List ℕ) (sounds targets : List (List ℤ)) (number : ℕ) (before now : Option Files) → AreLonger sounds targets
    → length outputs ≤ number → IsGoingOn outputs counts (caught_up number sounds targets) before now → IsGoingOn outputs counts targets before now
all-going outputs counts sounds targets number before now longer all going =
    let len = longer-length (caught_up number sounds targets) targets (caught_up-longer number sounds targets longer) in
    let same = going.number in
    subst (λ (own : List (List ℤ)). IsGoingOn outputs counts own before now) (caught_up-all number sounds targets longer (omega (arith, len, same, all))) going

-- ---- all outputs in turn

-- a lab's outputs as they were, and after so many appends
pub record IsAppended {S : Type 0} (H : shelves.Ghosts S) (lab : Lab) (was is : Outputs) (number : ℕ) (old now : S) : Type 0 where
  pub outputs_are : AreOutputs is
  pub files : is.files ≡ was.files
  pub rows : is.rows ≡ was.rows
  pub going_on : (before : Option Files) (stage : Stage) (sounds : List (List ℤ)) → IsAtStage lab stage → AreLonger sounds (sounds_at lab stage)
      → IsGoingOn was.files.items was.samples.items sounds before (H.files old)
      → IsGoingOn is.files.items is.samples.items (caught_up number sounds (sounds_at lab stage)) before (H.files now)
  pub counts : CountsNoFault H old now
