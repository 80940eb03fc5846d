-- A WAV file that is fetched and read piece by piece.
use Rattle.lab_input.specs.Prelude.{ap, arith, false, inl, inr, length, List, subst, sym, true, ℕ, [], ◌++◌, ◌+◌, ◌<◌, ◌∙◌, ◌≡◌, ◌≤◌, ◌⊎◌, nat_tests, Vec}
use Rattle.lab_input.specs.Prelude.{ForSome, Bool, Err, Ok, Option, Result, Some, WavError, IsRefusal, most_bytes, Sound, Files, Stop, Cause, content_in}
use Rattle.lab_input.specs.Prelude.{fetched_from, piece_bytes, wav_refused, ◌>>=◌, IsSameShelf, OnlyReads, IsCauseOf, IsWavStop, Misses, NamesWav, Shape}
use Rattle.lab_input.specs.Prelude.{FileReader, wav_in, with_weight, sound_file, weight, IsAfter}
use Rattle.lab_stop.specs.declared.stop.Stop.TheVariants.{Wav, Memory}
use Rattle.lab_stop.specs.Pieces.{IsFetched, IsBegun, IsFetched-next, IsFetched-rest, whole_refused}
use Rattle.lab_input.proofs.Long.{sound_file-long, sound_file-refused}
use Rattle.lab_shelf.specs.declared.traits.Shelf as shelves
use Rattle.wav_io.specs.declared.error.WavError.TheVariants as wav_whys

-- what a loop over the pieces keeps: the bytes that were read, and that they are the first of the file
pub record Reading {S : Type 0} (H : shelves.Ghosts S) (old now : S) (name : List ℕ) (shape : Option Shape) (reader : FileReader)
    (bytes : ℕ) (last : Bool) : Type 0 where
  pub seen : List ℕ
  pub read : IsAfter reader shape seen
  pub count : bytes ≡ length seen
  pub few : bytes ≤ 67_174_400
  pub so_far : ForSome (H.files old) (λ m. IsBegun m name seen last)
  pub same : IsSameShelf H old now

-- a file that isn't there has no sound
missing_sound : (r : Result (List ℕ) Cause) (shape : Option Shape) (name : List ℕ) (e : Cause) → r ≡ Err e
    → (r >>= λ bytes. with_weight name shape (length bytes) (sound_file shape bytes)) ≡ Err e
missing_sound r shape name e is = ap (λ (s : Result (List ℕ) Cause). s >>= λ bytes. with_weight name shape (length bytes) (sound_file shape bytes)) is

pub wav_in-missing : (files : Files) (shape : Option Shape) (name : List ℕ) (from : ℕ) (e : Cause)
    → fetched_from files name from piece_bytes ≡ Err e → wav_in files shape name ≡ Err e
unfolding wav_in
wav_in-missing files shape name from e is = missing_sound (content_in files name) shape name e (whole_refused files name from piece_bytes e is)

-- the sound of a file that is there
pub wav_in-of : (files : Files) (shape : Option Shape) (name content : List ℕ) → content_in files name ≡ Ok content
    → wav_in files shape name ≡ with_weight name shape (length content) (sound_file shape content)
unfolding wav_in
wav_in-of files shape name content is =
    ap (λ (s : Result (List ℕ) Cause). s >>= λ bytes. with_weight name shape (length bytes) (sound_file shape bytes)) is

-- the sound of a file of which all, or more than a WAV file may have, is fetched
pub wav_in-fetched : (files : Files) (shape : Option Shape) (name seen : List ℕ) (last : Bool) → IsFetched files name seen last
    → (last ≡ true) ⊎ (most_bytes < length seen) → wav_in files shape name ≡ with_weight name shape (length seen) (sound_file shape seen)
wav_in-fetched files shape name seen last so_far (inl all) = wav_in-of files shape name seen (so_far.whole all)
wav_in-fetched files shape name seen last so_far (inr long) =
    let rest = IsFetched-rest files name seen last so_far in
    let why = sound_file-refused shape seen long in
    wav_in-of files shape name (seen ++ rest.0) rest.1
    ∙ ap (with_weight name shape (length (seen ++ rest.0))) (sound_file-long shape seen rest.0 long ∙ why.1)
    ∙ ap (with_weight name shape (length seen)) (sym why.1)

-- ---- stops

-- a stop that names a file and why it is refused is at that cause
named_cause : {X : Type 0} (why : WavError) (name : List ℕ) (stop : Stop) (given : Result X Cause)
    → given ≡ Err (wav_refused name why) → NamesWav why name stop → IsCauseOf stop given
named_cause why name other given so is = grind (arith, nat_tests)

-- a stop at a WAV file that is refused is at that cause
pub IsCauseOf-refusal : {X : Type 0} (why : WavError) (name : List ℕ) (stop : Stop) (sound : Result Sound WavError) (given : Result X Cause)
    → ((e : WavError) → sound ≡ Err e → given ≡ Err (wav_refused name e))
    → IsRefusal why sound → IsWavStop why name stop → IsCauseOf stop given
IsCauseOf-refusal {X} wav_whys.Memory name stop sound given so refusal is =
    subst (λ (s : Stop). IsCauseOf s given) (sym is) tt
IsCauseOf-refusal other name stop sound given so refusal is = named_cause other name stop given (so other refusal) is

-- what holds of a stop that names a file, and of one for memory, holds of each stop at a WAV file that is refused
NamesWav-only : (holds : Stop → Type 0) (why : WavError) (name : List ℕ) (stop : Stop)
    → ((file : Vec ℕ) (because : WavError) → holds (Wav file because)) → holds Memory → NamesWav why name stop → holds stop
NamesWav-only holds why name other wav memory is = grind (arith, nat_tests)

IsWavStop-only : (holds : Stop → Type 0) (why : WavError) (name : List ℕ) (stop : Stop)
    → ((file : Vec ℕ) (because : WavError) → holds (Wav file because)) → holds Memory → IsWavStop why name stop → holds stop
IsWavStop-only holds wav_whys.Memory name stop wav memory is = subst holds (sym is) memory
IsWavStop-only holds other name stop wav memory is = NamesWav-only holds other name stop wav memory is

-- it changes nothing
pub OnlyReads-wav : {S X : Type 0} (H : shelves.Ghosts S) (why : WavError) (name : List ℕ) (stop : Stop) (old new : S)
    → IsWavStop why name stop → IsSameShelf H old new → OnlyReads {X = X} H (Err stop) old new
OnlyReads-wav H why name stop old new is same = grind (arith, nat_tests)

-- it is at no missing file
pub Misses-wav : {Y : Type 0} (why : WavError) (name : List ℕ) (stop : Stop) (given : Result Y Cause) → IsWavStop why name stop
    → Misses {X = Unit {0}} (Err stop) given
Misses-wav {Y} why name stop given is =
    IsWavStop-only (λ (s : Stop). Misses {X = Unit {0}} (Err s) given) why name stop (λ file because. tt) tt is

-- ---- the loop

-- one piece more is fetched
next_fetched : (files : Files) (now : Option Files) (name seen piece fed : List ℕ) (from : ℕ) (last then_last : Bool)
    → IsBegun files name seen last → now ≡ Some files
    → ForSome now (λ m. fetched_from m name from piece_bytes ≡ Ok piece) → from ≡ length seen → fed ≡ piece
    → (then_last ≡ true → length piece < piece_bytes) → IsFetched files name (seen ++ fed) then_last
next_fetched files now name seen piece fed from last then_last so_far told next behind same short =
    subst (λ (b : List ℕ). IsFetched files name (seen ++ b) then_last) (sym same)
    (
    IsFetched-next files name seen piece last then_last so_far
    (ap (λ (n : ℕ). fetched_from files name n piece_bytes) (sym behind) ∙ next files told) short
    )

pub reading-next : (files now : Option Files) (name seen piece fed : List ℕ) (from : ℕ) (last then_last : Bool)
    → ForSome files (λ m. IsBegun m name seen last) → now ≡ files
    → ForSome now (λ m. fetched_from m name from piece_bytes ≡ Ok piece) → from ≡ length seen → fed ≡ piece
    → (then_last ≡ true → length piece < piece_bytes) → ForSome files (λ m. IsBegun m name (seen ++ fed) then_last)
reading-next files now name seen piece fed from last then_last so_far unchanged next behind same short m told =
    inr (next_fetched m now name seen piece fed from last then_last (so_far m told) (unchanged ∙ told) next behind same short)

-- a piece that shows why the file is refused
pub reading-refused : (files now : Option Files) (shape : Option Shape) (name seen piece fed : List ℕ) (from : ℕ) (last : Bool) (why : WavError) (stop : Stop)
    → ForSome files (λ m. IsBegun m name seen last) → now ≡ files
    → ForSome now (λ m. fetched_from m name from piece_bytes ≡ Ok piece) → from ≡ length seen → fed ≡ piece
    → ((rest : List ℕ) → IsRefusal why (sound_file shape ((seen ++ fed) ++ rest))) → IsWavStop why name stop
    → ForSome files (λ m. IsCauseOf stop (wav_in m shape name))
reading-refused files now shape name seen piece fed from last why stop so_far unchanged next behind same refusal is m told =
    let fetched_now = next_fetched m now name seen piece fed from last false (so_far m told) (unchanged ∙ told) next behind same (λ no_way. absurd (cc)) in
    let rest = IsFetched-rest m name (seen ++ fed) false fetched_now in
    let content : List ℕ = (seen ++ fed) ++ rest.0 in
    IsCauseOf-refusal why name stop (sound_file shape content) (wav_in m shape name)
    (λ e err. wav_in-of m shape name content rest.1 ∙ ap (with_weight name shape (length content)) err) (refusal rest.0) is

-- ---- after the loop

ended_at : (files : Files) (shape : Option Shape) (name seen : List ℕ) (last : Bool) (bytes : ℕ) → IsBegun files name seen last
    → (last ≡ true) ⊎ (most_bytes < bytes) → bytes ≡ length seen → wav_in files shape name ≡ with_weight name shape bytes (sound_file shape seen)
ended_at files shape name seen last bytes (inl none) (inl all) count = let no_byte = none.1 in absurd (cc)
ended_at files shape name seen last bytes (inl none) (inr long) count = absurd (omega (arith, count, ap length none.0, long))
ended_at files shape name seen last bytes (inr fetched_now) (inl all) count =
    wav_in-fetched files shape name seen last fetched_now (inl all) ∙ ap (λ (n : ℕ). with_weight name shape n (sound_file shape seen)) (sym count)
ended_at files shape name seen last bytes (inr fetched_now) (inr long) count =
    wav_in-fetched files shape name seen last fetched_now (inr (omega (arith, count, long))) ∙ ap (λ (n : ℕ). with_weight name shape n (sound_file shape seen)) (sym count)

-- the file ends, and is a sound
pub reading-ok : (files : Option Files) (shape : Option Shape) (name seen : List ℕ) (last : Bool) (bytes : ℕ) (sound : Sound)
    → ForSome files (λ m. IsBegun m name seen last) → (last ≡ true) ⊎ (most_bytes < bytes) → bytes ≡ length seen
    → sound_file shape seen ≡ Ok sound → ForSome files (λ m. wav_in m shape name ≡ Ok (sound, weight shape bytes sound))
reading-ok files shape name seen last bytes sound so_far ended count is m told =
    ended_at m shape name seen last bytes (so_far m told) ended count ∙ ap (with_weight name shape bytes) is

-- the file ends, and is refused
pub reading-err : (files : Option Files) (shape : Option Shape) (name seen : List ℕ) (last : Bool) (bytes : ℕ) (why : WavError) (stop : Stop)
    → ForSome files (λ m. IsBegun m name seen last) → (last ≡ true) ⊎ (most_bytes < bytes) → bytes ≡ length seen
    → IsRefusal why (sound_file shape seen) → IsWavStop why name stop → ForSome files (λ m. IsCauseOf stop (wav_in m shape name))
reading-err files shape name seen last bytes why stop so_far ended count refusal is m told =
    IsCauseOf-refusal why name stop (sound_file shape seen) (wav_in m shape name)
    (λ e err. ended_at m shape name seen last bytes (so_far m told) ended count ∙ ap (with_weight name shape bytes) err) refusal is
