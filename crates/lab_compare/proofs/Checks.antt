-- The tests of a check, one after the other: a stop at one is a stop of the check.
use Rattle.lab_compare.specs.Prelude.{add-one, ap, arith, drop, drop-cons, Err, get_or, length, length-take, List, refl, subst, suc, sym, take, ℕ, [], ◌+◌, ◌<◌}
use Rattle.lab_compare.specs.Prelude.{◌∙◌, ◌∷◌, ◌≡◌, ◌≤◌, nat_tests, drop_all, take_all, get_or_from_slice_get, slice_get_within, ForSome, option_map, All}
use Rattle.lab_compare.specs.Prelude.{Bool, IfOk, min, None, Ok, Option, Result, slice_get, slice_index_or, Some, ℤ, Sound, bytes_under, Files, Report}
use Rattle.lab_compare.specs.Prelude.{CardLine, ReaderLine, Script, HasTestedRuns, HasTestedSegments, most_of_report, tested, tested_report, line_of_end}
use Rattle.lab_compare.specs.Prelude.{line_of_played, played_samples, reader_samples, readers_samples, bytes_or_cause, Cause, first_bytes, ◌>>=◌, IsSameShelf}
use Rattle.lab_compare.specs.Prelude.{AnswersOrStops, Misses, TestFaults, input_in, RunInput, OutputFile, played_file, recorded_file, as_tested, check_in}
use Rattle.lab_compare.specs.Prelude.{is_same_in, IsReportIn, outputs_in, passed, played_in, recording_in, recordings_in, same_in, same_or_line, tested_in}
use Rattle.lab_lines.specs.Limits.{IsReaderLine}
use Rattle.lab_check.specs.declared.error.CheckError.{CheckError}
use Rattle.lab_check.specs.Results.{ChecksAs}
use Rattle.lab_check.proofs.ReaderSamples.{recorded-at}
use Rattle.lab_check.specs.declared.error.CheckError.TheVariants as checks
use Rattle.lab_shelf.specs.declared.traits.Shelf as shelves

-- ---- a file that is compared

-- whether a file is the one that it must be decides its test, and one that is missing fails it so
pub same_in-of : (m : Files) (line : ℕ) (file : OutputFile) (samples : List ℤ) (same : Result Bool Cause) → is_same_in m file samples ≡ same
    → same_in m line file samples ≡ (same >>= λ s. same_or_line line s)
unfolding same_in
same_in-of m line file samples same is = ap (λ (r : Result Bool Cause). r >>= λ s. same_or_line line s) is

-- the test of a file is that of what was played, where it is compared with that
pub played_in-of : (m : Files) (input : RunInput) (out : List ℕ) (report : Report) (line : ℕ) (file : OutputFile) (samples : List ℤ)
    → line ≡ line_of_played report → file ≡ played_file input.script.card out → samples ≡ played_samples input.script input.sounds report
    → same_in m line file samples ≡ played_in m input out report
unfolding played_in
played_in-of m input out report line file samples line_is file_is samples_are = rw (line_is, file_is, samples_are) refl

-- and that of what a reader recorded
pub recording_in-of : (m : Files) (input : RunInput) (out : List ℕ) (report : Report) (number : ℕ) (reader : ReaderLine) (line : ℕ) (file : OutputFile) (samples : List ℤ)
    → line ≡ line_of_end report → file ≡ recorded_file input.script.card out reader
    → samples ≡ reader_samples input.script.card input.capture report number reader
    → same_in m line file samples ≡ recording_in m input out report number reader
unfolding recording_in
recording_in-of m input out report number reader line file samples line_is file_is samples_are = rw (line_is, file_is, samples_are) refl

-- ---- the report

-- the bytes of a file that may have no more are all of it
whole-file : (content : Option (List ℕ)) (name text : List ℕ) (most : ℕ)
    → bytes_or_cause name (option_map (λ (c : List ℕ). take (most + 1) (drop 0 c)) content) ≡ Ok text → length text ≤ most → content ≡ Some text
whole-file None name text most is few = absurd cc
whole-file (Some content) name text most is few =
    let first : take (most + 1) content ≡ text = cc in
    let taken : length (take (most + 1) content) ≡ min (most + 1) (length content) = length-take (most + 1) content in
    let low : length content ≤ most + 1 = omega (arith, taken, ap length first, few) in
    ap (λ (c : List ℕ). Some c) (sym (take_all (most + 1) content low) ∙ first)

-- a text that passes isn't too long
pub few-bytes : (script : Script) (wavs : List Sound) (text : List ℕ) (report : Report) → tested_report script wavs text ≡ Ok report → length text ≤ most_of_report
few-bytes script wavs text report passes = grind (arith, nat_tests)

-- the file of a report that passes
pub report-held : (files : Option Files) (name : List ℕ) (script : Script) (wavs : List Sound) (text : List ℕ) (report : Report)
    → ForSome files (λ m. first_bytes m name (most_of_report + 1) ≡ Ok text) → tested_report script wavs text ≡ Ok report
    → ForSome files (λ m. bytes_under m name ≡ Some text)
report-held files name script wavs text report fetched passes m told =
    whole-file (bytes_under m name) name text most_of_report (fetched m told) (few-bytes script wavs text report passes)

-- what a text's tests give is what its file gives
pub tested_in-of : (m : Files) (input : RunInput) (name : List ℕ) (fetched : Result (List ℕ) Cause) → first_bytes m name (most_of_report + 1) ≡ fetched
    → tested_in m input name ≡ (fetched >>= λ text. as_tested (tested_report input.script input.sounds text))
unfolding tested_in
tested_in-of m input name fetched is = ap (λ (r : Result (List ℕ) Cause). r >>= λ t. as_tested (tested_report input.script input.sounds t)) is

-- a command ends at the first test that a text fails
pub AnswersOrStops-passed : {X : Type 0} (end : Result X CheckError) (said : Result X ℕ) → ChecksAs (λ x. x) end said
    → AnswersOrStops (λ x. x) (passed end) (as_tested said)
AnswersOrStops-passed end said is = grind (arith, nat_tests)

-- it counts no fetch, and finds no file missing
pub TestFaults-passed : {X : Type 0} (end : Result X CheckError) (before now : ℕ) → now ≡ before → TestFaults (passed end) before now
TestFaults-passed end before now same = grind (arith, nat_tests)

pub Misses-test : {X Y : Type 0} (end : Result X CheckError) (given : Result Y Cause) → Misses (passed end) given
Misses-test end given = grind (arith, nat_tests)

-- the tests of the text in a file are those of what its file gives
pub tested-answers : (files : Option Files) (input : RunInput) (wavs : List Sound) (name text spelled : List ℕ) (end : Result Report CheckError)
    → ForSome files (λ m. first_bytes m name (most_of_report + 1) ≡ Ok text) → wavs ≡ input.sounds → spelled ≡ text
    → ChecksAs (λ report. report) end (tested_report input.script wavs spelled)
    → ForSome files (λ m. AnswersOrStops (λ report. report) (passed end) (tested_in m input name))
tested-answers files input wavs name text spelled end fetched wavs_are same is m told =
    subst (λ (given : Result Report Cause). AnswersOrStops (λ report. report) (passed end) given) (sym (tested_in-of m input name (Ok text) (fetched m told)))
    (AnswersOrStops-passed end (tested_report input.script input.sounds text) (rw (wavs_are, same) at is))

-- where they pass, what the file holds passes
pub tested-held : (files : Option Files) (input : RunInput) (wavs : List Sound) (name text spelled : List ℕ) (end : Result Report CheckError)
    → ForSome files (λ m. first_bytes m name (most_of_report + 1) ≡ Ok text) → wavs ≡ input.sounds → spelled ≡ text
    → ChecksAs (λ report. report) end (tested_report input.script wavs spelled)
    → IfOk end (λ report. HasTestedSegments input.script wavs report) → IfOk end (λ report. HasTestedRuns input.script report)
    → IfOk (passed end) (IsReportIn files input name)
tested-held files input wavs name text spelled (Ok report) fetched wavs_are same is segments runs =
    let passes : tested_report input.script input.sounds text ≡ Ok report = rw (wavs_are, same) at is in
    record {
      text = text;
      fetched = report-held files name input.script input.sounds text report fetched passes;
      passes = passes;
      segments = rw wavs_are at segments;
      runs = runs;
    }
tested-held files input wavs name text spelled (Err (checks.No line)) fetched wavs_are same is segments runs = tt
tested-held files input wavs name text spelled (Err checks.Memory) fetched wavs_are same is segments runs = tt

-- ---- the readers

-- the samples that are compared are those of the reader
pub reader_samples-taken : (card : CardLine) (capture copied : Option Sound) (report : Report) (readers : List ReaderLine) (number : ℕ) (reader : ReaderLine)
    (taken given : List ℤ) → taken ≡ given → given ≡ slice_index_or (readers_samples card copied report 0 readers) number [] → copied ≡ capture
    → slice_get readers number ≡ Some reader → taken ≡ reader_samples card capture report number reader
reader_samples-taken card capture copied report readers number reader taken given same is copy line =
    same ∙ is
    ∙ ap (λ (c : Option Sound). slice_index_or (readers_samples card c report 0 readers) number []) copy
    ∙ recorded-at card capture report number readers reader line

-- a reader that there is keeps a line's limits
pub reader-line : (card : CardLine) (readers : List ReaderLine) (number : ℕ) (reader : ReaderLine) → All (IsReaderLine card) readers
    → slice_get readers number ≡ Some reader → IsReaderLine card reader
reader-line card readers number reader each is =
    subst (IsReaderLine card) (get_or_from_slice_get readers number reader reader is) (each number reader (slice_get_within readers number reader is))

-- what a loop over the readers keeps: the tests of all are those of the ones that are left
pub record Reviewing {S : Type 0} (H : shelves.Ghosts S) (old now : S) (input : RunInput) (out : List ℕ) (report : Report)
    (readers : List ReaderLine) (index number : ℕ) : Type 0 where
  pub so_far : ForSome (H.files old) (λ m. recordings_in m input out report 0 readers ≡ recordings_in m input out report number (drop index readers))
  pub counted : number ≡ index
  pub same : IsSameShelf H old now

-- the next reader's test, and then those of the others
pub recordings_in-next : (m : Files) (input : RunInput) (out : List ℕ) (report : Report) (readers : List ReaderLine) (index number : ℕ)
    (reader : ReaderLine) (first : Result (Unit {0}) Cause)
    → recordings_in m input out report 0 readers ≡ recordings_in m input out report number (drop index readers)
    → index < length readers → reader ≡ get_or readers index reader → recording_in m input out report number reader ≡ first
    → recordings_in m input out report 0 readers ≡ (first >>= λ same. recordings_in m input out report (number + 1) (drop (index + 1) readers))
unfolding recordings_in
recordings_in-next m input out report readers index number reader first so_far within is tests =
    so_far
    ∙ ap (λ (rs : List ReaderLine). recordings_in m input out report number rs)
    (drop-cons readers index reader within ∙ ap (λ r. r ∷ drop (suc index) readers) (sym is) ∙ ap (λ k. reader ∷ drop k readers) (sym (add-one index)))
    ∙ ap (λ (r : Result (Unit {0}) Cause). r >>= λ same. recordings_in m input out report (number + 1) (drop (index + 1) readers)) tests

-- all readers' tests pass
pub recordings_in-all : (files : Option Files) (input : RunInput) (out : List ℕ) (report : Report) (readers : List ReaderLine) (index number : ℕ)
    → ForSome files (λ m. recordings_in m input out report 0 readers ≡ recordings_in m input out report number (drop index readers))
    → length readers ≤ index → ForSome files (λ m. recordings_in m input out report 0 readers ≡ Ok tt)
unfolding recordings_in
recordings_in-all files input out report readers index number so_far all m told =
    so_far m told ∙ ap (λ (rs : List ReaderLine). recordings_in m input out report number rs) (drop_all index readers all)

-- ---- the outputs

-- where what was played is right, the readers' tests decide
pub outputs_in-of : (m : Files) (input : RunInput) (out : List ℕ) (report : Report) (played : Result (Unit {0}) Cause) → played_in m input out report ≡ played
    → outputs_in m input out report ≡ (played >>= λ same. recordings_in m input out report 0 input.script.readers)
unfolding outputs_in
outputs_in-of m input out report played is = ap (λ (r : Result (Unit {0}) Cause). r >>= λ same. recordings_in m input out report 0 input.script.readers) is

-- ---- all

-- where the input isn't right, the check isn't
pub check_in-input : (m : Files) (script report out : List ℕ) (e : Cause) → input_in m script ≡ Err e → check_in m script report out ≡ Err e
unfolding check_in
check_in-input m script report out e is = rw is refl

-- where it is, the report's tests decide, and then those of the outputs
pub check_in-read : (m : Files) (script report out : List ℕ) (input : RunInput) (tested : Result Report Cause) → input_in m script ≡ Ok input
    → tested_in m input report ≡ tested → check_in m script report out ≡ (tested >>= λ t. outputs_in m input out t)
unfolding check_in
check_in-read m script report out input tested read is = rw read (ap (λ (r : Result Report Cause). r >>= λ t. outputs_in m input out t) is)
