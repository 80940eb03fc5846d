-- A check finds no cause exactly where the files are those that they must be. So it finds none in the files of a checked run.
use Rattle.lab_compare.specs.Prelude.{ap, arith, drop, Err, false, length, List, map, refl, sym, take, true, ℕ, [], ◌+◌, ◌∙◌, ◌∷◌, ◌≡◌, ◌≤◌, take_all}
use Rattle.lab_compare.specs.Prelude.{bytes_eq-Decides, Decides, option_map, Bool, None, Ok, Option, Result, Some, unwrap_or, ℤ, ◌↔◌, bytes_eq, canonical}
use Rattle.lab_compare.specs.Prelude.{bytes_under, Files, Report, CardLine, ReaderLine, IsChecked, recorded_sounds, run_sounds, most_of_report, tested_report}
use Rattle.lab_compare.specs.Prelude.{line_of_end, line_of_played, played_samples, reader_samples, readers_samples, run_samples, bytes_or_cause, Cause}
use Rattle.lab_compare.specs.Prelude.{first_bytes, ◌>>=◌, input_in, RunInput, OutputFile, finished_file, output_files, played_file, reader_channels}
use Rattle.lab_compare.specs.Prelude.{recorded_file, as_tested, check_in, HoldsRun, is_same_in, outputs_in, played_in, recording_in, recordings_in, same_in}
use Rattle.lab_compare.specs.Prelude.{same_or_line, tested_in}
use Rattle.std.proofs.lemmas.List.FromFn.{length-range_with_len}
use Rattle.std.specs.List.{range_with_len}
use Rattle.lab_report.specs.Text.{report_text}
use Rattle.lab_run.specs.LabRun.{Outcome}
use Rattle.lab_run.specs.Openings.{read_by}
use Rattle.lab_check.specs.Runs.{samples_of_run}
use Rattle.lab_check.proofs.Compared.{whole}
use Rattle.lab_compare.proofs.Checks.{few-bytes}

-- ---- the bytes of a file

first-all : (m : Files) (name content : List ℕ) (most : ℕ) → bytes_under m name ≡ Some content → length content ≤ most → first_bytes m name most ≡ Ok content
first-all m name content most held low =
    ap (λ (o : Option (List ℕ)). bytes_or_cause name (option_map (λ (c : List ℕ). take most (drop 0 c)) o)) held
    ∙ ap (λ (c : List ℕ). Ok c) (take_all most content low)

-- the test of a file passes exactly where the file is the other one, of which one byte more is looked at
bytes-tell : (line : ℕ) (content : Option (List ℕ)) (name expected : List ℕ)
    → (((bytes_or_cause name (option_map (λ (c : List ℕ). take (length expected + 1) (drop 0 c)) content) >>= λ bytes. Ok (bytes_eq bytes expected)) >>= λ same. same_or_line line same) ≡ Ok tt)
    ↔ (content ≡ Some expected)
bytes-tell line None name expected = (λ is. absurd cc, λ is. absurd cc)
bytes-tell line (Some content) name expected = by_test (bytes_eq (take (length expected + 1) content) expected) (bytes_eq-Decides (take (length expected + 1) content) expected)
  where
    by_test : (b : Bool) → Decides b (take (length expected + 1) content ≡ expected) → (same_or_line line b ≡ Ok tt) ↔ (Some content ≡ Some expected)
    by_test true tells = (λ is. ap (λ (c : List ℕ). Some c) ((whole content expected).0 (tells.0 refl)), λ is. refl)
    by_test false tells = (
      λ is. absurd cc,
      λ is. let same : content ≡ expected = cc in let wrong : false ≡ true = tells.1 ((whole content expected).1 same) in absurd cc,
    )

same-tells : (m : Files) (line : ℕ) (file : OutputFile) (samples : List ℤ)
    → (same_in m line file samples ≡ Ok tt) ↔ (bytes_under m file.name ≡ Some (finished_file file samples))
unfolding same_in is_same_in
same-tells m line file samples = bytes-tell line (bytes_under m file.name) file.name (finished_file file samples)

-- two tests pass exactly where both do
both-tell : (first rest : Result (Unit {0}) Cause) → ((first >>= λ done. rest) ≡ Ok tt) ↔ ((first ≡ Ok tt) × (rest ≡ Ok tt))
both-tell (Ok done) rest = (λ is. (refl, is), λ both. both.1)
both-tell (Err e) rest = (λ is. absurd cc, λ both. let wrong = both.0 in absurd cc)

-- ---- the outputs

abbrev pub contents-in : Files → List OutputFile → List (Option (List ℕ))
contents-in m files = map (λ (file : OutputFile). bytes_under m file.name) files

-- a reader has as many channels as bindings
channels-read : (card : CardLine) (bindings : Option (List ℕ)) → reader_channels card bindings ≡ length (unwrap_or bindings (range_with_len 0 card.channels))
channels-read card None = sym (length-range_with_len 0 card.channels)
channels-read card (Some bindings) = refl

first-content : (x y : Option (List ℕ)) (xs ys : List (Option (List ℕ))) → x ∷ xs ≡ y ∷ ys → x ≡ y
first-content x y xs ys same = cc

other-contents : (x y : Option (List ℕ)) (xs ys : List (Option (List ℕ))) → x ∷ xs ≡ y ∷ ys → xs ≡ ys
other-contents x y xs ys same = cc

module _ (m : Files) (input : RunInput) (out : List ℕ) (report : Report) where
  recordings-tell : (number : ℕ) (readers : List ReaderLine) → (recordings_in m input out report number readers ≡ Ok tt)
      ↔ (contents-in m (map (recorded_file input.script.card out) readers)
      ≡ map (λ (c : List ℕ). Some c) (map canonical (recorded_sounds input.script.card readers (readers_samples input.script.card input.capture report number readers))))
  unfolding recordings_in recording_in
  recordings-tell number [] = (λ is. refl, λ is. refl)
  recordings-tell number (reader ∷ readers) =
      let samples : List ℤ = reader_samples input.script.card input.capture report number reader in
      let file : OutputFile = recorded_file input.script.card out reader in
      let as_read : ℕ → Option (List ℕ) = λ n. Some (canonical (record { channels = n; rate = input.script.card.rate; samples = samples })) in
      let sound : Some (finished_file file samples) ≡ as_read (length (read_by input.script.card reader)) = ap as_read (channels-read input.script.card reader.bindings) in
      let steps = both-tell (same_in m (line_of_end report) file samples) (recordings_in m input out report (number + 1) readers) in
      let first = same-tells m (line_of_end report) file samples in
      let others = recordings-tell (number + 1) readers in (
        λ is. ap (λ (o : Option (List ℕ)). o ∷ contents-in m (map (recorded_file input.script.card out) readers)) (first.0 (steps.0 is).0 ∙ sound)
            ∙ ap (λ (l : List (Option (List ℕ))). as_read (length (read_by input.script.card reader)) ∷ l) (others.0 (steps.0 is).1),
        λ held. steps.1 (first.1 (first-content _ _ _ _ held ∙ sym sound), others.1 (other-contents _ _ _ _ held)),
      )

  pub outputs-tell : (outputs_in m input out report ≡ Ok tt) ↔ (contents-in m (output_files input.script out)
      ≡ map (λ (c : List ℕ). Some c) (map canonical (run_sounds input.script (run_samples input.script input.sounds input.capture report))))
  unfolding outputs_in played_in
  outputs-tell =
      let samples : List ℤ = played_samples input.script input.sounds report in
      let file : OutputFile = played_file input.script.card out in
      let steps = both-tell (same_in m (line_of_played report) file samples) (recordings_in m input out report 0 input.script.readers) in
      let first = same-tells m (line_of_played report) file samples in
      let others = recordings-tell 0 input.script.readers in (
        λ is. ap (λ (o : Option (List ℕ)). o ∷ contents-in m (map (recorded_file input.script.card out) input.script.readers)) (first.0 (steps.0 is).0)
            ∙ ap (λ (l : List (Option (List ℕ))). Some (finished_file file samples) ∷ l) (others.0 (steps.0 is).1),
        λ held. steps.1 (first.1 (first-content _ _ _ _ held), others.1 (other-contents _ _ _ _ held)),
      )

-- ---- the report

tested-passes : (m : Files) (input : RunInput) (name text : List ℕ) (report : Report) → bytes_under m name ≡ Some text
    → tested_report input.script input.sounds text ≡ Ok report → tested_in m input name ≡ Ok report
unfolding tested_in
tested-passes m input name text report held passes =
    ap (λ (r : Result (List ℕ) Cause). r >>= λ bytes. as_tested (tested_report input.script input.sounds bytes))
    (first-all m name text (most_of_report + 1) held (let few = few-bytes input.script input.sounds text report passes in omega (arith, few)))
    ∙ ap as_tested passes

-- ---- a checked run

checked-passes : (m : Files) (script name out : List ℕ) (input : RunInput) (text : List ℕ) (contents : List (List ℕ)) → input_in m script ≡ Ok input
    → bytes_under m name ≡ Some text → contents-in m (output_files input.script out) ≡ map (λ (c : List ℕ). Some c) contents
    → IsChecked input.script input.sounds input.capture text contents → check_in m script name out ≡ Ok tt
unfolding check_in
checked-passes m script name out input text contents read held outputs checked =
    ap (λ (r : Result RunInput Cause). r >>= λ given. tested_in m given name >>= λ passed. outputs_in m given out passed) read
    ∙ ap (λ (r : Result Report Cause). r >>= λ passed. outputs_in m input out passed) (tested-passes m input name text checked.report held checked.passes)
    ∙ (outputs-tell m input out checked.report).1 (outputs ∙ ap (map (λ (c : List ℕ). Some c)) checked.files_are)

-- the files of a run, where that is a checked one
pub run-passes : (m : Files) (script name out : List ℕ) (input : RunInput) (outcome : Outcome) → HoldsRun m script name out input outcome
    → IsChecked input.script input.sounds input.capture (report_text input.script outcome.report) (map canonical (run_sounds input.script (samples_of_run outcome)))
    → check_in m script name out ≡ Ok tt
run-passes m script name out input outcome holds checked =
    checked-passes m script name out input (report_text input.script outcome.report) (map canonical (run_sounds input.script (samples_of_run outcome))) holds.read holds.text holds.outputs checked
