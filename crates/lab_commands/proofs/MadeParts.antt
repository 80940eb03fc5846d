-- What the parts of the command leave together.
use Rattle.lab_commands.specs.Prelude.{ap, arith, inl, inr, List, refl, subst, sym, ℕ, [], ◌++◌, ◌∙◌, ◌≡◌, nat_tests, option_map, All, None, Ok, Option, Some}
use Rattle.lab_commands.specs.Prelude.{Pass, StepKind, Sound, Files, IsPartWritten, with_file, Item, Script, IsScript, Outcome, IsSessionOf, Session, Stops}
use Rattle.lab_commands.specs.Prelude.{IsExactRun, IsOwnRun, IsUnstoppedRun, HaveOneSession, RunInput, finished_files, output_files, Summary, Workload}
use Rattle.lab_commands.specs.Prelude.{IsMadeSound, made_sounds, made_script, InputInPart, IsReadBack, made_input, with_input, with_workload, IsSummaryOf}
use Rattle.lab_commands.specs.Prelude.{summary_text, HasPlayed, HasPlayedAsking, HasPlayedPart, sounds_of, HaveNoStops, HasPutSummary, HasPutSummaryPart}
use Rattle.lab_commands.specs.Prelude.{IsMadeAsking, IsMadePart, IsOnlyMade, made_outcome, made_report, output_name, report_name, with_made, with_run_files}
use Rattle.lab_script.specs.Reading.{script_of}
use Rattle.lab_make.specs.Lines.{made_text}
use Rattle.lab_make.specs.Workload.{IsWorkload}
use Rattle.lab_make.proofs.ReadBack.{input-made}
use Rattle.lab_commands.proofs.Unmixed.{AreUnmixed-made}

-- what the laws of runs say of each run
pub record RunLaws : Type 0 where
  pub exact : (session : Session) (capture : Option Sound) (body : List Item) (outcome : Outcome) → IsUnstoppedRun session capture body outcome → IsExactRun session capture body outcome
  pub own : (script : Script) (wavs : List Sound) (session : Session) (capture : Option Sound) (outcome : Outcome) → IsScript script → IsSessionOf script wavs session
      → IsUnstoppedRun session capture script.body outcome → IsOwnRun script session outcome
  pub one : (script : Script) (wavs : List Sound) → HaveOneSession script wavs

-- ---- the input

-- what is stored is a workload
stored-workload : (w : Workload) (wavs : List Sound) (text : List ℕ) (before between : Option Files) → wavs ≡ made_sounds w.seed w.clients
    → text ≡ made_text w.clients w.phases → between ≡ option_map (with_input wavs text) before → between ≡ option_map (with_workload w) before
stored-workload w wavs text before between wavs_are text_is is = grind (arith, nat_tests)

-- a workload is stored in part
pub IsMadePart-before : (w : Workload) (stops : Stops) (wavs : List Sound) (text : List ℕ) (before after : Option Files) (taken : Option (List ℕ))
    → wavs ≡ made_sounds w.seed w.clients → text ≡ made_text w.clients w.phases → InputInPart wavs text before after → IsMadePart w stops before after taken taken
IsMadePart-before w stops wavs text before after taken wavs_are text_is part = grind (arith, nat_tests)

-- ---- the run

module _ (w : Workload) (stops : Stops) (input : RunInput) (wavs : List Sound) (text : List ℕ) (before between : Option Files) (taken : Option (List ℕ))
    (input_is : input ≡ made_input w) (wavs_are : wavs ≡ made_sounds w.seed w.clients) (text_is : text ≡ made_text w.clients w.phases)
    (is_stored : between ≡ option_map (with_input wavs text) before) where
  -- it stopped
  pub IsMadePart-run : (after : Option Files) → ((report : List ℕ) × HasPlayedPart input output_name stops between after (Some []) (Some report))
      → IsMadePart w stops before after taken taken
  IsMadePart-run after part = grind (arith, nat_tests)

  module _ {T : Type 0} (asked : T → T → List StepKind → Pass → Type 0) (gates gates_after : List T) (ran : Option Files) (outcome : Outcome) (report : List ℕ)
      (played : HasPlayedAsking asked gates gates_after input output_name stops outcome between ran (Some []) (Some report)) where
    asking-of-workload : HasPlayedAsking asked gates gates_after (made_input w) output_name stops outcome between ran (Some []) (Some report)
    asking-of-workload = subst (λ (i : RunInput). HasPlayedAsking asked gates gates_after i output_name stops outcome between ran (Some []) (Some report)) input_is played

    abbrev of-workload : HasPlayed (made_input w) output_name stops outcome between ran (Some []) (Some report)
    of-workload = asking-of-workload.played

    ran-files : ran ≡ option_map (with_run_files w outcome) before
    ran-files =
        of-workload.files
        ∙ (ap (option_map (finished_files (output_files (made_script w.clients w.phases) output_name) (sounds_of outcome)))
        (stored-workload w wavs text before between wavs_are text_is is_stored) ∙ behind before)
      where
        behind : (o : Option Files) → option_map (finished_files (output_files (made_script w.clients w.phases) output_name) (sounds_of outcome)) (option_map (with_workload w) o)
            ≡ option_map (with_run_files w outcome) o
        behind None = refl
        behind (Some files) = refl

    report-is : report ≡ made_report w outcome
    report-is = let text_is = of-workload.text in cc

    made-files : (after : Option Files) → after ≡ option_map (λ files. with_file files report_name report) ran → after ≡ option_map (with_made w outcome) before
    made-files after is =
        is
        ∙ (ap (λ (bytes : List ℕ). option_map (λ files. with_file files report_name bytes) ran) report-is
        ∙ (ap (option_map (λ files. with_file files report_name (made_report w outcome))) ran-files ∙ behind before))
      where
        behind : (o : Option Files) → option_map (λ files. with_file files report_name (made_report w outcome)) (option_map (with_run_files w outcome) o) ≡ option_map (with_made w outcome) o
        behind None = refl
        behind (Some files) = refl

    -- the report isn't stored
    pub IsMadePart-report : (after : Option Files) → IsPartWritten ran after report_name report → IsMadePart w stops before after taken taken
    IsMadePart-report after part =
        inr (inr (inl (record {
          session = of-workload.session;
          outcome = outcome;
          is = of-workload.is;
          files = subst (λ (files : Option Files). IsPartWritten files after report_name (made_report w outcome)) ran-files
              (subst (λ (bytes : List ℕ). IsPartWritten ran after report_name bytes) report-is part);
          text = refl;
        })))

    -- the summary isn't put
    pub IsMadePart-summary : (after : Option Files) (taken_after : Option (List ℕ)) → after ≡ option_map (λ files. with_file files report_name report) ran
        → HasPutSummaryPart w outcome taken taken_after → IsMadePart w stops before after taken taken_after
    IsMadePart-summary after taken_after is part =
        inr (inr (inr (record {
          session = of-workload.session;
          outcome = outcome;
          is = of-workload.is;
          files = made-files after is;
          text = part;
        })))

    -- ---- all is done
    module _ (laws : RunLaws) (script_is : IsScript (made_script w.clients w.phases)) (after : Option Files) (taken_after : Option (List ℕ))
        (is : after ≡ option_map (λ files. with_file files report_name report) ran) (put : HasPutSummary w outcome taken taken_after) where
      unstopped : HaveNoStops stops → IsUnstoppedRun of-workload.session None (made_script w.clients w.phases).body outcome
      unstopped none =
          record { client_stops = stops.clients; reader_stops = stops.readers; clients = none.clients; readers = none.readers; run = of-workload.is.run }

      only-outcome : HaveNoStops stops → (session : Session) → IsSessionOf (made_script w.clients w.phases) (made_input w).sounds session → outcome ≡ made_outcome w session
      only-outcome none session session_is =
          (laws.exact of-workload.session None (made_script w.clients w.phases).body outcome (unstopped none)).is (AreUnmixed-made w.clients w.phases)
          ∙ ap (made_outcome w) (laws.one (made_script w.clients w.phases) (made_input w).sounds of-workload.session session of-workload.is.session_is session_is)

      only-summary : (summary : Summary) → IsSummaryOf w outcome.report outcome.played summary → put.summary ≡ summary
      only-summary summary other = grind (arith, nat_tests)

      only-made : HaveNoStops stops → IsOnlyMade w before after taken taken_after
      only-made none = record {
        files = λ session session_is. made-files after is ∙ ap (λ (o : Outcome). option_map (with_made w o) before) (only-outcome none session session_is);
        text = λ session summary session_is of. put.text
            ∙ ap (λ (s : Summary). option_map (λ t. t ++ summary_text s) taken)
            (only-summary summary (subst (λ (o : Outcome). IsSummaryOf w o.report o.played summary) (sym (only-outcome none session session_is)) of));
      }

      pub IsMade-all : IsWorkload w → script_of (made_text w.clients w.phases) ≡ Ok (made_script w.clients w.phases)
          → All IsMadeSound (made_sounds w.seed w.clients) → All IsReadBack (made_sounds w.seed w.clients) → IsMadeAsking asked gates gates_after w stops before after taken taken_after
      IsMade-all workload spelled made back = record {
        made = record {
          session = of-workload.session;
          outcome = outcome;
          read = λ files known. input-made w workload spelled made back files;
          is = of-workload.is;
          own = λ none. laws.own (made_script w.clients w.phases) (made_input w).sounds of-workload.session None outcome script_is of-workload.is.session_is (unstopped none);
          only = only-made;
          files = made-files after is;
          text = put;
        };
        gates_asked = asking-of-workload.gates_asked;
      }
