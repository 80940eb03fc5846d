-- The beginning of a run: nothing is played, recorded or answered, and so much is written.
use Rattle.lab_play.specs.Prelude.{ap, arith, inl, map, refl, subst, suc, sym, take, ◌∙◌, length-map, option_map, length, List, Option, ℕ, ℤ, [], ◌++◌, ◌+◌}
use Rattle.lab_play.specs.Prelude.{◌∷◌, ◌≡◌, Sound, Changes, Files, TookPart, CardLine, Script, recorded_from, AreReaderOpenings, first_stage, no_reader}
use Rattle.lab_play.specs.Prelude.{Session, Setup, Stage, Lab, capture_of, session_of, Stops, AreStopsOf-first, RunInput, OutputFile, Outputs, MayHold, nothing}
use Rattle.lab_play.specs.Prelude.{recorded_file, IsGoingOn, head_text, text_so_far, IsNewRun, IsLabOf, IsPlaying, IsStopped, scene, sounds_at, Start}
use Rattle.lab_lines.specs.declared.script.ReaderLine.{ReaderLine}
use Rattle.lab_play.proofs.ItemsStopped.{HasStopped-silent, IsStoppedAt-rows}

-- a session has as many readers as its script
readers-length : (card : CardLine) (lines : List ReaderLine) (setups : List (Option Setup)) → AreReaderOpenings card lines setups → length lines ≡ length setups
readers-length card [] [] are = refl
readers-length card (line ∷ lines) (setup ∷ setups) are = ap suc (readers-length card lines setups are.1)
readers-length card lines setups are = absurd are

-- readers that were never open recorded nothing
nothing-recorded : (session : Session) (capture : Option Sound) (number : ℕ) (outputs : List OutputFile) (setups : List (Option Setup)) → length outputs ≡ length setups
    → nothing outputs ≡ recorded_from session capture number (map (λ setup. no_reader session.ring) setups)
nothing-recorded session capture number [] [] same = refl
nothing-recorded session capture number (output ∷ outputs) (setup ∷ setups) same =
    ap (λ (sounds : List (List ℤ)). [] ∷ sounds) (nothing-recorded session capture (number + 1) outputs setups (omega (arith, same)))
nothing-recorded session capture number outputs setups same = absurd (omega (arith, same))

module _ (input : RunInput) (name : List ℕ) (stops : Stops) (lab : Lab) (outputs : Outputs) (before : Option Files) (taken : Option (List ℕ)) (is : IsNewRun input name lab outputs) where
  abbrev pub start-of : Start
  start-of = record { input = input; out = name; stops = stops; files = before; taken = taken }

  abbrev first : Stage
  first = first_stage (session_of lab)

  lab-first : IsLabOf start-of stops lab first
  lab-first = record { script_is = is.script_is; samples = is.samples; stage_is = is.first; counted = AreStopsOf-first stops (session_of lab) }

  sounds-first : nothing outputs.files.items ≡ sounds_at lab first
  sounds-first =
      let script : Script = input.script in
      let recorded : List OutputFile = map (recorded_file script.card name) script.readers in
      let len : length recorded ≡ length (session_of lab).readers =
      length-map script.readers (recorded_file script.card name) ∙ readers-length script.card script.readers (session_of lab).readers is.script_is.session_is.readers in
      ap nothing is.new.files
      ∙ (ap (λ (sounds : List (List ℤ)). [] ∷ sounds) (nothing-recorded (session_of lab) (capture_of lab) 0 recorded (session_of lab).readers len)
      ∙ ap (λ (xs : List ℤ). xs ∷ recorded_from (session_of lab) (capture_of lab) 0 first.readers) (sym is.silent))

  -- the files have their open heads, and the first line of the report is put
  pub IsPlaying-first : (files : Option Files) (taken_after : Option (List ℕ)) → IsGoingOn outputs.files.items outputs.samples.items (nothing outputs.files.items) before files
      → taken_after ≡ option_map (λ t. t ++ head_text) taken → IsPlaying start-of stops (scene lab outputs files taken_after)
  IsPlaying-first files taken_after going text = record {
    stage = first;
    lab_is = lab-first;
    written = record {
      outputs_are = is.outputs_are;
      files_are = is.new.files;
      going_on = subst (λ (sounds : List (List ℤ)). IsGoingOn outputs.files.items outputs.samples.items sounds before files) sounds-first going;
      few = let none = is.new.rows in omega (arith, none);
      text = text ∙ ap (λ (k : ℕ). option_map (λ t. t ++ text_so_far input.script (take k [])) taken) (sym is.new.rows);
    };
  }

  -- it is at the first stage
  pub stage-first : (files : Option Files) (taken_after : Option (List ℕ)) (going : IsGoingOn outputs.files.items outputs.samples.items (nothing outputs.files.items) before files)
      (text : taken_after ≡ option_map (λ t. t ++ head_text) taken) → (IsPlaying-first files taken_after going text).stage ≡ first_stage (session_of lab)
  unfolding IsPlaying-first
  stage-first files taken_after going text = refl

  -- some of that is missing: nothing is played, which is the mix of no segments
  pub HasStopped-first : (files : Option Files) (taken_after : Option (List ℕ)) → Changes (MayHold outputs.files.items (nothing outputs.files.items)) before files
      → TookPart taken taken_after head_text → IsStopped start-of stops files taken_after
  HasStopped-first files taken_after changes part =
      HasStopped-silent start-of stops lab files taken_after
      (IsStoppedAt-rows start-of stops lab first files taken_after lab-first
      (rw (sounds-first, is.new.files) at changes) part (inl part))
      is.silent
