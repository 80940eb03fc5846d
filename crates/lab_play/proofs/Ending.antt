-- The end of a run: what is written last, and that it is what a run leaves.
use Rattle.lab_play.specs.Prelude.{ap, append_assoc, arith, inl, inr, refl, subst, sym, take, ◌∙◌, ◌≤◌, nat_tests, append-nil, length-append, take-append-drop}
use Rattle.lab_play.specs.Prelude.{flat_map-append, flat_map, option_map, drop, Err, length, List, None, Ok, Option, Result, Some, ℕ, ℤ, [], ◌++◌, ◌∷◌, ◌≡◌}
use Rattle.lab_play.specs.Prelude.{Sound, Changes, TookPart-all, TookPart-then, Files, TookPart, Item, Report, Row, Script, IsScript, IsReportOf, report_text}
use Rattle.lab_play.specs.Prelude.{row_line, tail_text, ItemsMay, LabRun, Outcome, outcome_of, IsSessionOf, first_stage, Session, Stage, Lab, capture_of}
use Rattle.lab_play.specs.Prelude.{items_done, played_of, session_of, HasPlayedMix, LeavesStage, outcome_in, HaveAsked, Stops, AreWithin-counted, AreSamples}
use Rattle.lab_play.specs.Prelude.{PlaysOneSample, OutcomesAreOfScripts, OutputFile, Outputs, finished_files, MayHold, output_files, KeepSamples, head_text}
use Rattle.lab_play.specs.Prelude.{tail_from, text_so_far, EndsAt, StopsInHeads, StopsInTail, HasPlayedAsking, sounds_of, IsPlaying, IsStopped, Scene, scene}
use Rattle.lab_play.specs.Prelude.{sounds_at, Start, text_at, rises}
use Rattle.std.specs.Result.{IsErrAnd}
use Rattle.mix_core.specs.declared.gate.Pass.{Pass}
use Rattle.mix_core.specs.declared.gate.StepKind.{StepKind}
use Rattle.run_laws.specs.Headline.{Headline}
use Rattle.lab_stop.specs.declared.stop.Stop.{Stop}
use Rattle.lab_play.proofs.ItemsStopped.{HasStopped-closed, IsStoppedAt-rows, TookPart-rows}
use Rattle.lab_phase.specs.declared.finish.Outcome as left

-- what a law says of each run
abbrev pub RunFacts : Type 0
RunFacts =
    (script : Script) (wavs : List Sound) (session : Session) (capture : Option Sound) (client_stops reader_stops : ℕ → ℕ) (outcome : Outcome)
    → IsScript script → IsSessionOf script wavs session → LabRun session capture script.body client_stops reader_stops outcome
    → Headline script wavs session capture outcome

-- and of each run on samples of 16 bits
abbrev pub OneFacts : Type 0
OneFacts =
    (script : Script) (wavs : List Sound) (session : Session) (capture : Option Sound) (client_stops reader_stops : ℕ → ℕ) (outcome : Outcome)
    → IsScript script → IsSessionOf script wavs session → AreSamples wavs → LabRun session capture script.body client_stops reader_stops outcome
    → PlaysOneSample session outcome

-- ---- the text

-- the rows so far, the rest of them, and what is below them are the whole text
text-whole : (script : Script) (report : Report) (k : ℕ) → text_so_far script (take k report.rows) ++ tail_from script k report ≡ report_text script report
text-whole script report k =
    let first : List ℕ = flat_map (row_line script) (take k report.rows) in
    let more : List ℕ = flat_map (row_line script) (drop k report.rows) in
    let end : List ℕ = tail_text script report in
    let all : first ++ more ≡ flat_map (row_line script) report.rows =
    sym (flat_map-append (row_line script) (take k report.rows) (drop k report.rows)) ∙ ap (flat_map (row_line script)) (take-append-drop k report.rows) in
    let joined : (head_text ++ first) ++ (more ++ end) ≡ head_text ++ (first ++ more) ++ end = simp append_assoc in
    joined ∙ ap (λ (rows : List ℕ). head_text ++ rows ++ end) all

-- what the output took before and took then
option_map-then : (taken : Option (List ℕ)) (first more : List ℕ) → option_map (λ t. t ++ more) (option_map (λ t. t ++ first) taken) ≡ option_map (λ t. t ++ (first ++ more)) taken
option_map-then None first more = refl
option_map-then (Some taken) first more = ap Some (append_assoc taken first more)

-- no item is left
none-left : (done others : List Item) → length done ≡ length (done ++ others) → others ≡ []
none-left done [] all = refl
none-left done (one ∷ others) all = let len = length-append done (one ∷ others) in absurd (omega (arith, len, all))

-- ---- a run whose items are all done

module _ (start : Start) (stops : Stops) (lab : Lab) (outputs : Outputs) (files : Option Files) (taken : Option (List ℕ)) (is : IsPlaying start stops (scene lab outputs files taken))
    (all : items_done lab ≡ length start.input.script.body) (outcome : left.Outcome) (leaves : LeavesStage lab outcome)
    (samples : outcome.played.items ≡ played_of lab) where
  stage : Stage
  stage = is.stage

  at-end : outcome_in outcome ≡ outcome_of (session_of lab) (capture_of lab) is.stage
  at-end = leaves is.stage is.lab_is.stage_is

  rows-at_end : outcome.report.rows ≡ is.stage.rows
  rows-at_end = ap (λ (o : Outcome). o.report.rows) at-end

  sounds-at_end : sounds_at lab is.stage ≡ sounds_of (outcome_in outcome)
  sounds-at_end = grind (arith, nat_tests)

  -- no item is left
  last-end : is.lab_is.stage_is.has_done.others ≡ []
  last-end =
      let has = is.lab_is.stage_is.has_done in
      let own = is.lab_is.script_is in
      none-left has.done has.others
      (sym has.next ∙ (all ∙ (ap (λ (s : Script). length s.body) (sym own.script_is) ∙ ap length has.reached.body)))

  body-at_end : is.lab_is.stage_is.has_done.done ≡ start.input.script.body
  body-at_end =
      let has = is.lab_is.stage_is.has_done in
      sym (append-nil has.done)
      ∙ (ap (λ (others : List Item). has.done ++ others) (sym last-end)
      ∙ (sym has.reached.body ∙ ap (λ (s : Script). s.body) is.lab_is.script_is.script_is))

  -- the run ends at the lab's stage
  abbrev run-at_end : LabRun (session_of lab) start.input.capture start.input.script.body (rises start.stops stops).clients (rises start.stops stops).readers (outcome_in outcome)
  run-at_end = record {
    end = is.stage;
    may = subst (λ (body : List Item). ItemsMay (session_of lab) (first_stage (session_of lab)) body is.stage) body-at_end is.lab_is.stage_is.has_done.reached.may;
    clients = AreWithin-counted start.stops.clients stops.clients 0 is.stage.clients is.lab_is.counted.clients;
    readers = AreWithin-counted start.stops.readers stops.readers 0 is.stage.readers is.lab_is.counted.readers;
    is = at-end ∙ ap (λ (capture : Option Sound). outcome_of (session_of lab) capture is.stage) is.lab_is.script_is.capture_is;
  }

  valid-at_end : IsScript start.input.script
  valid-at_end = subst IsScript is.lab_is.script_is.script_is is.lab_is.stage_is.has_done.reached.script_is

  pub report-at_end : OutcomesAreOfScripts → IsReportOf start.input.script outcome.report
  report-at_end laws =
      let own = is.lab_is.script_is in
      (laws start.input.script start.input.sounds (session_of lab) start.input.capture (rises start.stops stops).clients (rises start.stops stops).readers (outcome_in outcome) valid-at_end
      own.session_is run-at_end).report

  pub rows-few : outputs.rows ≤ length outcome.report.rows
  rows-few = subst (λ (rows : List Row). outputs.rows ≤ length rows) (sym rows-at_end) is.written.few

  text-written : taken ≡ option_map (λ t. t ++ text_so_far start.input.script (take outputs.rows outcome.report.rows)) start.taken
  text-written =
      is.written.text ∙ ap (λ (rows : List Row). option_map (λ t. t ++ text_so_far start.input.script (take outputs.rows rows)) start.taken) (sym rows-at_end)

  -- all is written
  pub EndsAt-all : (facts : RunFacts) (ones : OneFacts) (files_after : Option Files) (taken_after : Option (List ℕ)) → files_after ≡ option_map (finished_files outputs.files.items (sounds_at lab is.stage)) start.files
      → taken_after ≡ option_map (λ t. t ++ tail_from start.input.script outputs.rows outcome.report) taken
      → EndsAt (session_of lab) is.stage start stops (outcome_in outcome) files_after taken_after
  EndsAt-all facts ones files_after taken_after files_are text = record {
    played = record {
      session = session_of lab;
      is = record {
        session_is = is.lab_is.script_is.session_is;
        run = run-at_end;
        headline = facts start.input.script start.input.sounds (session_of lab) start.input.capture (rises start.stops stops).clients (rises start.stops stops).readers (outcome_in outcome)
            valid-at_end is.lab_is.script_is.session_is run-at_end;
        one = ones start.input.script start.input.sounds (session_of lab) start.input.capture (rises start.stops stops).clients (rises start.stops stops).readers (outcome_in outcome)
            valid-at_end is.lab_is.script_is.session_is is.lab_is.samples run-at_end;
      };
      files = files_are
          ∙ (ap (λ (outs : List OutputFile). option_map (finished_files outs (sounds_at lab is.stage)) start.files) is.written.files_are
          ∙ ap (λ (sounds : List (List ℤ)). option_map (finished_files (output_files start.input.script start.out) sounds) start.files) sounds-at_end);
      text = text
          ∙ (ap (option_map (λ t. t ++ tail_from start.input.script outputs.rows outcome.report)) text-written
          ∙ (option_map-then start.taken (text_so_far start.input.script (take outputs.rows outcome.report.rows)) (tail_from start.input.script outputs.rows outcome.report)
          ∙ ap (λ (text : List ℕ). option_map (λ t. t ++ text) start.taken) (text-whole start.input.script outcome.report outputs.rows)));
    };
    session_is = refl;
    end_is = refl;
  }

  changes-end : (files_after : Option Files) → Changes (MayHold outputs.files.items (sounds_at lab is.stage)) start.files files_after
      → Changes (MayHold (output_files start.input.script start.out) (sounds_at lab is.stage)) start.files files_after
  changes-end files_after changes = subst (λ (outs : List OutputFile). Changes (MayHold outs (sounds_at lab is.stage)) start.files files_after) is.written.files_are changes

  -- what the card played is the mix of the segments
  mixed-end : HasPlayedMix lab
  mixed-end at_stage at = sym samples ∙ ap (λ (o : Outcome). o.played) (leaves at_stage at)

  -- the files aren't all finished
  pub HasStopped-finish : (files_after : Option Files) → Changes (MayHold outputs.files.items (sounds_at lab is.stage)) start.files files_after
      → KeepSamples outputs.files.items (sounds_at lab is.stage) files_after → IsStopped start stops files_after taken
  HasStopped-finish files_after changes keep =
      let part : TookPart start.taken taken (text_so_far start.input.script is.stage.rows) =
      TookPart-rows start.input.script is.stage.rows outputs.rows start.taken taken (TookPart-all start.taken taken _ is.written.text) in
      let heads : StopsInHeads start.input.script start.out is.lab_is.stage_is.has_done.others is.stage (sounds_at lab is.stage) files_after start.taken taken =
      record {
        last = last-end;
        kept = subst (λ (outs : List OutputFile). KeepSamples outs (sounds_at lab is.stage) files_after) is.written.files_are keep;
        text = part;
      } in
      HasStopped-closed start stops lab files_after taken
      (IsStoppedAt-rows start stops lab is.stage files_after taken is.lab_is (changes-end files_after changes) part (inr (inr (inr (inl heads))))) mixed-end

  -- the rest of the text isn't all put
  pub HasStopped-tail : (files_after : Option Files) (taken_after : Option (List ℕ)) → Changes (MayHold outputs.files.items (sounds_at lab is.stage)) start.files files_after
      → files_after ≡ option_map (finished_files outputs.files.items (sounds_at lab is.stage)) start.files
      → TookPart taken taken_after (tail_from start.input.script outputs.rows outcome.report) → IsStopped start stops files_after taken_after
  HasStopped-tail files_after taken_after changes files_are part =
      let has = is.lab_is.stage_is.has_done in
      let tail : StopsInTail start.input.script start.out has.others (sounds_at lab is.stage) start.files files_after =
      record {
        last = last-end;
        files = files_are ∙ ap (λ (outs : List OutputFile). option_map (finished_files outs (sounds_at lab is.stage)) start.files) is.written.files_are;
      } in
      let text : TookPart start.taken taken_after (text_at start.input.script (session_of lab) has.others is.stage) =
      subst (λ (others : List Item). TookPart start.taken taken_after (text_at start.input.script (session_of lab) others is.stage)) (sym last-end)
      (subst (λ (report : Report). TookPart start.taken taken_after (report_text start.input.script report)) (ap (λ (o : Outcome). o.report) at-end)
      (subst (λ (text : List ℕ). TookPart start.taken taken_after text) (text-whole start.input.script outcome.report outputs.rows)
      (TookPart-then start.taken taken taken_after (text_so_far start.input.script (take outputs.rows outcome.report.rows)) (tail_from start.input.script outputs.rows outcome.report)
      text-written part))) in
      HasStopped-closed start stops lab files_after taken_after
      (record {
        stage = is.stage;
        lab_is = is.lab_is;
        changes = changes-end files_after changes;
        text = text;
        order = inr (inr (inr (inr tail)));
      }) mixed-end

-- ---- a run that is done, with what its gates were asked

-- from its first stage on
pub HasPlayedAsking-end : {T : Type 0} (asked : T → T → List StepKind → Pass → Type 0) (gates gates_after : List T) (session : Session) (first stage : Stage) (start : Start) (stops : Stops)
    (outcome : Outcome) (files : Option Files) (taken : Option (List ℕ)) → first ≡ first_stage session → HaveAsked asked gates gates_after first stage
    → EndsAt session stage start stops outcome files taken
    → HasPlayedAsking asked gates gates_after start.input start.out (rises start.stops stops) outcome start.files files start.taken taken
HasPlayedAsking-end asked gates gates_after session first stage start stops outcome files taken first_is have ends = record {
  played = ends.played;
  gates_asked = subst (λ (s : Session). HaveAsked asked gates gates_after (first_stage s) ends.played.is.run.end) (sym ends.session_is)
      (subst (λ (end : Stage). HaveAsked asked gates gates_after (first_stage session) end) (sym ends.end_is)
      (subst (λ (from : Stage). HaveAsked asked gates gates_after from stage) first_is have));
}

-- ---- results

-- a call stops as the one in it did
pub stop-passed : {X : Type 0} (r : Result X Stop) (e stop : Stop) → IsErrAnd r (λ x. x ≡ e) → r ≡ Err stop → e ≡ stop
stop-passed (Ok x) e stop is same = absurd is
stop-passed (Err x) e stop is same = sym is ∙ (let inner : x ≡ stop = cc in inner)

-- two runs that are at one moment have one script
pub same-script : (script : Script) (start other : Start) (stops other_stops : Stops) (at : Scene) → start.input.script ≡ script → IsPlaying start stops at → IsPlaying other other_stops at
    → script ≡ other.input.script
same-script script start other stops other_stops at same is also = sym same ∙ (sym is.lab_is.script_is.script_is ∙ also.lab_is.script_is.script_is)
