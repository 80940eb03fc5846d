-- What is left of a run that stops: its lab was at a stage, of which it is known what the files and the output may hold.
--     IsStoppedAt-rows      the output took no more than the lab's rows
--     IsStoppedAt-playing      nothing was written since all that the lab holds was written
--     HasStopped-closed, HasStopped-silent      once the lab's rings are closed, or where it played nothing
--     stops-in_rows      the files of a run hold all that its lab holds
use Rattle.lab_play.specs.Prelude.{ap, append_assoc, arith, map, subst, sym, take, ◌-◌, ◌∙◌, nat_tests, take-append-drop, flat_map-append, flat_map}
use Rattle.lab_play.specs.Prelude.{range_with_len, option_map, drop, IsSomeAnd, length, List, None, Option, Some, ℕ, ℤ, [], ◌*◌, ◌++◌, ◌∷◌, ◌≡◌, Sound, Changes}
use Rattle.lab_play.specs.Prelude.{TookPart-all, TookPart-first, Files, TookPart, Item, Row, CardLine, Script, row_line, tail_text, all_segments, entries_of}
use Rattle.lab_play.specs.Prelude.{mix_of, mixed_at, recorded_from, report_of, IsSessionOf, IsReached, Session, Stage, Lab, played_by, played_of, session_of}
use Rattle.lab_play.specs.Prelude.{HasPlayedMix, Stops, AreWithin-counted, OutputFile, MayHold, output_files, unfinished_files, AreLonger-same}
use Rattle.lab_play.specs.Prelude.{IsGoingOn-Changes, head_text, text_so_far, RowsFollowFrames, IsLabOf, IsPlaying, IsStopped, IsStoppedAt, Scene, sounds_at}
use Rattle.lab_play.specs.Prelude.{Start, text_at, IsWithinStops, rises}
use Rattle.lab_lines.specs.Script.{first_frame}
use Rattle.lab_card.specs.declared.card.CardActor.{CardActor}
use Rattle.lab_phase.specs.CardStage.{IsCardIn}

-- ---- what its card played

-- a card at a stage played the frames from the first one to the stage's position
frames-actor : (script : Script) (wavs : List Sound) (session : Session) (capture : Option Sound) (stage : Stage) (a : CardActor) → IsSessionOf script wavs session
    → IsCardIn session capture stage a → length a.played.items ≡ (stage.position - first_frame script.card) * script.card.channels
frames-actor script wavs session capture stage a is own = grind (arith, nat_tests)

pub frames-card : (script : Script) (wavs : List Sound) (session : Session) (capture : Option Sound) (stage : Stage) (P : CardActor → Type 0) (card : Option CardActor)
    → IsSessionOf script wavs session → ((a : CardActor) → P a → IsCardIn session capture stage a) → IsSomeAnd card P
    → length (played_by card) ≡ (stage.position - first_frame script.card) * script.card.channels
frames-card script wavs session capture stage P None is in_card own = absurd own
frames-card script wavs session capture stage P (Some a) is in_card own = frames-actor script wavs session capture stage a is (in_card a own)

-- the card of a lab
frames-lab : (start : Start) (stops : Stops) (lab : Lab) (files : Option Files) (taken : Option (List ℕ)) → (is : IsStoppedAt start stops lab files taken)
    → length (played_of lab) ≡ (is.stage.position - first_frame start.input.script.card) * start.input.script.card.channels
frames-lab start stops lab files taken is = grind (arith, nat_tests)

-- ---- the report's text

-- the first rows' text is the beginning of the text of all rows
pub TookPart-rows : (script : Script) (rows : List Row) (n : ℕ) (taken now : Option (List ℕ)) → TookPart taken now (text_so_far script (take n rows))
    → TookPart taken now (text_so_far script rows)
TookPart-rows script rows n taken now part =
    subst (λ (text : List ℕ). TookPart taken now text)
    (append_assoc head_text (flat_map (row_line script) (take n rows)) (flat_map (row_line script) (drop n rows))
    ∙ (ap (λ (text : List ℕ). head_text ++ text) (sym (flat_map-append (row_line script) (take n rows) (drop n rows)))
    ∙ ap (λ (some : List Row). text_so_far script some) (take-append-drop n rows)))
    (TookPart-first taken now (text_so_far script (take n rows)) (flat_map (row_line script) (drop n rows)) part)

-- the text of a stage's rows is the beginning of the text of a report of a run that reached it
pub TookPart-stage : (script : Script) (session : Session) (others : List Item) (stage : Stage) (taken now : Option (List ℕ))
    → TookPart taken now (text_so_far script stage.rows) → TookPart taken now (text_at script session others stage)
TookPart-stage script session [] stage taken now part =
    subst (λ (text : List ℕ). TookPart taken now text)
    (append_assoc head_text (flat_map (row_line script) stage.rows) (tail_text script (report_of session stage)))
    (TookPart-first taken now (text_so_far script stage.rows) (tail_text script (report_of session stage)) part)
TookPart-stage script session (one ∷ others) stage taken now part = part

-- ---- a run that stopped

-- the output took the first bytes of the text of the lab's rows
pub IsStoppedAt-rows : (start : Start) (stops : Stops) (lab : Lab) (stage : Stage) (files : Option Files) (taken : Option (List ℕ)) → (is : IsLabOf start stops lab stage)
    → Changes (MayHold (output_files start.input.script start.out) (sounds_at lab stage)) start.files files
    → TookPart start.taken taken (text_so_far start.input.script stage.rows)
    → RowsFollowFrames start.input start.out (session_of lab) is.stage_is.has_done.others stage (sounds_at lab stage) start.files files start.taken taken → IsStoppedAt start stops lab files taken
IsStoppedAt-rows start stops lab stage files taken is changes part order = record {
  stage = stage;
  lab_is = is;
  changes = changes;
  text = TookPart-stage start.input.script (session_of lab) is.stage_is.has_done.others stage start.taken taken part;
  order = order;
}

-- the files hold all that the lab holds, and the output took the first bytes of the text of the lab's rows
pub stops-in_rows : (start : Start) (lab : Lab) (others : List Item) (stage : Stage) (outputs : List OutputFile) (files : Option Files) (taken : Option (List ℕ))
    → outputs ≡ output_files start.input.script start.out → files ≡ option_map (unfinished_files outputs (sounds_at lab stage)) start.files
    → TookPart start.taken taken (text_so_far start.input.script stage.rows)
    → RowsFollowFrames start.input start.out (session_of lab) others stage (sounds_at lab stage) start.files files start.taken taken
stops-in_rows start lab others stage outputs files taken own are part = grind (arith, nat_tests)

-- nothing was written since all that its lab holds was written
pub IsStoppedAt-playing : (start : Start) (stops : Stops) (at : Scene) → IsPlaying start stops at → IsStoppedAt start stops at.lab at.files at.taken
IsStoppedAt-playing start stops at is =
    let written = is.written in
    let sounds : List (List ℤ) = sounds_at at.lab is.stage in
    let part : TookPart start.taken at.taken (text_so_far start.input.script is.stage.rows) =
    TookPart-rows start.input.script is.stage.rows at.outputs.rows start.taken at.taken
    (TookPart-all start.taken at.taken (text_so_far start.input.script (take at.outputs.rows is.stage.rows)) written.text) in
    IsStoppedAt-rows start stops at.lab is.stage at.files at.taken is.lab_is
    (subst (λ (outputs : List OutputFile). Changes (MayHold outputs sounds) start.files at.files) written.files_are
    (IsGoingOn-Changes at.outputs.files.items at.outputs.samples.items sounds sounds start.files at.files written.going_on (AreLonger-same sounds)))
    part
    (stops-in_rows start at.lab is.lab_is.stage_is.has_done.others is.stage at.outputs.files.items at.files at.taken written.files_are written.going_on.files part)

-- ---- a run that stopped with its lab

-- up to the stage of its lab each actor was stopped at most as often as its gate stopped since the run began
within-lab : (start : Start) (stops : Stops) (lab : Lab) (stage : Stage) → IsLabOf start stops lab stage → IsWithinStops (rises start.stops stops) stage
within-lab start stops lab stage is = record {
  clients = AreWithin-counted start.stops.clients stops.clients 0 stage.clients is.counted.clients;
  readers = AreWithin-counted start.stops.readers stops.readers 0 stage.readers is.counted.readers;
}

-- what it left, where its card had played the mix of the segments so far
HasStopped-mixed : (start : Start) (stops : Stops) (lab : Lab) (files : Option Files) (taken : Option (List ℕ)) → (is : IsStoppedAt start stops lab files taken)
    → played_of lab ≡ mix_of (session_of lab) (all_segments is.stage.clients) (is.stage.position - first_frame (session_of lab).card) → IsStopped start stops files taken
HasStopped-mixed start stops lab files taken is mix =
    let own = is.lab_is.script_is in
    let has = is.lab_is.stage_is.has_done in
    record {
      session = session_of lab;
      session_is = own.session_is;
      done = has.done;
      others = has.others;
      stage = is.stage;
      reached = subst (λ (s : Script). IsReached s start.input.sounds (session_of lab) has.done has.others is.stage) own.script_is
          (subst (λ (wavs : List Sound). IsReached lab.script.now wavs (session_of lab) has.done has.others is.stage) own.wavs_are has.reached);
      within = within-lab start stops lab is.stage is.lab_is;
      played = played_of lab;
      frames = frames-lab start stops lab files taken is;
      mix = mix;
      changes = subst
          (λ (capture : Option Sound). Changes
          (MayHold (output_files start.input.script start.out) (played_of lab ∷ recorded_from (session_of lab) capture 0 is.stage.readers)) start.files files)
          own.capture_is is.changes;
      text = is.text;
      order = subst
          (λ (capture : Option Sound). RowsFollowFrames start.input start.out (session_of lab) has.others is.stage
          (played_of lab ∷ recorded_from (session_of lab) capture 0 is.stage.readers) start.files files start.taken taken)
          own.capture_is is.order;
    }

-- once the lab's rings are closed
pub HasStopped-closed : (start : Start) (stops : Stops) (lab : Lab) (files : Option Files) (taken : Option (List ℕ)) → IsStoppedAt start stops lab files taken → HasPlayedMix lab
    → IsStopped start stops files taken
HasStopped-closed start stops lab files taken is mix = HasStopped-mixed start stops lab files taken is (mix is.stage is.lab_is.stage_is)

-- where the lab played nothing, which is the mix of no frames
pub HasStopped-silent : (start : Start) (stops : Stops) (lab : Lab) (files : Option Files) (taken : Option (List ℕ)) → IsStoppedAt start stops lab files taken → played_of lab ≡ []
    → IsStopped start stops files taken
HasStopped-silent start stops lab files taken is silent =
    let session : Session = session_of lab in
    let none : (is.stage.position - first_frame session.card) * session.card.channels ≡ 0 =
    ap (λ (card : CardLine). (is.stage.position - first_frame card) * card.channels) is.lab_is.script_is.session_is.card
    ∙ (sym (frames-lab start stops lab files taken is) ∙ ap length silent) in
    HasStopped-mixed start stops lab files taken is
    (silent
    ∙ sym (ap (λ (n : ℕ). map (mixed_at session.card.channels (first_frame session.card) (entries_of session (all_segments is.stage.clients))) (range_with_len 0 n)) none))
