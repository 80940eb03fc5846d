-- What a phase writes: that it fits into WAV files and a report, and what the run is once it is written, or where that stopped.
use Rattle.lab_play.specs.Prelude.{ap, arith, get_or, inl, inr, map, refl, subst, suc, sym, take, zero, ◌<◌, ◌∙◌, ◌≤◌, take-length, nat_tests, get_or_default}
use Rattle.lab_play.specs.Prelude.{length-map, All, Err, length, List, Ok, OnOk, Option, Result, ℕ, ℤ, [], ◌++◌, ◌≡◌, Changes, TookPart-all, Files, TookPart}
use Rattle.lab_play.specs.Prelude.{Row, Script, IsRowOf, outcome_of, recorded_from, Stage, Lab, capture_of, IsAtStage, IsCardOf, played_of, rows_of, session_of}
use Rattle.lab_play.specs.Prelude.{Stops, StagesAreReported, OutputFile, Outputs, MayHold, output_files, AreLonger, AreOutputs, FitsWavFile, IsGoingOn}
use Rattle.lab_play.specs.Prelude.{rows_text, text_so_far, GoesOn, HasUnwrittenPhase, IsStoppedAt, scene, sounds_at, Start}
use Rattle.std.proofs.Common.{option_map}
use Rattle.run_laws.specs.Sizes.{HasSizes, StagesHaveSizes}
use Rattle.lab_output.specs.Laws.{text_so_far-next, text_so_far-part}
use Rattle.lab_play.specs.Appending.{CanAppend}
use Rattle.lab_play.proofs.ItemsStopped.{IsStoppedAt-rows, TookPart-rows, frames-card, stops-in_rows}
use Rattle.lab_play.proofs.Writing.{count-at, longer-length, member}

-- ---- what a lab holds is few enough

-- lists of which each is short are few
few-each : (sounds : List (List ℤ)) → ((k : ℕ) → k < length sounds → length (get_or sounds k []) ≤ 33554432) → All FitsWavFile (map length sounds)
few-each sounds each k d within =
    let inside : k < length sounds = omega (arith, within, length-map sounds length) in
    let short = each k inside in
    let few : FitsWavFile (length (get_or sounds k [])) = omega (arith, short) in
    subst FitsWavFile (sym (get_or_default (map length sounds) k d 0 within ∙ count-at sounds k)) few

module _ (lab : Lab) (stage : Stage) (at : IsAtStage lab stage) (sizes_are : StagesHaveSizes) where
  sizes : HasSizes lab.script.now (outcome_of (session_of lab) (capture_of lab) stage)
  sizes = sizes_are lab.script.now lab.wavs.now (session_of lab) (capture_of lab) at.has_done.done at.has_done.others stage at.has_done.reached

  few-played : length (played_of lab) ≤ 33554432
  few-played =
      let own = frames-card lab.script.now lab.wavs.now (session_of lab) (capture_of lab) stage
      (IsCardOf (session_of lab) (capture_of lab) stage lab.clients lab.readers) lab.card at.has_done.reached.session_is (λ a is_card. is_card.is) at.actors.card_is in
      subst (λ (n : ℕ). n ≤ 33554432) (sizes.played.each ∙ sym own) sizes.played.frames.few

  few-recorded : (k : ℕ) → k < length (recorded_from (session_of lab) (capture_of lab) 0 stage.readers)
      → length (get_or (recorded_from (session_of lab) (capture_of lab) 0 stage.readers) k []) ≤ 33554432
  few-recorded k within =
      let line = member lab.script.now.readers k (subst (λ (n : ℕ). k < n) sizes.readers within) in
      (sizes.recorded k line.0 line.1).frames.few

  few-sounds : (k : ℕ) → k < length (sounds_at lab stage) → length (get_or (sounds_at lab stage) k []) ≤ 33554432
  few-sounds zero within = few-played
  few-sounds (suc k) within = few-recorded k (omega (arith, within))

  few-outputs : length (sounds_at lab stage) ≤ 65
  few-outputs =
      let readers = sizes.readers in
      let few = at.has_done.reached.script_is.readers in omega (arith, readers, few)

-- a run that is behind can append
pub can-append : (start : Start) (stops : Stops) (lab : Lab) (outputs : Outputs) (files : Option Files) (taken : Option (List ℕ)) → StagesHaveSizes
    → HasUnwrittenPhase start stops (scene lab outputs files taken) → CanAppend lab outputs files
can-append start stops lab outputs files taken sizes_are is = record {
  stage = is.stage;
  at = is.lab_is.stage_is;
  outputs_are = is.written.outputs_are;
  number = sym is.written.going_on.number ∙ sym (longer-length is.sounds (sounds_at lab is.stage) is.longer);
  few_outputs = few-outputs lab is.stage is.lab_is.stage_is sizes_are;
  before = start.files;
  sounds = is.sounds;
  longer = is.longer;
  going_on = is.written.going_on;
  few = few-each (sounds_at lab is.stage) (few-sounds lab is.stage is.lab_is.stage_is sizes_are);
}

-- its lab's rows have a text
pub can-put : (start : Start) (stops : Stops) (script : Script) (lab : Lab) (outputs : Outputs) (files : Option Files) (taken : Option (List ℕ)) (rows : List Row)
    → StagesAreReported → start.input.script ≡ script → rows ≡ rows_of lab → HasUnwrittenPhase start stops (scene lab outputs files taken) → All (IsRowOf script) rows
can-put start stops script lab outputs files taken rows reported same rows_are is =
    let at = is.lab_is.stage_is in
    let has = at.has_done in
    let own = (reported lab.script.now lab.wavs.now (session_of lab) has.done has.others is.stage has.reached).rows in
    subst (λ (s : Script). All (IsRowOf s) rows) (is.lab_is.script_is.script_is ∙ same)
    (subst (λ (rs : List Row). All (IsRowOf lab.script.now) rs) (sym (rows_are ∙ at.rows)) own)

-- ---- where it stopped

-- two clauses on a call that is done
pub OnOk-both : {X E : Type 0} (P Q R : Type 0) (r : Result X E) → (P → Q → R) → OnOk r P → OnOk r Q → OnOk r R
OnOk-both P Q R (Ok x) more is also = more is also
OnOk-both P Q R (Err e) more is also = tt

-- what the files may hold where an append changed them
abbrev pub AppendsChange : Lab → Outputs → Option Files → Option Files → Type 0
AppendsChange lab outputs files files_after =
    (before : Option Files) (stage : Stage) (sounds : List (List ℤ)) → IsAtStage lab stage → AreLonger sounds (sounds_at lab stage)
    → IsGoingOn outputs.files.items outputs.samples.items sounds before files → Changes (MayHold outputs.files.items (sounds_at lab stage)) before files_after

-- what the files hold once all is appended
abbrev pub AppendsGoOn : Lab → Outputs → Outputs → Option Files → Option Files → Type 0
AppendsGoOn lab outputs after files files_after =
    (before : Option Files) (stage : Stage) (sounds : List (List ℤ)) → IsAtStage lab stage → AreLonger sounds (sounds_at lab stage)
    → IsGoingOn outputs.files.items outputs.samples.items sounds before files → IsGoingOn after.files.items after.samples.items (sounds_at lab stage) before files_after

module _ (start : Start) (stops : Stops) (lab : Lab) (outputs : Outputs) (files files_after : Option Files) (taken : Option (List ℕ))
    (changes : AppendsChange lab outputs files files_after) (is : HasUnwrittenPhase start stops (scene lab outputs files taken)) where
  -- what its files may hold
  own-changes : Changes (MayHold (output_files start.input.script start.out) (sounds_at lab is.stage)) start.files files_after
  own-changes = subst (λ (own : List OutputFile). Changes (MayHold own (sounds_at lab is.stage)) start.files files_after) is.written.files_are
      (changes start.files is.stage is.sounds is.lab_is.stage_is is.longer is.written.going_on)

  -- an append failed
  pub stops-appending : IsStoppedAt start stops lab files_after taken
  stops-appending = IsStoppedAt-rows start stops lab is.stage files_after taken is.lab_is own-changes
      (TookPart-rows start.input.script is.stage.rows outputs.rows start.taken taken
      (TookPart-all start.taken taken (text_so_far start.input.script (take outputs.rows is.stage.rows)) is.written.text)) (inr (inl is.order))

  -- the put of its rows failed: its frames are appended
  pub stops-putting : (script : Script) (after : Outputs) (rows : List Row) (taken_after : Option (List ℕ)) → lab.script.now ≡ script → AppendsGoOn lab outputs after files files_after
      → after.files ≡ outputs.files → after.rows ≡ outputs.rows → rows ≡ rows_of lab
      → TookPart taken taken_after (rows_text script after.rows rows) → IsStoppedAt start stops lab files_after taken_after
  stops-putting script after rows taken_after same goes_on files_are number_is rows_are part =
      let going = goes_on start.files is.stage is.sounds is.lab_is.stage_is is.longer is.written.going_on in
      let text : TookPart taken taken_after (rows_text start.input.script outputs.rows is.stage.rows) =
      rw (number_is, rows_are ∙ is.lab_is.stage_is.rows, sym same ∙ is.lab_is.script_is.script_is) at part in
      let all : TookPart start.taken taken_after (text_so_far start.input.script is.stage.rows) =
      text_so_far-part start.input.script outputs.rows is.stage.rows start.taken taken taken_after is.written.text text in
      IsStoppedAt-rows start stops lab is.stage files_after taken_after is.lab_is own-changes all
      (stops-in_rows start lab is.lab_is.stage_is.has_done.others is.stage after.files.items files_after taken_after
      (ap (λ v. v.items) files_are ∙ is.written.files_are) going.files all)

-- ---- where it is written

-- outputs of the same files and counts
same-outputs : (a b : Outputs) → b.files ≡ a.files → b.samples ≡ a.samples → AreOutputs a → AreOutputs b
same-outputs a b files samples are = grind (arith, nat_tests)

-- outputs that were appended to, and that go on as they are but for the count of rows
pub record IsCaughtUp (lab : Lab) (outputs after last : Outputs) (shelf shelf_after : Option Files) : Type 0 where
  pub going_on : AppendsGoOn lab outputs after shelf shelf_after
  pub outputs_are : AreOutputs after
  pub files : after.files ≡ outputs.files
  pub rows : after.rows ≡ outputs.rows
  pub last_files : last.files ≡ after.files
  pub last_samples : last.samples ≡ after.samples

-- all of the lab is written
pub catches-up : (start : Start) (stops : Stops) (script : Script) (lab : Lab) (outputs after last : Outputs) (files files_after : Option Files) (taken taken_after : Option (List ℕ)) (rows : List Row)
    → lab.script.now ≡ script → rows ≡ rows_of lab → IsCaughtUp lab outputs after last files files_after
    → last.rows ≡ length rows → taken_after ≡ option_map (λ t. t ++ rows_text script after.rows rows) taken
    → (is : HasUnwrittenPhase start stops (scene lab outputs files taken)) → GoesOn (λ stage next. next ≡ stage) start is.stage stops (scene lab last files_after taken_after)
catches-up start stops script lab outputs after last files files_after taken taken_after rows same rows_are caught count text is =
    let own_script : script ≡ start.input.script = sym same ∙ is.lab_is.script_is.script_is in
    let own_rows : rows ≡ is.stage.rows = rows_are ∙ is.lab_is.stage_is.rows in
    let all : last.rows ≡ length is.stage.rows = count ∙ ap length own_rows in
    let going = caught.going_on start.files is.stage is.sounds is.lab_is.stage_is is.longer is.written.going_on in
    let put : taken_after ≡ option_map (λ t. t ++ rows_text start.input.script outputs.rows is.stage.rows) taken = rw (caught.rows, own_rows, own_script) at text in
    let whole : taken_after ≡ option_map (λ t. t ++ text_so_far start.input.script is.stage.rows) start.taken =
    text_so_far-next start.input.script outputs.rows is.stage.rows start.taken taken taken_after is.written.text put in
    record {
      playing = record {
        stage = is.stage;
        lab_is = is.lab_is;
        written = record {
          outputs_are = same-outputs after last caught.last_files caught.last_samples caught.outputs_are;
          files_are = ap (λ v. v.items) (caught.last_files ∙ caught.files) ∙ is.written.files_are;
          going_on = rw (caught.last_files, caught.last_samples) going;
          few = subst (λ (n : ℕ). n ≤ length is.stage.rows) (sym all) (omega arith);
          text = whole ∙ ap (λ (rs : List Row). option_map (λ t. t ++ text_so_far start.input.script rs) start.taken)
              (sym (take-length is.stage.rows) ∙ ap (λ (n : ℕ). take n is.stage.rows) (sym all));
        };
      };
      gates = refl;
    }
