-- What an item of a script's body makes of a run that goes on.
--     StaysWritten-stage      the lab stays at its stage: all that it holds is written still
--     StaysWritten-border      an opening or a closing: all that the lab holds is written still
--     HasLeftUnwritten-phase      a phase: what it played, recorded and answered isn't written yet
--     GoesOn-written      and then it is
use Rattle.lab_play.specs.Prelude.{ap, arith, subst, sym, take, ◌∙◌, take-append_seam, nat_tests, length-append, take-append-le, option_map, length, List}
use Rattle.lab_play.specs.Prelude.{Option, slice_get, Some, ℕ, ℤ, [], ◌++◌, ◌+◌, ◌∷◌, ◌≡◌, Sound, TookPart-all, Files, Item, Line, Row, Script, ItemMay}
use Rattle.lab_play.specs.Prelude.{recorded_from, Reader, AtPort, IsReached, Session, Stage, Lab, HaveSameAsks-border, HaveSameAsks-none, capture_of, DoesItem}
use Rattle.lab_play.specs.Prelude.{IsBorderItem, IsNextItem, IsOfScript, IsSameScript, played_of, session_of, session_of-same, DoesPhase, StaysAtStage, Stops}
use Rattle.lab_play.specs.Prelude.{AreStopsOf-border, AreGrown, BordersKeepFrames, frames_of_readers, recorded_from-grown, recorded_from-same, StagesGrow}
use Rattle.lab_play.specs.Prelude.{Outputs, AreLonger, IsPartOf, text_so_far, StopsInFrames, AreWritten, GoesOn, HasUnwrittenPhase, IsPlaying, Scene, scene}
use Rattle.lab_play.specs.Prelude.{sounds_at, Start, StaysWritten}
use Rattle.lab_play.proofs.ItemsStopped.{TookPart-rows}
use Rattle.lab_lines.specs.declared.line.Item.TheVariants as item

-- ---- the lab

-- it is of the same script after an item
IsOfScript-same : (script : Script) (wavs : List Sound) (capture : Option Sound) (lab after : Lab) → IsSameScript lab after → IsOfScript script wavs capture lab
    → IsOfScript script wavs capture after
IsOfScript-same script wavs capture lab after same is = grind (arith, nat_tests)

-- the samples of readers are those of the same session and capture file
recorded-script : (lab after : Lab) (readers : List (AtPort × Reader)) → IsSameScript lab after
    → recorded_from (session_of after) (capture_of after) 0 readers ≡ recorded_from (session_of lab) (capture_of lab) 0 readers
recorded-script lab after readers same =
    ap (λ (session : Session). recorded_from session (capture_of after) 0 readers) (session_of-same lab after same)
    ∙ ap (λ (capture : Option Sound). recorded_from (session_of lab) capture 0 readers) same.capture

-- ---- what is written

-- the rows that are written are the first of more
AreWritten-rows : (start : Start) (sounds : List (List ℤ)) (rows more all : List Row) (outputs : Outputs) (files : Option Files) (taken : Option (List ℕ)) → all ≡ rows ++ more
    → AreWritten start sounds rows outputs files taken → AreWritten start sounds all outputs files taken
AreWritten-rows start sounds rows more all outputs files taken is written =
    let few = written.few in
    let len = length-append rows more in
    subst (λ (some : List Row). AreWritten start sounds some outputs files taken) (sym is)
    (record {
      outputs_are = written.outputs_are;
      files_are = written.files_are;
      going_on = written.going_on;
      few = omega (arith, few, len);
      text = written.text ∙ ap (λ (some : List Row). option_map (λ (t : List ℕ). t ++ text_so_far start.input.script some) start.taken)
          (sym (take-append-le outputs.rows rows more few));
    })

-- the lab is at the stage where it was
pub StaysWritten-stage : (lab after : Lab) → StaysAtStage lab after → StaysWritten lab after
StaysWritten-stage lab after stays stops outputs files taken start is =
    let own = is.lab_is in
    let sounds : sounds_at after is.stage ≡ sounds_at lab is.stage =
    ap (λ (samples : List ℤ). samples ∷ recorded_from (session_of after) (capture_of after) 0 is.stage.readers) stays.played
    ∙ ap (λ (recorded : List (List ℤ)). played_of lab ∷ recorded) (recorded-script lab after is.stage.readers stays.same) in
    record {
      playing = record {
        stage = is.stage;
        lab_is = record {
          script_is = IsOfScript-same start.input.script start.input.sounds start.input.capture lab after stays.same own.script_is;
          samples = own.samples;
          stage_is = stays.at is.stage own.stage_is;
          counted = own.counted;
        };
        written = subst (λ (samples : List (List ℤ)). AreWritten start samples is.stage.rows outputs files taken) (sym sounds) is.written;
      };
      gates = HaveSameAsks-none is.stage;
    }

-- ---- what is longer

pub IsPartOf-longer : (samples more all : List ℤ) → all ≡ samples ++ more → IsPartOf samples all
IsPartOf-longer samples more all is = (length samples, sym (ap (take (length samples)) is ∙ take-append_seam samples more))

-- the samples of readers that read more
pub AreLonger-grown : (session : Session) (capture : Option Sound) (number : ℕ) (xs ys : List (AtPort × Reader)) → AreGrown xs ys
    → AreLonger (recorded_from session capture number xs) (recorded_from session capture number ys)
AreLonger-grown session capture number [] [] grown = grown
AreLonger-grown session capture number (x ∷ xs) (y ∷ ys) grown =
    let longer = recorded_from-grown session capture number (x ∷ xs) (y ∷ ys) grown 0 in
    (IsPartOf-longer _ longer.0 _ longer.1, AreLonger-grown session capture (number + 1) xs ys grown.1)
AreLonger-grown session capture number xs ys grown = absurd grown

-- ---- an opening or a closing

frames-border : BordersKeepFrames → (session : Session) (stage next : Stage) (one : Item) → IsBorderItem one → ItemMay session stage one next
    → frames_of_readers next.readers ≡ frames_of_readers stage.readers
frames-border keeps session stage next (item.Opens number who) border may = (keeps session stage next number who).opens may
frames-border keeps session stage next (item.Closes number who) border may = (keeps session stage next number who).closes may
frames-border keeps session stage next (item.Phase lines) border may = absurd border

-- the lab holds the same samples after it
sounds-border : BordersKeepFrames → (lab after : Lab) (stage next : Stage) (one : Item) → IsBorderItem one → ItemMay (session_of lab) stage one next → IsSameScript lab after
    → played_of after ≡ played_of lab → sounds_at after next ≡ sounds_at lab stage
sounds-border keeps lab after stage next one border may same played =
    ap (λ (samples : List ℤ). samples ∷ recorded_from (session_of after) (capture_of after) 0 next.readers) played
    ∙ ap (λ (sounds : List (List ℤ)). played_of lab ∷ sounds)
    (recorded-script lab after next.readers same
    ∙ recorded_from-same (session_of lab) (capture_of lab) 0 next.readers stage.readers (frames-border keeps (session_of lab) stage next one border may))

pub StaysWritten-border : StagesGrow → BordersKeepFrames → (lab after : Lab) (one : Item) → IsBorderItem one → DoesItem lab one after → played_of after ≡ played_of lab
    → StaysWritten lab after
StaysWritten-border grow keeps lab after one border does played stops outputs files taken start is =
    let own = is.lab_is in
    let done = does.does is.stage own.stage_is in
    let grown = grow (session_of lab) is.stage done.next one done.may in
    record {
      playing = record {
        stage = done.next;
        lab_is = record {
          script_is = IsOfScript-same start.input.script start.input.sounds start.input.capture lab after does.same own.script_is;
          samples = own.samples;
          stage_is = done.is;
          counted = AreStopsOf-border start.stops stops (session_of lab) is.stage done.next one border done.may own.counted;
        };
        written = subst (λ (sounds : List (List ℤ)). AreWritten start sounds done.next.rows outputs files taken)
            (sym (sounds-border keeps lab after is.stage done.next one border done.may does.same played))
            (AreWritten-rows start (sounds_at lab is.stage) is.stage.rows grown.more done.next.rows outputs files taken grown.rows is.written);
      };
      gates = HaveSameAsks-border (session_of lab) is.stage done.next one border done.may;
    }

-- ---- a phase

-- the items after those that are done begin with the next one
others-next : (done others done_after others_after : List Item) (one : Item) → done ++ others ≡ done_after ++ others_after → length done_after ≡ length done + 1
    → slice_get (done ++ others) (length done) ≡ Some one → others ≡ one ∷ others_after
others-next [] others [] others_after one same len is = absurd (omega (arith, len))
others-next [] [] (first ∷ done_after) others_after one same len is = absurd cc
others-next [] (other ∷ others) (first ∷ []) others_after one same len is =
    let head : other ≡ one = cc in
    let tail : others ≡ others_after = cc in
    cc
others-next [] (other ∷ others) (first ∷ second ∷ done_after) others_after one same len is = absurd (omega (arith, len))
others-next (item ∷ done) others [] others_after one same len is = absurd (omega (arith, len))
others-next (item ∷ done) others (first ∷ done_after) others_after one same len is =
    others-next done others done_after others_after one (let rest : done ++ others ≡ done_after ++ others_after = cc in rest) (omega (arith, len)) is

-- its frames aren't appended yet, and none of its rows was put
order-phase : (Gates : Stage → Stage → Type 0) (stops stops_after : Stops) (lab after : Lab) (lines : List Line) (does : DoesPhase Gates stops stops_after lab lines after)
    (outputs : Outputs) (files : Option Files) (taken : Option (List ℕ)) (start : Start) (is : IsPlaying start stops (scene lab outputs files taken)) → IsNextItem lab (item.Phase lines)
    → StopsInFrames start.input (session_of after) (does.does is.stage start.stops is.lab_is.stage_is is.lab_is.counted).is.has_done.others
    (does.does is.stage start.stops is.lab_is.stage_is is.lab_is.counted).next start.taken taken
order-phase Gates stops stops_after lab after lines does outputs files taken start is next =
    let own = is.lab_is.script_is in
    let has = is.lab_is.stage_is.has_done in
    let done = does.does is.stage start.stops is.lab_is.stage_is is.lab_is.counted in
    let has_after = done.is.has_done in
    let session : session_of lab ≡ session_of after = sym (session_of-same lab after does.same) in
    let body : has.done ++ has.others ≡ has_after.done ++ has_after.others =
    sym has.reached.body ∙ (ap (λ (s : Script). s.body) (sym does.same.script) ∙ has_after.reached.body) in
    let len : length has_after.done ≡ length has.done + 1 = sym has_after.next ∙ (does.next ∙ ap (λ (n : ℕ). n + 1) has.next) in
    let at : slice_get (has.done ++ has.others) (length has.done) ≡ Some (item.Phase lines) =
    subst (λ (n : ℕ). slice_get (has.done ++ has.others) n ≡ Some (item.Phase lines)) has.next
    (subst (λ (items : List Item). slice_get items lab.next ≡ Some (item.Phase lines)) has.reached.body next) in
    let others : has.others ≡ item.Phase lines ∷ has_after.others = others-next has.done has.others has_after.done has_after.others (item.Phase lines) body len at in
    record {
      done = has.done;
      lines = lines;
      earlier = is.stage;
      reached = subst (λ (s : Session). IsReached start.input.script start.input.sounds s has.done (item.Phase lines ∷ has_after.others) is.stage) session
          (subst (λ (s : Script). IsReached s start.input.sounds (session_of lab) has.done (item.Phase lines ∷ has_after.others) is.stage) own.script_is
          (subst (λ (wavs : List Sound). IsReached lab.script.now wavs (session_of lab) has.done (item.Phase lines ∷ has_after.others) is.stage) own.wavs_are
          (subst (λ (items : List Item). IsReached lab.script.now lab.wavs.now (session_of lab) has.done items is.stage) others has.reached)));
      may = subst (λ (s : Session). ItemMay s is.stage (item.Phase lines) done.next) session done.may;
      text = TookPart-rows start.input.script is.stage.rows outputs.rows start.taken taken
          (TookPart-all start.taken taken (text_so_far start.input.script (take outputs.rows is.stage.rows)) is.written.text);
    }

-- a run that was at this stage did a phase of which nothing is written yet, and its gates did so from there to where it is
pub record HasLeftUnwritten (Gates : Stage → Stage → Type 0) (start : Start) (stage : Stage) (stops : Stops) (at : Scene) : Type 0 where
  pub behind : HasUnwrittenPhase start stops at
  pub gates : Gates stage behind.stage

pub HasLeftUnwritten-phase : (Gates : Stage → Stage → Type 0) → StagesGrow → (stops stops_after : Stops) (lab after : Lab) (lines : List Line)
    → DoesPhase Gates stops stops_after lab lines after → IsNextItem lab (item.Phase lines)
    → (outputs : Outputs) (files : Option Files) (taken : Option (List ℕ)) (start : Start) → (is : IsPlaying start stops (scene lab outputs files taken))
    → HasLeftUnwritten Gates start is.stage stops_after (scene after outputs files taken)
HasLeftUnwritten-phase Gates grow stops stops_after lab after lines does first outputs files taken start is =
    let own = is.lab_is in
    let done = does.does is.stage start.stops own.stage_is own.counted in
    let grown = grow (session_of lab) is.stage done.next (item.Phase lines) done.may in
    record {
      behind = record {
        stage = done.next;
        lab_is = record {
          script_is = IsOfScript-same start.input.script start.input.sounds start.input.capture lab after does.same own.script_is;
          samples = own.samples;
          stage_is = done.is;
          counted = done.counted;
        };
        sounds = sounds_at lab is.stage;
        longer = (
          IsPartOf-longer (played_of lab) does.played.more (played_of after) does.played.is,
          subst (λ (sounds : List (List ℤ)). AreLonger (recorded_from (session_of lab) (capture_of lab) 0 is.stage.readers) sounds)
              (sym (recorded-script lab after done.next.readers does.same))
              (AreLonger-grown (session_of lab) (capture_of lab) 0 is.stage.readers done.next.readers grown.readers),
        );
        written = AreWritten-rows start (sounds_at lab is.stage) is.stage.rows grown.more done.next.rows outputs files taken grown.rows is.written;
        order = order-phase Gates stops stops_after lab after lines does outputs files taken start is first;
      };
      gates = done.gates;
    }

-- and then it is written
pub GoesOn-written : (Gates : Stage → Stage → Type 0) (start : Start) (stage : Stage) (stops : Stops) (before after : Scene)
    → (is : HasLeftUnwritten Gates start stage stops before) → GoesOn (λ at next. next ≡ at) start is.behind.stage stops after → GoesOn Gates start stage stops after
GoesOn-written Gates start stage stops before after is caught = record {
  playing = caught.playing;
  gates = subst (λ (next : Stage). Gates stage next) (sym caught.gates) is.gates;
}
