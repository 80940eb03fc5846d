-- A command that is done leaves the only thing that it can leave.
use Rattle.lab_commands.specs.Prelude.{ap, arith, List, subst, sym, ℕ, ◌++◌, ◌∙◌, ◌≡◌, option_map, Err, None, Ok, Option, Result, Some, Sound, Files}
use Rattle.lab_commands.specs.Prelude.{Script as ScriptOf, lab_text, Outcome, IsSessionOf, AreUnmixed, Session, Stops, HaveOneSession, Stop, status_of}
use Rattle.lab_commands.specs.Prelude.{input_in, RunInput, finished_files, output_files, sounds_of, HasFinished, IsOnlyRun, IsOnlyRunOf, CommandLeaves, OnlyIn}
use Rattle.lab_commands.specs.Prelude.{conf, Form, make, run}
use Rattle.lab_report.specs.Text.{report_text}
use Rattle.lab_stop.specs.declared.stop.Stop.TheVariants.{Words}
use Rattle.lab_conf.specs.DescribedLaws.{Described-only}

-- each script has one session
abbrev pub OneSession : Type 0
OneSession = (script : ScriptOf) (wavs : List Sound) → HaveOneSession script wavs

same-input : (a b : RunInput) (r : Result RunInput Rattle.lab_stop.specs.Causes.Cause) → r ≡ Ok a → r ≡ Ok b → a ≡ b
same-input a b r one other = let same : Ok a ≡ Ok b = sym one ∙ other in cc

-- a run that is finished is the only one
Finished-only : OneSession → (script out : List ℕ) (gates : Stops) (before after : Option Files) (taken taken_after : Option (List ℕ))
    → HasFinished script out gates before after taken taken_after → IsOnlyRunOf script out gates before after taken taken_after
Finished-only one script out gates before after taken taken_after done files is input session read session_is unmixed none =
    subst (λ (i : RunInput). (s : Session) → IsSessionOf i.script i.sounds s → AreUnmixed i.script.body → IsOnlyRun out files after taken taken_after i s)
    (same-input done.input input (input_in files script) (done.read files is) read)
    (λ s s_is alone. subst (λ (t : Session). IsOnlyRun out files after taken taken_after done.input t)
    (one done.input.script done.input.sounds done.session s done.is.session_is s_is)
    (let text : done.outcome ≡ lab_text done.session done.input.capture done.input.script.body = (done.exact none).is alone in
    record {
      files_are = done.files
          ∙ (ap (λ (outcome : Outcome). option_map (finished_files (output_files done.input.script out) (sounds_of outcome)) before) text
          ∙ ap (option_map (finished_files (output_files done.input.script out) (sounds_of (lab_text done.session done.input.capture done.input.script.body)))) is);
      text = done.text ∙ ap (λ (outcome : Outcome). option_map (λ t. t ++ report_text done.input.script outcome.report) taken) text;
    }))
    session session_is unmixed

-- what a command leaves with status 0
pub DoneIn-only : OneSession → {X : Type 0} (r : Result X Stop) (form : Option Form) (gates : Stops) (before after : Option Files) (taken taken_after : Option (List ℕ))
    → CommandLeaves r form gates before after taken taken_after → status_of r ≡ 0 → OnlyIn form gates before after taken taken_after
DoneIn-only one (Ok x) None gates before after taken taken_after done zero = absurd done
DoneIn-only one (Ok x) (Some (run script out)) gates before after taken taken_after done zero = Finished-only one script out gates before after taken taken_after done
DoneIn-only one (Ok x) (Some (conf file name)) gates before after taken taken_after done zero = Described-only file name before after taken taken_after done
DoneIn-only one (Ok x) (Some (make workload)) gates before after taken taken_after done zero = done.only
DoneIn-only one (Ok x) other gates before after taken taken_after done zero = tt
DoneIn-only one (Err Words) form gates before after taken taken_after done zero = absurd (omega (arith, zero))
DoneIn-only one (Err other) form gates before after taken taken_after done zero = absurd (omega (arith, zero))
