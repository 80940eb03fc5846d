-- The two runs of a phase in which a client and the card have lines: the client may see the position at the phase's beginning, or the one at
-- its end.
use Rattle.std.proofs.Common.{◌≡◌, ℕ, refl, Option, None}
use Rattle.std.specs.Prelude.{List, [], ◌∷◌, ◌++◌, codes, false, Ok}
use Rattle.wav_io.specs.Sound.{Sound}
use Rattle.snd_base.specs.declared.geometry.Geometry.{Geometry}
use Rattle.lab_lines.specs.declared.line.Actor.TheVariants.{Card, Client}
use Rattle.lab_lines.specs.declared.line.Item.TheVariants as item
use Rattle.lab_lines.specs.declared.line.Op.TheVariants as op
use Rattle.lab_lines.specs.declared.script.Script.{Script}
use Rattle.lab_lines.specs.declared.script.Share.TheVariants as share
use Rattle.lab_script.specs.Reading.{script_of}
use Rattle.lab_run.specs.LabRun.{LabRun, Outcome, lab_text}
use Rattle.lab_run.specs.Stage.{Session}
use Rattle.lab_run.proofs.RunExists.{text-LabRun}
use Rattle.lab_worked_runs.proofs.Beginnings.{beginning-LabRun, lab_by_beginning}
use Rattle.lab_worked_runs.proofs.Printouts.{Printout, a_file, mono, mono_card, printed, printout_by, printout_of, sequence, session_of, silence, text_of}
use Rattle.lab_worked_runs.proofs.Sessions.{card}

-- a text has a run that prints this
pub record HasRun (ring : Geometry) (sounds : List Sound) (capture : Option Sound) (text : List ℕ)
    (printout : Printout) : Type 0 where
  pub script : Script
  pub text_is : script_of text ≡ Ok script
  pub outcome : Outcome
  pub may : (client_stops reader_stops : ℕ → ℕ)
      → LabRun (session_of ring sounds script) capture script.body client_stops reader_stops outcome
  pub prints : printout_by script outcome ≡ printout

one_phase : List ℕ
one_phase = text_of (mono_card ∷ "client a a.wav\nopen a" ∷ "phase\na write 64\ncard play 64\nend" ∷ "phase\ncard play 192\nend" ∷ [])

the_script : Script
the_script = record {
  card = card 1 64 share.Dmix;
  clients = record {
    number = 2;
    name = codes "a";
    file = codes "a.wav";
    bindings = None;
    buffer = None;
    period = None;
    start = 1;
    stop = None;
    lead = 64;
    plug = false;
  } ∷ [];
  readers = [];
  body =
      item.Opens 3 (Client 0)
      ∷ item.Phase
      (record { number = 5; actor = Client 0; op = op.Write 64 }
      ∷ record { number = 6; actor = Card; op = op.Play 64 } ∷ [])
      ∷ item.Phase (record { number = 9; actor = Card; op = op.Play 192 } ∷ []) ∷ [];
}

the_session : Session
the_session = session_of mono (a_file 1 (sequence 1 64) ∷ []) the_script

-- the client sees the position at the phase's beginning
run_by_beginning : HasRun mono (a_file 1 (sequence 1 64) ∷ []) None one_phase (printed
    ("0 a open = ok PREPARED -"
    ∷ "1 card play 64 = 64 RUNNING 64"
    ∷ "1 a write 64 = 64 RUNNING 0"
    ∷ "2 card play 192 = 192 RUNNING 256"
    ∷ "segment a 0 64 64 0" ∷ "played 0 256" ∷ [])
    (silence 64 ++ sequence 1 64 ++ silence 128) [])
unfolding printout_of one_phase the_script the_session card
run_by_beginning = record {
  script = the_script;
  text_is = refl;
  outcome = lab_by_beginning the_session None the_script.body;
  may = beginning-LabRun the_session None the_script.body;
  prints = refl;
}

-- it sees the one at the phase's end
run_by_end : HasRun mono (a_file 1 (sequence 1 64) ∷ []) None one_phase (printed
    ("0 a open = ok PREPARED -"
    ∷ "1 card play 64 = 64 RUNNING 64"
    ∷ "1 a write 64 = 64 RUNNING 64"
    ∷ "2 card play 192 = 192 RUNNING 256"
    ∷ "segment a 0 128 64 0" ∷ "played 0 256" ∷ [])
    (silence 128 ++ sequence 1 64 ++ silence 64) [])
unfolding printout_of one_phase the_script the_session card
run_by_end = record {
  script = the_script;
  text_is = refl;
  outcome = lab_text the_session None the_script.body;
  may = text-LabRun the_session None the_script.body;
  prints = refl;
}
