-- What a script's text prints when it is run where no phase leaves a choice: the text of its report, and the samples.
use Prim.Native.String.{String}
use Rattle.std.proofs.Common.{ℕ, ◌/◌, arith, Option, Some, None}
use Rattle.std.specs.Prelude.{List, [], ◌∷◌, ◌++◌, codes, length, map, replicate, ℤ, pos, Result, Ok, Err}
use Rattle.std.specs.Fmt.{digits}
use Rattle.std.specs.List.{flat_map, range_with_len}
use Rattle.snd_base.specs.declared.geometry.Geometry.{Geometry}
use Rattle.bindings.specs.Bound
use Rattle.course.specs.Course.{◌>>=◌}
use Rattle.dmix_client.specs.Course as client_calls
use Rattle.dmix_client.specs.Rewind as rewinding
use Rattle.dsnoop_client.specs.Course as reader_calls
use Rattle.hw_space.specs.declared.config.Config.{Config}
use Rattle.sw_limits.specs.declared.params.SwParams.{SwParams}
use Rattle.wav_io.specs.Sound.{Sound}
use Rattle.lab_script.specs.declared.error.ScriptError.{ScriptError}
use Rattle.lab_lines.specs.declared.script.CardLine.{CardLine}
use Rattle.lab_lines.specs.declared.script.ClientLine.{ClientLine}
use Rattle.lab_lines.specs.declared.script.ReaderLine.{ReaderLine}
use Rattle.lab_lines.specs.declared.script.Script.{Script}
use Rattle.lab_lines.specs.declared.script.Stop.{Stop}
use Rattle.lab_lines.specs.declared.script.Stop.TheVariants.{At, Never}
use Rattle.lab_script.specs.Draft as draft
use Rattle.lab_script.specs.Keys as keys
use Rattle.lab_script.specs.Ops as ops
use Rattle.lab_script.specs.Reading.{script_of}
use Rattle.lab_report.specs.Text.{report_text}
use Rattle.lab_run.specs.CourseText.{course_text}
use Rattle.lab_run.specs.LabRun.{Outcome, lab_text}
use Rattle.lab_run.specs.Openings.{bound_by, read_by}
use Rattle.lab_run.specs.Stage.{Session, Setup}

-- lines of a text, each ended by a line feed
abbrev pub text_of : List String → List ℕ
text_of lines = flat_map (λ line. codes line ++ 10 ∷ []) lines

-- the stop threshold of a line: the buffer size where it gives none; a run with `never` has a buffer of 256 frames, whose boundary this is
abbrev pub stop_frames : ℕ → Option Stop → ℕ
stop_frames buffer None = buffer
stop_frames buffer (Some (At frames)) = frames
stop_frames buffer (Some Never) = 4611686018427387904

-- a stream of so many channels has the card's period, and a buffer as long as the card's ring
abbrev pub config_on : CardLine → ℕ → Config
config_on card channels = record {
  channels = channels;
  rate = card.rate;
  period_size = card.period;
  buffer_size = card.ring;
  periods = card.ring / card.period;
}

abbrev pub params_on : CardLine → ℕ → Option Stop → SwParams
params_on card start stop = record {
  start_threshold = start;
  stop_threshold = stop_frames card.ring stop;
  avail_min = card.period;
}

abbrev pub client_setup : CardLine → ClientLine → Sound → Setup
client_setup card line sound = record {
  config = config_on card sound.channels;
  bindings = bound_by line sound;
  params = params_on card line.start line.stop;
  lead = line.lead;
}

abbrev pub reader_setup : CardLine → ReaderLine → Setup
reader_setup card line = record {
  config = config_on card (length (read_by card line));
  bindings = read_by card line;
  params = params_on card line.start line.stop;
  lead = 0;
}

-- each client's setup, with its file
abbrev pub client_setups : CardLine → List ClientLine → List Sound → List (Option Setup)
client_setups card [] sounds = []
client_setups card (line ∷ lines) [] = []
client_setups card (line ∷ lines) (sound ∷ sounds) =
    Some (client_setup card line sound) ∷ client_setups card lines sounds

-- the session of a script without keys `period` and `buffer` of a client or reader, on a ring of this shape
abbrev pub session_of : Geometry → List Sound → Script → Session
session_of ring sounds script = record {
  card = script.card;
  ring = ring;
  sounds = sounds;
  clients = client_setups script.card script.clients sounds;
  readers = map (λ line. Some (reader_setup script.card line)) script.readers;
}

-- a report's text, the played samples, and each reader's samples
pub record Printout : Type 0 where
  pub report : List ℕ
  pub played : List ℤ
  pub recorded : List (List ℤ)

abbrev pub printout_by : Script → Outcome → Printout
printout_by script outcome = record {
  report = report_text script outcome.report;
  played = outcome.played;
  recorded = outcome.recorded;
}

abbrev pub printout_if : Geometry → List Sound → Option Sound → Result Script ScriptError
    → Result Printout ScriptError
printout_if ring sounds capture (Ok script) =
    Ok (printout_by script (lab_text (session_of ring sounds script) capture script.body))
printout_if ring sounds capture (Err error) = Err error

-- the printout of a text, with the clients' files and the captured one, or why the text is refused
unfoldable pub printout_of : Geometry → List Sound → Option Sound → List ℕ
    → Result Printout ScriptError
unfolding course_text digits ◌>>=◌ Bound.rising client_calls.lay_each client_calls.lay_frames client_calls.looks client_calls.syncs client_calls.starts client_calls.drains client_calls.course_with_number client_calls.takes_more client_calls.writes_on client_calls.starts_taking client_calls.resumes reader_calls.gets_frames reader_calls.starts reader_calls.syncs reader_calls.transfers reader_calls.reads_on reader_calls.reads_first reader_calls.counts rewinding.take_each rewinding.take_frames rewinding.checks rewinding.takes_back rewinding.rewinds draft.card_of draft.client_of draft.reader_of draft.with_client draft.with_reader draft.border_of draft.with_open draft.with_close draft.with_phase draft.with_end draft.with_line keys.key_value ops.op_of
printout_of ring sounds capture text = printout_if ring sounds capture (script_of text)

abbrev pub report_if : Geometry → List Sound → Result Script ScriptError
    → Result (List ℕ) ScriptError
report_if ring sounds (Ok script) =
    Ok (report_text script (lab_text (session_of ring sounds script) None script.body).report)
report_if ring sounds (Err error) = Err error

-- the report alone, where there are too many samples to compute them
unfoldable pub report_of : Geometry → List Sound → List ℕ → Result (List ℕ) ScriptError
unfolding printout_of
report_of ring sounds text = report_if ring sounds (script_of text)

-- so many samples of silence
abbrev pub silence : ℕ → List ℤ
silence samples = replicate samples (pos 0)

-- so many samples, each one more than the one before it
abbrev pub sequence : ℕ → ℕ → List ℤ
sequence first samples = map (λ n. pos n) (range_with_len first samples)

-- a file of so many channels
abbrev pub a_file : ℕ → List ℤ → Sound
a_file channels samples = record { channels = channels; rate = 48000; samples = samples }

-- rings of 256 frames
abbrev pub mono : Geometry
mono = record {
  frames = 256;
  channels = 1;
  first_lap = 0;
  frames_least = omega arith;
  frames_most = omega arith;
  channels_least = omega arith;
  channels_most = omega arith;
  first_lap_most = omega arith;
}

abbrev pub stereo : Geometry
stereo = record mono { channels = 2; channels_least = omega arith; channels_most = omega arith }

-- the lines of their cards
abbrev pub mono_card : String
mono_card = "card channels 1 rate 48000 period 64 ring 256"

abbrev pub stereo_card : String
stereo_card = "card channels 2 rate 48000 period 64 ring 256"

-- a ring, the clients' files, the captured one, a text, and what it prints or why it is refused
pub record Shown : Type 0 where
  pub ring : Geometry
  pub sounds : List Sound
  pub capture : Option Sound
  pub script : List ℕ
  pub printout : Result Printout ScriptError

-- a report of these lines between its first and its last, and these samples
abbrev pub printed : List String → List ℤ → List (List ℤ) → Printout
printed rows played recorded =
    record { report = text_of ("dmixlab 1" ∷ rows ++ "end" ∷ []); played = played; recorded = recorded }

-- a text of these lines prints a report of these, and these samples
abbrev pub prints : Geometry → List Sound → Option Sound → List String → List String → List ℤ → List (List ℤ) → Shown
prints ring sounds capture script rows played recorded = record {
  ring = ring;
  sounds = sounds;
  capture = capture;
  script = text_of script;
  printout = Ok (printed rows played recorded);
}

abbrev pub refused : Geometry → List Sound → Option Sound → List String → ScriptError → Shown
refused ring sounds capture script error =
    record { ring = ring; sounds = sounds; capture = capture; script = text_of script; printout = Err error }

-- the printouts of texts, and those that were worked out
abbrev pub printouts_of : List Shown → List (Result Printout ScriptError)
printouts_of rows = map (λ (s : Shown). printout_of s.ring s.sounds s.capture s.script) rows

abbrev pub worked_out : List Shown → List (Result Printout ScriptError)
worked_out rows = map (λ (s : Shown). s.printout) rows
