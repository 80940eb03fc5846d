-- The answers and states of a report's rows, as they are read.
use Rattle.std.specs.Prelude.{ℕ, List, [], ◌∷◌, codes, bytes_eq, Option, Some, None, Result, Ok, Err, if◌then◌else◌}
use Rattle.snd_base.specs.declared.errors.PcmError.TheVariants.{BadState, Xrun, Again, NoDevice, Invalid, Busy, NotSupported, Stopped}
use Rattle.snd_base.specs.declared.errors.Why.TheVariants.{Config}
use Rattle.snd_base.specs.declared.errors.XrunWhy.{XrunWhy}
use Rattle.snd_base.specs.declared.errors.XrunWhy.TheVariants.{Empty, Already, Avail, Late, Overtaken}
use Rattle.pcm_states.specs.declared.states.State.{State}
use Rattle.pcm_states.specs.declared.states.State.TheVariants as state
use Rattle.text_words.specs.Table.{row_of}
use Rattle.lab_report.specs.declared.error.ReportWhy.{ReportWhy}
use Rattle.lab_report.specs.declared.error.ReportWhy.TheVariants as why
use Rattle.lab_lines.specs.declared.row.Answer.{Answer}
use Rattle.lab_lines.specs.declared.row.Answer.TheVariants.{Done, Count, Failed}
use Rattle.lab_report.specs.Causes.{◌>>=◌, some_or}
use Rattle.lab_report.specs.Words.{front_word, space_of, next_number, most_frames, number_or_dash_at}
use Rattle.text_words.specs.Word.{decimal_of}

-- the answers of one word
abbrev pub plain_answers : List (List ℕ × Answer)
plain_answers =
    (codes "ok", Done) ∷
    (codes "EBADFD", Failed BadState) ∷
    (codes "EAGAIN", Failed Again) ∷
    (codes "ENODEV", Failed NoDevice) ∷
    (codes "EINVAL", Failed (Invalid Config)) ∷
    (codes "EIO", Failed NotSupported) ∷
    (codes "stopped", Failed Stopped) ∷ []

-- the states that a row can have
abbrev pub states : List (List ℕ × State)
states =
    (codes "OPEN", state.Open) ∷
    (codes "SETUP", state.Setup) ∷
    (codes "PREPARED", state.Prepared) ∷
    (codes "RUNNING", state.Running) ∷
    (codes "XRUN", state.Xrun) ∷
    (codes "DRAINING", state.Draining) ∷
    (codes "PAUSED", state.Paused) ∷
    (codes "DISCONNECTED", state.Disconnected) ∷ []

-- `avail A`, after its word
abbrev pub avail_and_rest : List ℕ → Result (XrunWhy × List ℕ) ReportWhy
avail_and_rest rest = (next_number most_frames rest) >>= (λ avail. Ok (Avail avail.0 0, avail.1))

-- a frame and a channel
abbrev pub frame_and_channel : List ℕ → Result ((ℕ × ℕ) × List ℕ) ReportWhy
frame_and_channel rest = (next_number most_frames rest) >>= (λ frame. (next_number 255 frame.1) >>= (λ channel. Ok ((frame.0, channel.0), channel.1)))

-- `late F C`, after its word
abbrev pub late_and_rest : List ℕ → Result (XrunWhy × List ℕ) ReportWhy
late_and_rest rest = (frame_and_channel rest) >>= (λ place. Ok (Late place.0.0 place.0.1 0, place.1))

-- `overtaken F C`, after its word
abbrev pub overtaken_of : List ℕ → Result (XrunWhy × List ℕ) ReportWhy
overtaken_of rest = (frame_and_channel rest) >>= (λ place. Ok (Overtaken place.0.0 place.0.1 0, place.1))

-- why there was an xrun, by its first word
abbrev pub xrun_by : List ℕ → List ℕ → Result (XrunWhy × List ℕ) ReportWhy
xrun_by word rest =
    if bytes_eq word (codes "empty") then Ok (Empty, rest)
    else (if bytes_eq word (codes "already") then Ok (Already, rest)
    else (if bytes_eq word (codes "avail") then avail_and_rest rest
    else (if bytes_eq word (codes "late") then late_and_rest rest
    else (if bytes_eq word (codes "overtaken") then overtaken_of rest else Err why.Word))))

-- why there was an xrun, after `EPIPE`
abbrev pub xrun_of : List ℕ → Result (Answer × List ℕ) ReportWhy
xrun_of rest = do
  more ← space_of rest
  word ← front_word more
  xrun ← xrun_by word.0 word.1
  Ok (Failed (Xrun xrun.0), xrun.1)

-- until when no place is free, and the position, after `EBUSY`
abbrev pub busy_of : List ℕ → Result (Answer × List ℕ) ReportWhy
busy_of rest = do
  more ← space_of rest
  until ← number_or_dash_at more
  seen ← next_number most_frames until.1
  Ok (Failed (Busy until.0 seen.0), seen.1)

-- a number of frames
abbrev pub count_and_rest : List ℕ → List ℕ → Result (Answer × List ℕ) ReportWhy
count_and_rest word rest = (some_or why.Word (decimal_of most_frames word)) >>= (λ n. Ok (Count n, rest))

-- an answer of more than one word, or a number
abbrev pub longer_answer : List ℕ → List ℕ → Result (Answer × List ℕ) ReportWhy
longer_answer word rest =
    if bytes_eq word (codes "EPIPE") then xrun_of rest
    else (if bytes_eq word (codes "EBUSY") then busy_of rest else count_and_rest word rest)

-- an answer, where it may be one of one word
abbrev pub answer_by : Option Answer → List ℕ → List ℕ → Result (Answer × List ℕ) ReportWhy
answer_by (Some answer) word rest = Ok (answer, rest)
answer_by None word rest = longer_answer word rest

-- an answer, and the rest
abbrev pub answer_at : List ℕ → Result (Answer × List ℕ) ReportWhy
answer_at rest = (front_word rest) >>= (λ word. answer_by (row_of plain_answers word.0) word.0 word.1)

-- a state, and the rest
abbrev pub state_at : List ℕ → Result (State × List ℕ) ReportWhy
state_at rest = (front_word rest) >>= (λ word. (some_or why.Word (row_of states word.0)) >>= (λ state. Ok (state, word.1)))
