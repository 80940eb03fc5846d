-- The report that a text is, or its first refusal.
use Rattle.std.specs.Prelude.{◌≡◌, ℕ, ◌+◌, ◌==◌, ◌&&◌, Bool, true, false, List, [], ◌∷◌, ◌++◌, length, codes, bytes_eq, Option, Some, None, Result, Ok, Err, min, if◌then◌else◌, slice_get}
use Rattle.std.specs.List.{slice_split, position}
use Rattle.pcm_states.specs.declared.states.State.{State as RowState}
use Rattle.snd_base.specs.declared.places.Segment.{Segment}
use Rattle.lab_lines.specs.declared.script.Script.{Script}
use Rattle.lab_script.specs.Draft.{is_client, is_reader}
use Rattle.lab_report.specs.declared.error.ReportError.{ReportError}
use Rattle.lab_report.specs.declared.error.ReportWhy.{ReportWhy}
use Rattle.lab_report.specs.declared.error.ReportWhy.TheVariants as why
use Rattle.lab_report.specs.declared.reader.Draft.{Draft}
use Rattle.lab_lines.specs.declared.report.Report.{Report}
use Rattle.lab_lines.specs.declared.request.Request.{Request}
use Rattle.lab_lines.specs.declared.row.Row.{Row}
use Rattle.lab_report.specs.Answers.{answer_at, state_at}
use Rattle.lab_report.specs.Causes.{◌>>=◌, some_or}
use Rattle.lab_report.specs.Requests.{requests_of}
use Rattle.lab_report.specs.Text.{front_text}
use Rattle.lab_report.specs.Words.{lines_of, front_word, space_of, feed_of, next_number, most_frames, number_or_dash_at, expect_word, expect_words}
use Rattle.text_words.specs.Word.{is_space}

-- the lines that are read: the head, the rows, the segments, the runs, what was played, and the end
pub record State : Type 0 where
  pub head : Bool
  pub rows : List Row
  pub segments : List (ℕ × Segment)
  pub runs : List (ℕ × ℕ × ℕ)
  pub played : Option (ℕ × ℕ)
  pub ended : Bool

-- a draft, as its lines
abbrev pub view : Draft → State
view d = record { head = d.head; rows = d.rows.items; segments = d.segments.items; runs = d.runs.items; played = d.played; ended = d.ended }

-- nothing is read yet
abbrev pub nothing : State
nothing = record { head = false; rows = []; segments = []; runs = []; played = None; ended = false }

-- the row of what is left of a line after the front of a row that is about this request
unfoldable pub row_after_front : Request → List ℕ → Result Row ReportWhy
row_after_front request rest = do
  answer ← answer_at rest
  before ← space_of answer.1
  state ← state_at before
  more ← space_of state.1
  seen ← number_or_dash_at more
  end ← feed_of seen.1
  Ok (record { phase = request.phase; actor = request.actor; op = request.op; answer = answer.0; state = state.0; seen = seen.0 })

-- the row of a line that is about this request
unfoldable pub row_of_line : Script → Request → List ℕ → Result Row ReportWhy
row_of_line script request line = (expect_words (slice_split is_space (front_text script request)) line) >>= (row_after_front request)

-- the client that is named after a space, by its number, and the rest
abbrev pub client_and_rest : Script → List ℕ → Result (ℕ × List ℕ) ReportWhy
client_and_rest script rest = (space_of rest) >>= (λ more. (front_word more) >>= (λ word. (some_or why.Word (position (is_client word.0) script.clients)) >>= (λ n. Ok (n, word.1))))

-- the reader that is named after a space, by its number, and the rest
abbrev pub reader_and_rest : Script → List ℕ → Result (ℕ × List ℕ) ReportWhy
reader_and_rest script rest = (space_of rest) >>= (λ more. (front_word more) >>= (λ word. (some_or why.Word (position (is_reader word.0) script.readers)) >>= (λ n. Ok (n, word.1))))

-- the numbers of a segment, at the end of its line
unfoldable pub segment_end : List ℕ → Result Segment ReportWhy
segment_end rest = do
  source ← next_number most_frames rest
  card ← next_number most_frames source.1
  whole ← next_number most_frames card.1
  part ← next_number 255 whole.1
  end ← feed_of part.1
  Ok (record { source = source.0; card = card.0; whole = whole.0; part = part.0 })

-- `segment NAME SOURCE CARD WHOLE PART`, after its first word
unfoldable pub segment_at : Script → List ℕ → Result (ℕ × Segment) ReportWhy
segment_at script rest = do
  client ← client_and_rest script rest
  segment ← segment_end client.1
  Ok (client.0, segment)

-- `played FIRST COUNT`, after its first word
unfoldable pub played_run : List ℕ → Result (ℕ × ℕ) ReportWhy
played_run rest = do
  first ← next_number most_frames rest
  count ← next_number most_frames first.1
  end ← feed_of count.1
  Ok (first.0, count.0)

-- `run NAME FIRST COUNT`, after its first word
unfoldable pub run_at : Script → List ℕ → Result (ℕ × ℕ × ℕ) ReportWhy
run_at script rest = do
  reader ← reader_and_rest script rest
  frames ← played_run reader.1
  Ok (reader.0, frames.0, frames.1)

-- a segment more
abbrev pub with_segment : Script → State → List ℕ → Result State ReportWhy
with_segment script s rest = (segment_at script rest) >>= (λ segment. Ok (record s { segments = s.segments ++ segment ∷ [] }))

-- a run more
abbrev pub with_run : Script → State → List ℕ → Result State ReportWhy
with_run script s rest = (run_at script rest) >>= (λ run. Ok (record s { runs = s.runs ++ run ∷ [] }))

-- what was played
abbrev pub with_played : State → List ℕ → Result State ReportWhy
with_played s rest = (played_run rest) >>= (λ played. Ok (record s { played = Some played }))

-- a line below the rows, by its first word: segments are before runs
abbrev pub tail_by : Script → State → List ℕ → List ℕ → Result State ReportWhy
tail_by script s word rest =
    if bytes_eq word (codes "segment") && length s.runs == 0 then with_segment script s rest
    else (if bytes_eq word (codes "run") then with_run script s rest
    else (if bytes_eq word (codes "played") then with_played s rest else Err why.Word))

-- the line `end`
abbrev pub end_line : State → List ℕ → Result State ReportWhy
end_line s line = (expect_word (codes "end") line) >>= (λ rest. (feed_of rest) >>= (λ u. Ok (record s { ended = true })))

-- a line below the rows
abbrev pub below_rows : Script → State → Option (ℕ × ℕ) → List ℕ → Result State ReportWhy
below_rows script s None line = (front_word line) >>= (λ word. tail_by script s word.0 word.1)
below_rows script s (Some played) line = end_line s line

-- a line after the head: the row of the next request, or where there is none, a line below the rows
abbrev pub after_head : Script → State → Option Request → List ℕ → Result State ReportWhy
after_head script s (Some request) line = (row_of_line script request line) >>= (λ row. Ok (record s { rows = s.rows ++ row ∷ [] }))
after_head script s None line = if s.ended then Err why.Extra else below_rows script s s.played line

-- the rest after the word `1`, the version of the form
abbrev pub version_of : List ℕ → Result (List ℕ) ReportWhy
version_of rest = (front_word rest) >>= (λ word. if bytes_eq word.0 (codes "1") then Ok word.1 else Err why.Word)

-- the line `dmixlab 1`
abbrev pub head_at : State → List ℕ → Result State ReportWhy
head_at s line = do
  name ← expect_word (codes "dmixlab") line
  more ← space_of name
  version ← version_of more
  end ← feed_of version
  Ok (record s { head = true })

-- what one more line makes of what is read, where the rows are about these requests
abbrev pub with_line : Script → List Request → State → List ℕ → Result State ReportWhy
with_line script requests s line = if s.head then after_head script s (slice_get requests (length s.rows)) line else head_at s line

-- the number of the next line, counted up to the greatest number of 32 bits
abbrev pub next_line : ℕ → ℕ
next_line number = min (number + 1) 4294967295

-- the refusal of a line
abbrev pub refusal_at : ℕ → ReportWhy → ReportError
refusal_at line cause = record { line = line; why = cause }

-- what is said on a line, or its refusal
abbrev pub on_line : {X Y : Type 0} → ℕ → Result X ReportWhy → (X → Result Y ReportError) → Result Y ReportError
on_line line (Ok x) f = f x
on_line line (Err cause) f = Err (refusal_at line cause)

-- the report at the end of the text, whose last line has this number
abbrev pub report_at : State → Option (ℕ × ℕ) → ℕ → Result Report ReportError
report_at s None number = Err (refusal_at number why.Ended)
report_at s (Some played) number =
    if s.ended then Ok (record { rows = s.rows; segments = s.segments; runs = s.runs; first = played.0; frames = played.1 }) else Err (refusal_at number why.Ended)

-- the lines that are left, after one of this number
abbrev pub lines_after : Script → List Request → State → ℕ → List (List ℕ) → Result Report ReportError
lines_after script requests s number [] = report_at s s.played number
lines_after script requests s number (line ∷ lines) =
    on_line (next_line number) (with_line script requests s line) (λ next. lines_after script requests next (next_line number) lines)

-- the report of a script that a text is, or its first refusal
abbrev pub report_in_text : Script → List ℕ → Result Report ReportError
report_in_text script text = lines_after script (requests_of script) nothing 0 (lines_of text)

-- an error of a call is the one that is said, unless memory ran out
abbrev pub RefusesAt : {X : Type 0} → ReportWhy → ReportError → Result X ReportError → Type 0
RefusesAt why.Memory e said = Unit {0}
RefusesAt cause e said = said ≡ Err e

-- what a call gave is what is said, unless memory ran out
abbrev pub Answers : {X : Type 0} → Result X ReportError → Result X ReportError → Type 0
Answers (Ok x) said = said ≡ Ok x
Answers (Err e) said = RefusesAt e.why e said
