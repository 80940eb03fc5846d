-- A report that is printed is read back, line by line.
use Rattle.lab_report.specs.Prelude.{arith, codes, length, List, None, Option, refl, Some, true, ℕ, [], ◌++◌, ◌<◌, ◌∷◌, ◌≡◌, ◌≤◌, decimal, list_all, Busy, Xrun}
use Rattle.lab_report.specs.Prelude.{XrunWhy, Already, Avail, Empty, Late, Overtaken, Segment, State as PcmState, state_name, weaker, Answer, Count, Failed}
use Rattle.lab_report.specs.Prelude.{Row, Script, IsActor, IsScript, request_of_row, IsAnswerInRange, IsOpInRange, IsRowInRange, IsSegmentInRange, IsWide}
use Rattle.lab_report.specs.Prelude.{IsWideWhere, IsXrunInRange, actor_name, answer_text, client_name, front_text, IsRowOf, number_or_dash, played_line}
use Rattle.lab_report.specs.Prelude.{reader_name, row_line, run_line, segment_line, xrun_text}
use Rattle.std.proofs.lemmas.List.Folds.{list_all-append}
use Rattle.lab_lines.specs.declared.line.Actor.{Actor}
use Rattle.lab_lines.specs.declared.line.Actor.TheVariants.{Card, Client, Reader}
use Rattle.lab_lines.specs.declared.line.Op.{Op}
use Rattle.lab_script.specs.Ops.{op_text}
use Rattle.lab_report.proofs.Printed.{in_word, in_line, decimal_in_word, IsLineText}
use Rattle.lab_report.proofs.PrintedReport.{client-found, reader-found}
use Rattle.lab_lines.specs.declared.line.Op.TheVariants as op
use Rattle.pcm_states.specs.declared.states.State.TheVariants as state

byte_in_line : (b : ℕ) → in_word b ≡ true → in_line b ≡ true
byte_in_line b e = grind arith

word_in_line : (w : List ℕ) → list_all in_word w ≡ true → list_all in_line w ≡ true
word_in_line w e = weaker in_word in_line byte_in_line w e

decimal_in_line : (n : ℕ) → IsWide n → list_all in_line (decimal n) ≡ true
decimal_in_line n h = word_in_line (decimal n) (decimal_in_word n h)

number_in_line : (o : Option ℕ) → IsWideWhere o → list_all in_line (number_or_dash o) ≡ true
number_in_line None h = refl
number_in_line (Some n) h = decimal_in_line n h

byte_wide : (n : ℕ) → n ≤ 255 → IsWide n
byte_wide n h = omega arith

xrun_in_line : (w : XrunWhy) → IsXrunInRange w → list_all in_line (xrun_text w) ≡ true
xrun_in_line Empty h = refl
xrun_in_line Already h = refl
xrun_in_line (Avail a s) h = decimal_in_line a h
xrun_in_line (Late f c s) h = simp (list_all-append, decimal_in_line f h.0, decimal_in_line c (byte_wide c h.1))
xrun_in_line (Overtaken f c s) h = simp (list_all-append, decimal_in_line f h.0, decimal_in_line c (byte_wide c h.1))

answer_in_line : (a : Answer) → IsAnswerInRange a → list_all in_line (answer_text a) ≡ true
answer_in_line (Count n) h = decimal_in_line n h
answer_in_line (Failed (Xrun w)) h = xrun_in_line w h
answer_in_line (Failed (Busy u s)) h = simp (list_all-append, number_in_line u h.0, decimal_in_line s h.1)
answer_in_line other h = refl

state_in_line : (s : PcmState) → list_all in_line (state_name s) ≡ true
state_in_line state.Open = refl
state_in_line other = refl

op_in_line : (o : Op) → IsOpInRange o → list_all in_line (op_text o) ≡ true
op_in_line (op.Play n) h = decimal_in_line n h
op_in_line (op.Write n) h = decimal_in_line n h
op_in_line (op.Read n) h = decimal_in_line n h
op_in_line (op.Rewind n) h = decimal_in_line n h
op_in_line (op.Die n) h = decimal_in_line n h
op_in_line other h = refl

actor_in_line : (script : Script) (actor : Actor) → IsScript script → IsActor (length script.clients) (length script.readers) actor → list_all in_line (actor_name script actor) ≡ true
actor_in_line script Card valid h = refl
actor_in_line script (Client n) valid h = word_in_line (client_name script n) (client-found script n valid h).1
actor_in_line script (Reader n) valid h = word_in_line (reader_name script n) (reader-found script n valid h).1

pub front_in_line : (script : Script) (row : Row) → IsScript script → IsRowOf script row → IsRowInRange row → list_all in_line (front_text script (request_of_row row)) ≡ true
front_in_line script row valid of n =
    simp (list_all-append, decimal_in_line row.phase n.phase, actor_in_line script row.actor valid of.actor, op_in_line row.op n.op)

pub row_is_line : (script : Script) (row : Row) → IsScript script → IsRowOf script row → IsRowInRange row → IsLineText (row_line script row)
row_is_line script row valid of n = record {
  words = front_text script (request_of_row row) ++ 32 ∷ answer_text row.answer ++ 32 ∷ state_name row.state ++ 32 ∷ number_or_dash row.seen;
  is = refl;
  whole = simp (
    list_all-append,
    decimal_in_line row.phase n.phase,
    actor_in_line script row.actor valid of.actor,
    op_in_line row.op n.op,
    answer_in_line row.answer n.answer,
    state_in_line row.state,
    number_in_line row.seen n.seen,
  );
}

pub segment_is_line : (script : Script) (client : ℕ) (s : Segment) → IsScript script → client < length script.clients → IsSegmentInRange s → IsLineText (segment_line script (client, s))
segment_is_line script client s valid h n = record {
  words = codes "segment " ++ client_name script client ++ 32 ∷ decimal s.source ++ 32 ∷ decimal s.card ++ 32 ∷ decimal s.whole ++ 32 ∷ decimal s.part;
  is = refl;
  whole = simp (
    list_all-append,
    word_in_line (client_name script client) (client-found script client valid h).1,
    decimal_in_line s.source n.source,
    decimal_in_line s.card n.card,
    decimal_in_line s.whole n.whole,
    decimal_in_line s.part (byte_wide s.part n.part),
  );
}

pub run_is_line : (script : Script) (reader first count : ℕ) → IsScript script → reader < length script.readers → IsWide first → IsWide count → IsLineText (run_line script (reader, first, count))
run_is_line script reader first count valid h f c = record {
  words = codes "run " ++ reader_name script reader ++ 32 ∷ decimal first ++ 32 ∷ decimal count;
  is = refl;
  whole = simp (list_all-append, word_in_line (reader_name script reader) (reader-found script reader valid h).1, decimal_in_line first f, decimal_in_line count c);
}

pub played_is_line : (first frames : ℕ) → IsWide first → IsWide frames → IsLineText (played_line first frames)
played_is_line first frames f n = record {
  words = codes "played " ++ decimal first ++ 32 ∷ decimal frames;
  is = refl;
  whole = simp (list_all-append, decimal_in_line first f, decimal_in_line frames n);
}
