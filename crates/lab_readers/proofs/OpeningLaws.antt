-- What an opening and a closing make of a reader, by whether it is open.
use Rattle.lab_readers.specs.Prelude.{ap, arith, Err, get_or, IfOk, IsSome, IsTrue, length, List, None, refl, Result, subst, sym, ℕ, [], ◌<◌, ◌↔◌, ◌∙◌, ◌≡◌}
use Rattle.lab_readers.specs.Prelude.{◌≢◌, false≢true, nat_tests, Bool, false, Ok, Option, Some, PcmError, CaptureStream, Op, Done, Row, Reader, row_by}
use Rattle.lab_readers.specs.Prelude.{after_close, after_open, Session, Setup, Stage, LabReader, LabReaders, AreAfter, IsOfRing, readers_of, spare_of}
use Rattle.lab_readers.specs.Prelude.{HasGotAllOf-join, HasClosed, HasOpened, number_of, OnSeat, reader_in, stream_at, AreAfter-closing, AreAfter-opening}
use Rattle.lab_readers.specs.Prelude.{Exchanges, HasClosing, HasOpening, IsItemAt, is_some_op}
use Rattle.snoop_table.specs.declared.seats.reader.ReaderSeat.{ReaderSeat}
use Rattle.snoop_table.specs.Joins.{HasJoined}
use Rattle.snoop_table.specs.Readers.{SameReader}
use Rattle.wav_io.specs.Sound.{Sound}
use Rattle.pcm_states.specs.declared.states.State.TheVariants as state
use Rattle.lab_lines.specs.declared.line.Actor.TheVariants as actor
use Rattle.lab_lines.specs.declared.line.Op.TheVariants as op

-- one that isn't open has no seat
pub no_seat : {X : Type 0} (seat : Option X) (b : Bool) → (IsTrue b ↔ IsSome seat) → b ≡ false → seat ≡ None
no_seat None b is closed = refl
no_seat (Some s) b is closed = absurd (false≢true (sym closed ∙ is.1 refl))

-- another one is opened at a seat
pub opening-done : (spare seat : ReaderSeat) (phase : ℕ) (r s : LabReader) (row : Row) (setup : Option Setup) (own : Setup) → r.seat ≡ None → setup ≡ Some own → SameReader spare seat
    → HasOpened seat own r s → row ≡ row_by phase (number_of s) op.Opens (reader_in s).own Done → HasOpening spare phase r s row (reader_in r).own setup
opening-done spare seat phase r s row setup own closed is of_ring opened row_is =
    rw is (subst (λ (o : Option CaptureStream). HasOpening spare phase r s row o (Some own)) (sym (ap (λ (p : Option ReaderSeat). stream_at p r.actor) closed))
    (record { seat = seat; of_ring = of_ring; opened = opened; row_is = row_is ∙ ap (λ (n : ℕ). row_by phase n op.Opens (reader_in s).own Done) opened.file.number }))

-- an open one is closed, and the spare seat takes its seat over
pub closing-done : (phase : ℕ) (r s : LabReader) (spare later seat : ReaderSeat) (row : Row) → HasClosed seat r s → HasJoined spare later seat
    → row ≡ row_by phase (number_of r) op.Closes (reader_in r).own Done → HasClosing later phase r s (record row { state = state.Open }) (reader_in r).own
closing-done phase r s spare later seat row closed joined is =
    let own : (reader_in r).own ≡ Some r.actor.reader = ap (λ (p : Option ReaderSeat). stream_at p r.actor) closed.seat_was in
    subst (λ (o : Option CaptureStream). HasClosing later phase r s (record row { state = state.Open }) o) (sym own) (
      record { seat = seat; closed = closed; got = HasGotAllOf-join spare later seat joined },
      ap (λ (w : Row). record w { state = state.Open }) (is ∙ ap (λ (o : Option CaptureStream). row_by phase (number_of r) op.Closes o Done) own),
    )

-- its seat is of the spare seat's ring
pub OneRing-closed : (spare seat : ReaderSeat) (r s : LabReader) → IsOfRing spare r → HasClosed seat r s → SameReader spare seat
OneRing-closed spare seat r s of_ring closed = subst (λ (p : Option ReaderSeat). OnSeat p (SameReader spare)) closed.seat_was of_ring

-- ---- one reader of a list

-- a reader that is opened is the one that a run opens
pub opened-ok : (rs ss : LabReaders) (number phase : ℕ) (r s : LabReader) (opening : Option Setup) (result : Result Row PcmError) → r ≡ get_or (readers_of rs) number r
    → number < length (readers_of rs) → Exchanges rs ss number s → IfOk result (λ row. HasOpening (spare_of rs) phase r s row (reader_in r).own opening)
    → IfOk result (λ row. (session : Session) (capture : Option Sound) (stage : Stage) → IsItemAt session capture stage phase rs → get_or session.readers number None ≡ opening
    → AreAfter session capture stage (after_open session stage (actor.Reader number)) row ss)
opened-ok rs ss number phase r s opening (Err e) at inside exchanged has = tt
opened-ok rs ss number phase r s opening (Ok row) at inside exchanged has = λ session capture stage at_item is.
    AreAfter-opening session capture stage number phase rs ss at_item r s row inside exchanged (rw is (rw at at has))

-- one that is closed is the one that a run closes
pub closed-after : (rs ss : LabReaders) (number phase : ℕ) (r s : LabReader) (row : Row) → r ≡ get_or (readers_of rs) number r → number < length (readers_of rs)
    → Exchanges rs ss number s → HasClosing (spare_of ss) phase r s row (reader_in r).own → (session : Session) (capture : Option Sound) (stage : Stage) → IsItemAt session capture stage phase rs
    → AreAfter session capture stage (after_close session stage (actor.Reader number)) row ss
closed-after rs ss number phase r s row at inside exchanged has session capture stage at_item =
    AreAfter-closing session capture stage number phase rs ss at_item r s row inside exchanged (rw at at has)

-- ---- lines

-- the test whether some of a phase's lines are a reader's
pub is_some_op-test : (b : Bool) (ops : List Op) → (IsTrue b ↔ (ops ≢ [])) → is_some_op ops ≡ b
is_some_op-test b ops test = grind (arith, nat_tests)
