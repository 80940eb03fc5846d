-- What the steps of a phase ask of the readers of the lab.
use Rattle.std.specs.Prelude.{◌≡◌, ℕ, ◌+◌, List, [], ◌∷◌, All, Option, Some, None, slice_index_or}
use Rattle.std.proofs.Common.{sym, ◌∙◌, arith}
use Rattle.std.proofs.lemmas.List.Elements.{All-cons, All-head, All-tail}
use Rattle.mix_core.specs.declared.gate.Gate as gate
use Rattle.snoop_table.specs.declared.seats.reader.ReaderSeat.{ReaderSeat}
use Rattle.snoop_table.specs.Readers as seats
use Rattle.wav_io.specs.Sound.{Sound}
use Rattle.card_sim.specs.declared.card.Card.{Card}
use Rattle.lab_lines.specs.declared.line.Line.{Line}
use Rattle.lab_run.specs.Reader.{Reader}
use Rattle.lab_run.specs.Rules.{AtPort}
use Rattle.lab_run.specs.Stage.{Session}
use Rattle.lab_actors.specs.Gates.{stops_at}
use Rattle.lab_actors.specs.Walks.{AreEach, AreEach-joined, AreJoined}
use Rattle.lab_card.specs.Meets.{IsSameCard}
use Rattle.lab_readers.specs.declared.reader.LabReader.{LabReader}
use Rattle.lab_readers.specs.OneReaderLaws.{IsOfCard-at, IsOfCard-informed, IsOfCard-kept, IsOfCard-ran, IsOfCard-same, IsOver}
use Rattle.lab_readers.specs.OneOpeningLaws.{HasRoom-informed, IsAt-same}
use Rattle.lab_readers.specs.OnePhase.{CanRun-informed}
use Rattle.lab_readers.specs.OneReader.{IsOfCard, IsSeatedAt, OnSeat}
use Rattle.lab_readers.specs.declared.readers.LabReaders.{LabReaders}
use Rattle.lab_readers.specs.AtStage.{AreAt, AreDone, AreOfRing, IsOfRing, IsReaderAt, IsReaderDone, IsReaderIn, readers_of, ring_of, spare_of}
use Rattle.lab_actors.specs.EachLaws.{AreEach-moved}
use Rattle.lab_readers.specs.Steps.{EachReader, HasTakenRoom, IsInformedBy, IsReady, RunsAt}

-- a fact of each item of a list that follows from a relation to another list
All-each : {X Y : Type 0} (R : ℕ → X → Y → Type 0) (P : X → Type 0) (number : ℕ) (xs : List X) (ys : List Y) → ((n : ℕ) (x : X) (y : Y) → R n x y → P x)
    → AreEach R number xs ys → All P xs
All-each R P number [] [] then are = λ k d inside. absurd (omega (arith, inside))
All-each R P number (x ∷ xs) (y ∷ ys) then are = All-cons P x xs (then number x y are.0) (All-each R P (number + 1) xs ys then are.1)
All-each R P number [] (y ∷ ys) then are = absurd are
All-each R P number (x ∷ xs) [] then are = absurd are

-- a fact of each item of a list that became another one
All-moved : {X : Type 0} (R : ℕ → X → X → Type 0) (P Q : X → Type 0) (number : ℕ) (xs ys : List X) → ((n : ℕ) (x y : X) → R n x y → P x → Q y) → AreEach R number xs ys
    → All P xs → All Q ys
All-moved R P Q number [] [] then are all = λ k d inside. absurd (omega (arith, inside))
All-moved R P Q number (x ∷ xs) (y ∷ ys) then are all =
    All-cons Q y ys (then number x y are.0 (All-head P x xs all)) (All-moved R P Q (number + 1) xs ys then are.1 (All-tail P x xs all))
All-moved R P Q number [] (y ∷ ys) then are all = absurd are
All-moved R P Q number (x ∷ xs) [] then are all = absurd are

-- ---- readers of a card

-- the readers of the lab are of each card over their ring
pub AreOf-at : (session : Session) (capture : Option Sound) (xs : List (AtPort × Reader)) (rs : LabReaders) (c : Card) → AreAt session capture xs rs → IsOver (ring_of rs) session.ring c
    → All (IsOfCard c) (readers_of rs)
AreOf-at session capture xs rs c are over =
    All-each (IsReaderAt session capture (spare_of rs) session.ring) (IsOfCard c) 0 (readers_of rs) xs
    (λ n r x is. IsOfCard-at (ring_of rs) session.ring c r x.0 over is.is.at) are.each

-- they stay so, whatever they do and whichever notes the card meets
pub AreOf-same : (c d : Card) (rs : List LabReader) → IsSameCard c d → All (IsOfCard c) rs → All (IsOfCard d) rs
AreOf-same c d rs same all = λ k r inside. IsOfCard-same c d (slice_index_or rs k r) same (all k r inside)

pub AreOf-room : (c : Card) (lines : List Line) (rs ss : LabReaders) → EachReader (HasTakenRoom lines) rs ss → All (IsOfCard c) (readers_of rs) → All (IsOfCard c) (readers_of ss)
AreOf-room c lines rs ss took = All-moved (HasTakenRoom lines) (IsOfCard c) (IsOfCard c) 0 (readers_of rs) (readers_of ss) (λ n r s has. IsOfCard-kept c r s has.kept.same) took.each

pub AreOf-informed : (c d : Card) (rs ss : LabReaders) → EachReader (IsInformedBy d) rs ss → All (IsOfCard c) (readers_of rs) → All (IsOfCard c) (readers_of ss)
AreOf-informed c d rs ss informed =
    All-moved (IsInformedBy d) (IsOfCard c) (IsOfCard c) 0 (readers_of rs) (readers_of ss) (λ n r s is. IsOfCard-informed c is.card r s is.informed) informed.each

pub AreOf-ran : {T : Type 0} (G : gate.Ghosts T) (gates after : List T) (c : Card) (phase : ℕ) (lines : List Line) (rs ss : LabReaders)
    → EachReader (RunsAt G gates after phase lines) rs ss
    → All (IsOfCard c) (readers_of rs) → All (IsOfCard c) (readers_of ss)
AreOf-ran G gates after c phase lines rs ss ran =
    All-moved (RunsAt G gates after phase lines) (IsOfCard c) (IsOfCard c) 0 (readers_of rs) (readers_of ss)
    (λ n r s has. IsOfCard-ran c phase (stops_at G.stops gates n) (stops_at G.stops after n) has.asks lines r s has.then) ran.each

-- ---- readers of the spare seat's ring

IsOfRing-in : (session : Session) (capture : Option Sound) (spare : ReaderSeat) (number : ℕ) (r : LabReader) (x : AtPort × Reader) → seats.geometry_of spare ≡ session.ring
    → IsReaderIn session capture spare session.ring number r x → IsOfRing spare r
IsOfRing-in session capture spare number r x shape is = by_seat r.seat is.at
  where
    by_seat : (p : Option ReaderSeat) → IsSeatedAt (seats.ring_of spare) session.ring r.actor p x.0 → OnSeat p (seats.SameReader spare)
    by_seat None at = tt
    by_seat (Some s) at = (at.of_ring, at.of_geometry ∙ sym shape)

-- The seats of the readers of a run are of the spare seat's ring.
pub AreOfRing-at : (session : Session) (capture : Option Sound) (xs : List (AtPort × Reader)) (rs : LabReaders) → AreAt session capture xs rs → AreOfRing rs
AreOfRing-at session capture xs rs are =
    All-each (IsReaderAt session capture (spare_of rs) session.ring) (IsOfRing (spare_of rs)) 0 (readers_of rs) xs
    (λ n r x is. IsOfRing-in session capture (spare_of rs) n r x are.card.ring is.is) are.each

pub AreOfRing-done : (session : Session) (capture : Option Sound) (xs : List (AtPort × Reader)) (rs : LabReaders) → AreDone session capture xs rs → AreOfRing rs
AreOfRing-done session capture xs rs are =
    All-each (IsReaderDone session capture (spare_of rs) session.ring) (IsOfRing (spare_of rs)) 0 (readers_of rs) xs
    (λ n r x is. IsOfRing-in session capture (spare_of rs) n r x are.card.ring is.is) are.each

-- ---- readers that can do their lines

-- once they took the room of their lines, and met the card's notes
pub AreReady-informed : (session : Session) (capture : Option Sound) (xs : List (AtPort × Reader)) (c : Card) (lines : List Line) (rs ss ts : LabReaders) → AreAt session capture xs rs
    → EachReader (HasTakenRoom lines) rs ss → EachReader (IsInformedBy c) ss ts → All (IsReady lines) (readers_of ts)
AreReady-informed session capture xs c lines rs ss ts are took informed =
    All-each (λ n t x. IsReady lines t) (IsReady lines) 0 (readers_of ts) xs (λ n t x is. is)
    (AreEach-moved (IsReaderAt session capture (spare_of rs) session.ring) (AreJoined (HasTakenRoom lines) (IsInformedBy c)) (λ n t x. IsReady lines t) 0 (readers_of rs) (readers_of ts) xs
    (λ n r t x is both. record {
      usable = CanRun-informed (ring_of rs) session.ring both.then.card both.between t x.0 (IsAt-same (ring_of rs) session.ring r both.between x.0 both.first.kept.same is.is.at) both.then.informed;
      room = HasRoom-informed both.then.card both.between t lines both.then.informed both.first.room;
    }) are.each (AreEach-joined (HasTakenRoom lines) (IsInformedBy c) 0 (readers_of rs) (readers_of ss) (readers_of ts) took.each informed.each))
