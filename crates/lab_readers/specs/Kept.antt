-- Readers that are as they were, but for their room, are those of the same stage.
use Rattle.std.specs.Prelude.{ℕ, List, All, Contains, Option, Some, None, slice_index_or}
use Rattle.std.proofs.Common.{refl, sym, ap, subst, ◌∙◌}
use Rattle.std.proofs.lemmas.List.Elements.{All-contains, All-contains_itself, Contains-append_left, Contains-append_right}
use Rattle.atomic_table.specs.Seated.{TableId}
use Rattle.snoop_table.specs.declared.seats.reader.ReaderSeat.{ReaderSeat}
use Rattle.snoop_table.specs.declared.view.View.{View}
use Rattle.snoop_table.specs.Joins.{HasJoined}
use Rattle.snoop_table.specs.Readers as seats
use Rattle.wav_io.specs.Sound.{Sound}
use Rattle.lab_run.specs.LabRun.{bindings_of}
use Rattle.lab_run.specs.Reader.{Reader}
use Rattle.lab_run.specs.Rules.{AtPort}
use Rattle.lab_run.specs.Stage.{Session}
use Rattle.lab_actors.specs.Walks.{AreEach}
use Rattle.lab_card.specs.Meets.{IsSameReader}
use Rattle.lab_readers.specs.declared.reader.LabReader.{LabReader}
use Rattle.lab_readers.specs.OneOpeningLaws.{IsAt-same, IsRecorded-more, IsRecorded-same, reader_in-same}
use Rattle.lab_readers.specs.OneReader.{IsAt, OnSeat}
use Rattle.lab_readers.specs.declared.readers.LabReaders.{LabReaders}
use Rattle.lab_readers.specs.AtStage.{AreAt, HasGotAllOf, IsLaterSpare, IsOfRing, IsReaderAt, IsReaderIn, readers_of, spare_of}
use Rattle.lab_actors.specs.EachLaws.{AreEach-moved}
use Rattle.lab_readers.specs.Steps.{EachReader, IsSameWithRows, IsReaped}
use Rattle.lab_readers.specs.OpenReader.{IsSameBut}

-- it is the same reader of a run
pub IsReaderIn-same : (session : Session) (capture : Option Sound) (spare : ReaderSeat) (number : ℕ) (r s : LabReader) (x : AtPort × Reader) → IsSameBut r s
    → IsReaderIn session capture spare session.ring number r x → IsReaderIn session capture spare session.ring number s x
IsReaderIn-same session capture spare number r s x same is = record {
  numbered = same.file.number ∙ is.numbered;
  reader = reader_in-same r s same ∙ is.reader;
  at = IsAt-same (seats.ring_of spare) session.ring r s x.0 same is.at;
  recorded = IsRecorded-same capture session.ring (bindings_of (slice_index_or session.readers number None)) (seats.view_of spare).got r s same is.recorded;
}

pub AreAt-kept : (session : Session) (capture : Option Sound) (xs : List (AtPort × Reader)) (rs ss : LabReaders) → EachReader IsSameWithRows rs ss → AreAt session capture xs rs
    → AreAt session capture xs ss
AreAt-kept session capture xs rs ss kept are = record {
  card = record { ring = ap seats.geometry_of kept.spare ∙ are.card.ring; first = are.card.first };
  each = subst (λ (own : ReaderSeat). AreEach (IsReaderAt session capture own session.ring) 0 (readers_of ss) xs) (sym kept.spare)
      (AreEach-moved (IsReaderAt session capture (spare_of rs) session.ring) IsSameWithRows (IsReaderAt session capture (spare_of rs) session.ring) 0 (readers_of rs) (readers_of ss) xs
      (λ n r s x is has. record { is = IsReaderIn-same session capture (spare_of rs) n r s x has.same is.is; goes = is.goes; rows = has.rows ∙ is.rows }) are.each kept.each);
}

-- ---- the spare seat

-- a seat has got all that one got of which another one has got all
HasGotAllOf-joined : (p q r : ReaderSeat) → HasGotAllOf p q → HasGotAllOf q r → HasGotAllOf p r
HasGotAllOf-joined p q r first then =
    λ k d inside. All-contains (Contains (seats.view_of r).got) (seats.view_of q).got (slice_index_or (seats.view_of p).got k d) then (first k d inside)

pub IsLaterSpare-same : (s t : ReaderSeat) → IsSameReader s t → IsLaterSpare s t
IsLaterSpare-same s t same = record {
  same_ring = (same.ring, same.geometry);
  got = subst (λ (v : View). All (Contains v.got) (seats.view_of s).got) (sym same.view) (All-contains_itself (seats.view_of s).got);
}

pub IsLaterSpare-none : (s : ReaderSeat) → IsLaterSpare s s
IsLaterSpare-none s = record { same_ring = (refl, refl); got = All-contains_itself (seats.view_of s).got }

pub IsLaterSpare-joined : (p q r : ReaderSeat) → IsLaterSpare p q → IsLaterSpare q r → IsLaterSpare p r
IsLaterSpare-joined p q r first then = record {
  same_ring = (then.same_ring.0 ∙ first.same_ring.0, then.same_ring.1 ∙ first.same_ring.1);
  got = HasGotAllOf-joined p q r first.got then.got;
}

-- one that took a seat over has got all that the seat had got
pub IsLaterSpare-join : (spare later seat : ReaderSeat) → HasJoined spare later seat → IsLaterSpare spare later
IsLaterSpare-join spare later seat joined = record {
  same_ring = (joined.ring, joined.geometry);
  got = subst (λ (v : View). All (Contains v.got) (seats.view_of spare).got) (sym joined.view)
      (λ k d inside. Contains-append_left (seats.view_of spare).got (seats.view_of seat).got (slice_index_or (seats.view_of spare).got k d)
      (All-contains_itself (seats.view_of spare).got k d inside));
}

pub HasGotAllOf-join : (spare later seat : ReaderSeat) → HasJoined spare later seat → HasGotAllOf seat later
HasGotAllOf-join spare later seat joined =
    subst (λ (v : View). All (Contains v.got) (seats.view_of seat).got) (sym joined.view)
    (λ k d inside. Contains-append_right (seats.view_of spare).got (seats.view_of seat).got (slice_index_or (seats.view_of seat).got k d)
    (All-contains_itself (seats.view_of seat).got k d inside))

-- a reader stays the one of a run, whichever seats the spare seat takes over
pub IsReaderIn-later : (session : Session) (capture : Option Sound) (spare later : ReaderSeat) (number : ℕ) (r : LabReader) (x : AtPort × Reader) → IsLaterSpare spare later
    → IsReaderIn session capture spare session.ring number r x → IsReaderIn session capture later session.ring number r x
IsReaderIn-later session capture spare later number r x more is = record {
  numbered = is.numbered;
  reader = is.reader;
  at = subst (λ (ring : TableId). IsAt ring session.ring r x.0) (sym more.same_ring.0) is.at;
  recorded = IsRecorded-more capture session.ring (bindings_of (slice_index_or session.readers number None)) (seats.view_of spare).got (seats.view_of later).got r more.got is.recorded;
}

pub IsReaderAt-later : (session : Session) (capture : Option Sound) (spare later : ReaderSeat) (number : ℕ) (r : LabReader) (x : AtPort × Reader) → IsLaterSpare spare later
    → IsReaderAt session capture spare session.ring number r x → IsReaderAt session capture later session.ring number r x
IsReaderAt-later session capture spare later number r x more is = record {
  is = IsReaderIn-later session capture spare later number r x more is.is;
  goes = is.goes;
  rows = is.rows;
}

-- its seat stays of the spare seat's ring
pub IsOfRing-later : (spare later : ReaderSeat) (r : LabReader) → IsLaterSpare spare later → IsOfRing spare r → IsOfRing later r
IsOfRing-later spare later r more is = by_seat r.seat is
  where
    by_seat : (p : Option ReaderSeat) → OnSeat p (seats.SameReader spare) → OnSeat p (seats.SameReader later)
    by_seat None on = tt
    by_seat (Some s) on = (on.0 ∙ sym more.same_ring.0, on.1 ∙ sym more.same_ring.1)

-- what was reaped stays so, likewise
pub IsReaped-later : (spare later : ReaderSeat) (number : ℕ) (r s : LabReader) → IsLaterSpare spare later → IsReaped spare number r s → IsReaped later number r s
IsReaped-later spare later number r s more reaped = record {
  stopped = λ is. let closes = reaped.stopped is in
      record { seat = closes.seat; closed = closes.closed; got = HasGotAllOf-joined closes.seat spare later closes.got more.got };
  goes = reaped.goes;
}
