-- The readers of the lab once the stopped ones are reaped.
use Rattle.std.specs.Prelude.{◌≡◌, ℕ, Bool, true, false, List, map, Option, None, slice_index_or}
use Rattle.std.proofs.Common.{refl, sym, ap, subst, ◌∙◌}
use Rattle.snoop_table.specs.declared.seats.reader.ReaderSeat.{ReaderSeat}
use Rattle.snoop_table.specs.Readers as seats
use Rattle.wav_io.specs.Sound.{Sound}
use Rattle.lab_run.specs.Items.{is_reader_stopped, reaped_reader, reaped_reader_if}
use Rattle.lab_run.specs.LabRun.{bindings_of}
use Rattle.lab_run.specs.Reader.{Reader}
use Rattle.lab_run.specs.Rules.{AtPort}
use Rattle.lab_run.specs.Stage.{Session}
use Rattle.lab_readers.specs.declared.reader.LabReader.{LabReader}
use Rattle.lab_readers.specs.OneOpeningLaws.{IsAt-closed, IsRecorded-closed, reader_in-closed}
use Rattle.lab_readers.specs.declared.lines.ReaderActor.{ReaderActor}
use Rattle.lab_readers.specs.declared.readers.LabReaders.{LabReaders}
use Rattle.lab_readers.specs.AtStage.{AreAt, AreDone, IsLaterSpare, IsReaderAt, IsReaderDone, readers_of, spare_of}
use Rattle.lab_readers.specs.Kept.{IsReaderIn-later}
use Rattle.lab_actors.specs.EachLaws.{AreEach-image, AreEach-moved}
use Rattle.lab_readers.specs.Steps.{AreReaped, ClosesInto, IsReaped}

module _ (session : Session) (capture : Option Sound) (spare later : ReaderSeat) (more : IsLaterSpare spare later) (number : ℕ) (r s : LabReader) (x : AtPort × Reader)
    (done : IsReaderDone session capture spare session.ring number r x) where
  -- a reader that is closed is the one of a run that is closed
  pub IsReaderAt-closed : ClosesInto later r s → IsReaderAt session capture later session.ring number s (reaped_reader_if true session.ring x)
  IsReaderAt-closed closes = record {
    is = record {
      numbered = ap (λ (actor : ReaderActor). actor.number) closes.closed.actor ∙ done.is.numbered;
      reader = reader_in-closed closes.seat r s closes.closed ∙ ap (λ (reader : Reader). record reader { own = None }) done.is.reader;
      at = IsAt-closed (seats.ring_of later) session.ring x.0.by_gate x.0.at_gate closes.seat r s closes.closed;
      recorded = IsRecorded-closed capture session.ring (bindings_of (slice_index_or session.readers number None)) (seats.view_of spare).got (seats.view_of later).got closes.seat r s
          closes.closed more.got closes.got done.is.recorded;
    };
    goes = refl;
    rows = ap (λ (actor : ReaderActor). actor.rows.items) closes.closed.actor ∙ done.rows;
  }

  reaped-by : (b : Bool) → is_reader_stopped x.1.own ≡ b → IsReaped later number r s
      → IsReaderAt session capture later session.ring number s (reaped_reader_if b session.ring x)
  reaped-by true is reaped = IsReaderAt-closed (reaped.stopped (ap (λ (reader : Reader). is_reader_stopped reader.own) done.is.reader ∙ is))
  reaped-by false is reaped =
      let same : s ≡ r = reaped.goes (ap (λ (reader : Reader). is_reader_stopped reader.own) done.is.reader ∙ is) in
      subst (λ (t : LabReader). IsReaderAt session capture later session.ring number t x) (sym same)
      (record { is = IsReaderIn-later session capture spare later number r x more done.is; goes = is; rows = done.rows })

  pub IsReaderAt-reaped : IsReaped later number r s → IsReaderAt session capture later session.ring number s (reaped_reader session.ring x)
  IsReaderAt-reaped = reaped-by (is_reader_stopped x.1.own) refl

-- All readers are at the end of their phase once the stopped ones are reaped.
pub AreAt-reaped : (session : Session) (capture : Option Sound) (xs : List (AtPort × Reader)) (rs ss : LabReaders) → AreDone session capture xs rs → AreReaped rs ss
    → AreAt session capture (map (reaped_reader session.ring) xs) ss
AreAt-reaped session capture xs rs ss done reaped = record {
  card = record { ring = reaped.spare.same_ring.1 ∙ done.card.ring; first = done.card.first };
  each = AreEach-image (λ n s x. IsReaderAt session capture (spare_of ss) session.ring n s (reaped_reader session.ring x)) (IsReaderAt session capture (spare_of ss) session.ring)
      (reaped_reader session.ring) 0 (readers_of ss) xs (λ n s x is. is)
      (AreEach-moved (IsReaderDone session capture (spare_of rs) session.ring) (IsReaped (spare_of ss))
      (λ n s x. IsReaderAt session capture (spare_of ss) session.ring n s (reaped_reader session.ring x)) 0 (readers_of rs) (readers_of ss) xs
      (λ n r s x is became. IsReaderAt-reaped session capture (spare_of rs) (spare_of ss) reaped.spare n r s x is became) done.each reaped.each);
}
