-- A phase of a lab is one that a run allows, and its actors are those of the next stage after it.
use Rattle.std.specs.Prelude.{◌≡◌, ℕ, suc, ◌+◌, ◌<◌, ◌≤◌, false, true, List, [], ◌∷◌, ◌++◌, length, Option, Some}
use Rattle.std.specs.List.{flat_map}
use Rattle.std.proofs.Common.{refl, sym, ap, subst, ◌∙◌, arith}
use Rattle.std.proofs.lemmas.Bool.{lt-ltb}
use Rattle.std.proofs.lemmas.List.{length-append}
use Rattle.mix_core.specs.declared.gate.Gate as gate
use Rattle.wav_io.specs.Sound.{Sound}
use Rattle.card_sim.specs.Runs.{records_of}
use Rattle.lab_lines.specs.declared.line.Line.{Line}
use Rattle.lab_lines.specs.declared.line.Op.{Op}
use Rattle.lab_lines.specs.Limits.{IsPhase}
use Rattle.lab_lines.specs.Script.{is_of_card, played_by}
use Rattle.lab_lines.specs.declared.row.Row.{Row}
use Rattle.lab_run.specs.Client.{Client}
use Rattle.lab_run.specs.Items.{PhaseMay, held_of, phase_end}
use Rattle.lab_run.specs.Phases.{card_rows, ops_by}
use Rattle.lab_run.specs.Reader.{Reader}
use Rattle.lab_run.specs.Rules.{AtPort}
use Rattle.lab_run.specs.Stage.{Session, Stage}
use Rattle.lab_actors.specs.Gates.{AreCounted, HaveAskedMore, stops_at}
use Rattle.lab_actors.specs.Rows.{lines-most}
use Rattle.lab_card.specs.declared.card.CardActor.{CardActor}
use Rattle.lab_card.specs.CardLines.{unplugs_by}
use Rattle.lab_card.specs.Findings.{CardPhase}
use Rattle.lab_card.specs.MeetLaws.{CardPhase-between, IsSameCard-none}
use Rattle.lab_card.specs.Meets.{IsSameCard}
use Rattle.lab_card.specs.Moves.{frame_of_card}
use Rattle.lab_card.specs.Stages.{IsCardAt-same}
use Rattle.lab_places.specs.Held.{key_of_places, ring_of_places}
use Rattle.lab_clients.specs.OneClient as client
use Rattle.lab_clients.specs.declared.clients.LabClients.{LabClients}
use Rattle.lab_clients.specs.AtStage as clients
use Rattle.lab_clients.specs.Phase.{CardInPhase, ClientSteps, ClientsPhase, PhaseLaws, clients-phase, length-client_rows}
use Rattle.lab_readers.specs.OneReaderLaws.{IsOver}
use Rattle.lab_readers.specs.OneReader as reader
use Rattle.lab_readers.specs.RecordedLaws.{IsCapturedUpTo-same}
use Rattle.lab_readers.specs.declared.readers.LabReaders.{LabReaders}
use Rattle.lab_readers.specs.AtStage as readers
use Rattle.lab_readers.specs.Phase.{ReaderPartsAreRuns, ReadersMay, ReadersSteps, length-reader_rows, readers-phase}
use Rattle.lab_phase.specs.AtStage.{AreActorsOf}
use Rattle.lab_phase.specs.CardStage.{IsCardIn, IsCardIn-after, IsCardIn-same}
use Rattle.lab_phase.specs.PhaseSteps.{Asks, HaveGivenRows, HaveMet, HaveRoom, rows_by}

-- what a phase asks at a stage
abbrev pub asks_at : Session → Option Sound → Stage → List Line → Asks
asks_at session capture stage lines = record { sounds = session.sounds; capture = capture; phase = stage.phases + 1; lines = lines }

-- what a phase of clients and one of readers rest on
pub record ActorLaws : Type 0 where
  pub clients : PhaseLaws
  pub readers : ReaderPartsAreRuns

-- The actors did the lines of a phase as a run allows it, with these rows more, and none that was stopped is reaped yet. Their gates had stopped them
-- so often before the lab began, and were asked.
pub record HaveDone (session : Session) (capture : Option Sound) (stage : Stage) (lines : List Line) (client_base client_stops reader_base reader_stops : ℕ → ℕ)
    (ClientsAsked : List (AtPort × Client) → List (AtPort × Client) → Type 0) (ReadersAsked : List (AtPort × Reader) → List (AtPort × Reader) → Type 0) (a : CardActor) (cs : LabClients) (rs : LabReaders) (rows : List Row) : Type 0 where
  pub next_clients : List (AtPort × Client)
  pub client_rows : List Row
  pub next_readers : List (AtPort × Reader)
  pub reader_rows : List Row
  pub may : PhaseMay session stage lines (phase_end session stage lines (next_clients, client_rows) (next_readers, reader_rows))
  pub card : IsCardIn session capture (phase_end session stage lines (next_clients, client_rows) (next_readers, reader_rows)) a
  pub card_rows_none : a.rows.items ≡ []
  pub clients : clients.AreDone session (held_of stage) next_clients cs
  pub readers : readers.AreDone session capture next_readers rs
  pub clients_counted : AreCounted client_base client_stops 0 next_clients
  pub readers_counted : AreCounted reader_base reader_stops 0 next_readers
  pub clients_asked : ClientsAsked stage.clients next_clients
  pub readers_asked : ReadersAsked stage.readers next_readers
  pub rows_are : rows ≡ card_rows (stage.phases + 1) stage.position (ops_by is_of_card lines) ++ client_rows ++ reader_rows

-- the card has a row for each of its lines
pub length-card_rows : (phase position : ℕ) (ops : List Op) → length (card_rows phase position ops) ≡ length ops
length-card_rows phase position [] = refl
length-card_rows phase position (asked ∷ more) = ap suc (length-card_rows phase (position + played_by asked) more)

module _ (session : Session) (capture : Option Sound) (stage : Stage) (lines : List Line) (laws : ActorLaws) (client_count reader_count : ℕ)
    (phase : IsPhase client_count reader_count lines) (plugged : unplugs_by (ops_by is_of_card lines) ≡ false) {T : Type 0} (G : gate.Ghosts T) (near near_after far far_after : List T)
    (a0 a1 f : CardActor) (cs0 cs1 fs : LabClients) (rs0 rs1 gs : LabReaders) (are : AreActorsOf session capture stage (Some a0) cs0 rs0) (room : HaveRoom lines a0 a1 cs0 cs1 rs0 rs1)
    (met : HaveMet G near near_after far far_after (asks_at session capture stage lines) a1 cs1 rs1 f fs gs) where
  -- the card before the meets is the lab's
  at-room : IsCardIn session capture stage a1
  at-room = IsCardIn-same session capture stage stage a0 a1
      (record { card = subst (IsSameCard a0.card) (sym room.card) (IsSameCard-none a0.card); played = room.played })
      (record { phases = refl; position = refl; gone = refl }) are.card_is.is

  card-phase : CardPhase capture (stage.phases + 1) a1.card met.before met.after met.after.card lines
  card-phase = record {
    rests = at-room.rests;
    before = met.second.card;
    part = met.run.card;
    plugged = plugged;
    after = IsSameCard-none met.after.card;
  }

  at-before : IsCardIn session capture stage met.before
  at-before = IsCardIn-same session capture stage stage a1 met.before (record { card = met.second.card; played = ap (λ v. v.items) met.second.played })
      (record { phases = refl; position = refl; gone = refl }) at-room

  card-in : CardInPhase session stage lines (ring_of_places (clients.places_of cs0)) (key_of_places (clients.places_of cs0)) a1.card met.after.card
  card-in = record {
    capture = capture;
    before = met.before;
    after = met.after;
    phase = card-phase;
    at = at-room.at;
    of_ring = record {
      of_ring = ap (λ c. Rattle.sum_table.specs.Players.player_ring (Rattle.lab_card.specs.Moves.seat_of_card c)) room.card ∙ sym are.card_is.rings.sum_ring;
      of_key = ap (λ c. Rattle.sum_table.specs.Players.player_key (Rattle.lab_card.specs.Moves.seat_of_card c)) room.card ∙ sym are.card_is.rings.sum_key;
    };
  }

  client-steps : ClientSteps G near near_after session.sounds (stage.phases + 1) lines a1.card met.after.card cs0 fs
  client-steps = record {
    roomy = cs1;
    informed = met.informed_clients;
    run = met.run_clients;
    take_room = room.clients;
    inform = met.inform_clients;
    run_lines = met.run.clients.each;
    hear = met.hear_clients;
  }

  reader-steps : ReadersSteps G far far_after met.between met.heard (stage.phases + 1) lines rs0 gs
  reader-steps = record {
    roomy = rs1;
    informed = met.informed_readers;
    run = met.run_readers;
    take_room = room.readers;
    inform = met.inform_readers;
    run_lines = met.run.readers;
    hear = met.hear_readers;
  }

  -- the card as its meets with the readers find it
  reader-phase : CardPhase capture (stage.phases + 1) met.between met.before met.after met.heard lines
  reader-phase = CardPhase-between capture (stage.phases + 1) a1.card met.before met.after met.after.card met.between met.heard lines met.first met.third card-phase

  over-between : IsOver (readers.ring_of rs0) session.ring met.between
  over-between = record {
    of_ring = met.first.writer.ring ∙ (ap (λ c. Rattle.snoop_table.specs.Writers.writer_ring (Rattle.card_sim.specs.Runs.writer_of c)) room.card
        ∙ sym are.card_is.rings.snoop_ring);
    of_geometry = met.first.writer.geometry ∙ (ap (λ c. Rattle.snoop_table.specs.Writers.writer_geometry (Rattle.card_sim.specs.Runs.writer_of c)) room.card
        ∙ (sym are.card_is.rings.snoop_geometry ∙ are.readers_are.card.ring));
  }

  -- where there is a reader the card stores what it captures
  records-met : length stage.readers ≡ length session.readers → 0 < length stage.readers → records_of met.between ≡ true
  records-met count some = met.first.records ∙ (at-room.records ∙ lt-ltb 0 (length session.readers) (omega (arith, count, some)))

  card-rows : f.rows.items ≡ card_rows (stage.phases + 1) stage.position (ops_by is_of_card lines)
  card-rows =
      ap (λ v. v.items) met.last.rows
      ∙ (met.run.card.rows
      ∙ (ap (λ (rs : List Row). rs ++ card_rows (stage.phases + 1) (frame_of_card met.before.card) (ops_by is_of_card lines))
      (ap (λ v. v.items) met.second.rows ∙ (room.rows ∙ are.card_is.rows))
      ∙ ap (λ (n : ℕ). card_rows (stage.phases + 1) n (ops_by is_of_card lines)) at-before.at.frame))

  module _ (client_base reader_base : ℕ → ℕ) (files : length session.sounds ≡ length stage.clients) (count : length stage.readers ≡ length session.readers)
      (near_counted : AreCounted client_base (stops_at G.stops near) 0 stage.clients) (far_counted : AreCounted reader_base (stops_at G.stops far) 0 stage.readers) where
    -- the actors have no more rows of a phase than it has lines
    pub few-rows : length (rows_by f fs gs) ≤ length lines
    few-rows =
        let own = ap length card-rows ∙ length-card_rows (stage.phases + 1) stage.position (ops_by is_of_card lines) in
        let of_clients =
        length-client_rows session stage lines (held_of stage) stage.clients client_base laws.clients G near near_after a1.card met.after.card cs0 fs files are.clients_are
        card-in near_counted client-steps in
        let of_readers =
        length-reader_rows session stage capture lines reader_base G far far_after met.between met.before met.after met.heard reader-phase
        (IsCardAt-same session stage a1.card met.between met.first at-room.at) (IsCapturedUpTo-same capture a1.card met.between met.first at-room.captured) laws.readers
        stage.readers rs0 gs (records-met count) over-between are.readers_are far_counted reader-steps in
        let all = length-append (f.rows.items ++ flat_map client.rows_of (clients.clients_of fs)) (flat_map reader.rows_of (readers.readers_of gs)) in
        let first = length-append f.rows.items (flat_map client.rows_of (clients.clients_of fs)) in
        let most = lines-most lines (length stage.clients) (length stage.readers) in
        omega (arith, own, of_clients, of_readers, all, first, most)

    module _ (b : CardActor) (ds : LabClients) (ss : LabReaders) (rows after : List Row) (given : HaveGivenRows rows after f b fs ds gs ss) where
      clients-done : ClientsPhase session stage lines (held_of stage) client_base (stops_at G.stops near_after) (HaveAskedMore G.asked near near_after) stage.clients (flat_map client.rows_of (clients.clients_of fs)) ds
      clients-done =
          clients-phase session stage lines (held_of stage) stage.clients client_base laws.clients G near near_after a1.card met.after.card cs0 fs files are.clients_are
          card-in near_counted client-steps ds given.clients (given.places ∙ (met.places ∙ room.places))

      readers-done : ReadersMay session stage capture lines reader_base (stops_at G.stops far_after) (HaveAskedMore G.asked far far_after) stage.readers (flat_map reader.rows_of (readers.readers_of gs)) ss
      readers-done =
          readers-phase session stage capture lines reader_base G far far_after met.between met.before met.after met.heard reader-phase
          (IsCardAt-same session stage a1.card met.between met.first at-room.at) (IsCapturedUpTo-same capture a1.card met.between met.first at-room.captured) laws.readers
          stage.readers rs0 gs (records-met count) over-between are.readers_are far_counted reader-steps ss given.readers

      pub have-done : HaveDone session capture stage lines client_base (stops_at G.stops near_after) reader_base (stops_at G.stops far_after) (HaveAskedMore G.asked near near_after)
          (HaveAskedMore G.asked far far_after) b ds ss (rows_by f fs gs)
      have-done =
          let client_rows : List Row = flat_map client.rows_of (clients.clients_of fs) in
          let reader_rows : List Row = flat_map reader.rows_of (readers.readers_of gs) in
          record {
            next_clients = clients-done.next;
            client_rows = client_rows;
            next_readers = readers-done.next;
            reader_rows = reader_rows;
            may = record {
              clients = clients-done.next;
              client_rows = client_rows;
              readers = readers-done.next;
              reader_rows = reader_rows;
              clients_may = clients-done.may;
              readers_may = readers-done.may;
              is = refl;
            };
            card = IsCardIn-same session capture (phase_end session stage lines (clients-done.next, client_rows) (readers-done.next, reader_rows))
                (phase_end session stage lines (clients-done.next, client_rows) (readers-done.next, reader_rows)) met.after b
                (record {
                  card = subst (IsSameCard met.after.card) (sym given.card) met.last.card;
                  played = ap (λ v. v.items) given.played ∙ ap (λ v. v.items) met.last.played;
                })
                (record { phases = refl; position = refl; gone = refl })
                (IsCardIn-after session capture stage (stage.phases + 1) client_count reader_count met.before met.after lines (clients-done.next, client_rows)
                (readers-done.next, reader_rows) phase.each met.run.card at-before);
            card_rows_none = given.none;
            clients = clients-done.are;
            readers = readers-done.done;
            clients_counted = clients-done.counted;
            readers_counted = readers-done.counted;
            clients_asked = clients-done.asked;
            readers_asked = readers-done.asked;
            rows_are = ap (λ (rs : List Row). rs ++ client_rows ++ reader_rows) card-rows;
          }
