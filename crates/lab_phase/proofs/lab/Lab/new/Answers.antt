use Rattle.lab_phase.specs.Prelude.{ap, arith, refl, subst, sym, ◌+◌, ◌∙◌, ◌≡◌, option_copied, length, nat_lt, Option, ℕ, [], player_key, player_ring, key_of}
use Rattle.lab_phase.specs.Prelude.{ReaderSeat, writer_geometry, writer_ring, Card, period_of, records_of, writer_of, Sound, Session, CardActor, seat_of_card}
use Rattle.lab_phase.specs.Prelude.{session_with, has_readers, HasReportRoom, HasReportRoom-fewer}
use Rattle.sum_table.specs.declared.view.Key.{Key}
use Rattle.card_player.specs.declared.player.CardPlayer.{CardPlayer}
use Rattle.card_player.specs.Plays.{seat_of}
use Rattle.lab_run.proofs.OneSession.{IsRingOf-unique}
use Rattle.lab_phase.proofs.Beginning.{IsCardIn-new}
use Rattle.lab_phase.proofs.FirstSetups.{AllFitCard-session, AreUsable-ring, first_frame-ring}
use Rattle.lab_phase.proofs.StageLaws.{AreClientOpenings-length, AreReaderOpenings-length}
use Rattle.snoop_table.specs.Readers as seats
use Rattle.lab_phase.proofs.lab.Lab.new.Goals as goal

pub returns-clause-first : goal.returns-clause-first
returns-clause-first c =
    let script = c.args.script.now in
    let session : Session = session_with script c.args.wavs.now c.in_ok-openings.openings in
    let capture : Option Sound = option_copied c.args.capture in
    let is = c.in_ok-openings.ensures.session in
    let shape : (key_of c.args.mix).geometry ≡ session.ring = IsRingOf-unique script.card (key_of c.args.mix).geometry session.ring c.requires.ring is.ring in
    let first = first_frame-ring session.card session.ring is.ring in
    let a : CardActor = c.new-4.result in
    let seat : seat_of_card a.card ≡ c.args.player =
    ap (λ (d : Card). seat_of_card d) c.new-4.ensures.card ∙ (ap (λ (p : CardPlayer). seat_of p) c.with_records-card.ensures.player ∙ c.new-player.ensures.seat) in
    let writer : writer_of a.card ≡ c.args.writer = ap (λ (d : Card). writer_of d) c.new-4.ensures.card ∙ c.with_records-card.ensures.writer in
    let period : period_of a.card ≡ session.card.period = ap (λ (d : Card). period_of d) c.new-4.ensures.card ∙ c.with_records-card.ensures.period in
    let count : length session.readers ≡ length c.as_slice-count.result.now =
    AreReaderOpenings-length script.card script.readers session.readers is.readers ∙ ap length (sym c.as_slice-count.ensures) in
    let records : records_of a.card ≡ has_readers session =
    ap (λ (d : Card). records_of d) c.new-4.ensures.card ∙ (c.with_records-card.ensures.records ∙ ap (λ (n : ℕ). nat_lt 0 n) (sym count)) in
    let usable_clients = AreUsable-ring script.card session.ring session.clients is.ring c.in_ok-openings.ensures.clients in
    let usable_readers = AreUsable-ring script.card session.ring session.readers is.ring c.in_ok-openings.ensures.readers in
    record {
      actors = record {
        card_is = record {
          is = IsCardIn-new session capture a (key_of c.args.mix) c.args.player c.args.mix (seats.geometry_of c.args.reader) c.args.writer c.args.reader c.requires.sum_ring
              c.requires.snoop_ring seat writer period records shape first (ap (λ v. v) c.new-4.ensures.played);
          rows = c.new-4.ensures.rows;
          rings = record {
            sum_ring = c.in_ok-clients.ensures.ring ∙ (sym c.requires.sum_ring.one_ring ∙ ap player_ring (sym seat));
            sum_key = c.in_ok-clients.ensures.key ∙ (sym c.requires.sum_ring.player_key ∙ ap player_key (sym seat));
            snoop_ring = ap (λ (s : ReaderSeat). seats.ring_of s) c.in_ok-readers.ensures.spare ∙ (sym c.requires.snoop_ring.one_ring ∙ ap writer_ring (sym writer));
            snoop_geometry = ap (λ (s : ReaderSeat). seats.geometry_of s) c.in_ok-readers.ensures.spare
                ∙ (sym c.requires.snoop_ring.of_writer ∙ ap writer_geometry (sym writer));
          };
          all_places = ap (λ (key : Key). key.places) c.in_ok-clients.ensures.key ∙ c.requires.places;
        };
        clients_are = c.in_ok-clients.ensures.first session
            (record {
              setups = AllFitCard-session session script.clients c.args.wavs.now refl is.clients usable_clients;
              ring = shape;
              places = c.requires.sum_ring.places ∙ c.requires.places;
              first = first;
              share_is = refl;
            })
            ((AreClientOpenings-length script.card script.clients c.args.wavs.now session.clients is.clients).0 ∙ ap length (sym c.as_slice.ensures));
        readers_are = c.in_ok-readers.ensures.first session capture
            (record {
              card = record { ring = c.requires.one_shape ∙ shape; first = first };
              usable = usable_readers;
              count_is = count;
            });
      };
      rows = c.new-5.ensures.items;
      phases = refl;
      has_done = record {
        done = [];
        others = script.body;
        next = refl;
        reached = record { script_is = c.requires.script; session_is = is; body = refl; may = refl };
      };
      set_up = record { clients = c.in_ok-openings.ensures.clients; readers = c.in_ok-openings.ensures.readers };
      room =
          let none = ap length c.new-5.ensures.items in
          subst (λ (n : ℕ). HasReportRoom (length c.new-5.result.items + 0) n c.in_ok-room.room) (ap length c.as_slice-count.ensures)
          (HasReportRoom-fewer 0 (length c.new-5.result.items + 0) (length c.as_slice-count.result.now) c.in_ok-room.room (omega (arith, none)) c.in_ok-room.ensures);
    }
