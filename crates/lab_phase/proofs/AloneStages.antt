-- A phase whose lines are all the card's: the stage after it is one of a run, with all clients and readers as they were.
use Rattle.lab_phase.specs.Prelude.{ap, arith, refl, subst, sym, ◌+◌, ◌∙◌, ◌≡◌, nat_tests, append-nil, cond, count_by, length, List, Option, Some, ℕ, [], ◌++◌}
use Rattle.lab_phase.specs.Prelude.{◌∷◌, player_key, player_ring, writer_geometry, writer_ring, Card, writer_of, Line, Row, is_of_card, held_of, phase_end}
use Rattle.lab_phase.specs.Prelude.{card_rows, is_reader, ops_by, Stage, CardActor, IsSameCard-none, IsSameCard, frame_of_card, seat_of_card, number_of, ops_of}
use Rattle.lab_phase.specs.Prelude.{has_lines, is_some_op, Lab, ops_by-alone_client, ops_by-alone_reader, same_asks-reaped_clients, same_asks-reaped_readers}
use Rattle.lab_phase.specs.Prelude.{AreActorsOf, capture_of, IsAtStage, IsNextItem, IsSameScript, played_of, session_of, IsCardIn, IsCardIn-after}
use Rattle.lab_phase.specs.Prelude.{IsCardIn-same, AreStopsOf, asks_of_lab, HasRunPhase, HaveSameAsks, IsLonger, PlaysAlone, RunsPhase, Stops}
use Rattle.std.proofs.lemmas.List.Sums.{sum_by-cons}
use Rattle.lab_lines.specs.declared.line.Op.{Op}
use Rattle.lab_clients.specs.Phase.{ClientsRest, clients-still}
use Rattle.lab_readers.specs.declared.reader.LabReader.{LabReader}
use Rattle.lab_readers.specs.Idle.{AreStill, readers-still}
use Rattle.lab_phase.proofs.PhaseStages.{phase-lines}
use Rattle.lab_lines.specs.declared.line.Item.TheVariants as item
use Rattle.lab_clients.specs.AtStage as clients
use Rattle.lab_readers.specs.AtStage as readers

-- one where there are lines, and none where there are not
abbrev busy_ops : List Op → ℕ
busy_ops ops = cond (is_some_op ops) 1 0

-- no reader of a list is busy where none of them has a line
idle-count : (lines : List Line) → ((number : ℕ) → ops_by (is_reader number) lines ≡ []) → (rs : List LabReader) → count_by (has_lines lines) rs ≡ 0
idle-count lines none [] = refl
idle-count lines none (r ∷ rs) =
    let rest = idle-count lines none rs in
    let own = ap (λ (ops : List Op). busy_ops ops) (none (number_of r)) in
    let all = sum_by-cons (λ (s : LabReader). busy_ops (ops_of s lines)) r rs in
    omega (arith, rest, own, all)

rows-nil : (xs ys : List Row) → xs ++ ys ++ [] ++ [] ≡ xs ++ ys
rows-nil xs ys = simp append-nil

module _ (lab after : Lab) (lines : List Line) (is : IsNextItem lab (item.Phase lines)) (alone : length (ops_by is_of_card lines) ≡ length lines) (a b : CardActor)
    (card_is : lab.card ≡ Some a) (card_then : after.card ≡ Some b) (clients_same : after.clients ≡ lab.clients) (readers_same : after.readers ≡ lab.readers)
    (plays : PlaysAlone (asks_of_lab lab lines) lab.rows.items after.rows.items a b) where
  module _ (stage : Stage) (at : IsAtStage lab stage) where
    actors-here : AreActorsOf (session_of lab) (capture_of lab) stage (Some a) lab.clients lab.readers
    actors-here = subst (λ (card : Option CardActor). AreActorsOf (session_of lab) (capture_of lab) stage card lab.clients lab.readers) card_is at.actors

    still-clients : ClientsRest (session_of lab) stage lines (held_of stage) stage.clients
    still-clients = clients-still (session_of lab) stage lines (held_of stage) stage.clients lab.clients at.actors.clients_are (λ n inside. ops_by-alone_client lines alone n)

    still-readers : AreStill (session_of lab) stage lines stage.readers
    still-readers =
        readers-still (session_of lab) stage (capture_of lab) lines stage.readers lab.readers at.actors.readers_are
        (idle-count lines (ops_by-alone_reader lines alone) (readers.readers_of lab.readers))

    abbrev next-alone : Stage
    next-alone = phase_end (session_of lab) stage lines (stage.clients, []) (stage.readers, [])

    card-roomy : IsCardIn (session_of lab) (capture_of lab) stage plays.roomy
    card-roomy = grind (arith, nat_tests)

    card-played : IsCardIn (session_of lab) (capture_of lab) next-alone plays.played
    card-played = IsCardIn-after (session_of lab) (capture_of lab) stage (lab.phases + 1) (length lab.script.now.clients) (length lab.script.now.readers) plays.roomy plays.played lines
        (stage.clients, []) (stage.readers, []) (phase-lines lab stage lines at is).each plays.part card-roomy

    card-after : IsCardIn (session_of lab) (capture_of lab) next-alone b
    card-after = IsCardIn-same (session_of lab) (capture_of lab) next-alone next-alone plays.played b
        (record { card = subst (IsSameCard plays.played.card) (sym plays.card_is) (IsSameCard-none plays.played.card); played = plays.samples_are })
        (record { phases = refl; position = refl; gone = refl }) card-played

    actors-alone : AreActorsOf (session_of lab) (capture_of lab) next-alone (Some b) lab.clients lab.readers
    actors-alone =
        let own = actors-here.card_is in
        let moves = plays.part.did.moves in
        record {
          card_is = record {
            is = card-after;
            rows = plays.none;
            rings = record {
              sum_ring = own.rings.sum_ring
                  ∙ sym (ap (λ (c : Card). player_ring (seat_of_card c)) plays.card_is ∙ (moves.player.ring ∙ ap (λ (c : Card). player_ring (seat_of_card c)) plays.same_card));
              sum_key = own.rings.sum_key
                  ∙ sym (ap (λ (c : Card). player_key (seat_of_card c)) plays.card_is ∙ (moves.player.key ∙ ap (λ (c : Card). player_key (seat_of_card c)) plays.same_card));
              snoop_ring = own.rings.snoop_ring
                  ∙ sym (ap (λ (c : Card). writer_ring (writer_of c)) plays.card_is ∙ (moves.writer.ring ∙ ap (λ (c : Card). writer_ring (writer_of c)) plays.same_card));
              snoop_geometry = own.rings.snoop_geometry
                  ∙ sym (ap (λ (c : Card). writer_geometry (writer_of c)) plays.card_is
                  ∙ (moves.writer.geometry ∙ ap (λ (c : Card). writer_geometry (writer_of c)) plays.same_card));
            };
            all_places = own.all_places;
          };
          clients_are = rw (still-clients.same_held, still-clients.same_clients) at.actors.clients_are;
          readers_are = rw still-readers.reaped at.actors.readers_are;
        }

    rows-alone : after.rows.items ≡ next-alone.rows
    rows-alone =
        let ops = ops_by is_of_card lines in
        let none : plays.roomy.rows.items ≡ [] = plays.same_rows ∙ actors-here.card_is.rows in
        let frame : frame_of_card plays.roomy.card ≡ stage.position = card-roomy.at.frame in
        let own : plays.played.rows.items ≡ card_rows (stage.phases + 1) stage.position ops =
        plays.part.rows
        ∙ (ap (λ (rows : List Row). rows ++ card_rows (lab.phases + 1) (frame_of_card plays.roomy.card) ops) none
        ∙ (ap (λ (n : ℕ). card_rows (n + 1) (frame_of_card plays.roomy.card) ops) at.phases ∙ ap (λ (n : ℕ). card_rows (stage.phases + 1) n ops) frame)) in
        plays.all
        ∙ (ap (λ (rows : List Row). lab.rows.items ++ rows) own
        ∙ (ap (λ (rows : List Row). rows ++ card_rows (stage.phases + 1) stage.position ops) at.rows
        ∙ sym (rows-nil stage.rows (card_rows (stage.phases + 1) stage.position ops))))

    has-run-alone : (base stops : Stops) → AreStopsOf base stops stage → HasRunPhase HaveSameAsks base stops lab stage lines after
    has-run-alone base stops counted = record {
      next = next-alone;
      may = record {
        clients = stage.clients;
        client_rows = [];
        readers = stage.readers;
        reader_rows = [];
        clients_may = still-clients.may;
        readers_may = still-readers.may;
        is = refl;
      };
      actors =
          rw (card_then, clients_same, readers_same) actors-alone;
      rows = rows-alone;
      counted = record {
        clients = rw still-clients.same_clients counted.clients;
        readers = rw still-readers.reaped counted.readers;
      };
      gates = record {
        clients = same_asks-reaped_clients (session_of lab).ring 0 stage.clients;
        readers = same_asks-reaped_readers (session_of lab).ring 0 stage.readers;
      };
    }

  played-alone : IsLonger (played_of lab) (played_of after)
  played-alone = grind (arith, nat_tests)

  pub RunsPhase-alone : IsSameScript lab after → after.phases ≡ lab.phases → after.next ≡ lab.next → after.room ≡ lab.room → (stops : Stops)
      → RunsPhase HaveSameAsks stops stops lab lines after
  RunsPhase-alone same phases next room stops = record {
    same = same;
    phases = phases;
    next = next;
    room = room;
    few = plays.few;
    played = played-alone;
    does = λ stage base at counted. has-run-alone stage at base stops counted;
  }
