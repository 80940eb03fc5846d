-- A phase of a lab: what its script says of it, and that the stage after it is one of a run.
use Rattle.lab_phase.specs.Prelude.{ap, append_assoc, arith, subst, sym, ◌+◌, ◌<◌, ◌∙◌, ◌≡◌, nat_tests, Vec, flat_map, drop, length, List, map, Option}
use Rattle.lab_phase.specs.Prelude.{slice_get, Some, take, ℕ, [], ◌++◌, ◌∷◌, ◌≢◌, ◌≤◌, Geometry, Item, Line, Row, IsPhase, is_of_card, phases_of, held_of}
use Rattle.lab_phase.specs.Prelude.{phase_end, reaped_client, reaped_reader, card_rows, ops_by, Reader, AtPort, IsReached, PhasesAreOfScripts}
use Rattle.lab_phase.specs.Prelude.{StagesAreOfScripts, Stage, key_of_places, CardActor, FitsRing, LabClients, LabReaders, Lab, ReportRoom, PhaseInput}
use Rattle.lab_phase.specs.Prelude.{unplugs_by-others, HaveAskedMore-then, same_asks-reaped_clients, same_asks-reaped_readers, AreActorsOf, AreOfRings}
use Rattle.lab_phase.specs.Prelude.{capture_of, HasEndRoom, IsAtStage, IsNextItem, played_by, played_of, session_of, AreSetUp-same, HasDone-next}
use Rattle.lab_phase.specs.Prelude.{session_of-same, AreAll-reached, CanMeet, ActorLaws, asks_at, few-rows, have-done, HaveDone, AreStopsOf, asks_of_lab}
use Rattle.lab_phase.specs.Prelude.{CountsPhase, DoesPhase, HasRunLines, HasRunPhase, HaveAsked, IsLonger, Reaps, RunsPhase, Stops, stops_by, GiveFewRows}
use Rattle.lab_phase.specs.Prelude.{HaveMet, HaveRoom, KeepsRoom, IsAtStage-room, IsPhase-next}
use Rattle.sum_table.specs.declared.view.Key.{Key}
use Rattle.lab_run.specs.Client.{Client}
use Rattle.lab_actors.specs.Gates.{AreCounted, HaveAskedMore}
use Rattle.lab_phase.specs.Reached.{IsFirstOf, IsFirstOf-next}
use Rattle.lab_phase.proofs.StageLaws.{CanMeet-at, FitsRing-reached, IsAskedAt-reached, files-reached}
use Rattle.mix_core.specs.declared.gate.Gate as gate
use Rattle.lab_lines.specs.declared.line.Item.TheVariants as item
use Rattle.lab_clients.specs.OneClient as client
use Rattle.lab_clients.specs.AtStage as clients
use Rattle.lab_readers.specs.OneReader as reader
use Rattle.lab_readers.specs.AtStage as readers

-- ---- the next phase of a script

length-phases_of : (done others : List Item) (lines : List Line) → length (phases_of done) + 1 ≤ length (phases_of (done ++ item.Phase lines ∷ others))
length-phases_of [] others lines = omega arith
length-phases_of (item.Phase more ∷ done) others lines = let rest = length-phases_of done others lines in omega (arith, rest)
length-phases_of (item.Opens number who ∷ done) others lines = length-phases_of done others lines
length-phases_of (item.Closes number who ∷ done) others lines = length-phases_of done others lines

module _ (lab : Lab) (stage : Stage) (lines : List Line) (at : IsAtStage lab stage) (is : IsNextItem lab (item.Phase lines)) where
  pub first-item : IsFirstOf (item.Phase lines) at.has_done.others
  first-item =
      let has = at.has_done in
      IsFirstOf-next has.done has.others (item.Phase lines)
      (ap (λ (n : ℕ). slice_get (has.done ++ has.others) n) (sym has.next) ∙ (ap (λ (items : List Item). slice_get items lab.next) (sym has.reached.body) ∙ is))

  pub reached-phase : IsReached lab.script.now lab.wavs.now (session_of lab) at.has_done.done (item.Phase lines ∷ first-item.others) stage
  reached-phase =
      subst (λ (items : List Item). IsReached lab.script.now lab.wavs.now (session_of lab) at.has_done.done items stage) first-item.is at.has_done.reached

  pub phase-lines : IsPhase (length lab.script.now.clients) (length lab.script.now.readers) lines
  phase-lines = IsPhase-next lab.script.now at.has_done.done first-item.others lines reached-phase.script_is reached-phase.body

  -- few phases are done before it
  pub phases-few : StagesAreOfScripts → lab.phases < 4294967295
  phases-few laws =
      let after = laws lab.script.now lab.wavs.now (session_of lab) at.has_done.done (item.Phase lines ∷ first-item.others) stage reached-phase in
      let count = after.phases in
      let more = length-phases_of at.has_done.done first-item.others lines in
      let all = reached-phase.script_is.phases in
      let body = ap (λ (items : List Item). length (phases_of items)) reached-phase.body in
      let own = at.phases in
      omega (arith, count, more, all, body, own)

-- its actors can do it: the card's frames are before its rings' end, and all can meet once they took the room of the lines
module _ (lab : Lab) (stage : Stage) (asked : PhaseInput) (at : IsAtStage lab stage) (is : IsNextItem lab (item.Phase asked.lines.now)) (a0 : CardActor) (card_is : lab.card ≡ Some a0)
    (laws : PhasesAreOfScripts) where
  actors-at : AreActorsOf (session_of lab) (capture_of lab) stage (Some a0) lab.clients lab.readers
  actors-at = subst (λ (card : Option CardActor). AreActorsOf (session_of lab) (capture_of lab) stage card lab.clients lab.readers) card_is at.actors

  pub fits-phase : FitsRing a0 (ops_by is_of_card asked.lines.now)
  fits-phase =
      FitsRing-reached lab.script.now lab.wavs.now (session_of lab) at.has_done.done (first-item lab stage asked.lines.now at is).others stage asked
      (reached-phase lab stage asked.lines.now at is) a0 laws actors-at.card_is.is.at

  pub no-rows : a0.rows.items ≡ []
  no-rows = actors-at.card_is.rows

  pub can-meet : (gates : ℕ) → 128 ≤ gates → asked.wavs.now ≡ lab.wavs.now → (a : CardActor) (cs : LabClients) (rs : LabReaders)
      → HaveRoom asked.lines.now a0 a lab.clients cs lab.readers rs → CanMeet gates asked a cs rs
  can-meet gates many files a cs rs room =
      CanMeet-at (session_of lab) (capture_of lab) stage gates (length lab.script.now.clients) (length lab.script.now.readers) asked a0 a lab.clients cs lab.readers rs
      (IsAskedAt-reached lab.script.now lab.wavs.now (session_of lab) at.has_done.done (first-item lab stage asked.lines.now at is).others stage asked
      (reached-phase lab stage asked.lines.now at is) gates files many)
      fits-phase actors-at room

-- ---- the gates

-- what the gates counted stays with actors that keep what theirs told them
AreCounted-kept : {X : Type 0} (f : AtPort × X → AtPort × X) → ((x : AtPort × X) → (f x).0.by_gate ≡ x.0.by_gate) → (base stops : ℕ → ℕ) (number : ℕ) (xs : List (AtPort × X))
    → AreCounted base stops number xs → AreCounted base stops number (map f xs)
AreCounted-kept f kept base stops number [] counted = tt
AreCounted-kept f kept base stops number (x ∷ xs) counted =
    (ap (λ (n : ℕ). n + base number) (kept x) ∙ counted.0, AreCounted-kept f kept base stops (number + 1) xs counted.1)

reaped_client-by_gate : (ring : Geometry) (x : AtPort × Client) → (reaped_client ring x).0.by_gate ≡ x.0.by_gate
reaped_client-by_gate ring x = grind (arith, nat_tests)

reaped_reader-by_gate : (ring : Geometry) (x : AtPort × Reader) → (reaped_reader ring x).0.by_gate ≡ x.0.by_gate
reaped_reader-by_gate ring x = grind (arith, nat_tests)

-- ---- a phase in which clients or readers have lines

-- rows and those of the card, of clients and of readers after them
rows-joined : (xs xs2 ks ks2 bs bs2 cs cs2 : List Row) → xs ≡ xs2 → ks ++ bs ++ cs ≡ ks2 ++ bs2 ++ cs2 → xs ++ ks ++ bs ++ cs ≡ xs2 ++ ks2 ++ bs2 ++ cs2
rows-joined xs xs2 ks ks2 bs bs2 cs cs2 first more =
    let before : xs ++ ks ++ bs ++ cs ≡ xs ++ (ks ++ bs ++ cs) = simp append_assoc in
    let after : xs2 ++ ks2 ++ bs2 ++ cs2 ≡ xs2 ++ (ks2 ++ bs2 ++ cs2) = simp append_assoc in
    before ∙ (ap (λ (rows : List Row). xs ++ rows) more ∙ (ap (λ (rows : List Row). rows ++ (ks2 ++ bs2 ++ cs2)) first ∙ sym after))

-- the actors have no more rows of the phase than it has lines
pub GiveFewRows-at : {T : Type 0} (G : gate.Ghosts T) (gates : List T) (lab : Lab) (lines : List Line) (a0 : CardActor) → ActorLaws → IsNextItem lab (item.Phase lines)
    → length (ops_by is_of_card lines) ≢ length lines → lab.card ≡ Some a0 → (stage : Stage) (base : Stops) → IsAtStage lab stage → AreStopsOf base (stops_by G.stops gates) stage
    → GiveFewRows G gates (asks_of_lab lab lines) a0 lab.clients lab.readers
GiveFewRows-at G gates lab lines a0 laws is others card_is stage base at counted gates_after a f cs fs rs gs room met =
    few-rows (session_of lab) (capture_of lab) stage lines laws (length lab.script.now.clients) (length lab.script.now.readers) (phase-lines lab stage lines at is)
    (unplugs_by-others (length lab.script.now.clients) (length lab.script.now.readers) lines (phase-lines lab stage lines at is) others) G (take 64 gates) (take 64 gates_after)
    (drop 64 gates) (drop 64 gates_after) a0 a f lab.clients cs fs lab.readers rs gs
    (subst (λ (card : Option CardActor). AreActorsOf (session_of lab) (capture_of lab) stage card lab.clients lab.readers) card_is at.actors) room
    (subst
    (λ (n : ℕ). HaveMet G (take 64 gates) (take 64 gates_after) (drop 64 gates) (drop 64 gates_after)
    (record { sounds = lab.wavs.now; capture = capture_of lab; phase = n + 1; lines = lines }) a cs rs f fs gs)
    at.phases met)
    base.clients base.readers
    (files-reached lab.script.now lab.wavs.now (session_of lab) at.has_done.done (first-item lab stage lines at is).others lines stage (reached-phase lab stage lines at is))
    (AreAll-reached (session_of lab) stage at.has_done.done at.has_done.reached.may).readers counted.clients counted.readers

module _ {T : Type 0} (G : gate.Ghosts T) (gates gates_after : List T) (lab mid : Lab) (lines : List Line) (laws : ActorLaws) (is : IsNextItem lab (item.Phase lines))
    (others : length (ops_by is_of_card lines) ≢ length lines) (run : HasRunLines G gates gates_after lab lines mid) (stage : Stage) (base : Stops)
    (at : IsAtStage lab stage) (counted : AreStopsOf base (stops_by G.stops gates) stage) where
  actors-before : AreActorsOf (session_of lab) (capture_of lab) stage (Some run.card) lab.clients lab.readers
  actors-before = subst (λ (card : Option CardActor). AreActorsOf (session_of lab) (capture_of lab) stage card lab.clients lab.readers) run.card_is at.actors

  met-at : HaveMet G (take 64 gates) (take 64 gates_after) (drop 64 gates) (drop 64 gates_after) (asks_at (session_of lab) (capture_of lab) stage lines) run.run.roomy_card
      run.run.roomy_clients run.run.roomy_readers run.run.met_card run.run.met_clients run.run.met_readers
  met-at = grind (arith, nat_tests)

  abbrev after_rows : List Row
  after_rows = run.run.met_card.rows.items ++ flat_map client.rows_of (clients.clients_of run.run.met_clients) ++ flat_map reader.rows_of (readers.readers_of run.run.met_readers)

  pub done-lines : HaveDone (session_of lab) (capture_of lab) stage lines base.clients (stops_by G.stops gates_after).clients base.readers (stops_by G.stops gates_after).readers
      (HaveAskedMore G.asked (take 64 gates) (take 64 gates_after)) (HaveAskedMore G.asked (drop 64 gates) (drop 64 gates_after)) run.card_after mid.clients mid.readers after_rows
  done-lines =
      have-done (session_of lab) (capture_of lab) stage lines laws (length lab.script.now.clients) (length lab.script.now.readers) (phase-lines lab stage lines at is)
      (unplugs_by-others (length lab.script.now.clients) (length lab.script.now.readers) lines (phase-lines lab stage lines at is) others) G (take 64 gates) (take 64 gates_after)
      (drop 64 gates) (drop 64 gates_after) run.card run.run.roomy_card run.run.met_card lab.clients run.run.roomy_clients run.run.met_clients lab.readers run.run.roomy_readers
      run.run.met_readers actors-before run.run.room met-at base.clients base.readers
      (files-reached lab.script.now lab.wavs.now (session_of lab) at.has_done.done (first-item lab stage lines at is).others lines stage (reached-phase lab stage lines at is))
      (AreAll-reached (session_of lab) stage at.has_done.done at.has_done.reached.may).readers counted.clients counted.readers run.card_after mid.clients mid.readers lab.rows.items
      mid.rows.items run.run.given

  -- the card and all others are of the same rings as before
  rings-after : AreOfRings run.card_after.card mid.clients mid.readers
  rings-after = grind (arith, nat_tests)

  places-after : (key_of_places (clients.places_of mid.clients)).places ≡ (session_of lab).card.places
  places-after = grind (arith, nat_tests)

  module _ (after : Lab) (reaps : Reaps mid after) where
    abbrev next-stage : Stage
    next-stage = phase_end (session_of lab) stage lines (done-lines.next_clients, done-lines.client_rows) (done-lines.next_readers, done-lines.reader_rows)

    actors-then : AreActorsOf (session_of lab) (capture_of lab) next-stage (Some run.card_after) after.clients after.readers
    actors-then = record {
      card_is = record {
        is = done-lines.card;
        rows = done-lines.card_rows_none;
        rings = record {
          sum_ring = reaps.places.ring ∙ rings-after.sum_ring;
          sum_key = reaps.places.key ∙ rings-after.sum_key;
          snoop_ring = reaps.ring.ring ∙ rings-after.snoop_ring;
          snoop_geometry = reaps.ring.geometry ∙ rings-after.snoop_geometry;
        };
        all_places = ap (λ (key : Key). key.places) reaps.places.key ∙ places-after;
      };
      clients_are = reaps.clients (session_of lab) (held_of stage) done-lines.next_clients done-lines.clients;
      readers_are = reaps.readers (session_of lab) (capture_of lab) done-lines.next_readers done-lines.readers;
    }

    pub run-phase : HasRunPhase (HaveAsked G.asked gates gates_after) base (stops_by G.stops gates_after) lab stage lines after
    run-phase = record {
      next = next-stage;
      may = done-lines.may;
      actors = subst (λ (card : Option CardActor). AreActorsOf (session_of lab) (capture_of lab) next-stage card after.clients after.readers) (sym (reaps.card ∙ run.card_then)) actors-then;
      rows = ap (λ v. v.items) reaps.rows
          ∙ (run.run.given.all
          ∙ rows-joined lab.rows.items stage.rows run.run.met_card.rows.items (card_rows (stage.phases + 1) stage.position (ops_by is_of_card lines))
          (flat_map client.rows_of (clients.clients_of run.run.met_clients)) done-lines.client_rows (flat_map reader.rows_of (readers.readers_of run.run.met_readers))
          done-lines.reader_rows at.rows done-lines.rows_are);
      counted = record {
        clients = AreCounted-kept (reaped_client (session_of lab).ring) (reaped_client-by_gate (session_of lab).ring) base.clients (stops_by G.stops gates_after).clients 0 done-lines.next_clients done-lines.clients_counted;
        readers = AreCounted-kept (reaped_reader (session_of lab).ring) (reaped_reader-by_gate (session_of lab).ring) base.readers (stops_by G.stops gates_after).readers 0 done-lines.next_readers done-lines.readers_counted;
      };
      gates = record {
        clients = HaveAskedMore-then G.asked (take 64 gates) (take 64 gates_after) stage.clients done-lines.next_clients next-stage.clients done-lines.clients_asked
            (same_asks-reaped_clients (session_of lab).ring 0 done-lines.next_clients);
        readers = HaveAskedMore-then G.asked (drop 64 gates) (drop 64 gates_after) stage.readers done-lines.next_readers next-stage.readers done-lines.readers_asked
            (same_asks-reaped_readers (session_of lab).ring 0 done-lines.next_readers);
      };
    }

-- what was played is longer by what the card took
played-longer : {T : Type 0} (G : gate.Ghosts T) (gates gates_after : List T) (lab mid after : Lab) (lines : List Line) → HasRunLines G gates gates_after lab lines mid → Reaps mid after
    → IsLonger (played_of lab) (played_of after)
played-longer G gates gates_after lab mid after lines run reaps = grind (arith, nat_tests)

-- at whatever stage it was
pub RunsPhase-reaped : {T : Type 0} (G : gate.Ghosts T) (gates gates_after : List T) (lab mid after : Lab) (lines : List Line) → ActorLaws → IsNextItem lab (item.Phase lines)
    → length (ops_by is_of_card lines) ≢ length lines → HasRunLines G gates gates_after lab lines mid → Reaps mid after
    → RunsPhase (HaveAsked G.asked gates gates_after) (stops_by G.stops gates) (stops_by G.stops gates_after) lab lines after
RunsPhase-reaped G gates gates_after lab mid after lines laws is others run reaps = record {
  same = record {
    script = reaps.same.script ∙ run.same.script;
    wavs = reaps.same.wavs ∙ run.same.wavs;
    capture = reaps.same.capture ∙ run.same.capture;
    openings = reaps.same.openings ∙ run.same.openings;
  };
  phases = reaps.phases ∙ run.phases;
  next = reaps.next ∙ run.next;
  room = reaps.room ∙ run.room;
  few =
      let same = ap (λ v. length v.items) reaps.rows in
      let few : length mid.rows.items ≤ length lab.rows.items + length lines = run.run.few in
      omega (arith, same, few);
  played = played-longer G gates gates_after lab mid after lines run reaps;
  does = λ stage base at counted. run-phase G gates gates_after lab mid lines laws is others run stage base at counted after reaps;
}

-- ---- a phase that is counted

module _ (Gates : Stage → Stage → Type 0) (stops stops_after : Stops) (lab mid after : Lab) (lines : List Line) (is : IsNextItem lab (item.Phase lines))
    (runs : RunsPhase Gates stops stops_after lab lines mid)
    (has_room : HasEndRoom (length lines) lab) (counts : CountsPhase mid after) where
  same-then : Rattle.lab_phase.specs.AtStage.IsSameScript lab after
  same-then = grind (arith, nat_tests)

  room-then : HasEndRoom 0 after
  room-then = grind (arith, nat_tests)

  pub DoesPhase-counted : DoesPhase Gates stops stops_after lab lines after
  DoesPhase-counted = record {
    same = same-then;
    next = counts.next ∙ ap (λ (n : ℕ). n + 1) runs.next;
    played = record { more = runs.played.more; is = ap played_by counts.card ∙ runs.played.is };
    does = λ stage base at counted. let has = runs.does stage base at counted in record {
      next = has.next;
      may = has.may;
      is = record {
        actors =
            rw (session_of-same lab after same-then, same-then.capture, counts.card, counts.clients, counts.readers) has.actors;
        rows = counts.rows ∙ has.rows;
        phases = counts.phases ∙ (ap (λ (n : ℕ). n + 1) (runs.phases ∙ at.phases) ∙ ap (λ (s : Stage). s.phases) (sym has.may.is));
        has_done = HasDone-next lab after stage has.next (item.Phase lines) same-then is has.may (counts.next ∙ ap (λ (n : ℕ). n + 1) runs.next) at.has_done;
        set_up = AreSetUp-same lab after same-then at.set_up;
        room = room-then;
      };
      counted = has.counted;
      gates = has.gates;
    };
  }

-- of a lab whose rows, and what the end of its run leaves, got other room before it
pub DoesPhase-room : (Gates : Stage → Stage → Type 0) (stops stops_after : Stops) (lab after : Lab) (rows : Vec Row) (room : ReportRoom) (lines : List Line) → rows.items ≡ lab.rows.items → KeepsRoom lab.room room
    → DoesPhase Gates stops stops_after (record lab { rows = rows; room = room }) lines after → DoesPhase Gates stops stops_after lab lines after
DoesPhase-room Gates stops stops_after lab after rows room lines same kept does = record {
  same = record { script = does.same.script; wavs = does.same.wavs; capture = does.same.capture; openings = does.same.openings };
  next = does.next;
  played = record { more = does.played.more; is = does.played.is };
  does = λ stage base at counted. let done = does.does stage base (IsAtStage-room lab rows room same kept stage at) counted in record {
    next = done.next;
    may = done.may;
    is = done.is;
    counted = done.counted;
    gates = done.gates;
  };
}
