-- A lab that is as it was, but for its room, stays at its stage; so does one that refused an opening.
use Rattle.std.specs.Prelude.{◌≡◌, ℕ, ◌+◌, IsSomeAnd, List, length, Option, None, Some}
use Rattle.std.specs.Global.{Vec}
use Rattle.std.proofs.Common.{refl, sym, ap, subst, ◌∙◌}
use Rattle.sum_table.specs.Players.{player_key, player_ring}
use Rattle.snoop_table.specs.Readers as snoop
use Rattle.snoop_table.specs.Writers.{writer_geometry, writer_ring}
use Rattle.wav_io.specs.Sound.{Sound}
use Rattle.card_sim.specs.declared.card.Card.{Card}
use Rattle.card_sim.specs.Runs.{writer_of}
use Rattle.lab_lines.specs.declared.line.Item.{Item}
use Rattle.lab_lines.specs.declared.script.Script.{Script}
use Rattle.lab_lines.specs.declared.row.Row.{Row}
use Rattle.lab_run.specs.Items.{ItemMay, held_of}
use Rattle.lab_run.specs.Reader.{Reader}
use Rattle.lab_run.specs.Rules.{AtPort}
use Rattle.lab_run.specs.ScriptWords.{IsReached}
use Rattle.lab_run.specs.Stage.{Session, Stage}
use Rattle.lab_card.specs.declared.card.CardActor.{CardActor}
use Rattle.lab_card.specs.MeetLaws.{IsSameCard-none}
use Rattle.lab_card.specs.Meets.{IsSameCard}
use Rattle.lab_card.specs.Moves.{seat_of_card}
use Rattle.lab_places.specs.Held.{key_of_places, ring_of_places, share_of, shares_of}
use Rattle.lab_actors.specs.Walks.{AreEach, AreEach-same}
use Rattle.lab_clients.specs.AtStage.{clients_of, places_of}
use Rattle.lab_clients.specs.Same.{AreAt-same}
use Rattle.lab_clients.specs.Steps.{IsSameWithRows}
use Rattle.lab_clients.specs.declared.clients.LabClients.{LabClients}
use Rattle.lab_readers.specs.AtStage as readers
use Rattle.lab_readers.specs.Kept.{AreAt-kept}
use Rattle.lab_readers.specs.declared.readers.LabReaders.{LabReaders}
use Rattle.lab_phase.specs.declared.lab.Lab.{Lab}
use Rattle.lab_phase.specs.declared.report_room.ReportRoom.{ReportRoom}
use Rattle.lab_phase.specs.ReportRoom.{HasReportRoom, KeepsRoom}
use Rattle.lab_phase.specs.AtStage.{AreActorsOf, DoesItem, HasDone, HasEndRoom, IsAtStage, IsCardOf, IsNextItem, IsNextItem-at, IsSameCount, IsSameRing, IsSameScript, capture_of, played_by, session_of}
use Rattle.lab_phase.specs.BorderLaws.{AreActorsOf-client, AreActorsOf-reader, AreSetUp-same, session_of-same}
use Rattle.lab_phase.specs.Borders.{HasSameAsks, IsSameAtCard}
use Rattle.lab_phase.specs.CardStage.{IsCardIn-same, IsSameActor}
use Rattle.lab_phase.specs.PhaseRuns.{IsSameLab, StaysAtStage}
use Rattle.lab_phase.specs.PhaseSteps.{AreSameButRoom, AreSameButRoom-card}

AreActorsOf-same : (session : Session) (capture : Option Sound) (stage : Stage) (a b : CardActor) (cs ds : LabClients) (rs ss : LabReaders) → AreSameButRoom a b cs ds rs ss
    → AreActorsOf session capture stage (Some a) cs rs → AreActorsOf session capture stage (Some b) ds ss
AreActorsOf-same session capture stage a b cs ds rs ss same are =
    let card = same.card.card in
    let own = are.card_is in
    record {
      card_is = record {
        is = IsCardIn-same session capture stage stage a b (record { card = subst (IsSameCard a.card) (sym card) (IsSameCard-none a.card); played = same.card.played })
            (record { phases = refl; position = refl; gone = refl }) own.is;
        rows = same.card.rows ∙ own.rows;
        rings = record {
          sum_ring = ap ring_of_places same.places ∙ (own.rings.sum_ring ∙ sym (ap (λ (c : Card). player_ring (seat_of_card c)) card));
          sum_key = ap key_of_places same.places ∙ (own.rings.sum_key ∙ sym (ap (λ (c : Card). player_key (seat_of_card c)) card));
          snoop_ring = ap snoop.ring_of same.readers.spare ∙ (own.rings.snoop_ring ∙ sym (ap (λ (c : Card). writer_ring (writer_of c)) card));
          snoop_geometry = ap snoop.geometry_of same.readers.spare ∙ (own.rings.snoop_geometry ∙ sym (ap (λ (c : Card). writer_geometry (writer_of c)) card));
        };
        all_places = ap (λ p. (key_of_places p).places) same.places ∙ own.all_places;
      };
      clients_are = AreAt-same session (held_of stage) stage.clients cs ds same.clients same.places are.clients_are;
      readers_are = AreAt-kept session capture stage.readers rs ss same.readers are.readers_are;
    }

HasDone-same : (lab after : Lab) (stage : Stage) → IsSameScript lab after → after.next ≡ lab.next → HasDone lab stage → HasDone after stage
HasDone-same lab after stage same next has = record {
  done = has.done;
  others = has.others;
  next = next ∙ has.next;
  reached = subst (λ (s : Session). IsReached after.script.now after.wavs.now s has.done has.others stage) (sym (session_of-same lab after same))
      (subst (λ (s : Script). IsReached s after.wavs.now (session_of lab) has.done has.others stage) (sym same.script)
      (subst (λ (wavs : List Sound). IsReached lab.script.now wavs (session_of lab) has.done has.others stage) (sym same.wavs) has.reached));
}

KeepsRoom-same : (room after : ReportRoom) → after ≡ room → KeepsRoom room after
KeepsRoom-same room after same rows readers has = subst (HasReportRoom rows readers) (sym same) has

-- its script has as many readers, and it has as many rows
HasEndRoom-same : (lab after : Lab) (more : ℕ) → IsSameScript lab after → after.rows.items ≡ lab.rows.items
    → HasReportRoom (length lab.rows.items + more) (length lab.script.now.readers) after.room → HasEndRoom more after
HasEndRoom-same lab after more same rows has =
    subst (λ (s : Script). HasReportRoom (length after.rows.items + more) (length s.readers) after.room) (sym same.script)
    (subst (λ (rs : List Row). HasReportRoom (length rs + more) (length lab.script.now.readers) after.room) (sym rows) has)

-- its actors are those of the stage
IsAtStage-actors : (lab after : Lab) (stage : Stage) → IsSameScript lab after → after.rows.items ≡ lab.rows.items → KeepsRoom lab.room after.room → after.phases ≡ lab.phases
    → after.next ≡ lab.next
    → AreActorsOf (session_of lab) (capture_of lab) stage after.card after.clients after.readers → IsAtStage lab stage → IsAtStage after stage
IsAtStage-actors lab after stage same rows room phases next actors at = record {
  actors = subst (λ (s : Session). AreActorsOf s (capture_of after) stage after.card after.clients after.readers) (sym (session_of-same lab after same))
      (subst (λ (capture : Option Sound). AreActorsOf (session_of lab) capture stage after.card after.clients after.readers) (sym same.capture) actors);
  rows = rows ∙ at.rows;
  phases = phases ∙ at.phases;
  has_done = HasDone-same lab after stage same next at.has_done;
  set_up = AreSetUp-same lab after same at.set_up;
  room = HasEndRoom-same lab after 0 same rows (room (length lab.rows.items + 0) (length lab.script.now.readers) at.room);
}

pub StaysAtStage-same : (lab after : Lab) → IsSameLab lab after → StaysAtStage lab after
StaysAtStage-same lab after is = record {
  same = is.same;
  next = is.next;
  played = ap played_by is.card_then ∙ (is.actors.card.played ∙ sym (ap played_by is.card_is));
  at = λ stage at.
      let before = subst (λ (card : Option CardActor). AreActorsOf (session_of lab) (capture_of lab) stage card lab.clients lab.readers) is.card_is at.actors in
      IsAtStage-actors lab after stage is.same is.rows is.room is.phases is.next
      (subst (λ (card : Option CardActor). AreActorsOf (session_of lab) (capture_of lab) stage card after.clients after.readers) (sym is.card_then)
      (AreActorsOf-same (session_of lab) (capture_of lab) stage is.card is.card_after lab.clients after.clients lab.readers after.readers is.actors before))
      at;
}

-- ---- an opening that is refused

no-change : (stage : Stage) → IsSameAtCard stage stage
no-change stage = record { phases = refl; position = refl; gone = refl }

module _ (lab after : Lab) (same : IsSameScript lab after) (count : IsSameCount lab after) where
  -- of a client: the card was taken apart and made anew
  pub StaysAtStage-client : (a b : CardActor) → lab.card ≡ Some a → after.card ≡ Some b → after.readers ≡ lab.readers → IsSameActor a b → b.rows.items ≡ a.rows.items
      → AreEach IsSameWithRows 0 (clients_of lab.clients) (clients_of after.clients) → places_of after.clients ≡ places_of lab.clients → StaysAtStage lab after
  StaysAtStage-client a b first then_is others actor rows each places = record {
    same = same;
    next = count.next;
    played = ap played_by then_is ∙ (actor.played ∙ sym (ap played_by first));
    at = λ stage at.
        let before = subst (λ (card : Option CardActor). AreActorsOf (session_of lab) (capture_of lab) stage card lab.clients lab.readers) first at.actors in
        IsAtStage-actors lab after stage same (ap (λ (v : Vec Row). v.items) count.rows) (KeepsRoom-same lab.room after.room count.room) count.phases count.next
        (subst (λ (card : Option CardActor). AreActorsOf (session_of lab) (capture_of lab) stage card after.clients after.readers) (sym then_is)
        (subst (λ (rs : LabReaders). AreActorsOf (session_of lab) (capture_of lab) stage (Some b) after.clients rs) (sym others)
        (AreActorsOf-client (session_of lab) (capture_of lab) stage stage a b lab.clients after.clients lab.readers actor rows
        (record {
          ring = ap ring_of_places places;
          key = ap key_of_places places;
          share = ap share_of places;
          channels = ap (λ p. (shares_of p).channels) places;
        })
        (record {
          card = no-change stage;
          readers = refl;
          count = refl;
          stops = λ base stops counted. counted;
          asks = AreEach-same HasSameAsks 0 stage.clients (λ n x. refl);
        })
        (AreAt-same (session_of lab) (held_of stage) stage.clients lab.clients after.clients each places at.actors.clients_are) before)))
        at;
  }

  -- of a reader
  pub StaysAtStage-reader : after.card ≡ lab.card → after.clients ≡ lab.clients → IsSameRing lab.readers after.readers
      → ((session : Session) (capture : Option Sound) (xs : List (AtPort × Reader)) → readers.AreAt session capture xs lab.readers → readers.AreAt session capture xs after.readers)
      → StaysAtStage lab after
  StaysAtStage-reader card others ring kept = record {
    same = same;
    next = count.next;
    played = ap played_by card;
    at = λ stage at.
        IsAtStage-actors lab after stage same (ap (λ (v : Vec Row). v.items) count.rows) (KeepsRoom-same lab.room after.room count.room) count.phases count.next
        (subst (λ (own : Option CardActor). AreActorsOf (session_of lab) (capture_of lab) stage own after.clients after.readers) (sym card)
        (subst (λ (cs : LabClients). AreActorsOf (session_of lab) (capture_of lab) stage lab.card cs after.readers) (sym others)
        (AreActorsOf-reader (session_of lab) (capture_of lab) stage stage lab.card lab.clients lab.readers after.readers ring
        (record {
          card = no-change stage;
          clients = refl;
          held = refl;
          count = refl;
          stops = λ base stops counted. counted;
          asks = AreEach-same HasSameAsks 0 stage.readers (λ n x. refl);
        })
        (kept (session_of lab) (capture_of lab) stage.readers at.actors.readers_are) at.actors)))
        at;
  }

-- its rows, and what the end of its run leaves, have other room
pub StaysAtStage-room : (lab : Lab) (rows : Vec Row) (room : ReportRoom) → rows.items ≡ lab.rows.items → KeepsRoom lab.room room
    → StaysAtStage lab (record lab { rows = rows; room = room })
StaysAtStage-room lab rows room is kept = record {
  same = record { script = refl; wavs = refl; capture = refl; openings = refl };
  next = refl;
  played = refl;
  at = λ stage at.
      IsAtStage-actors lab (record lab { rows = rows; room = room }) stage (record { script = refl; wavs = refl; capture = refl; openings = refl }) is kept refl refl at.actors at;
}

-- ---- a lab that stays at its stage, and then does an item or not

pub StaysAtStage-joined : (lab mid after : Lab) → StaysAtStage lab mid → StaysAtStage mid after → StaysAtStage lab after
StaysAtStage-joined lab mid after first then = record {
  same = record {
    script = then.same.script ∙ first.same.script;
    wavs = then.same.wavs ∙ first.same.wavs;
    capture = then.same.capture ∙ first.same.capture;
    openings = then.same.openings ∙ first.same.openings;
  };
  next = then.next ∙ first.next;
  played = then.played ∙ first.played;
  at = λ stage at. then.at stage (first.at stage at);
}

pub IsNextItem-stays : (lab mid : Lab) (one : Item) → StaysAtStage lab mid → IsNextItem lab one → IsNextItem mid one
IsNextItem-stays lab mid one stays is = IsNextItem-at mid lab.script.now lab.next one stays.same.script stays.next is

pub DoesItem-stays : (lab mid after : Lab) (one : Item) → StaysAtStage lab mid → DoesItem mid one after → DoesItem lab one after
DoesItem-stays lab mid after one stays does = record {
  same = record {
    script = does.same.script ∙ stays.same.script;
    wavs = does.same.wavs ∙ stays.same.wavs;
    capture = does.same.capture ∙ stays.same.capture;
    openings = does.same.openings ∙ stays.same.openings;
  };
  next = does.next ∙ ap (λ (n : ℕ). n + 1) stays.next;
  does = λ stage at.
      let done = does.does stage (stays.at stage at) in
      record { next = done.next; may = subst (λ (s : Session). ItemMay s stage one done.next) (session_of-same lab mid stays.same) done.may; is = done.is };
}

-- ---- a lab whose rows, and what the end of its run leaves, have other room

module _ (lab : Lab) (rows : Vec Row) (room : ReportRoom) (same : rows.items ≡ lab.rows.items) (kept : KeepsRoom lab.room room) where
  pub IsAtStage-room : (stage : Stage) → IsAtStage lab stage → IsAtStage (record lab { rows = rows; room = room }) stage
  IsAtStage-room stage at = (StaysAtStage-room lab rows room same kept).at stage at

  -- it is as it was
  pub IsSameLab-room : (stage : Stage) → IsAtStage lab stage → IsSameLab lab (record lab { rows = rows; room = room })
  IsSameLab-room stage at = by_card lab.card refl at.actors.card_is
    where
      by_card : (card : Option CardActor) → lab.card ≡ card → IsSomeAnd card (IsCardOf (session_of lab) (capture_of lab) stage lab.clients lab.readers)
          → IsSameLab lab (record lab { rows = rows; room = room })
      by_card None is some = absurd some
      by_card (Some a) is some = record {
        same = record { script = refl; wavs = refl; capture = refl; openings = refl };
        rows = same;
        room = kept;
        phases = refl;
        next = refl;
        card = a;
        card_after = a;
        card_is = is;
        card_then = is;
        actors = AreSameButRoom-card a a lab.clients lab.readers (record { card = refl; played = refl; rows = refl });
      }

  -- what is as that lab is, is as it was
  pub IsSameLab-after : (after : Lab) → IsSameLab (record lab { rows = rows; room = room }) after → IsSameLab lab after
  IsSameLab-after after is = record {
    same = record { script = is.same.script; wavs = is.same.wavs; capture = is.same.capture; openings = is.same.openings };
    rows = is.rows ∙ same;
    room = λ count readers has. is.room count readers (kept count readers has);
    phases = is.phases;
    next = is.next;
    card = is.card;
    card_after = is.card_after;
    card_is = is.card_is;
    card_then = is.card_then;
    actors = is.actors;
  }
