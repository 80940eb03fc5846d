use Rattle.lab_phase.specs.Prelude.{ap, rules, subst, sym, ◌∙◌, ◌≡◌, option_copied, IfOk, ℕ, PlayerSeat, player_key, player_ring, position_of_player}
use Rattle.lab_phase.specs.Prelude.{after_open, Session, Stage, key_of_places, ring_of_places, frame_of_card, AreAfter, places_of, AreBeforeOpening}
use Rattle.sum_table.specs.Joins.{OneRing}
use Rattle.lab_lines.specs.declared.line.Actor.TheVariants as whose
use Rattle.lab_phase.proofs.seats.open_beside.Goals as goal

pub open-opened-requires : goal.open-opened-requires
open-opened-requires c = record {
  run = c.requires.run;
  number = c.requires.number;
  one_ring =
      subst (λ (p : PlayerSeat). OneRing (player_ring p) (player_key p) (ring_of_places (places_of c.args.clients.now)) (key_of_places (places_of c.args.clients.now)))
      (sym c.into_seats-player.ensures.player) c.requires.one_ring;
  usable = c.requires.usable;
}

pub returns : goal.returns
returns c =
    let position : position_of_player c.into_seats-player.result.0 ≡ frame_of_card c.args.actor.card =
    ap position_of_player c.into_seats-player.ensures.player ∙ c.args.actor.card.published in
    record {
      card = search rules;
      rows = search rules;
      after = subst (λ (n : ℕ). IfOk c.open-opened.result (λ row. (session : Session) (stage : Stage)
          → AreBeforeOpening session stage c.args.number (option_copied c.args.opening) n c.args.phase c.args.clients.now
          → AreAfter session stage (after_open session stage (whose.Client c.args.number)) row c.open-opened.new.self)) position c.open-opened.ensures.after;
      same = c.open-opened.ensures.same;
      same_places = c.open-opened.ensures.places;
      places = c.open-opened.ensures.card;
      only = c.open-opened.ensures.only;
    }
