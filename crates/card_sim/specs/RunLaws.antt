-- What a card captures, put together.
use Rattle.std.specs.Prelude.{◌≡◌, ℕ, ◌+◌, ℤ, List, [], ◌∷◌, ◌++◌}
use Rattle.std.proofs.Common.{◌*◌, Bool, true, false, take, drop, refl, sym, ap, subst, ◌∙◌, append_assoc, append-nil, arith}
use Rattle.std.proofs.lemmas.Bool.{false≢true}
use Rattle.snd_base.specs.declared.places.Cursor.{Cursor}
use Rattle.sum_table.specs.declared.view.Key.{Key}
use Rattle.sum_table.specs.Players.{next_of_player}
use Rattle.card_player.specs.declared.player.CardPlayer.{CardPlayer}
use Rattle.card_player.specs.FillLaws.{HasFilled, take-split}
use Rattle.card_player.specs.PlayLaws.{HasPlayed-joined, periods_to-ended, periods_to-more, periods_to-open}
use Rattle.card_player.specs.Plays.{HasPlayed, PlaysFrames, at_frame, ends_period, frame_of, geometry_of, period_at, periods_to, positions_of, first_samples, seat_of}
use Rattle.snoop_table.specs.declared.seats.writer.WriterSeat.{WriterSeat}
use Rattle.snoop_table.specs.declared.view.Track.{Track}
use Rattle.snoop_table.specs.Writers.{HasPublished, HasStored, desk_of, next_frame, writer_geometry, writer_track}
use Rattle.card_sim.specs.Runs.{HasCaptured, RunsFrames}
use Rattle.card_sim.specs.Steps.{AreInStep, AreSeatsOfCard}

-- seats that are in step are those of a card, whether it records or not
pub AreSeatsOfCard-in_step : (records : Bool) (p : CardPlayer) (w : WriterSeat) → AreInStep p w → AreSeatsOfCard records p w
AreSeatsOfCard-in_step records p w step = record {
  geometry = step.geometry;
  whole = step.next ∙ ap at_frame (sym (ap (λ (x : Cursor). x.frame) step.next));
  next = λ is. step.next;
}

-- those of a card that records are in step
pub AreInStep-records : (p : CardPlayer) (w : WriterSeat) → AreSeatsOfCard true p w → AreInStep p w
AreInStep-records p w seats = record { geometry = seats.geometry; next = seats.next refl }

pub HasCaptured-none : (w : WriterSeat) → HasCaptured w w [] []
HasCaptured-none w = record {
  ring = refl;
  geometry = refl;
  stored = sym (append-nil (writer_track w).stored);
  published = sym (append-nil (writer_track w).published);
  gone = refl;
}

-- one frame was stored
pub HasCaptured-stored : (w v : WriterSeat) (xs : List ℤ) → HasStored (desk_of w) (desk_of v) xs → HasCaptured w v xs []
HasCaptured-stored w v xs did = record {
  ring = did.ring;
  geometry = did.geometry;
  stored = ap (λ (t : Track). t.stored) did.track;
  published = ap (λ (t : Track). t.published) did.track ∙ sym (append-nil (writer_track w).published);
  gone = ap (λ (t : Track). t.gone) did.track;
}

-- one position was published
pub HasCaptured-published : (w v : WriterSeat) → HasPublished (desk_of w) (desk_of v) → HasCaptured w v [] (next_frame w ∷ [])
HasCaptured-published w v did = record {
  ring = did.ring;
  geometry = did.geometry;
  stored = ap (λ (t : Track). t.stored) did.track ∙ sym (append-nil (writer_track w).stored);
  published = ap (λ (t : Track). t.published) did.track;
  gone = ap (λ (t : Track). t.gone) did.track;
}

-- what was captured first, and then
pub HasCaptured-joined : (w v u : WriterSeat) (xs ys : List ℤ) (early late : List ℕ) → HasCaptured w v xs early → HasCaptured v u ys late → HasCaptured w u (xs ++ ys) (early ++ late)
HasCaptured-joined w v u xs ys early late first next = record {
  ring = next.ring ∙ first.ring;
  geometry = next.geometry ∙ first.geometry;
  stored = next.stored ∙ (ap (λ s. s ++ ys) first.stored ∙ append_assoc (writer_track w).stored xs ys);
  published = next.published ∙ (ap (λ s. s ++ late) first.published ∙ append_assoc (writer_track w).published early late);
  gone = next.gone ∙ first.gone;
}

-- one frame more is captured, and where it ends a period the position is published
pub HasCaptured-more : (w v u t : WriterSeat) (captured : List ℤ) (period first n at c last : ℕ)
    → HasCaptured w v (take (n * c) captured) (periods_to period first n) → at ≡ n * c
    → HasCaptured v u (drop at (take (at + c) captured)) [] → last ≡ first + n + 1 → HasCaptured u t [] (period_at period last)
    → HasCaptured w t (take ((n + 1) * c) captured) (periods_to period first (n + 1))
HasCaptured-more w v u t captured period first n at c last was at_is stored last_is published =
    let end_is : at + c ≡ (n + 1) * c = omega (arith, at_is) in
    let values : take at captured ++ drop at (take (at + c) captured) ≡ take ((n + 1) * c) captured =
    sym (take-split at c captured) ∙ ap (λ (k : ℕ). take k captured) end_is in
    let before : HasCaptured w v (take at captured) (periods_to period first n) =
    subst (λ (k : ℕ). HasCaptured w v (take k captured) (periods_to period first n)) (sym at_is) was in
    let both : HasCaptured w u (take at captured ++ drop at (take (at + c) captured)) (periods_to period first n ++ []) =
    HasCaptured-joined w v u (take at captured) (drop at (take (at + c) captured)) (periods_to period first n) [] before stored in
    let all : HasCaptured w t ((take at captured ++ drop at (take (at + c) captured)) ++ []) ((periods_to period first n ++ []) ++ period_at period last) =
    HasCaptured-joined w u t (take at captured ++ drop at (take (at + c) captured)) [] (periods_to period first n ++ []) (period_at period last) both published in
    subst (λ (xs : List ℤ). HasCaptured w t xs (periods_to period first (n + 1))) (append-nil _ ∙ values)
    (subst (λ (ps : List ℕ). HasCaptured w t ((take at captured ++ drop at (take (at + c) captured)) ++ []) ps)
    (ap (λ (ps : List ℕ). ps ++ period_at period last) (append-nil (periods_to period first n)) ∙ periods_to-more period first n last last_is) all)

-- all frames are run: the end is published where it isn't a multiple of the period
pub RunsFrames-published : (p q r : CardPlayer) (w v u : WriterSeat) (period n : ℕ) (captured old new : List ℤ)
    → HasFilled (seat_of p) (seat_of q) period n old new
    → HasCaptured w v (first_samples p n captured) (periods_to period (frame_of p) n)
    → ends_period period (frame_of p) n ≡ false
    → HasPlayed (seat_of q) (seat_of r) [] (frame_of q ∷ []) → HasCaptured v u [] (frame_of q ∷ [])
    → next_of_player (seat_of r) ≡ next_of_player (seat_of q) → AreInStep r u
    → RunsFrames true p w r u period n captured old new
RunsFrames-published p q r w v u period n captured old new filled caught not_ended played published stays in_step =
    let end_is : frame_of q ≡ frame_of p + n = ap (λ (x : Cursor). x.frame) filled.next in
    let positions : periods_to period (frame_of p) n ++ frame_of q ∷ [] ≡ positions_of period (frame_of p) n =
    periods_to-open period (frame_of p) n (frame_of q) not_ended end_is in
    record {
      played = subst (λ (xs : List ℤ). HasPlayed (seat_of p) (seat_of r) xs (positions_of period (frame_of p) n)) (append-nil (first_samples p n new))
          (subst (λ (ps : List ℕ). HasPlayed (seat_of p) (seat_of r) (first_samples p n new ++ []) ps) positions
          (HasPlayed-joined (seat_of p) (seat_of q) (seat_of r) (first_samples p n new) [] (periods_to period (frame_of p) n) (frame_of q ∷ []) filled.played played));
      stored = subst (λ (xs : List ℤ). HasCaptured w u xs (positions_of period (frame_of p) n)) (append-nil (first_samples p n captured))
          (subst (λ (ps : List ℕ). HasCaptured w u (first_samples p n captured ++ []) ps) positions
          (HasCaptured-joined w v u (first_samples p n captured) [] (periods_to period (frame_of p) n) (frame_of q ∷ []) caught published));
      next = stays ∙ filled.next;
      in_step = AreSeatsOfCard-in_step true r u in_step;
      rest = filled.rest;
    }

-- the end is a multiple of the period: it is published already
pub RunsFrames-ended : (p q : CardPlayer) (w v : WriterSeat) (period n : ℕ) (captured old new : List ℤ)
    → HasFilled (seat_of p) (seat_of q) period n old new
    → HasCaptured w v (first_samples p n captured) (periods_to period (frame_of p) n)
    → ends_period period (frame_of p) n ≡ true → AreInStep q v
    → RunsFrames true p w q v period n captured old new
RunsFrames-ended p q w v period n captured old new filled caught ended in_step =
    let positions : periods_to period (frame_of p) n ≡ positions_of period (frame_of p) n = periods_to-ended period (frame_of p) n ended in
    record {
      played = subst (λ (ps : List ℕ). HasPlayed (seat_of p) (seat_of q) (first_samples p n new) ps) positions filled.played;
      stored = subst (λ (ps : List ℕ). HasCaptured w v (first_samples p n captured) ps) positions caught;
      next = filled.next;
      in_step = AreSeatsOfCard-in_step true q v in_step;
      rest = filled.rest;
    }

-- a card that doesn't record plays alone, and its writer stays
pub RunsFrames-alone : (p q : CardPlayer) (w : WriterSeat) (period n : ℕ) (captured old new : List ℤ)
    → PlaysFrames p q n old new (positions_of period (frame_of p) n) → geometry_of p ≡ writer_geometry w
    → RunsFrames false p w q w period n captured old new
RunsFrames-alone p q w period n captured old new plays rings = record {
  played = plays.played;
  stored = HasCaptured-none w;
  next = plays.next;
  in_step = record {
    geometry = ap (λ (k : Key). k.geometry) plays.played.goes.key ∙ rings;
    whole = plays.next ∙ ap at_frame (sym (ap (λ (x : Cursor). x.frame) plays.next));
    next = λ is. absurd (false≢true is);
  };
  rest = plays.rest;
}
