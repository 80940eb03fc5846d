-- One run of a card, as a part of a phase.
use Rattle.lab_card.specs.Prelude.{ap, arith, drop, inl, inr, length, List, refl, subst, sym, take, ℕ, ℤ, [], ◌%◌, ◌*◌, ◌++◌, ◌+◌, ◌-◌, ◌/◌, ◌<◌, ◌∙◌, ◌≡◌, ◌≤◌}
use Rattle.lab_card.specs.Prelude.{add-mul-mod_self_left, div-add-mod, mod-lt, mod_self, mul-div_cancel, mul-mod_left, take-append_seam, append-nil}
use Rattle.lab_card.specs.Prelude.{length-append, length-drop, take_all, false, min, Option, true, ◌==◌, ◌||◌, ◌⊎◌, post_of, end_frame, PlayerSeat, track_of}
use Rattle.lab_card.specs.Prelude.{writer_track, first_samples, frames_left, HasPlayed, is_multiple, periods_to, positions_of, seat_of, captured_if}
use Rattle.lab_card.specs.Prelude.{HasCaptured, period_of, player_of, records_of, RunsFrames, RunsThrough, writer_of, Sound, Op, is_unplug, played_by}
use Rattle.lab_card.specs.Prelude.{CardActor, captured_frames, CardDid, positions_at, CardMoves, frame_of_card, frames_since_first, geometry_of_card}
use Rattle.lab_card.specs.Prelude.{PlayerMoves, WriterMoves, CardDid-joined, CardDid-none, or-false}
use Rattle.std.proofs.Math.ListN.{drop_of_length-le}
use Rattle.snoop_table.specs.declared.seats.writer.WriterSeat.{WriterSeat}
use Rattle.card_sim.specs.declared.card.Card.{Card}
use Rattle.lab_card.specs.PositionLaws.{periods_to-append, positions_of-append, positions_of-period}
use Rattle.lab_lines.specs.declared.line.Op.TheVariants as op

played-moves : (p q : PlayerSeat) (xs : List ℤ) (ps : List ℕ) → HasPlayed p q xs ps → PlayerMoves p q xs ps false
played-moves p q xs ps played = let gone = played.unplugged ∙ or-false (track_of p).gone in assumption

captured-moves : (w v : WriterSeat) (xs : List ℤ) (ps : List ℕ) → HasCaptured w v xs ps → WriterMoves w v xs ps false
captured-moves w v xs ps captured = let gone = captured.gone ∙ or-false (writer_track w).gone in assumption

run-moves : (c d : Card) (n : ℕ) (captured old new : List ℤ) → RunsThrough c d captured old new → period_of d ≡ period_of c → records_of d ≡ records_of c
    → length captured ≡ n * (geometry_of_card c).channels → length old ≡ n * (geometry_of_card c).channels → length new ≡ n * (geometry_of_card c).channels
    → frame_of_card c + n ≤ end_frame (geometry_of_card c) → CardMoves c d n new captured (positions_of (period_of c) (frame_of_card c) n) false
run-moves c d n captured old new runs period records captured_size old_size new_size fits =
    let channels : ℕ = (geometry_of_card c).channels in
    let all : length old / channels ≡ n = ap (λ (k : ℕ). k / channels) old_size ∙ mul-div_cancel n (geometry_of_card c).channels_least in
    let left : frames_left (player_of c) old ≡ n = ap (λ (k : ℕ). min (end_frame (geometry_of_card c) - frame_of_card c) k) all ∙ (let e : min (end_frame (geometry_of_card c) - frame_of_card c) n ≡ n = omega (arith, fits) in e) in
    let run : RunsFrames (records_of c) (player_of c) (writer_of c) (player_of d) (writer_of d) (period_of c) n captured old new =
    subst (λ (k : ℕ). RunsFrames (records_of c) (player_of c) (writer_of c) (player_of d) (writer_of d) (period_of c) k captured old new) left runs in
    let taken : first_samples (player_of c) n new ≡ new = take_all (n * channels) new (omega (arith, new_size)) in
    let stored : first_samples (player_of c) n captured ≡ captured = take_all (n * channels) captured (omega (arith, captured_size)) in
    let positions : List ℕ = positions_of (period_of c) (frame_of_card c) n in
    record {
      player = played-moves (seat_of (player_of c)) (seat_of (player_of d)) new positions
          (subst (λ (xs : List ℤ). HasPlayed (seat_of (player_of c)) (seat_of (player_of d)) xs positions) taken run.played);
      writer = captured-moves (writer_of c) (writer_of d) (captured_if (records_of c) captured) (captured_if (records_of c) positions)
          (subst (λ (xs : List ℤ). HasCaptured (writer_of c) (writer_of d) (captured_if (records_of c) xs) (captured_if (records_of c) positions)) stored run.stored);
      period = period;
      records = records;
      frame = ap (λ (at : Rattle.snd_base.specs.declared.places.Cursor.Cursor). at.frame) run.next;
      whole = new_size;
    }

-- a run over a buffer at the end of the played samples
pub CardDid-run : (capture : Option Sound) (a b : CardActor) (n : ℕ) (captured old new : List ℤ) → RunsThrough a.card b.card captured old new → period_of b.card ≡ period_of a.card
    → records_of b.card ≡ records_of a.card → captured ≡ captured_frames capture (geometry_of_card a.card).channels (frames_since_first a.card) n
    → length captured ≡ n * (geometry_of_card a.card).channels → length old ≡ n * (geometry_of_card a.card).channels → length new ≡ n * (geometry_of_card a.card).channels
    → frame_of_card a.card + n ≤ end_frame (geometry_of_card a.card) → b.played.items ≡ a.played.items ++ new
    → CardDid capture a b n (positions_of (period_of a.card) (frame_of_card a.card) n) false
CardDid-run capture a b n captured old new runs period records captured_is captured_size old_size new_size fits played = record {
  samples = new;
  moves = subst (λ (xs : List ℤ). CardMoves a.card b.card n new xs (positions_of (period_of a.card) (frame_of_card a.card) n) false) captured_is
      (run-moves a.card b.card n captured old new runs period records captured_size old_size new_size fits);
  played = played;
}

-- the frames to the end of a period
pub period-end : (period frame : ℕ) → 0 < period → (frame + (period - frame % period)) % period ≡ 0
period-end period frame positive =
    let is : period * (frame / period) + frame % period ≡ frame = div-add-mod frame period in
    let low : frame % period < period = mod-lt frame positive in
    let sum : frame + (period - frame % period) ≡ period + period * (frame / period) = omega (arith, is, low) in
    ap (λ (k : ℕ). k % period) sum ∙ (add-mul-mod_self_left period period (frame / period) ∙ mod_self period)

-- the last samples of a list, from a place on, and what is written over them
pub last-part : (xs : List ℤ) (at : ℕ) → take (length xs - at) (drop at xs) ≡ drop at xs
last-part xs at = take_all (length xs - at) (drop at xs) (let size = length-drop at xs in omega (arith, size))

pub last-written : (old silence new xs : List ℤ) (at : ℕ) → xs ≡ old ++ silence → at ≡ length old → take at xs ++ (new ++ post_of at (length xs - at) xs) ≡ old ++ new
last-written old silence new xs at is place =
    let front : take at xs ≡ old = ap (λ (ys : List ℤ). take at ys) is ∙ (ap (λ (k : ℕ). take k (old ++ silence)) place ∙ take-append_seam old silence) in
    let size : length xs ≡ length old + length silence = ap length is ∙ length-append old silence in
    let none : post_of at (length xs - at) xs ≡ [] = drop_of_length-le (drop at xs) (let behind = length-drop at xs in omega (arith, behind)) in
    ap (λ (ys : List ℤ). ys ++ (new ++ post_of at (length xs - at) xs)) front ∙ ap (λ (ys : List ℤ). old ++ ys) (ap (λ (ys : List ℤ). new ++ ys) none ∙ append-nil new)

-- a list of so many samples, of a `Vec` of as many
pub refilled : (ws items : List ℤ) (len : ℕ) → length ws ≡ len → take len (ws ++ drop (length ws) items) ≡ ws
refilled ws items len size = ap (λ (k : ℕ). take k (ws ++ drop (length ws) items)) (sym size) ∙ take-append_seam ws (drop (length ws) items)

pub whole-frames : (n c k : ℕ) → k ≡ n * c → k % c ≡ 0
whole-frames n c k is = ap (λ (m : ℕ). m % c) is ∙ mul-mod_left n c

module _ (capture : Option Sound) (a x b : CardActor) (done piece : ℕ) where
  positions-after : CardDid capture a x done (periods_to (period_of a.card) (frame_of_card a.card) done) false
      → positions_of (period_of x.card) (frame_of_card x.card) piece ≡ positions_of (period_of a.card) (frame_of_card a.card + done) piece
  positions-after did =
      ap (λ (k : ℕ). positions_of k (frame_of_card x.card) piece) did.moves.period
      ∙ ap (λ (k : ℕ). positions_of (period_of a.card) k piece) did.moves.frame

  -- the frames to the end of a period more
  pub play-more : CardDid capture a x done (periods_to (period_of a.card) (frame_of_card a.card) done) false
      → CardDid capture x b piece (positions_of (period_of x.card) (frame_of_card x.card) piece) false → 0 < piece → (frame_of_card x.card + piece) % period_of x.card ≡ 0
      → CardDid capture a b (done + piece) (periods_to (period_of a.card) (frame_of_card a.card) (done + piece)) false
  play-more did more positive ends =
      let period : ℕ = period_of a.card in
      let from : ℕ = frame_of_card a.card in
      let at_end : (from + done + piece) % period ≡ 0 =
      ap (λ (k : ℕ). (k + piece) % period) (sym did.moves.frame) ∙ (ap (λ (k : ℕ). (frame_of_card x.card + piece) % k) (sym did.moves.period) ∙ ends) in
      let multiple : is_multiple period (from + done + piece) ≡ true = ap (λ (k : ℕ). k == 0) at_end in
      let later : positions_of (period_of x.card) (frame_of_card x.card) piece ≡ periods_to period (from + done) piece =
      positions-after did ∙ positions_of-period period (from + done) piece positive multiple in
      let all : periods_to period from done ++ positions_of (period_of x.card) (frame_of_card x.card) piece ≡ periods_to period from (done + piece) =
      ap (λ (ps : List ℕ). periods_to period from done ++ ps) later ∙ sym (periods_to-append period from done piece) in
      subst (λ (ps : List ℕ). CardDid capture a b (done + piece) ps false) all
      (CardDid-joined capture a x b done piece (periods_to period from done) (positions_of (period_of x.card) (frame_of_card x.card) piece) false false did more)

  -- and the last frames
  pub play-end : CardDid capture a x done (periods_to (period_of a.card) (frame_of_card a.card) done) false
      → CardDid capture x b piece (positions_of (period_of x.card) (frame_of_card x.card) piece) false → (done ≡ 0) ⊎ (0 < piece)
      → CardDid capture a b (done + piece) (positions_of (period_of a.card) (frame_of_card a.card) (done + piece)) false
  play-end did more some_left =
      let period : ℕ = period_of a.card in
      let from : ℕ = frame_of_card a.card in
      let all : periods_to period from done ++ positions_of period (from + done) piece ≡ positions_of period from (done + piece) = elim some_left [
        | inl none ↦
            ap (λ (k : ℕ). periods_to period from k ++ positions_of period (from + k) piece) none
            ∙ (ap (λ (k : ℕ). positions_of period k piece) (let e : from + 0 ≡ from = omega arith in e)
            ∙ ap (λ (k : ℕ). positions_of period from k) (let e : piece ≡ done + piece = omega (arith, none) in e))
        | inr positive ↦ positions_of-append period from done piece positive
      ] in
      subst (λ (ps : List ℕ). CardDid capture a b (done + piece) ps false)
      (ap (λ (ps : List ℕ). periods_to period from done ++ ps) (positions-after did) ∙ all)
      (CardDid-joined capture a x b done piece (periods_to period from done) (positions_of (period_of x.card) (frame_of_card x.card) piece) false false did more)

-- what isn't the card's is nothing
pub CardDid-other : (capture : Option Sound) (a : CardActor) (asked : Op) → ((n : ℕ) → ¬ (asked ≡ op.Play n)) → ¬ (asked ≡ op.Unplug)
    → (played_by asked ≡ 0) × CardDid capture a a (0 + played_by asked) (positions_at (period_of a.card) (frame_of_card a.card) asked ++ []) (is_unplug asked || false)
CardDid-other capture a (op.Play n) not_play not_unplug = absurd (not_play n refl)
CardDid-other capture a op.Unplug not_play not_unplug = absurd (not_unplug refl)
CardDid-other capture a other not_play not_unplug = (refl, CardDid-none capture a)
