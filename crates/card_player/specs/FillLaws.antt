-- The words of one frame, written into a buffer one after the other.
use Rattle.std.proofs.Common.{◌≡◌, ℕ, suc, ◌+◌, ◌*◌, ◌<◌, ◌≤◌, ℤ, List, [], ◌∷◌, ◌++◌, length, take, drop, true, false, nat_lt, if◌then◌else◌, sym, ap, subst, ◌∙◌, arith, length-take, append-nil, take-append-drop, take-take, drop-drop}
use Rattle.std.proofs.lemmas.List.{drop-append-le, drop-set-lt, take-set-le, take_more_set}
use Rattle.std.proofs.Math.ListN.{set}
use Rattle.std.proofs.Math.Numerals.{suc-eq-add-one}
use Rattle.snd_base.specs.declared.geometry.Geometry.{Geometry}
use Rattle.snd_base.specs.declared.places.Cursor.{Cursor}
use Rattle.snd_base.specs.Places.{cursor_after}
use Rattle.mix_core.specs.declared.event.Taken.{Taken}
use Rattle.sum_table.specs.declared.view.Key.{Key}
use Rattle.std.proofs.lemmas.Bool.{lt-ltb}
use Rattle.sum_table.specs.Players.{HasPublished, HasTaken, next_of_player, player_geometry}
use Rattle.sum_table.specs.declared.seats.player.PlayerSeat.{PlayerSeat}
use Rattle.card_player.specs.Plays.{HasPlayed, at_frame, ends_period, period_at, periods_to, positions_of}
use Rattle.card_player.specs.PlayLaws.{HasPlayed-joined, HasPlayed-published, HasPlayed-taken}

-- the next word after so many words of a frame
abbrev pub word_of_frame : Geometry → ℕ → ℕ → Cursor
word_of_frame g f c = if nat_lt c g.channels then record { frame = f; channel = c } else at_frame (f + 1)

-- so many words of a frame were taken, and their values written into a buffer from an index on
pub record HasWritten (p q : PlayerSeat) (at c : ℕ) (old new : List ℤ) : Type 0 where
  pub played : HasPlayed p q (drop at (take (at + c) new)) []
  pub next : next_of_player q ≡ word_of_frame (player_geometry p) (next_of_player p).frame c
  pub before : take at new ≡ take at old
  pub rest : drop (at + c) new ≡ drop (at + c) old

-- the values that are written, with one more
pub drop-take_more : (at c : ℕ) (xs : List ℤ) (x : ℤ) → at + c < length xs
    → drop at (take (at + c + 1) (set xs (at + c) x)) ≡ drop at (take (at + c) xs) ++ x ∷ []
drop-take_more at c xs x inside =
    ap (drop at) (take_more_set xs (at + c) x inside)
    ∙ drop-append-le at (take (at + c) xs) (x ∷ []) (subst (λ n. at ≤ n) (sym (length-take (at + c) xs)) (omega (arith, inside)))

-- the next word of a frame that isn't wholly taken
word_is : (g : Geometry) (f c : ℕ) → c < g.channels → word_of_frame g f c ≡ record { frame = f; channel = c }
word_is g f c inside = ap (λ b. if b then record { frame = f; channel = c } else at_frame (f + 1)) (lt-ltb c g.channels inside)

-- one word more is taken and written
pub HasWritten-more : (p q r : PlayerSeat) (at c : ℕ) (old new : List ℤ) (x : Taken)
    → HasWritten p q at c old new → HasTaken q r x
    → c < (player_geometry p).channels → at + c < length new
    → HasWritten p r at (c + 1) old (set new (at + c) x.value)
HasWritten-more p q r at c old new x was took channel inside =
    let g : Geometry = player_geometry p in
    let f : ℕ = (next_of_player p).frame in
    let next_q : next_of_player q ≡ record { frame = f; channel = c } = was.next ∙ word_is g f c channel in
    let end_is : at + c + 1 ≡ at + (c + 1) = omega arith in
    let values : drop at (take (at + (c + 1)) (set new (at + c) x.value)) ≡ drop at (take (at + c) new) ++ x.value ∷ [] =
    subst (λ n. drop at (take n (set new (at + c) x.value)) ≡ drop at (take (at + c) new) ++ x.value ∷ []) end_is (drop-take_more at c new x.value inside) in
    record {
      played = subst (λ xs. HasPlayed p r xs []) (sym values)
          (HasPlayed-joined p q r (drop at (take (at + c) new)) (x.value ∷ []) [] [] was.played (HasPlayed-taken q r x took));
      next = took.next
          ∙ (ap (λ (k : Key). cursor_after k.geometry (next_of_player q).frame (next_of_player q).channel) was.played.goes.key
          ∙ ap (λ (w : Cursor). cursor_after g w.frame w.channel) next_q);
      before = take-set-le at new (at + c) x.value (omega arith) ∙ was.before;
      rest = drop-set-lt (at + (c + 1)) new (at + c) x.value (omega arith) ∙ drop_one_more at c new old was.rest;
    } where
      drop_one_more : (at c : ℕ) (xs ys : List ℤ) → drop (at + c) xs ≡ drop (at + c) ys → drop (at + (c + 1)) xs ≡ drop (at + (c + 1)) ys
      drop_one_more at c xs ys same =
          let end_is : (at + c) + 1 ≡ at + (c + 1) = omega arith in
          subst (λ n. drop n xs ≡ drop n ys) end_is (sym (drop-drop 1 (at + c) xs) ∙ (ap (drop 1) same ∙ drop-drop 1 (at + c) ys))

-- so many frames were played, their values written at the beginning of a buffer, and the periods among them published
pub record HasFilled (p q : PlayerSeat) (period frames : ℕ) (old new : List ℤ) : Type 0 where
  pub played : HasPlayed p q (take (frames * (player_geometry p).channels) new) (periods_to period (next_of_player p).frame frames)
  pub next : next_of_player q ≡ at_frame ((next_of_player p).frame + frames)
  pub rest : drop (frames * (player_geometry p).channels) new ≡ drop (frames * (player_geometry p).channels) old

-- a buffer's samples up to an index, and from there on
pub take-split : (at c : ℕ) (xs : List ℤ) → take (at + c) xs ≡ take at xs ++ drop at (take (at + c) xs)
take-split at c xs = sym (take-append-drop at (take (at + c) xs)) ∙ ap (λ ys. ys ++ drop at (take (at + c) xs)) (take-take at (at + c) xs (omega arith))

-- one frame more is played, and where it ends a period the position is published
pub HasFilled-more : (p q m r : PlayerSeat) (period frames at : ℕ) (old new later : List ℤ) → HasFilled p q period frames old new
    → at ≡ frames * (player_geometry p).channels
    → HasPlayed q m (drop at (take (at + (player_geometry q).channels) later)) []
    → next_of_player m ≡ at_frame ((next_of_player q).frame + 1)
    → take at later ≡ take at new → drop (at + (player_geometry q).channels) later ≡ drop (at + (player_geometry q).channels) new
    → HasPlayed m r [] (period_at period (next_of_player m).frame)
    → next_of_player r ≡ next_of_player m
    → HasFilled p r period (frames + 1) old later
HasFilled-more p q m r period frames at old new later was at_is took next before rest published stays =
    let c : ℕ = (player_geometry q).channels in
    let f : ℕ = (next_of_player p).frame in
    let same : (player_geometry q).channels ≡ (player_geometry p).channels = ap (λ (k : Key). k.geometry.channels) was.played.goes.key in
    let end_is : (frames + 1) * (player_geometry p).channels ≡ at + c = omega (arith, at_is, same) in
    let frame_m : next_of_player m ≡ at_frame (f + frames + 1) = next ∙ ap (λ (w : Cursor). at_frame (w.frame + 1)) was.next in
    let values : take at new ++ drop at (take (at + c) later) ≡ take ((frames + 1) * (player_geometry p).channels) later =
    ap (λ xs. xs ++ drop at (take (at + c) later)) (sym before) ∙ (sym (take-split at c later) ∙ ap (λ n. take n later) (sym end_is)) in
    let last_is : f + frames + 1 ≡ f + suc frames = omega arith in
    let positions : periods_to period f frames ++ period_at period (next_of_player m).frame ≡ periods_to period f (frames + 1) =
    ap (λ (w : Cursor). periods_to period f frames ++ period_at period w.frame) frame_m
    ∙ (ap (λ n. periods_to period f frames ++ period_at period n) last_is ∙ ap (λ n. periods_to period f n) (suc-eq-add-one frames)) in
    let first : HasPlayed p q (take at new) (periods_to period f frames) =
    subst (λ n. HasPlayed p q (take n new) (periods_to period f frames)) (sym at_is) was.played in
    let both : HasPlayed p m (take at new ++ drop at (take (at + c) later)) (periods_to period f frames ++ []) =
    HasPlayed-joined p q m (take at new) (drop at (take (at + c) later)) (periods_to period f frames) [] first took in
    let all : HasPlayed p r ((take at new ++ drop at (take (at + c) later)) ++ []) ((periods_to period f frames ++ []) ++ period_at period (next_of_player m).frame) =
    HasPlayed-joined p m r (take at new ++ drop at (take (at + c) later)) [] (periods_to period f frames ++ []) (period_at period (next_of_player m).frame) both published in
    record {
      played = subst (λ xs. HasPlayed p r xs (periods_to period f (frames + 1))) (append-nil _ ∙ values)
          (subst (λ ps. HasPlayed p r ((take at new ++ drop at (take (at + c) later)) ++ []) ps) (ap (λ ps. ps ++ period_at period (next_of_player m).frame) (append-nil (periods_to period f frames)) ∙ positions) all);
      next = stays ∙ (frame_m ∙ ap at_frame (omega arith));
      rest = ap (λ n. drop n later) end_is ∙ (rest ∙ (drop_more at c new old (subst (λ n. drop n new ≡ drop n old) (sym at_is) was.rest) ∙ ap (λ n. drop n old) (sym end_is)));
    } where
      drop_more : (at c : ℕ) (xs ys : List ℤ) → drop at xs ≡ drop at ys → drop (at + c) xs ≡ drop (at + c) ys
      drop_more at c xs ys same =
          sym (drop-drop c at xs) ∙ (ap (drop c) same ∙ drop-drop c at ys)

-- all frames are played: the end is published where it isn't a multiple of the period
pub HasFilled-published : (p q r : PlayerSeat) (period frames : ℕ) (old new : List ℤ) → HasFilled p q period frames old new
    → ends_period period (next_of_player p).frame frames ≡ false → HasPublished q r
    → HasPlayed p r (take (frames * (player_geometry p).channels) new) (positions_of period (next_of_player p).frame frames)
HasFilled-published p q r period frames old new was not_ended did =
    let f : ℕ = (next_of_player p).frame in
    let values : List ℤ = take (frames * (player_geometry p).channels) new in
    let positions : periods_to period f frames ++ (next_of_player q).frame ∷ [] ≡ positions_of period f frames =
    ap (λ (w : Cursor). periods_to period f frames ++ w.frame ∷ []) was.next
    ∙ ap (λ b. periods_to period f frames ++ (if b then [] else (f + frames) ∷ [])) (sym not_ended) in
    subst (λ xs. HasPlayed p r xs (positions_of period f frames)) (append-nil values)
    (subst (λ ps. HasPlayed p r (values ++ []) ps) positions
    (HasPlayed-joined p q r values [] (periods_to period f frames) ((next_of_player q).frame ∷ []) was.played (HasPlayed-published q r did)))

-- the end is a multiple of the period: it is published already
pub HasFilled-ended : (p q : PlayerSeat) (period frames : ℕ) (old new : List ℤ) → HasFilled p q period frames old new
    → ends_period period (next_of_player p).frame frames ≡ true
    → HasPlayed p q (take (frames * (player_geometry p).channels) new) (positions_of period (next_of_player p).frame frames)
HasFilled-ended p q period frames old new was ended =
    let f : ℕ = (next_of_player p).frame in
    let values : List ℤ = take (frames * (player_geometry p).channels) new in
    subst (λ ps. HasPlayed p q values ps) (sym (append-nil (periods_to period f frames)) ∙ ap (λ b. periods_to period f frames ++ (if b then [] else (f + frames) ∷ [])) (sym ended)) was.played
