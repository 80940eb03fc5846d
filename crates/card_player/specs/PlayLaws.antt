-- Steps of the player's seat, put together.
use Rattle.std.proofs.Common.{◌&&◌, ◌≡◌, ℕ, zero, suc, ◌+◌, Bool, true, false, ℤ, List, [], ◌∷◌, ◌++◌, All, if◌then◌else◌, refl, sym, ap, subst, ◌∙◌, append_assoc, append-nil, arith}
use Rattle.std.proofs.Math.Numerals.{suc-eq-add-one}
use Rattle.std.proofs.lemmas.Bool.{lt-ltb}
use Rattle.std.proofs.lemmas.List.Elements.{All-append}
use Rattle.snd_base.specs.declared.geometry.Geometry.{Geometry}
use Rattle.snd_base.specs.declared.places.Cursor.{Cursor}
use Rattle.snd_base.specs.Places.{cursor_after}
use Rattle.mix_core.specs.declared.event.Taken.{Taken}
use Rattle.sum_table.specs.declared.seats.player.PlayerSeat.{PlayerSeat}
use Rattle.sum_table.specs.declared.view.Key.{Key}
use Rattle.sum_table.specs.declared.view.Track.{Track}
use Rattle.ring_rule.specs.Positions.{last_number}
use Rattle.sum_table.specs.Players.{HasPublished, HasTaken, PlayerGoes, next_of_player, player_geometry, player_view, track_of}
use Rattle.sum_table.specs.Seats.{BeginsWith-trans}
use Rattle.card_player.specs.Plays.{HasPlayed, IsSumThen, behind_words, ends_period, is_multiple, period_at, periods_to, positions_of, words_at}

pub last_number-append : (d : ℕ) (xs ys : List ℕ) → last_number d (xs ++ ys) ≡ last_number (last_number d xs) ys
last_number-append d [] ys = refl
last_number-append d (x ∷ xs) ys = last_number-append x xs ys

pub behind_words-append : (g : Geometry) (at : Cursor) (xs ys : List ℤ) → behind_words g at (xs ++ ys) ≡ behind_words g (behind_words g at xs) ys
behind_words-append g at [] ys = refl
behind_words-append g at (x ∷ xs) ys = behind_words-append g (cursor_after g at.frame at.channel) xs ys

pub words_at-append : (g : Geometry) (at : Cursor) (xs ys : List ℤ) → words_at g at (xs ++ ys) ≡ words_at g at xs ++ words_at g (behind_words g at xs) ys
words_at-append g at [] ys = refl
words_at-append g at (x ∷ xs) ys = ap (λ ws. record { frame = at.frame; channel = at.channel; value = x } ∷ ws) (words_at-append g (cursor_after g at.frame at.channel) xs ys)

pub PlayerGoes-same : (p : PlayerSeat) → PlayerGoes p p
PlayerGoes-same p = record { ring = refl; key = refl; history = ([], sym (append-nil (player_view p).history)) }

pub PlayerGoes-joined : (p q r : PlayerSeat) → PlayerGoes p q → PlayerGoes q r → PlayerGoes p r
PlayerGoes-joined p q r first then_ = record {
  ring = then_.ring ∙ first.ring;
  key = then_.key ∙ first.key;
  history = BeginsWith-trans (player_view r).history (player_view q).history (player_view p).history then_.history first.history;
}

-- nothing was played
pub HasPlayed-none : (p : PlayerSeat) → HasPlayed p p [] []
HasPlayed-none p = record {
  goes = PlayerGoes-same p;
  taken = sym (append-nil (track_of p).taken);
  sums = λ k d inside. absurd (omega (arith, inside));
  published = sym (append-nil (track_of p).published);
  next = refl;
  position = refl;
  gone = refl;
  unplugged = refl;
}

-- a word at a frame and channel, with the value of one that was taken there
taken_at : (f c : ℕ) (x : Taken) → x.frame ≡ f → x.channel ≡ c → record { frame = f; channel = c; value = x.value } ≡ x
taken_at f c x frame channel =
    subst (λ (k : ℕ). record { frame = k; channel = c; value = x.value } ≡ x) frame
    (subst (λ (k : ℕ). record { frame = x.frame; channel = k; value = x.value } ≡ x) channel refl)

one_holds : (P : Taken → Type 0) (x : Taken) → P x → All P (x ∷ [])
one_holds P x holds zero d inside = holds
one_holds P x holds (suc k) d inside = absurd (omega (arith, inside))

-- one word was taken
pub HasPlayed-taken : (p q : PlayerSeat) (x : Taken) → HasTaken p q x → HasPlayed p q (x.value ∷ []) []
HasPlayed-taken p q x took =
    let same : record { frame = p.next.frame; channel = p.next.channel; value = x.value } ≡ x =
    taken_at p.next.frame p.next.channel x took.frame took.channel in
    record {
      goes = took.goes;
      taken = ap (λ (t : Track). t.taken) took.track ∙ ap (λ w. (track_of p).taken ++ w ∷ []) (sym same);
      sums = subst (λ w. All (λ (y : Taken). IsSumThen p q y) (w ∷ [])) (sym same)
          (one_holds (λ y. IsSumThen p q y) x (q, took.goes, PlayerGoes-same q, took.value));
      published = ap (λ (t : Track). t.published) took.track ∙ sym (append-nil (track_of p).published);
      next = took.next;
      position = took.position;
      gone = took.gone;
      unplugged = ap (λ (t : Track). t.gone) took.track;
    }

-- one position was published
pub HasPlayed-published : (p q : PlayerSeat) → HasPublished p q → HasPlayed p q [] ((next_of_player p).frame ∷ [])
HasPlayed-published p q did = record {
  goes = did.goes;
  taken = ap (λ (t : Track). t.taken) did.track ∙ sym (append-nil (track_of p).taken);
  sums = λ k d inside. absurd (omega (arith, inside));
  published = ap (λ (t : Track). t.published) did.track;
  next = did.next;
  position = did.position;
  gone = did.gone;
  unplugged = ap (λ (t : Track). t.gone) did.track;
}

-- what was played first, and then
pub HasPlayed-joined : (p q r : PlayerSeat) (xs ys : List ℤ) (early late : List ℕ) → HasPlayed p q xs early → HasPlayed q r ys late → HasPlayed p r (xs ++ ys) (early ++ late)
HasPlayed-joined p q r xs ys early late first then_ =
    let g : Geometry = player_geometry p in
    let same : player_geometry q ≡ g = ap (λ (k : Key). k.geometry) first.goes.key in
    let words : words_at (player_geometry q) (next_of_player q) ys ≡ words_at g (behind_words g (next_of_player p) xs) ys =
    ap (λ h. words_at h (next_of_player q) ys) same ∙ ap (λ at. words_at g at ys) first.next in
    let more : words_at g (next_of_player p) (xs ++ ys) ≡ words_at g (next_of_player p) xs ++ words_at (player_geometry q) (next_of_player q) ys =
    words_at-append g (next_of_player p) xs ys ∙ ap (λ ws. words_at g (next_of_player p) xs ++ ws) (sym words) in
    record {
      goes = PlayerGoes-joined p q r first.goes then_.goes;
      taken = then_.taken
          ∙ (ap (λ ts. ts ++ words_at (player_geometry q) (next_of_player q) ys) first.taken
          ∙ (append_assoc (track_of p).taken (words_at g (next_of_player p) xs) (words_at (player_geometry q) (next_of_player q) ys)
          ∙ ap (λ ws. (track_of p).taken ++ ws) (sym more)));
      sums = subst (λ ws. All (λ (x : Taken). IsSumThen p r x) ws) (sym more)
          (All-append (λ (x : Taken). IsSumThen p r x) (words_at g (next_of_player p) xs) (words_at (player_geometry q) (next_of_player q) ys)
          (λ k d inside. let was = first.sums k d inside in (was.0, was.1, PlayerGoes-joined was.0 q r was.2 then_.goes, was.3))
          (λ k d inside. let was = then_.sums k d inside in (was.0, PlayerGoes-joined p q was.0 first.goes was.1, was.2, was.3)));
      published = then_.published ∙ (ap (λ ps. ps ++ late) first.published ∙ append_assoc (track_of p).published early late);
      next = then_.next
          ∙ (ap (λ h. behind_words h (next_of_player q) ys) same
          ∙ (ap (λ at. behind_words g at ys) first.next ∙ sym (behind_words-append g (next_of_player p) xs ys)));
      position = then_.position ∙ (ap (λ d. last_number d late) first.position ∙ sym (last_number-append p.position early late));
      gone = then_.gone ∙ first.gone;
      unplugged = then_.unplugged ∙ first.unplugged;
    }

-- the last position that is published where so many frames are played is the end
pub last_number-positions_of : (d period first n : ℕ) → last_number d (positions_of period first n) ≡ first + n
last_number-positions_of d period first zero = omega arith
last_number-positions_of d period first (suc n) =
    ap (λ (b : Bool). last_number d (periods_to period first (suc n) ++ (if b then [] else (first + suc n) ∷ [])))
    (ap (λ (b : Bool). b && is_multiple period (first + suc n)) (lt-ltb 0 (suc n) (omega arith)))
    ∙ choose (is_multiple period (first + suc n)) where
      choose : (b : Bool)
          → last_number d ((periods_to period first n ++ (if b then (first + suc n) ∷ [] else [])) ++ (if b then [] else (first + suc n) ∷ [])) ≡ first + suc n
      choose true =
          ap (last_number d) (append-nil (periods_to period first n ++ (first + suc n) ∷ []))
          ∙ last_number-append d (periods_to period first n) ((first + suc n) ∷ [])
      choose false = last_number-append d (periods_to period first n ++ []) ((first + suc n) ∷ [])

-- the periods among so many frames, and one frame more
pub periods_to-more : (period first n last : ℕ) → last ≡ first + n + 1 → periods_to period first n ++ period_at period last ≡ periods_to period first (n + 1)
periods_to-more period first n last is =
    let last_is : last ≡ first + suc n = omega (arith, is) in
    ap (λ (k : ℕ). periods_to period first n ++ period_at period k) last_is ∙ ap (λ (k : ℕ). periods_to period first k) (suc-eq-add-one n)

-- the positions of so many frames are the periods among them, and the end where it is none
pub periods_to-open : (period first n end : ℕ) → ends_period period first n ≡ false → end ≡ first + n → periods_to period first n ++ end ∷ [] ≡ positions_of period first n
periods_to-open period first n end open_ is =
    ap (λ (k : ℕ). periods_to period first n ++ k ∷ []) is
    ∙ ap (λ (b : Bool). periods_to period first n ++ (if b then [] else (first + n) ∷ [])) (sym open_)

pub periods_to-ended : (period first n : ℕ) → ends_period period first n ≡ true → periods_to period first n ≡ positions_of period first n
periods_to-ended period first n ended =
    sym (append-nil (periods_to period first n)) ∙ ap (λ (b : Bool). periods_to period first n ++ (if b then [] else (first + n) ∷ [])) (sym ended)
