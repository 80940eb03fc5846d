-- What the seats know stays so at each kind of step, and what a word that is found shows a seat.
use Rattle.sum_table.specs.Prelude.{ap, arith, false, get_or, inl, inr, List, refl, set, Some, subst, suc, sym, true, ℕ, ℤ, [], ◌%◌, ◌*◌, ◌+◌, ◌<◌, ◌∙◌, ◌∷◌}
use Rattle.sum_table.specs.Prelude.{◌≡◌, ◌≤◌, ◌⊎◌, cases_lt, nat_tests, ints, at_set, get_elem?, some, Geometry, Cursor, div-lt_same, mod-same, first_free, lap}
use Rattle.sum_table.specs.Prelude.{count_of, lap_of, StandsFor, StandsFor-fields, sum_of, Entry, Row, is_at, total, IsNow, now_of, index_of, NotPast, rank}
use Rattle.sum_table.specs.Prelude.{Track, View, AreViews, BeginsWith, IsPublishedPosition, IsRing, IsView, next_at, position_at, all_laid, count, total_places}
use Rattle.sum_table.specs.Prelude.{Finds, IsWord, Tells}
use Rattle.sum_table.specs.declared.view.Key.{Key}
use Rattle.sum_table.proofs.Kept.{held_of, held_once, held_place}
use Rattle.sum_table.proofs.Places.{index_places}
use Rattle.sum_table.proofs.Sums.{count-append, count_few, count_room, places_set}

-- what may change under a view: the player goes on, words are not followed by earlier ones, the history goes on
pub record Later (g : Geometry) (before after : List ℕ) (t u : Track) (early late : List Row) : Type 0 where
  pub next : (c : ℕ) → first_free (next_at g t) c ≤ first_free (next_at g u) c
  pub position : position_at g t ≤ position_at g u
  pub published : (p : ℕ) → IsPublishedPosition g t p → IsPublishedPosition g u p
  pub gone : t.gone ≡ true → u.gone ≡ true
  pub words : (i n : ℕ) → 0 < i → NotPast n (get_or before i 0) → NotPast n (get_or after i 0)
  pub history : (h : List Row) → BeginsWith early h → BeginsWith late h

pub view_later : (k : Key) (before after : List ℕ) (t u : Track) (early late : List Row) (v : View)
    → Later k.geometry before after t u early late → IsView k before t early v → IsView k after u late v
view_later k before after t u early late v l x = record {
  kept = x.kept;
  seen_high = omega (arith, x.seen_high, l.position);
  positions = λ i p there. l.published p (x.positions i p there);
  gone = λ seen. l.gone (x.gone seen);
  noted = λ i n positive there. l.words i n positive (x.noted i n positive there);
  begins = l.history v.history x.begins;
  heard = l.history v.heard x.heard;
}

-- one view changes, and its seat is the player's where the track does
pub views_set : (k : Key) (before after : List ℕ) (views : List View) (at : ℕ) (t u : Track) (early late : List Row) (id : ℕ) (v w : View)
    → AreViews k before views at t early → Later k.geometry before after t u early late → get_elem? views id ≡ some v
    → w.places ≡ v.places → IsView k after u late w
    → ((x : Track) → w.track ≡ Some x → (id ≡ at) × (x ≡ u))
    → ((t ≡ u) ⊎ (id ≡ at))
    → AreViews k after (set views id w) at u late
views_set k before after views at t u early late id v w a l here places own player same = record {
  places = omega (arith, places_set views id v w here, places, a.places);
  each = λ i x there. elim (at_set views id i w x there) [
    | inl this ↦ subst (IsView k after u late) this.1 own
    | inr other ↦ view_later k before after t u early late x l (a.each i x other.1)
  ];
  player = λ i x y there tracks. elim (at_set views id i w x there) [
    | inl this ↦
        let mine : (id ≡ at) × (y ≡ u) = player y (ap (λ (z : View). z.track) this.1 ∙ tracks) in
        (this.0 ∙ mine.0, mine.1)
    | inr other ↦
        let was : (i ≡ at) × (y ≡ t) = a.player i x y other.1 tracks in
        elim same [
          | inl stays ↦ (was.0, was.1 ∙ stays)
          | inr is_player ↦ absurd (other.0 (was.0 ∙ sym is_player))
        ]
  ];
}

-- nothing but the history changes
pub Later-same : (g : Geometry) (words : List ℕ) (t : Track) (early late : List Row) → ((h : List Row) → BeginsWith early h → BeginsWith late h) → Later g words words t t early late
Later-same g words t early late more = grind (arith, nat_tests)

pub rank-of : (w l c : ℕ) (s : ℤ) → StandsFor w l c s → rank w ≡ l * 256 + c
rank-of w l c s h = grind (arith, ints)

-- no entry of a list is at a frame and channel
pub count_none : (es : List Entry) (f c : ℕ) → ((i : ℕ) (e : Entry) → get_elem? es i ≡ some e → ¬ ((e.frame ≡ f) × (e.channel ≡ c))) → count es f c ≡ 0
count_none [] f c none = refl
count_none (x ∷ xs) f c none =
    let apart : ¬ ((x.frame ≡ f) × (x.channel ≡ c)) = none 0 x refl in
    let test : is_at f c x ≡ false = grind (arith, nat_tests) in
    rw test (count_none xs f c (λ i e there. none (suc i) e there))

pub count_all_none : (views : List View) (f c : ℕ) → ((i : ℕ) (v : View) → get_elem? views i ≡ some v → count v.laid f c ≡ 0) → count (all_laid views) f c ≡ 0
count_all_none [] f c none = refl
count_all_none (x ∷ xs) f c none = omega (arith, count-append x.laid (all_laid xs) f c, none 0 x refl, count_all_none xs f c (λ i v there. none (suc i) v there))

-- nothing is placed past the ring's window
pub none_far : (k : Key) (words : List ℕ) (views : List View) (at : ℕ) (t : Track) (h : List Row) → AreViews k words views at t h
    → position_at k.geometry t ≤ (next_at k.geometry t).frame
    → (f c : ℕ) → first_free (next_at k.geometry t) c + k.geometry.frames ≤ f → count (all_laid views) f c ≡ 0
none_far k words views at t h a not_ahead f c far =
    let start : (next_at k.geometry t).frame ≤ first_free (next_at k.geometry t) c = grind (arith, nat_tests) in
    count_all_none views f c (λ i v there. count_none v.laid f c (λ j e is same.
    omega (arith, ((a.each i v there).kept.laid j e is).ahead, (a.each i v there).seen_high, not_ahead, start, far, same.0)))

-- what the lap of the word of a frame and channel says, for a frame less than the ring's length past the position
pub record ByLap (g : Geometry) (next : Cursor) (word f c : ℕ) : Type 0 where
  pub not_before : lap g f ≤ lap_of word
  pub past : f < first_free next c → lap g f < lap_of word
  pub now : lap_of word ≡ lap g f → IsNow g next f c
  pub taken : lap g f < lap_of word → f < first_free next c

pub by_lap : (g : Geometry) (words : List ℕ) (es : List Entry) (t : Track) (f c : ℕ) → IsRing g words es t → c < g.channels → f < position_at g t + g.frames
    → ByLap g (next_at g t) (get_or words (index_of g f c) 0) f c
by_lap g words es t f c r in_range ahead =
    let next : Cursor = next_at g t in
    let found : (k : ℕ) × IsNow g next k c × (k % g.frames ≡ f % g.frames) × (index_of g k c ≡ index_of g f c) = now_of g (index_of g) _ (index_places g) next f c in_range in
    let k : ℕ = found.0 in
    let now : IsNow g next k c = found.1 in
    let word : ℕ = get_or words (index_of g f c) 0 in
    let of_lap : lap_of word ≡ lap g k = subst (λ i. lap_of (get_or words i 0) ≡ lap g k) found.3 (StandsFor-fields _ _ _ _ (r.sums k c now)).0 in
    let start : next.frame ≤ first_free next c = grind (arith, nat_tests) in
    let near : f < first_free next c + g.frames = omega (arith, r.not_ahead, ahead, start) in
    let same : first_free next c ≤ f → f ≡ k = λ low. mod-same g.frames (first_free next c) f k low near now.low now.high (sym found.2) in
    let earlier : f < first_free next c → lap g f < lap g k = λ before. div-lt_same g.frames f k (sym found.2) (omega (arith, now.low)) in
    elim (cases_lt f (first_free next c)) [
      | inl before ↦ record {
        not_before = omega (arith, of_lap, earlier before);
        past = λ again. omega (arith, of_lap, earlier before);
        now = λ is. absurd (omega (arith, of_lap, earlier before));
        taken = λ is. before;
      }
      | inr from ↦
          let one : f ≡ k = same from in
          let lap_is : lap_of word ≡ lap g f = of_lap ∙ ap (lap g) (sym one) in
          record {
            not_before = omega (arith, lap_is);
            past = λ before. absurd (omega arith);
            now = λ is. record { channel = in_range; low = from; high = near };
            taken = λ is. absurd (omega (arith, lap_is));
          }
    ]

-- a word that is found represents no more than is placed through all places
pub word_ok : (k : Key) (words : List ℕ) (views : List View) (at : ℕ) (t : Track) (h : List Row) (f c : ℕ)
    → IsRing k.geometry words (all_laid views) t → AreViews k words views at t h → c < k.geometry.channels
    → get_or words (index_of k.geometry f c) 0 < 18446744073709551616
    → IsWord (get_or words (index_of k.geometry f c) 0) k.places
word_ok k words views at t h f c r a in_range fits =
    let g : Geometry = k.geometry in
    let found : (j : ℕ) × IsNow g (next_at g t) j c × (j % g.frames ≡ f % g.frames) × (index_of g j c ≡ index_of g f c) = now_of g (index_of g) _ (index_places g) (next_at g t) f c in_range in
    let j : ℕ = found.0 in
    let word : ℕ = get_or words (index_of g f c) 0 in
    let stands : StandsFor word (lap g j) (count (all_laid views) j c) (total (all_laid views) j c) =
    subst (λ i. StandsFor (get_or words i 0) (lap g j) (count (all_laid views) j c) (total (all_laid views) j c)) found.3 (r.sums j c found.1) in
    let fields : (lap_of word ≡ lap g j) × (count_of word ≡ count (all_laid views) j c) × (sum_of word ≡ total (all_laid views) j c) = StandsFor-fields _ _ _ _ stands in
    let few : count (all_laid views) j c ≤ 3 * total_places views = count_few views j c (λ i u there. (a.each i u there).kept.few j c) in
    record {
      fits = fits;
      few = omega (arith, fields.1, few, a.places);
      low = rw (fields.1, fields.2) (r.low j c);
      high = rw (fields.1, fields.2) (r.high j c);
    }

-- what a seat is shown by the word of a frame and channel
pub finds : (words : List ℕ) (views : List View) (at : ℕ) (t : Track) (h : List Row) (id : ℕ) (v : View) (f c : ℕ)
    → IsRing v.key.geometry words (all_laid views) t → AreViews v.key words views at t h → get_elem? views id ≡ some v
    → c < v.key.geometry.channels
    → get_or words (index_of v.key.geometry f c) 0 < 18446744073709551616
    → Finds v (index_of v.key.geometry f c) (get_or words (index_of v.key.geometry f c) 0)
finds words views at t h id v f c r a here in_range fits =
    let k : Key = v.key in
    let g : Geometry = k.geometry in
    let x : IsView k words t h v = a.each id v here in
    record {
      word = word_ok k words views at t h f c r a in_range fits;
      noted = λ o is. x.noted (index_of g f c) o (omega arith) is;
      tells = λ e d same d_in least ahead.
          let laps : ByLap g (next_at g t) (get_or words (index_of g e d) 0) e d = by_lap g words (all_laid views) t e d r d_in (omega (arith, ahead, x.seen_high)) in
          let told : Tells v (get_or words (index_of g e d) 0) e d =
          let start : (next_at g t).frame ≤ first_free (next_at g t) d = grind (arith, nat_tests) in
          record {
            not_before = laps.not_before;
            late = λ seen. laps.past (omega (arith, x.seen_high, r.not_ahead, start));
            room = λ is may.
                let now : IsNow g (next_at g t) e d = laps.now is in
                let counted : count_of (get_or words (index_of g e d) 0) ≡ count (all_laid views) e d = (StandsFor-fields _ _ _ _ (r.sums e d now)).1 in
                let some : count (all_laid views) e d + 3 * v.places ≤ 3 * total_places views + count v.laid e d =
                count_room views id v e d here (λ i u there. (a.each i u there).kept.few e d) in
                elim may [
                  | inl from ↦ omega (arith, counted, some, x.kept.marked.past_cursor e d d_in from.1, from.0, a.places)
                  | inr one ↦
                      let held = held_of v e d one.0 one.1 in
                      omega (arith, counted, some, a.places, held_once g v.places v.laid v.mine v.free v.marks v.seen v.ended e d one.0 x.kept held, held_place g v.places v.laid v.mine v.free v.marks v.seen v.ended e d one.0 x.kept held)
                ];
          } in
          subst (λ i. Tells v (get_or words i 0) e d) same told;
    }
