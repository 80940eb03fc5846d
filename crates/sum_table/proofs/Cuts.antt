-- Splits and joins keep the rule, and what they make of the fields of the seats.
use Rattle.sum_table.specs.Prelude.{ap, arith, Bool, false, get_or, inl, inr, length, List, map, max, None, Option, pos, refl, set, Some, subst, sym, true, ℕ}
use Rattle.sum_table.specs.Prelude.{ℤ, [], ◌*◌, ◌++◌, ◌+◌, ◌-◌, ◌||◌, ◌∙◌, ◌∷◌, ◌≡◌, ◌≤◌, ◌⊎◌, false≢true, or_right, nat_tests, ints, append-nil, length-append}
use Rattle.sum_table.specs.Prelude.{length-set, at_set, Allows, Joins, keeps, Me, Splits, step, get_elem?, none, some, some-ne-none, Geometry, Cursor, IsWithin}
use Rattle.sum_table.specs.Prelude.{lap, lap_of, StandsFor-fields, Marks, Entry, AreExact, AreInOrder, IsLegal, laid_of, Row, total-append, at, sum_of_samples}
use Rattle.sum_table.specs.Prelude.{total, start_marks, IsNow, at_append, at_second, later_notes-keeps, later_notes-length, later_notes-one, no_note}
use Rattle.sum_table.specs.Prelude.{has_all-more, has_each, index_of, NotPast, rank, MixSeat, PlayerSeat, Track, View, both_of, either_track, joined_marks}
use Rattle.sum_table.specs.Prelude.{part_of, spent_view, with_places, without_places, BeginsWith, Exact, is_tracked, IsKept, IsLaid, IsPublishedPosition}
use Rattle.sum_table.specs.Prelude.{IsView, next_at, position_at, the_track, greater, IsKnown, IsNoted, IsPlayer, last_frame, all_laid, by_member, count}
use Rattle.sum_table.specs.Prelude.{SameSums, total_places, player_view, track_of, view_of, IsStep, Knows, Makes, quiet_load, with_history}
use Rattle.ring_rule.specs.SeatLaws.{HasTrack-join, HasTrack-split, each-join, each-split, or_true, join_views, split_views}
use Rattle.sum_table.specs.declared.seats.note.SeatNote.{SeatNote}
use Rattle.sum_table.specs.declared.view.Key.{Key}
use Rattle.sum_table.specs.Joins.{HasClosed, HasHeard, HasJoined, HasMet, HasPlayerNote, note_view}
use Rattle.sum_table.proofs.Highs.{IsReach-joined, greater_none}
use Rattle.sum_table.proofs.Keeps.{Holds, idle, loaded, none_made, tracked_some}
use Rattle.sum_table.proofs.Kept.{kept_join, kept_none, kept_places, IsLaid-later}
use Rattle.sum_table.proofs.Rings.{IsRing-same}
use Rattle.sum_table.proofs.Rows.{BeginsWith-same, history_over, owns_same}
use Rattle.sum_table.proofs.Seated.{MarksWithin, last_frame-append, step_begins}
use Rattle.sum_table.proofs.Sums.{SameSums-joined, SameSums-more, SameSums-set, count-append, count_few, count_set, total_places-more, places_set, places_within, total_set}

-- places move to a new seat
pub splits : (k : Key) (id : ℕ) (v : View) (left right : ℕ) → v.key ≡ k → left + right ≡ v.places
    → (v.laid ≡ []) ⊎ (left ≡ v.places)
    → Splits (Exact k) id v (with_places v left) (part_of v right)
splits k id v left right of_ring all few s x here =
    let g : Geometry = k.geometry in
    let t : Track = x.1 in
    let h : List Row = x.2 in
    let l : View = with_places v left in
    let p : View = part_of v right in
    let mid : List View = set s.views id l in
    let views : List View = mid ++ p ∷ [] in
    let mine : IsView k s.words t h v = x.4.each id v here in
    let left_ok : IsView k s.words t h l = assumption (kept_places g v.places left v.laid v.mine v.free v.marks v.seen v.ended few mine.kept) in
    let kept : IsKept g right [] [] [] (start_marks v.key.geometry) v.seen false =
    kept_none g right (start_marks v.key.geometry) v.seen false (λ c. omega arith) (λ c. omega arith) (λ lasts. ap (λ (z : Key). start_marks z.geometry) of_ring) in
    let heard : BeginsWith h [] = (h, refl) in
    let right_ok : IsView k s.words t h p = assumption in
    let sums : SameSums (all_laid s.views) (all_laid views) =
    SameSums-joined (all_laid s.views) (all_laid mid) (all_laid views) (SameSums-set s.views id v l here refl) (SameSums-more mid p refl) in
    let more : length views ≡ length s.views + 1 = omega (arith, length-set s.views id l, length-append mid (p ∷ [])) in (
      x.0,
      t,
      h,
      IsRing-same g s.words (all_laid s.views) (all_laid views) t sums x.3,
      record {
        places = omega (arith, total_places-more mid p, places_set s.views id v l here, all, x.4.places);
        each = each-split (IsView k s.words t h) s.views id l p x.4.each left_ok right_ok;
        player = HasTrack-split (λ (z : View). z.track) s.views x.0 t id v l p x.4.player here refl refl;
      },
      history_over g s.views views t h x.5 (omega (arith, more)) sums (λ i u there lasts. elim (split_views s.views id l p i u there) [
        | inl this ↦ owns_same g s.views t h id v l x.5 here refl refl i u this lasts
        | inr rest ↦ elim rest [
          | inl other ↦ x.5.owns i u other.1 lasts
          | inr new ↦ x.5.no_more i (omega (arith, new.0)) ∙ ap (λ (z : View). map (by_member i) z.mine) new.1
        ]
      ]),
    )

either_one : (o p : Option Track) (y : Track) → either_track o p ≡ Some y → (o ≡ Some y) ⊎ (p ≡ Some y)
either_one None p y is = inr is
either_one (Some t) p y is = inl is

-- what two seats know together
both_ok : (k : Key) (words : List ℕ) (t : Track) (h : List Row) (v w : View) → IsView k words t h v → IsView k words t h w → IsView k words t h (both_of v w)
both_ok k words t h v w a b = record {
  kept = kept_join k.geometry v.places w.places v.laid w.laid v.mine w.mine v.free w.free v.marks w.marks v.seen w.seen v.ended w.ended a.kept b.kept;
  seen_high = omega (arith, a.seen_high, b.seen_high);
  positions = λ i p there. elim (at_append v.positions w.positions p i there) [
    | inl first ↦ a.positions i p first
    | inr second ↦ b.positions second.0 p second.1
  ];
  gone = λ is. elim (or_true v.seen_gone w.seen_gone is) [ inl first ↦ a.gone first | inr second ↦ b.gone second ];
  noted = λ i n positive there. elim (later_notes-one v.noted w.noted i n there) [
    | inl first ↦ a.noted i n positive first
    | inr second ↦ b.noted i n positive second
  ];
  begins = a.begins;
  heard = b.begins;
}

spent_ok : (k : Key) (words : List ℕ) (t : Track) (h : List Row) → IsView k words t h spent_view
spent_ok k words t h = record {
  kept = kept_none k.geometry 0 (record { cursor = record { frame = 0; channel = 0 }; floor = record { frame = 0; channel = 0 }; high = record { frame = 0; channel = 0 } }) 0 true
      (λ c. omega arith) (λ c. omega arith) (λ lasts. absurd (false≢true (sym lasts)));
  seen_high = omega arith;
  positions = λ i p there. absurd (some-ne-none p (sym there));
  gone = λ is. absurd (false≢true is);
  noted = λ i n positive there. absurd (no_note n there);
  begins = (h, refl);
  heard = (h, refl);
}

-- a seat takes over what another one is and has
pub joins : (k : Key) (id : ℕ) (v : View) (other : ℕ) (w : View) → Joins (Exact k) id v other w (both_of v w) spent_view
joins k id v other w s x here apart there =
    let g : Geometry = k.geometry in
    let t : Track = x.1 in
    let h : List Row = x.2 in
    let b : View = both_of v w in
    let mid : List View = set s.views id b in
    let views : List View = set mid other spent_view in
    let was_there : get_elem? s.views other ≡ some w = elim (at_set s.views id other b w there) [ inl same ↦ absurd (apart same.0) | inr rest ↦ rest.1 ] in
    let b_ok : IsView k s.words t h b = both_ok k s.words t h v w (x.4.each id v here) (x.4.each other w was_there) in
    let sums : SameSums (all_laid s.views) (all_laid views) = record {
      counts = λ f c. omega (arith, count_set s.views id v b f c here, count_set mid other w spent_view f c there, count-append v.laid w.laid f c);
      totals = λ f c. omega (arith, ints, total_set s.views id v b f c here, total_set mid other w spent_view f c there, total-append v.laid w.laid f c);
    } in
    let number : length views ≡ length s.views = length-set mid other spent_view ∙ length-set s.views id b in
    let player = HasTrack-join (λ (z : View). z.track) s.views x.0 t id v other w b spent_view x.4.player here was_there refl (either_one v.track w.track) in (
      player.0,
      t,
      h,
      IsRing-same g s.words (all_laid s.views) (all_laid views) t sums x.3,
      record {
        places = omega (arith, places_set s.views id v b here, places_set mid other w spent_view there, x.4.places);
        each = each-join (IsView k s.words t h) s.views id other b spent_view x.4.each b_ok (spent_ok k s.words t h);
        player = player.1;
      },
      history_over g s.views views t h x.5 (omega (arith, number)) sums (λ i u is lasts. elim (join_views s.views id other b spent_view i u is) [
        | inl ended ↦ absurd (false≢true (sym (ap (λ (z : View). z.ended) ended.1 ∙ lasts)))
        | inr rest ↦ elim rest [ inl this ↦ owns_same g s.views t h id v b x.5 here refl refl i u this lasts | inr apart_one ↦ x.5.owns i u apart_one.2 lasts ]
      ]),
    )

-- no sample, no sum
total_none : (es : List Entry) (f c : ℕ) → count es f c ≡ 0 → total es f c ≡ pos 0
total_none es f c silent = ap sum_of_samples (empty (at es f c) silent) where
  empty : (xs : List ℤ) → length xs ≡ 0 → xs ≡ []
  empty [] is = refl
  empty (x ∷ xs) is = absurd (omega arith)

-- a view with all places placed everything: without it all others have no place
alone_sums : (views : List View) (id : ℕ) (v : View) → get_elem? views id ≡ some v
    → ((f c : ℕ) (i : ℕ) (u : View) → get_elem? views i ≡ some u → count u.laid f c ≤ 3 * u.places) → total_places views ≡ v.places
    → SameSums (all_laid views) v.laid
alone_sums views id v here few all =
    let rest : List View = set views id spent_view in
    let none : (f c : ℕ) → count (all_laid rest) f c ≡ 0 = λ f c.
    let few_rest : (i : ℕ) (u : View) → get_elem? rest i ≡ some u → count u.laid f c ≤ 3 * u.places = λ i u there. elim (at_set views id i spent_view u there) [
      | inl this ↦ subst (λ (x : View). count x.laid f c ≤ 3 * x.places) this.1 (omega arith)
      | inr other ↦ few f c i u other.1
    ] in
    omega (arith, count_few rest f c few_rest, places_set views id v spent_view here, all) in
    record {
      counts = λ f c. omega (arith, none f c, count_set views id v spent_view f c here);
      totals = λ f c. omega (arith, ints, total_none (all_laid rest) f c (none f c), total_set views id v spent_view f c here);
    }

not_past-lap : (n w : ℕ) → NotPast n w → lap_of n ≤ lap_of w
not_past-lap n w past = grind (arith, nat_tests)

-- what the rule says of a view with the player's part
knows : (words : List ℕ) (views : List View) (at : ℕ) (t u : Track) (h : List Row) (id : ℕ) (v : View)
    → Holds v.key words views at t h → get_elem? views id ≡ some v → v.track ≡ Some u → Knows (with_history v h) u
knows words views at t u h id v x here tracks =
    let g : Geometry = v.key.geometry in
    let own_one : IsView v.key words t h v = x.views_ok.each id v here in
    let same : t ≡ u = sym (x.views_ok.player id v u here tracks).1 in
    let few : (f c i : ℕ) (y : View) → get_elem? views i ≡ some y → count y.laid f c ≤ 3 * y.places = λ f c i y there. (x.views_ok.each i y there).kept.few f c in
    let at_t : Knows (with_history v h) t = record {
      seen = own_one.seen_high;
      positions = own_one.positions;
      gone = own_one.gone;
      noted = λ n f c now is.
          let past : NotPast n (get_or words (index_of g f c) 0) = own_one.noted (index_of g f c) n (omega arith) is in
          let of_lap : lap_of (get_or words (index_of g f c) 0) ≡ lap g f = (StandsFor-fields _ _ _ _ (x.ring.sums f c now)).0 in
          omega (arith, of_lap, not_past-lap n (get_or words (index_of g f c) 0) past);
      in_order = x.ring.in_order;
      history = x.history.taken;
      exact = λ all.
          let sums : SameSums (all_laid views) v.laid = alone_sums views id v here few (x.views_ok.places ∙ sym all) in
          (IsRing-same g words (all_laid views) v.laid t sums x.ring).exact;
      laid = λ all.
          let sums : SameSums (all_laid views) v.laid = alone_sums views id v here few (x.views_ok.places ∙ sym all) in
          SameSums-joined (laid_of h) (all_laid views) v.laid x.history.sums sums;
    } in
    subst (Knows (with_history v h)) same at_t

-- a load that notes nothing
pub learns : (slots id : ℕ) (m : Me Entry View) → m.0.ended ≡ false → Allows (Exact m.0.key) slots id m 0 (λ n. n) (quiet_load (step slots 0 0 0 none) m)
learns slots id m lasts s x homes here fits =
    let v : View = m.0 in
    let k : Key = v.key in
    let t : Track = x.1 in
    let h : List Row = x.2 in
    let w : View = with_history v h in
    let all : Holds k s.words s.views x.0 t h = record { ring = x.3; views_ok = x.4; history = x.5 } in
    let own_one : IsView k s.words t h v = x.4.each id v here in
    let after : IsView k s.words t h w = assumption (BeginsWith-same h) in
    let y : Holds k s.words (set s.views id w) x.0 t h = idle k s.words s.views x.0 t h id v w all here (record { places = refl; laid = refl; mine = refl; ended = refl; track = refl }) after in (
      w,
      keeps,
      tt,
      loaded k s.words (set s.views id w) x.0 t h 0 s.homes y,
      (
        h,
        refl,
        omega (arith, places_within s.views id v here, x.4.places),
        (id, length s.views, own_one.begins.0, none_made k.geometry s.views t h id v w y.history here lasts refl refl own_one.begins),
        own_one.heard,
        (λ u tracks. knows s.words s.views x.0 t u h id v all here tracks),
      ),
    )

-- ---- splits, joins, notes and the close of a ring, said of the fields of the seats

-- a load that notes nothing, after a join
pub learns_both : (k : Key) (slots id : ℕ) (v w : View) (kept : List (ℕ × Entry)) (m : Me Entry View) → m ≡ (both_of v w, kept) → v.key ≡ k → v.ended ≡ false
    → Allows (Exact k) slots id m 0 (λ n. n) (quiet_load (step slots 0 0 0 none) m)
learns_both k slots id v w kept m both same lasts =
    subst (λ (x : Key). Allows (Exact x) slots id m 0 (λ n. n) (quiet_load (step slots 0 0 0 none) m)) (ap (λ (y : Me Entry View). y.0.key) both ∙ same)
    (learns slots id m (ap (λ (y : Me Entry View). y.0.ended) both ∙ lasts))

-- a note can always be given
pub may_note : (k : Key) (id : ℕ) (v : View) → v.key ≡ k → Splits (Exact k) id v v (part_of v 0)
may_note k id v same = splits k id v v.places 0 same (omega arith) (inr refl)

-- the fields of the two seats after a split
pub known_without : (k : Key) (places : ℕ) (marks : Marks) (seen : ℕ) (last : Option ℕ) (v : View) (amount n : ℕ)
    → IsKnown v k places marks seen last → amount ≡ n → n ≤ places → v.laid ≡ [] → IsKnown (without_places v amount) k (places - n) marks seen last
known_without k places marks seen last v amount n is same has nothing = grind (arith, nat_tests)

pub known_part : (k : Key) (v : View) (amount n seen : ℕ) → v.key ≡ k → v.seen ≡ seen → IsNoted v k → IsWithin k.geometry seen → amount ≡ n → n ≤ k.places
    → IsKnown (part_of v amount) k n (start_marks k.geometry) seen None
known_part k v amount n seen same_key same_seen noted seen_within same most = grind (arith, nat_tests)

-- what two views noted is noted in both
IsNoted-both : (k : Key) (v w : View) → IsNoted v k → IsNoted w k → IsNoted (both_of v w) k
IsNoted-both k v w a b = record {
  room = later_notes-length v.noted w.noted (a.room ∙ sym b.room) ∙ a.room;
  words = λ i n there. elim (later_notes-one v.noted w.noted i n there) [ inl first ↦ a.words i n first | inr second ↦ b.words i n second ];
}

-- the marks after a join
joined_within : (g : Geometry) (a b : Marks) (n : ℕ) → MarksWithin g a → MarksWithin g b → MarksWithin g (joined_marks a b n)
joined_within g a b n first second = grind (arith, nat_tests)

-- the fields after a join
pub known_joined : (k : Key) (p q : ℕ) (a b : Marks) (s t : ℕ) (l m : Option ℕ) (v w : View) (slots n : ℕ) (x r : Me Entry View)
    → IsKnown v k p a s l → IsKnown w k q b t m → x.0 ≡ both_of v w → quiet_load (step slots 0 0 0 none) x n r
    → IsKnown r.0 k (p + q) (joined_marks a b q) (max s t) (greater l m)
known_joined k p q a b s t l m v w slots n x r first second both told =
    let few : v.places + w.places ≤ v.key.places = subst (λ (y : View). y.places ≤ y.key.places) both told.2 in
    let places : v.places + w.places ≡ p + q = omega (arith, first.same_places, second.same_places) in
    let most : p + q ≤ k.places = omega (arith, few, places, ap (λ (y : Key). y.places) first.same_key) in
    let marks : joined_marks v.marks w.marks w.places ≡ joined_marks a b q = rw (first.same_marks, second.same_marks, second.same_places) in
    let seen : max v.seen w.seen ≡ max s t = omega (arith, first.same_seen, second.same_seen) in
    let last : last_frame (v.laid ++ w.laid) ≡ greater l m = rw (last_frame-append v.laid w.laid, first.same_last, second.same_last) in
    let reach = IsReach-joined k.geometry a b p q l m first.reach_is second.reach_is in
    let untracked : either_track v.track w.track ≡ None = rw first.untracked second.untracked in
    let noted = IsNoted-both k v w first.noted second.noted in
    let one : MarksWithin k.geometry a = assumption in
    let other : MarksWithin k.geometry b = assumption in
    let within = joined_within k.geometry a b q one other in
    let seen_within : IsWithin k.geometry (max s t) = record { least = omega (arith, first.seen_within.least); most = omega (arith, first.seen_within.most, second.seen_within.most) } in
    let laid : (i : ℕ) (e : Entry) → get_elem? (v.laid ++ w.laid) i ≡ some e → IsLaid k.geometry (max v.seen w.seen) e = λ i e there. elim (at_append v.laid w.laid e i there) [
      | inl here ↦ IsLaid-later k.geometry v.seen (max v.seen w.seen) (omega arith) e (first.laid i e here)
      | inr here ↦ IsLaid-later k.geometry w.seen (max v.seen w.seen) (omega arith) e (second.laid here.0 e here.1)
    ] in
    let known : IsKnown (with_history (both_of v w) told.0) k (p + q) (joined_marks a b q) (max s t) (greater l m) = assumption in
    subst (λ (y : Me Entry View). IsKnown y.0 k (p + q) (joined_marks a b q) (max s t) (greater l m)) (sym (told.1 ∙ ap (λ y. (with_history y told.0, x.1)) both)) known

either_first : (o p : Option Track) → is_tracked o ≡ true → either_track o p ≡ Some (the_track o)
either_first None p is = absurd (false≢true is)
either_first (Some u) p is = refl

-- the player's fields after it met a note
pub known_heard : (k : Key) (next : Cursor) (position : ℕ) (gone : Bool) (q : ℕ) (b : Marks) (t : ℕ) (l : Option ℕ) (v w : View) (slots n : ℕ) (x r : Me Entry View)
    → IsPlayer v k next position gone → IsKnown w k q b t l → q ≡ 0 → w.laid ≡ [] → x.0 ≡ both_of v w → quiet_load (step slots 0 0 0 none) x n r
    → IsPlayer r.0 k next position gone
known_heard k next position gone q b t l v w slots n x r is met none_left nothing both told =
    let track : Track = the_track v.track in
    let tracked : either_track v.track w.track ≡ Some track = either_first v.track w.track is.tracked in
    let knows : Knows (with_history (both_of v w) told.0) track = subst (λ y. Knows (with_history y told.0) track) both (told.5 track (ap (λ (y : View). y.track) both ∙ tracked)) in
    let places : v.places + w.places ≡ 0 = omega (arith, is.no_places, met.same_places, none_left) in
    let laid : v.laid ++ w.laid ≡ [] = rw (is.laid_nothing, nothing) in
    let seen : max v.seen w.seen ≡ position = omega (arith, knows.seen, is.same_seen, is.position_is, ap (λ (y : Key). position_at y.geometry track) is.same_key) in
    let seen_gone : (v.seen_gone || w.seen_gone) ≡ gone = gone_once v.seen_gone w.seen_gone (λ any. is.same_gone ∙ (is.gone_is ∙ knows.gone any)) ∙ is.same_gone in
    let noted = IsNoted-both k v w is.noted met.noted in
    let saw_all = has_all-more v.positions w.positions track.published is.saw_all in
    let known : IsPlayer (record (with_history (both_of v w) told.0) { track = Some track }) k next position gone = assumption in
    let own : IsPlayer (with_history (both_of v w) told.0) k next position gone = subst (λ o. IsPlayer (record (with_history (both_of v w) told.0) { track = o }) k next position gone) (sym tracked) known in
    subst (λ (y : Me Entry View). IsPlayer y.0 k next position gone) (sym (told.1 ∙ ap (λ y. (with_history y told.0, x.1)) both)) own
  where
    gone_once : (a b : Bool) → (a || b ≡ true → a ≡ true) → (a || b) ≡ a
    gone_once true b is = refl
    gone_once false true is = sym (is refl)
    gone_once false false is = refl

rank-lap : (x m : ℕ) → rank x ≤ rank m → lap_of x ≤ lap_of m
rank-lap x m up = grind (arith, up)

-- what the player learns of a note that it met
pub has_heard : (p q : PlayerSeat) (n : SeatNote) (slots found : ℕ) (x : Me Entry View) → q.seat.table_id ≡ p.seat.table_id → q.key ≡ p.key → q.next ≡ p.next → q.position ≡ p.position → q.gone ≡ p.gone
    → x.0 ≡ both_of (player_view p) (note_view n) → quiet_load (step slots 0 0 0 none) x found q.seat.me → HasHeard p q n
has_heard p q n slots found x ring key next position gone both told =
    let v : View = player_view p in
    let w : View = note_view n in
    let h : List Row = told.0 in
    let track : Track = track_of p in
    let both_track : either_track v.track w.track ≡ Some track = either_first v.track w.track p.known.tracked in
    let knows : Knows (with_history (both_of v w) h) track = subst (λ y. Knows (with_history y h) track) both (told.5 track (ap (λ (y : View). y.track) both ∙ both_track)) in
    let view : player_view q ≡ with_history (both_of v w) h = ap (λ (y : Me Entry View). y.0) told.1 ∙ ap (λ y. with_history y h) both in
    let history : h ≡ (player_view q).history = sym (ap (λ (y : View). y.history) view) in
    let made : Makes (both_of v w) (player_view q) (λ _. []) = subst (λ y. Makes y (player_view q) (λ _. [])) both
    (subst (λ y. Makes x.0 y (λ _. [])) (sym (ap (λ (y : Me Entry View). y.0) told.1)) told.3) in
    let own : v.key ≡ p.key = p.known.same_key in
    record {
      goes = record { ring = ring; key = key; history = step_begins (both_of v w) (player_view q) made.0 made.1 made.2 [] made.3 };
      view = view ∙ ap (λ y. with_history (both_of v w) y) history;
      track = ap (λ (y : View). the_track y.track) view ∙ ap the_track both_track;
      next = next;
      position = position;
      same_gone = gone;
      seen = omega (arith, knows.seen, p.known.position_is, ap (λ (k : Key). position_at k.geometry track) own, n.seat.known.same_seen);
      positions = λ i y there.
          let j = at_second v.positions w.positions i y there in
          subst (λ (k : Key). IsPublishedPosition k.geometry track y) own (knows.positions j.0 y j.1);
      noted = λ f c y now is.
          let now_view : IsNow v.key.geometry (next_at v.key.geometry track) f c = subst (λ (k : Key). IsNow k.geometry (next_at k.geometry track) f c) (sym own) now in
          let is_view : get_or w.noted (index_of v.key.geometry f c) None ≡ Some y = subst (λ (k : Key). get_or w.noted (index_of k.geometry f c) None ≡ Some y) (sym own) is in
          let later = later_notes-keeps v.noted w.noted (index_of v.key.geometry f c) y (inr is_view) in
          let low : lap_of later.0 ≤ lap v.key.geometry f = knows.noted later.0 f c now_view later.1 in
          subst (λ (k : Key). lap_of y ≤ lap k.geometry f) own (omega (arith, low, rank-lap y later.0 later.2));
      gone = λ is. knows.gone (or_right v.seen_gone w.seen_gone is);
      note_history = subst (λ y. BeginsWith y w.history) history (subst (λ (y : View). BeginsWith h y.heard) both told.4);
      event = made;
    }

-- what the close of a ring says
pub has_closed : (s : MixSeat) (p : PlayerSeat) (slots found : ℕ) (x r : Me Entry View) → s.places ≡ s.key.places → p.key ≡ s.key
    → x.0 ≡ both_of (view_of s) (player_view p) → quiet_load (step slots 0 0 0 none) x found r → HasClosed s p (record { position = p.position; next = p.next })
has_closed s p slots found x r all one both told =
    let v : View = view_of s in
    let w : View = player_view p in
    let h : List Row = told.0 in
    let track : Track = track_of p in
    let b : View = both_of v w in
    let both_track : either_track v.track w.track ≡ Some track = ap (λ y. either_track y w.track) s.known.untracked ∙ tracked_some w.track p.known.tracked in
    let x_track : x.0.track ≡ Some track = ap (λ (y : View). y.track) both ∙ both_track in
    let knows : Knows (with_history b h) track = subst (λ y. Knows (with_history y h) track) both (told.5 track x_track) in
    let own : v.key ≡ s.key = s.known.same_key in
    let places : b.places ≡ b.key.places = omega (arith, s.known.same_places, p.known.no_places, all, ap (λ (k : Key). k.places) own) in
    let laid : v.laid ++ w.laid ≡ v.laid = ap (λ es. v.laid ++ es) p.known.laid_nothing ∙ append-nil v.laid in
    let made : Makes x.0 (with_history x.0 h) (λ _. []) = told.3 in
    let step : IsStep x.0 (with_history x.0 h) made.0 made.1 made.2 [] = made.3 in
    let begins : BeginsWith h v.history = subst (λ (y : View). BeginsWith h y.history) both (step_begins x.0 (with_history x.0 h) made.0 made.1 made.2 [] step) in
    record {
      position = p.known.position_is ∙ ap (λ (k : Key). position_at k.geometry track) one;
      next = p.known.next_is ∙ ap (λ (k : Key). next_at k.geometry track) one;
      in_order = subst (λ (k : Key). AreInOrder k.geometry track.taken) own knows.in_order;
      values = subst (λ es. AreExact es track.taken) laid (knows.exact places);
      history = (
        made.1,
        h,
        subst (λ (k : Key). IsLegal k.geometry made.1 h) (ap (λ (y : View). y.key) both ∙ own) step.legal,
        begins,
        subst (λ (y : View). BeginsWith h y.heard) both told.4,
        knows.history,
        subst (λ es. SameSums (laid_of h) es) laid (knows.laid places),
      );
    }

-- a view that is known, in a seat
pub known_as : (k : Key) (places : ℕ) (marks : Marks) (seen : ℕ) (last : Option ℕ) (v m : Me Entry View) → m ≡ v → IsKnown v.0 k places marks seen last → IsKnown m.0 k places marks seen last
known_as k places marks seen last v m same is = subst (λ (x : Me Entry View). IsKnown x.0 k places marks seen last) (sym same) is

-- the player's note
pub has_player_note : (p q : PlayerSeat) (n : SeatNote) → q.seat.table_id ≡ p.seat.table_id → q.key ≡ p.key → player_view q ≡ player_view p
    → q.next ≡ p.next → q.position ≡ p.position → q.gone ≡ p.gone
    → n.seat.seat.table_id ≡ p.seat.table_id → n.seat.key ≡ p.key → note_view n ≡ part_of (player_view p) 0 → n.seat.seen ≡ p.position → HasPlayerNote p q n
has_player_note p q n ring key same next position gone note_at note_of view seen =
    let at = seen ∙ p.known.position_is in
    let published : (i x : ℕ) → get_elem? (track_of p).published i ≡ some x → (j : ℕ) × (get_elem? (note_view n).positions j ≡ some x) =
    λ i x there. rw view (has_each (player_view p).positions (track_of p).published i x p.known.saw_all there) in
    let is_gone = ap (λ (v : View). v.seen_gone) view ∙ (p.known.same_gone ∙ p.known.gone_is) in
    assumption

-- a mix seat that was joined with a note's
pub has_met : (s t : MixSeat) (n : SeatNote) → n.seat.key ≡ s.key → HasJoined s t n.seat → HasMet s t n
has_met s t n one joined =
    let no_last : n.seat.reach.last ≡ None = sym n.seat.known.same_last ∙ ap last_frame n.laid_nothing in
    let places : t.places ≡ s.places = omega (arith, joined.places, n.no_places) in
    let laid : (view_of t).laid ≡ (view_of s).laid = ap (λ (v : View). v.laid) joined.view ∙ (ap (λ es. (view_of s).laid ++ es) n.laid_nothing ∙ append-nil (view_of s).laid) in
    let marks : t.reach.marks ≡ s.reach.marks = joined.marks ∙ ap (joined_marks s.reach.marks n.seat.reach.marks) n.no_places in
    let last : t.reach.last ≡ s.reach.last = joined.last ∙ (ap (greater s.reach.last) no_last ∙ greater_none s.reach.last) in
    let gone = ap (λ (v : View). v.seen_gone) joined.view in
    assumption
