-- Splits and joins keep the rule, and what they make of the fields of the seats.
use Rattle.snoop_table.specs.Prelude.{ap, arith, Bool, get_or, inl, inr, List, max, None, Option, refl, set, Some, subst, sym, true, ℕ, ◌+◌, ◌||◌, ◌∙◌, ◌≡◌}
use Rattle.snoop_table.specs.Prelude.{◌≤◌, ◌⊎◌, false≢true, or_left, or_right, nat_tests, at_longer, at_set, Allows, Joins, keeps, Me, Splits, step, get_elem?}
use Rattle.snoop_table.specs.Prelude.{none, some, Geometry, Cursor, lap, HoldsSample-fields, laps_of, at_append, at_second, later_notes-keeps}
use Rattle.snoop_table.specs.Prelude.{later_notes-length, later_notes-one, has_all-more, has_each, NotPast-upper, index_of, NotPast, rank, Desk, ReaderSeat}
use Rattle.snoop_table.specs.Prelude.{Track, View, Holds, is_tracked, IsView, LoadsStored, position_of, the_track, word_in, both_of, either_track, part_of}
use Rattle.snoop_table.specs.Prelude.{spent_view, DeskGave, DeskHeard, IsBorneOut, IsReader, IsWriter, view_of, Knows, quiet_load, desk_track, desk_view}
use Rattle.ring_rule.specs.SeatLaws.{HasTrack-join, HasTrack-split, each-join, each-split, or_true}
use Rattle.snoop_table.proofs.Keeps.{IsSo, idle, loaded, tracked_some}

-- a seat's own view stays, and a new seat has seen as much
pub splits : (g : Geometry) (id : ℕ) (v : View) → Splits (Holds g) id v v (part_of v)
splits g id v s x here =
    let t : Track = x.1 in
    let p : View = part_of v in
    let mine : IsView g s.words t v = x.3.each id v here in
    let loading : LoadsStored g t.stored p.loading = λ c inside. absurd (omega arith) in
    let new_ok : IsView g s.words t p = assumption in (
      x.0,
      t,
      x.2,
      record {
        each = each-split (IsView g s.words t) s.views id v p x.3.each mine new_ok;
        writer = HasTrack-split (λ (z : View). z.track) s.views x.0 t id v v p x.3.writer here refl refl;
      },
    )

either_one : (o p : Option Track) (y : Track) → either_track o p ≡ Some y → (o ≡ Some y) ⊎ (p ≡ Some y)
either_one None p y is = inr is
either_one (Some t) p y is = inl is

-- what two seats know together
both_ok : (g : Geometry) (words : List ℕ) (t : Track) (v w : View) → IsView g words t v → IsView g words t w → IsView g words t (both_of v w)
both_ok g words t v w a b = record {
  seen_high = omega (arith, a.seen_high, b.seen_high);
  positions = λ i p there. elim (at_append v.positions w.positions p i there) [
    | inl first ↦ a.positions i p first
    | inr second ↦ b.positions second.0 p second.1
  ];
  gone = λ is. elim (or_true v.seen_gone w.seen_gone is) [ inl first ↦ a.gone first | inr second ↦ b.gone second ];
  noted = λ i n positive there. elim (later_notes-one v.noted w.noted i n there) [
    | inl first ↦ a.noted i n positive first
    | inr second ↦ b.noted i n positive second
  ];
  got = λ i f there. elim (at_append v.got w.got f i there) [
    | inl first ↦ a.got i f first
    | inr second ↦ b.got second.0 f second.1
  ];
  loading = a.loading;
}

spent_ok : (g : Geometry) (words : List ℕ) (t : Track) → IsView g words t spent_view
spent_ok g words t = grind (arith, nat_tests)

-- a seat takes over what another one knows
pub joins : (g : Geometry) (id : ℕ) (v : View) (other : ℕ) (w : View) → Joins (Holds g) id v other w (both_of v w) spent_view
joins g id v other w s x here apart there =
    let t : Track = x.1 in
    let b : View = both_of v w in
    let was_there : get_elem? s.views other ≡ some w = elim (at_set s.views id other b w there) [ inl same ↦ absurd (apart same.0) | inr rest ↦ rest.1 ] in
    let b_ok : IsView g s.words t b = both_ok g s.words t v w (x.3.each id v here) (x.3.each other w was_there) in
    let writer = HasTrack-join (λ (z : View). z.track) s.views x.0 t id v other w b spent_view x.3.writer here was_there refl (either_one v.track w.track) in (
      writer.0,
      t,
      x.2,
      record { each = each-join (IsView g s.words t) s.views id other b spent_view x.3.each b_ok (spent_ok g s.words t); writer = writer.1 },
    )

-- what the rule says of a view with the writer's part
knows : (words : List ℕ) (views : List View) (at : ℕ) (t u : Track) (id : ℕ) (v : View)
    → IsSo v.geometry words views at t → get_elem? views id ≡ some v → v.track ≡ Some u → Knows v u
knows words views at t u id v x here tracks =
    let g : Geometry = v.geometry in
    let own : IsView g words t v = x.views_ok.each id v here in
    let at_t : Knows v t = record {
      seen = own.seen_high;
      positions = own.positions;
      gone = own.gone;
      noted = λ n f c is there.
          let past : NotPast n (get_or words (index_of g f c) 0) = own.noted (index_of g f c) n (omega arith) there in
          let laps : laps_of (word_in words g f c) ≡ lap g f + 1 = (HoldsSample-fields _ _ _ (x.ring.holds.last f c is)).0 in
          omega (arith, laps, NotPast-upper n (word_in words g f c) past);
      unused = λ n f c is there.
          let past : NotPast n (get_or words (index_of g f c) 0) = own.noted (index_of g f c) n (omega arith) there in
          let laps : laps_of (word_in words g f c) ≡ g.first_lap = (HoldsSample-fields _ _ _ (x.ring.holds.unused f c is)).0 in
          omega (arith, laps, NotPast-upper n (word_in words g f c) past);
      got = own.got;
    } in
    subst (Knows v) (sym (x.views_ok.writer id v u here tracks).1) at_t

-- a load that notes nothing
pub learns : (slots id : ℕ) (m : Me (Unit {0}) View) → Allows (Holds m.0.geometry) slots id m 0 (λ n. n) (quiet_load (step slots 0 0 0 none) m)
learns slots id m s x homes here fits =
    let v : View = m.0 in
    let g : Geometry = v.geometry in
    let t : Track = x.1 in
    let all : IsSo g s.words s.views x.0 t = record { ring = x.2; views_ok = x.3 } in
    let y : IsSo g s.words (set s.views id v) x.0 t = idle g s.words s.views x.0 t id v v all here refl (x.3.each id v here) in
    (v, keeps, tt, loaded g s.words (set s.views id v) x.0 t 0 s.homes y, (refl, (λ u tracks. knows s.words s.views x.0 t u id v all here tracks)))

-- ---- what seats know after splits, joins and notes, and what these say

-- a load that notes nothing, after a join
pub learns_both : (g : Geometry) (slots id : ℕ) (v w : View) (kept : List (ℕ × Unit {0})) (m : Me (Unit {0}) View) → m ≡ (both_of v w, kept) → v.geometry ≡ g
    → Allows (Holds g) slots id m 0 (λ n. n) (quiet_load (step slots 0 0 0 none) m)
learns_both g slots id v w kept m both same =
    subst (λ k. Allows (Holds k) slots id m 0 (λ n. n) (quiet_load (step slots 0 0 0 none) m)) (ap (λ (y : Me (Unit {0}) View). y.0.geometry) both ∙ same) (learns slots id m)

-- what a reader's fields say after a join
pub known_joined : (g : Geometry) (seen other : ℕ) (v w : View) → IsReader v g seen → IsReader w g other → IsReader (both_of v w) g (max seen other)
known_joined g seen other v w a b = record {
  same_geometry = a.same_geometry;
  same_seen = ap (λ n. max n w.seen) a.same_seen ∙ ap (max seen) b.same_seen;
  untracked = ap (λ o. either_track o w.track) a.untracked ∙ b.untracked;
  room = later_notes-length v.noted w.noted (a.room ∙ sym b.room) ∙ a.room;
  seen_within = record { least = omega (arith, a.seen_within.least); most = omega (arith, a.seen_within.most, b.seen_within.most) };
}

-- the track of a view that has it, also beside another view
either_first : (o p : Option Track) → is_tracked o ≡ true → either_track o p ≡ Some (the_track o)
either_first None p is = absurd (false≢true is)
either_first (Some u) p is = refl

rank-laps : (x y : ℕ) → rank x ≤ rank y → laps_of x ≤ laps_of y
rank-laps x y up = grind (arith, up)

-- what the rule says of two views together holds of each
pub borne_out_first : (g : Geometry) (t : Track) (v w : View) → v.geometry ≡ g → Knows (both_of v w) t → IsBorneOut g t v
borne_out_first g t v w own knows = subst (λ k. IsBorneOut k t v) own (record {
  positions = λ i x there. knows.positions i x (at_longer v.positions w.positions i x there);
  noted = λ f c x last is.
      let later = later_notes-keeps v.noted w.noted (index_of v.geometry f c) x (inl is) in
      omega (arith, knows.noted later.0 f c last later.1, rank-laps x later.0 later.2);
  unused = λ f c x never is.
      let later = later_notes-keeps v.noted w.noted (index_of v.geometry f c) x (inl is) in
      omega (arith, knows.unused later.0 f c never later.1, rank-laps x later.0 later.2);
  gone = λ is. knows.gone (or_left v.seen_gone w.seen_gone is);
  got = λ i f there. knows.got i f (at_longer v.got w.got i f there);
})

pub borne_out_second : (g : Geometry) (t : Track) (v w : View) → v.geometry ≡ g → Knows (both_of v w) t → IsBorneOut g t w
borne_out_second g t v w own knows = subst (λ k. IsBorneOut k t w) own (record {
  positions = λ i x there.
      let j = at_second v.positions w.positions i x there in
      knows.positions j.0 x j.1;
  noted = λ f c x last is.
      let later = later_notes-keeps v.noted w.noted (index_of v.geometry f c) x (inr is) in
      omega (arith, knows.noted later.0 f c last later.1, rank-laps x later.0 later.2);
  unused = λ f c x never is.
      let later = later_notes-keeps v.noted w.noted (index_of v.geometry f c) x (inr is) in
      omega (arith, knows.unused later.0 f c never later.1, rank-laps x later.0 later.2);
  gone = λ is. knows.gone (or_right v.seen_gone w.seen_gone is);
  got = λ i f there.
      let j = at_second v.got w.got i f there in
      knows.got j.0 f j.1;
})

-- what the load after a join shows the writer
heard_knows : (v w : View) (slots found : ℕ) (x r : Me (Unit {0}) View) → is_tracked v.track ≡ true → x.0 ≡ both_of v w → quiet_load (step slots 0 0 0 none) x found r
    → Knows (both_of v w) (the_track v.track)
heard_knows v w slots found x r tracked both told =
    let t : Track = the_track v.track in
    let both_track : either_track v.track w.track ≡ Some t = either_first v.track w.track tracked in
    subst (λ y. Knows y t) both (told.1 t (ap (λ (y : View). y.track) both ∙ both_track))

seen_by : (a b : Bool) (gone : Bool) → a ≡ gone → ((a || b) ≡ true → gone ≡ true) → (a || b) ≡ gone
seen_by a b gone same is = grind (arith, nat_tests)

-- what a writer's fields say after it heard of another seat
pub known_heard : (g : Geometry) (next : Cursor) (position : ℕ) (gone : Bool) (other : ℕ) (v w : View) (slots found : ℕ) (x r : Me (Unit {0}) View)
    → IsWriter v g next position gone → IsReader w g other → x.0 ≡ both_of v w → quiet_load (step slots 0 0 0 none) x found r → IsWriter r.0 g next position gone
known_heard g next position gone other v w slots found x r is met both told =
    let t : Track = the_track v.track in
    let knows : Knows (both_of v w) t = heard_knows v w slots found x r is.tracked both told in
    let seen : max v.seen w.seen ≡ position = omega (arith, knows.seen, is.same_seen, is.position_is, ap (λ (k : Geometry). position_of k t) is.same_geometry) in
    let seen_gone : (v.seen_gone || w.seen_gone) ≡ gone = seen_by v.seen_gone w.seen_gone gone is.same_gone (λ seen. is.gone_is ∙ knows.gone seen) in
    let room = later_notes-length v.noted w.noted (is.room ∙ sym met.room) ∙ is.room in
    let saw_all = has_all-more v.positions w.positions t.published is.saw_all in
    let known : IsWriter (record (both_of v w) { track = Some t }) g next position gone = assumption in
    let own : IsWriter (both_of v w) g next position gone = subst (λ o. IsWriter (record (both_of v w) { track = o }) g next position gone) (sym (either_first v.track w.track is.tracked)) known in
    subst (λ (y : View). IsWriter y g next position gone) (sym (ap (λ (y : Me (Unit {0}) View). y.0) told.0 ∙ both)) own

pub has_heard : (d e : Desk) (o : ReaderSeat) (slots found : ℕ) (x : Me (Unit {0}) View) → e.seat.table_id ≡ d.seat.table_id → e.geometry ≡ d.geometry
    → e.place.next ≡ d.place.next → e.position ≡ d.position → e.gone ≡ d.gone
    → x.0 ≡ both_of (desk_view d) (view_of o) → quiet_load (step slots 0 0 0 none) x found e.seat.me → DeskHeard d e o
has_heard d e o slots found x ring geometry next position gone both told =
    let v : View = desk_view d in
    let w : View = view_of o in
    let knows : Knows (both_of v w) (desk_track d) = heard_knows v w slots found x e.seat.me d.known.tracked both told in
    let view : desk_view e ≡ both_of v w = ap (λ (y : Me (Unit {0}) View). y.0) told.0 ∙ both in
    let track : desk_track e ≡ desk_track d = ap (λ (y : View). the_track y.track) view ∙ ap the_track (either_first v.track w.track d.known.tracked) in
    let borne_out = borne_out_second d.geometry (desk_track d) v w d.known.same_geometry knows in
    assumption

-- what the close of a ring says of the reader's seat
pub closed_borne_out : (s : ReaderSeat) (d : Desk) (slots found : ℕ) (x r : Me (Unit {0}) View) → x.0 ≡ both_of (view_of s) (desk_view d)
    → quiet_load (step slots 0 0 0 none) x found r → IsBorneOut s.geometry (desk_track d) (view_of s)
closed_borne_out s d slots found x r both told =
    let v : View = view_of s in
    let w : View = desk_view d in
    let t : Track = desk_track d in
    let both_track : either_track v.track w.track ≡ Some t = ap (λ o. either_track o w.track) s.known.untracked ∙ tracked_some w.track d.known.tracked in
    let knows : Knows (both_of v w) t = subst (λ y. Knows y t) both (told.1 t (ap (λ (y : View). y.track) both ∙ both_track)) in
    borne_out_first s.geometry t v w s.known.same_geometry knows

-- the writer gave what it has seen
pub has_given : (d e : Desk) (new : ReaderSeat) → e.seat.table_id ≡ d.seat.table_id → e.geometry ≡ d.geometry → desk_view e ≡ desk_view d
    → e.place.next ≡ d.place.next → e.position ≡ d.position → e.gone ≡ d.gone
    → new.seat.table_id ≡ d.seat.table_id → new.geometry ≡ d.geometry → view_of new ≡ part_of (desk_view d) → new.seen ≡ d.position → DeskGave d e new
has_given d e new ring geometry view next position gone new_ring new_geometry new_view new_seen =
    let seen = new_seen ∙ d.known.position_is in
    let published : (i x : ℕ) → get_elem? (desk_track d).published i ≡ some x → (j : ℕ) × (get_elem? (view_of new).positions j ≡ some x) =
    λ i x there. rw new_view (has_each (desk_view d).positions (desk_track d).published i x d.known.saw_all there) in
    let new_gone = ap (λ (y : View). y.seen_gone) new_view ∙ (d.known.same_gone ∙ d.known.gone_is) in
    assumption
