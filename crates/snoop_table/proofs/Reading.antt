-- What a reader's steps may do and do, said of the fields of its seat.
use Rattle.snoop_table.specs.Prelude.{ap, arith, get_or, length, None, set, Some, subst, sym, ℕ, ◌+◌, ◌<◌, ◌∙◌, ◌≡◌, ◌≤◌, nat_tests, get_or-set_same, Me, step}
use Rattle.snoop_table.specs.Prelude.{none, Geometry, end_frame, lap, gone_in, position_in, word_of-fields, sample_of, NeverFall-same, NeverFall-set}
use Rattle.snoop_table.specs.Prelude.{position_fits, index_of-lt, index_of, ReaderSeat, View, IsReader, HasLocated, HasLooked, view_of, position_load}
use Rattle.snoop_table.specs.Prelude.{with_note, with_position, with_sample, word_load}
use Rattle.mix_core.specs.declared.port.Position.{Position}
use Rattle.ring_rule.specs.Notes.{NeverFall}

-- a load of the position
pub known_located : (g : Geometry) (seen slots n : ℕ) (m r : Me (Unit {0}) View) → IsReader m.0 g seen → position_load (step slots 0 0 0 none) m n r
    → IsReader r.0 g (position_in n)
known_located g seen slots n m r is told = grind (arith, nat_tests)

pub has_located : (s t : ReaderSeat) (slots n : ℕ) (p : Position) → t.seat.table_id ≡ s.seat.table_id → t.geometry ≡ s.geometry → t.seen ≡ p.frame
    → p.frame ≡ position_in n → p.gone ≡ gone_in n → position_load (step slots 0 0 0 none) s.seat.me n t.seat.me → HasLocated s t p
has_located s t slots n p ring geometry seen frame gone told =
    let v : View = view_of s in
    let q : ℕ = told.0 in
    let end : q ≤ end_frame s.geometry = subst (λ (k : Geometry). q ≤ end_frame k) s.known.same_geometry told.5 in
    let fields = word_of-fields q told.1 (position_fits s.geometry q end) in
    let frame_is : p.frame ≡ q = frame ∙ (ap position_in told.3 ∙ fields.0) in
    let gone_is : p.gone ≡ told.1 = gone ∙ (ap gone_in told.3 ∙ fields.1) in
    let view : view_of t ≡ with_position v q told.1 = ap (λ (y : Me (Unit {0}) View). y.0) told.2 in
    record {
      goes = record { ring = ring; geometry = geometry; notes = NeverFall-same v.noted (view_of t).noted (ap (λ (y : View). y.noted) view) };
      view = view ∙ (ap (λ x. with_position v x told.1) (sym frame_is) ∙ ap (with_position v p.frame) (sym gone_is));
      seen = seen;
      not_before = omega (arith, frame_is, told.4, s.known.same_seen);
      within = record { least = omega (arith, s.known.seen_within.least, told.4, frame_is, s.known.same_seen); most = omega (arith, end, frame_is) };
      gone = λ is. gone_is ∙ told.6 is;
    }

-- either way, the fields stay and the word is noted
pub record IsLooked (v w : View) (i n : ℕ) : Type 0 where
  pub geometry : w.geometry ≡ v.geometry
  pub seen : w.seen ≡ v.seen
  pub track : w.track ≡ v.track
  pub noted : w.noted ≡ set v.noted i (Some n)

pub is_looked : (f c slots i n : ℕ) (m r : Me (Unit {0}) View) → word_load f c (step slots i 0 0 none) m n r → IsLooked m.0 r.0 i n × (r.1 ≡ m.1)
is_looked f c slots i n m r told = grind (arith, nat_tests)

pub has_looked : (s t : ReaderSeat) (slots i f c n : ℕ) → t.seat.table_id ≡ s.seat.table_id → t.geometry ≡ s.geometry → t.seen ≡ s.seen
    → c < s.geometry.channels → i ≡ index_of s.geometry f c
    → word_load f c (step slots i 0 0 none) s.seat.me n t.seat.me → HasLooked s t f c n
has_looked s t slots i f c n ring geometry seen in_range index told =
    let v : View = view_of s in
    let g : Geometry = s.geometry in
    let at : ℕ = index_of g f c in
    let l : IsLooked v (view_of t) i n = (is_looked f c slots i n s.seat.me t.seat.me told).0 in
    let inside : at < length v.noted = omega (arith, s.known.room, index_of-lt g f c in_range) in
    let noted : (view_of t).noted ≡ set v.noted at (Some n) = l.noted ∙ ap (λ j. set v.noted j (Some n)) index in
    let lap_is : lap v.geometry f ≡ lap g f = ap (λ (k : Geometry). lap k f) s.known.same_geometry in
    let never : NeverFall v.noted (set v.noted at (Some n)) = NeverFall-set v.noted at n inside
    (λ o is. told.0.noted o (subst (λ (k : Geometry). get_or v.noted (index_of k f c) None ≡ Some o) (sym s.known.same_geometry) is)) in
    record {
      goes = record { ring = ring; geometry = geometry; notes = subst (NeverFall v.noted) (sym noted) never };
      own = λ is. ap (λ (y : Me (Unit {0}) View). y.0) (told.1 (is ∙ ap (λ x. x + 1) (sym lap_is))) ∙ ap (λ j. with_sample (with_note v j n) f c (sample_of n)) index;
      other = λ is. ap (λ (y : Me (Unit {0}) View). y.0) (told.2 (λ e. is (e ∙ ap (λ x. x + 1) lap_is))) ∙ ap (λ j. with_note v j n) index;
      seen = seen;
      shows = ap (λ (k : Geometry). get_or (view_of t).noted (index_of k f c) None) geometry
          ∙ (ap (λ ns. get_or ns at None) noted ∙ get_or-set_same v.noted at (Some n) None inside);
      found = told.0;
    }
