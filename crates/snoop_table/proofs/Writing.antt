-- What the writer's steps may do and do, said of the fields of its seat.
use Rattle.snoop_table.specs.Prelude.{ap, arith, Bool, inl, inr, Some, subst, sym, true, ℕ, ℤ, ◌*◌, ◌+◌, ◌<◌, ◌∙◌, ◌≡◌, ◌≤◌, lt_of_mul-lt-mul_left}
use Rattle.snoop_table.specs.Prelude.{mul-le-mul_left, cases_lt, nat_tests, Allows, Me, step, none, Geometry, Cursor, div-suc_high, div-suc_low, mod-suc_high}
use Rattle.snoop_table.specs.Prelude.{mod-suc_low, suc-le-end_frame, cursor_after, end_frame, first_frame, IsWithin, lap, slot, word_of, next_after_stored-more}
use Rattle.snoop_table.specs.Prelude.{HoldsSample, HoldsSample-fields, sample_of, has_all-published, last_number-more, Desk, Track, View, Holds, next_to_store}
use Rattle.snoop_table.specs.Prelude.{position_of, the_track, IsWritePlace, IsWriter, position_store, sample_store, track_published, track_stored, unplug_store}
use Rattle.snoop_table.specs.Prelude.{with_published, with_stored, desk_view, HasPublished, HasStoredSample, HasUnplugged}
use Rattle.snoop_table.specs.declared.seats.place.WritePlace.{WritePlace}
use Rattle.snoop_table.proofs.Keeps.{publishes, stores, unplugs}

-- the place after the last channel of a frame: in the next slot, or in the first one of the next lap
pub place_in_lap : (g : Geometry) (p : WritePlace) → IsWritePlace g p → p.next.channel + 1 ≡ g.channels → p.index < g.frames * g.channels
    → IsWritePlace g (record { next = record { frame = p.next.frame + 1; channel = 0 }; index = p.index + 1; laps = p.laps })
place_in_lap g p is last inside =
    let f : ℕ = p.next.frame in
    let row : p.index ≡ g.channels * (slot g f + 1) = omega (arith, is.index_is, last) in
    let below : slot g f + 1 < g.frames = lt_of_mul-lt-mul_left g.channels (omega (arith, row, inside)) in
    let next : slot g (f + 1) ≡ slot g f + 1 = mod-suc_low f g.frames below in
    record {
      index_is = omega (arith, row, ap (λ s. s * g.channels) next);
      laps_is = is.laps_is ∙ ap (λ l. l + 1) (sym (div-suc_low f g.frames below));
    }

pub place_behind_lap : (g : Geometry) (p : WritePlace) → IsWritePlace g p → p.next.channel + 1 ≡ g.channels → g.frames * g.channels ≤ p.index
    → IsWritePlace g (record { next = record { frame = p.next.frame + 1; channel = 0 }; index = 1; laps = p.laps + 1 })
place_behind_lap g p is last outside =
    let f : ℕ = p.next.frame in
    let some : 0 < g.frames = omega (arith, g.frames_least) in
    let row : p.index ≡ g.channels * (slot g f + 1) = omega (arith, is.index_is, last) in
    let far : g.frames ≤ slot g f + 1 = elim (cases_lt (slot g f + 1) g.frames) [
      | inl near ↦
          let product : g.channels * (slot g f + 2) ≤ g.channels * g.frames = mul-le-mul_left g.channels (omega (arith, near)) in
          absurd (omega (arith, product, row, outside, g.channels_least))
      | inr not_near ↦ omega (arith, not_near)
    ] in
    let next : slot g (f + 1) ≡ 0 = mod-suc_high f g.frames some far in
    record {
      index_is = omega (arith, ap (λ s. s * g.channels) next);
      laps_is = ap (λ l. l + 1) (is.laps_is ∙ sym (div-suc_high f g.frames some far));
    }

-- the writer's track is the one that its view has
track_is : (v : View) (t : Track) → v.track ≡ Some t → the_track v.track ≡ t
track_is v t is = ap the_track is

-- the writer's next place is that after what its track stored
next_of : (d : Desk) (t : Track) → (desk_view d).track ≡ Some t → d.place.next ≡ next_to_store (desk_view d).geometry t
next_of d t tracks = d.known.next_is ∙ (ap (next_to_store d.geometry) (track_is (desk_view d) t tracks) ∙ ap (λ (g : Geometry). next_to_store g t) (sym d.known.same_geometry))

-- what the writer shows before it stores a sample
pub may_store : (d : Desk) (slots word : ℕ) (x : ℤ) → lap d.geometry d.place.next.frame < 4294967295
    → HoldsSample word (lap d.geometry d.place.next.frame + 1) x
    → Allows (Holds d.ring.now.key) slots d.seat.id d.seat.me d.place.index (λ n. word) (λ n. sample_store (step slots d.place.index word 0 none) d.seat.me word)
may_store d slots word x fits holds =
    let own : d.geometry ≡ (desk_view d).geometry = sym d.known.same_geometry in
    let read : HoldsSample word (lap d.geometry d.place.next.frame + 1) (sample_of word) =
    subst (HoldsSample word (lap d.geometry d.place.next.frame + 1)) (sym (HoldsSample-fields _ _ _ holds).1) holds in
    rw (d.at_next.index_is, ← d.same_ring.1, own) (stores slots d.seat.id d.seat.me d.place.next word d.known.tracked (next_of d)
    (subst (λ (g : Geometry). lap g d.place.next.frame < 4294967295) own fits) (subst (λ (g : Geometry). HoldsSample word (lap g d.place.next.frame + 1) (sample_of word)) own read))

pub may_publish : (d : Desk) (slots word : ℕ) → word ≡ word_of d.place.next.frame d.gone
    → Allows (Holds d.ring.now.key) slots d.seat.id d.seat.me 0 (λ n. word) (λ n. position_store (step slots 0 word 0 none) d.seat.me word)
may_publish d slots word is =
    rw (is, ← d.same_ring.1, ← d.known.same_geometry) (publishes slots d.seat.id d.seat.me d.place.next d.gone d.known.tracked (next_of d)
    (λ t tracks. d.known.gone_is ∙ ap (λ (x : Track). x.gone) (track_is (desk_view d) t tracks)))

pub may_unplug : (d : Desk) (slots word : ℕ) → word ≡ word_of d.position true
    → Allows (Holds d.ring.now.key) slots d.seat.id d.seat.me 0 (λ n. word) (λ n. unplug_store (step slots 0 word 0 none) d.seat.me word)
may_unplug d slots word is =
    rw (is, ← d.same_ring.1, ← d.known.same_geometry) (unplugs slots d.seat.id d.seat.me d.position d.known.tracked
    (λ t tracks. d.known.position_is ∙ (ap (position_of d.geometry) (track_is (desk_view d) t tracks) ∙ ap (λ (g : Geometry). position_of g t) (sym d.known.same_geometry))))

-- a writer's fields at the track that its view has
known_track : (v : View) (t : Track) (g : Geometry) (next : Cursor) (position : ℕ) (gone : Bool) → v.track ≡ Some t → IsWriter v g next position gone → IsWriter (record v { track = Some t }) g next position gone
known_track v t g next position gone tracks is = subst (λ o. IsWriter (record v { track = o }) g next position gone) tracks is

-- the fields after a sample was stored
pub known_stored : (g : Geometry) (next : Cursor) (position : ℕ) (gone : Bool) (slots i word n : ℕ) (m r : Me (Unit {0}) View)
    → IsWriter m.0 g next position gone → lap g next.frame < 4294967295
    → sample_store (step slots i word 0 none) m n r → IsWriter r.0 g (cursor_after g next.frame next.channel) position gone
known_stored g next position gone slots i word n m r is fits told =
    let t : Track = told.0 in
    let x : ℤ = sample_of word in
    let own = known_track m.0 t g next position gone told.1 is in
    let end : next.frame + 1 ≤ end_frame g = suc-le-end_frame g next.frame fits in
    let next_channel : (cursor_after g next.frame next.channel).channel < g.channels = grind (arith, nat_tests, is.next_channel, g.channels_least) in
    let next_within : IsWithin g (cursor_after g next.frame next.channel).frame = record { least = grind (arith, nat_tests, is.next_within.least); most = grind (arith, nat_tests, is.next_within.most, end) } in
    let next_is : cursor_after g next.frame next.channel ≡ next_to_store g (track_stored t x) = ap (λ (y : Cursor). cursor_after g y.frame y.channel) own.next_is ∙ sym (next_after_stored-more g t.stored x) in
    let known : IsWriter (with_stored m.0 t x) g (cursor_after g next.frame next.channel) position gone = assumption in
    rw told.2 known

-- after a publication
pub known_published : (g : Geometry) (next : Cursor) (position : ℕ) (gone : Bool) (slots word n : ℕ) (m r : Me (Unit {0}) View)
    → IsWriter m.0 g next position gone → position_store (step slots 0 word 0 none) m n r → IsWriter r.0 g next next.frame gone
known_published g next position gone slots word n m r is told =
    let t : Track = told.0 in
    let p : ℕ = (next_to_store m.0.geometry t).frame in
    let own = known_track m.0 t g next position gone told.1 is in
    let frame : p ≡ next.frame = ap (λ (y : Geometry). (next_to_store y t).frame) is.same_geometry ∙ ap (λ (y : Cursor). y.frame) (sym own.next_is) in
    let position_is : next.frame ≡ position_of g (track_published t p) = sym (last_number-more (first_frame g) t.published p ∙ frame) in
    let saw_all = has_all-published m.0.positions t.published p own.saw_all in
    let known : IsWriter (with_published m.0 t p) g next next.frame gone = assumption in
    rw told.2 known

-- after the card was unplugged
pub known_unplugged : (g : Geometry) (next : Cursor) (position : ℕ) (gone : Bool) (slots word n : ℕ) (m r : Me (Unit {0}) View)
    → IsWriter m.0 g next position gone → unplug_store (step slots 0 word 0 none) m n r → IsWriter r.0 g next position true
known_unplugged g next position gone slots word n m r is told = grind (arith, nat_tests)

-- the writer's seat after it stored a sample
pub has_stored : (d e : Desk) (slots i word n : ℕ) (x : ℤ) → e.seat.table_id ≡ d.seat.table_id → e.geometry ≡ d.geometry
    → e.place.next ≡ cursor_after d.geometry d.place.next.frame d.place.next.channel → e.position ≡ d.position → e.gone ≡ d.gone
    → HoldsSample word (lap d.geometry d.place.next.frame + 1) x
    → sample_store (step slots i word 0 none) d.seat.me n e.seat.me → HasStoredSample d e x
has_stored d e slots i word n x ring geometry next position gone holds told = grind (arith, nat_tests)

pub has_published : (d e : Desk) (slots word n : ℕ) → e.seat.table_id ≡ d.seat.table_id → e.geometry ≡ d.geometry
    → e.place.next ≡ d.place.next → e.position ≡ d.place.next.frame → e.gone ≡ d.gone
    → position_store (step slots 0 word 0 none) d.seat.me n e.seat.me → HasPublished d e
has_published d e slots word n ring geometry next position gone told = grind (arith, nat_tests)

pub has_unplugged : (d e : Desk) (slots word n : ℕ) → e.seat.table_id ≡ d.seat.table_id → e.geometry ≡ d.geometry
    → e.place.next ≡ d.place.next → e.position ≡ d.position → e.gone ≡ true
    → unplug_store (step slots 0 word 0 none) d.seat.me n e.seat.me → HasUnplugged d e
has_unplugged d e slots word n ring geometry next position gone told = grind (arith, nat_tests)
