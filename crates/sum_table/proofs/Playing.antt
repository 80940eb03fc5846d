-- What the player's steps may do and do, said of the fields of its seat.
use Rattle.sum_table.specs.Prelude.{ap, arith, Bool, List, pos, Some, subst, sym, true, ℕ, ℤ, [], ◌+◌, ◌<◌, ◌∙◌, ◌∷◌, ◌≡◌, ◌≢◌, ◌≤◌, nat_tests, Allows, Me}
use Rattle.sum_table.specs.Prelude.{step, none, Geometry, Cursor, suc-le-end_frame, cursor_after, end_frame, first_frame, IsWithin, lap, clamp_of, word_of}
use Rattle.sum_table.specs.Prelude.{StandsFor, sum_of, Take, Took, Taken, Entry, laid_of, Row, total, has_all-published, last_number-more, lap-le, index_of}
use Rattle.sum_table.specs.Prelude.{PlayerSeat, Track, View, Exact, next_at, position_at, the_track, IsPlayer, HasTaken, IsTurnedPlayer, player_view, track_of}
use Rattle.sum_table.specs.Prelude.{Makes, next_taken, position_store, track_published, track_taken, unplug_store, with_gone, with_published, with_taken}
use Rattle.sum_table.specs.Prelude.{word_take}
use Rattle.sum_table.specs.declared.view.Key.{Key}
use Rattle.sum_table.proofs.Keeps.{publishes, takes, unplugs}
use Rattle.sum_table.proofs.Rings.{next_at-taken}
use Rattle.sum_table.proofs.Seated.{step_begins}

-- the player's track is the one that its view has
track_is : (v : View) (t : Track) → v.track ≡ Some t → the_track v.track ≡ t
track_is v t is = ap the_track is

-- the next word's frame has a lap that fits, where it is not the last lap
pub fits_next : (p : PlayerSeat) → lap p.key.geometry p.next.frame ≢ 4294967295 → lap p.key.geometry p.next.frame < 4294967295
fits_next p other = omega (arith, other, lap-le p.key.geometry p.next.frame p.known.next_within.most)

-- the player's next word is that after what its track took
next_of : (p : PlayerSeat) (t : Track) → (player_view p).track ≡ Some t → p.next ≡ next_at (player_view p).key.geometry t
next_of p t tracks = p.known.next_is ∙ (ap (next_at p.key.geometry) (track_is (player_view p) t tracks) ∙ ap (λ (k : Key). next_at k.geometry t) (sym p.known.same_key))

-- what the player shows before it takes a word
pub may_take : (p : PlayerSeat) (slots i word : ℕ) → lap p.key.geometry p.next.frame ≢ 4294967295
    → StandsFor word (lap p.key.geometry p.next.frame + 1) 0 (pos 0) → i ≡ index_of p.key.geometry p.next.frame p.next.channel
    → Allows (Exact p.ring.now.key) slots p.seat.id p.seat.me i (λ n. word) (word_take (step slots i word 0 none) p.seat.me)
may_take p slots i word other stands index =
    let own : p.key ≡ (player_view p).key = sym p.known.same_key in
    rw (index, ← p.same_ring.1, own) (takes slots p.seat.id p.seat.me p.next word p.known.lasts p.known.tracked (next_of p)
    (subst (λ (k : Key). lap k.geometry p.next.frame < 4294967295) own (fits_next p other)) (subst (λ (k : Key). StandsFor word (lap k.geometry p.next.frame + 1) 0 (pos 0)) own stands))

pub may_publish : (p : PlayerSeat) (slots word : ℕ) → word ≡ word_of p.next.frame p.gone
    → Allows (Exact p.ring.now.key) slots p.seat.id p.seat.me 0 (λ n. word) (λ n. position_store (step slots 0 word 0 none) p.seat.me word)
may_publish p slots word is =
    rw (is, ← p.same_ring.1, ← p.known.same_key) (publishes slots p.seat.id p.seat.me p.next p.gone p.known.lasts p.known.tracked (next_of p)
    (λ t tracks. p.known.gone_is ∙ ap (λ (x : Track). x.gone) (track_is (player_view p) t tracks)))

pub may_unplug : (p : PlayerSeat) (slots word : ℕ) → word ≡ word_of p.position true
    → Allows (Exact p.ring.now.key) slots p.seat.id p.seat.me 0 (λ n. word) (λ n. unplug_store (step slots 0 word 0 none) p.seat.me word)
may_unplug p slots word is =
    rw (is, ← p.same_ring.1, ← p.known.same_key) (unplugs slots p.seat.id p.seat.me p.position p.known.lasts p.known.tracked
    (λ t tracks. p.known.position_is ∙ (ap (position_at p.key.geometry) (track_is (player_view p) t tracks) ∙ ap (λ (k : Key). position_at k.geometry t) (sym p.known.same_key))))

-- a player's fields at the track that its view has
known_track : (v : View) (t : Track) (k : Key) (next : Cursor) (position : ℕ) (gone : Bool) → v.track ≡ Some t → IsPlayer v k next position gone → IsPlayer (record v { track = Some t }) k next position gone
known_track v t k next position gone tracks is = subst (λ o. IsPlayer (record v { track = o }) k next position gone) tracks is

-- the fields after a word was taken
pub known_taken : (k : Key) (next : Cursor) (position : ℕ) (gone : Bool) (slots i word n : ℕ) (m r : Me Entry View)
    → IsPlayer m.0 k next position gone → lap k.geometry next.frame < 4294967295
    → word_take (step slots i word 0 none) m n r → IsPlayer r.0 k (cursor_after k.geometry next.frame next.channel) position gone
known_taken k next position gone slots i word n m r is fits told =
    let t : Track = told.1 in
    let x : Taken = next_taken m.0.key.geometry t told.2 in
    let own = known_track m.0 t k next position gone told.3 is in
    let end : next.frame + 1 ≤ end_frame k.geometry = suc-le-end_frame k.geometry next.frame fits in
    let next_channel : (cursor_after k.geometry next.frame next.channel).channel < k.geometry.channels = grind (arith, nat_tests, is.next_channel, k.geometry.channels_least) in
    let next_within : IsWithin k.geometry (cursor_after k.geometry next.frame next.channel).frame =
    record { least = grind (arith, nat_tests, is.next_within.least); most = grind (arith, nat_tests, is.next_within.most, end) } in
    let next_is : cursor_after k.geometry next.frame next.channel ≡ next_at k.geometry (track_taken t x) =
    ap (λ (y : Cursor). cursor_after k.geometry y.frame y.channel) own.next_is ∙ sym (next_at-taken k.geometry t x) in
    let known : IsPlayer (with_taken m.0 told.0 t x) k (cursor_after k.geometry next.frame next.channel) position gone = assumption in
    rw told.6 known

-- after a publication
pub known_published : (k : Key) (next : Cursor) (position : ℕ) (gone : Bool) (slots word n : ℕ) (m r : Me Entry View)
    → IsPlayer m.0 k next position gone → position_store (step slots 0 word 0 none) m n r → IsPlayer r.0 k next next.frame gone
known_published k next position gone slots word n m r is told =
    let t : Track = told.1 in
    let p : ℕ = (next_at m.0.key.geometry t).frame in
    let own = known_track m.0 t k next position gone told.2 is in
    let frame : p ≡ next.frame = ap (λ (y : Key). (next_at y.geometry t).frame) is.same_key ∙ ap (λ (y : Cursor). y.frame) (sym own.next_is) in
    let position_is : next.frame ≡ position_at k.geometry (track_published t p) = sym (last_number-more (first_frame k.geometry) t.published p ∙ frame) in
    let saw_all = has_all-published m.0.positions t.published p own.saw_all in
    let known : IsPlayer (with_published m.0 told.0 t p) k next next.frame gone = assumption in
    rw told.3 known

-- after the card was unplugged
pub known_unplugged : (k : Key) (next : Cursor) (position : ℕ) (gone : Bool) (slots word n : ℕ) (m r : Me Entry View)
    → IsPlayer m.0 k next position gone → unplug_store (step slots 0 word 0 none) m n r → IsPlayer r.0 k next position true
known_unplugged k next position gone slots word n m r is told =
    let own = known_track m.0 told.1 k next position gone told.2 is in
    let known : IsPlayer (with_gone m.0 told.0 told.1) k next position true = assumption in
    rw told.3 known

-- the player's seat after it took a word
pub has_taken : (p q : PlayerSeat) (slots i word n : ℕ) (z : ℤ) → q.seat.table_id ≡ p.seat.table_id → q.key ≡ p.key
    → q.next ≡ cursor_after p.key.geometry p.next.frame p.next.channel → q.position ≡ p.position → q.gone ≡ p.gone
    → z ≡ clamp_of (sum_of n) → word_take (step slots i word 0 none) p.seat.me n q.seat.me
    → HasTaken p q (record { frame = p.next.frame; channel = p.next.channel; value = z })
has_taken p q slots i word n z ring key next position gone value told =
    let v : View = player_view p in
    let g : Geometry = v.key.geometry in
    let h : List Row = told.0 in
    let t : Track = told.1 in
    let x : Taken = next_taken g t told.2 in
    let same : t ≡ track_of p = sym (track_is v t told.3) in
    let view : player_view q ≡ with_taken v h t x = ap (λ (y : Me Entry View). y.0) told.6 in
    let history : h ≡ (player_view q).history = sym (ap (λ (y : View). y.history) view) in
    let at_next : next_at g t ≡ p.next = ap (λ (k : Key). next_at k.geometry t) p.known.same_key ∙ (ap (next_at p.key.geometry) same ∙ sym p.known.next_is) in
    let values : told.2 ≡ z = told.4 ∙ sym value in
    let Rows : Cursor → ℤ → Type 0 = λ (y : Cursor) u. Makes v (player_view q) (λ _. (Take, Took y.frame y.channel u) ∷ []) in
    let made : Rows (next_at g t) told.2 = subst (λ y. Makes v y (λ _. (Take, Took (next_at g t).frame (next_at g t).channel told.2) ∷ [])) (sym view) told.7 in
    let made_here : Rows p.next z = subst (Rows p.next) values (subst (λ y. Rows y told.2) at_next made) in
    let item : x ≡ record { frame = p.next.frame; channel = p.next.channel; value = z } =
    ap (λ (y : Cursor). record { frame = y.frame; channel = y.channel; value = told.2 }) at_next ∙ ap (λ u. record { frame = p.next.frame; channel = p.next.channel; value = u }) values in
    let there : z ≡ clamp_of (total (laid_of (player_view q).history) p.next.frame p.next.channel) =
    sym values ∙ (told.5 ∙ (ap (λ (y : Cursor). clamp_of (total (laid_of h) y.frame y.channel)) at_next ∙ ap (λ y. clamp_of (total (laid_of y) p.next.frame p.next.channel)) history)) in
    let begins = step_begins v (player_view q) made.0 made.1 made.2 _ made.3 in
    let all = view ∙ (ap (λ y. with_taken v y t x) history ∙ (ap (λ y. with_taken v (player_view q).history y x) same ∙ ap (with_taken v (player_view q).history (track_of p)) item)) in
    let track = ap (λ (y : View). the_track y.track) view ∙ (ap (λ y. track_taken y x) same ∙ ap (track_taken (track_of p)) item) in
    assumption

-- the next word's frame is in the same lap
pub turned_lap : (p q : PlayerSeat) → IsTurnedPlayer p q → lap q.key.geometry q.next.frame ≡ lap p.key.geometry p.next.frame
turned_lap p q is = ap (λ (k : Key). lap k.geometry q.next.frame) is.key ∙ ap (λ (y : Cursor). lap p.key.geometry y.frame) is.next

-- where words can have it before, they can have it then
pub turned_fits : (p q : PlayerSeat) → IsTurnedPlayer p q → lap p.key.geometry p.next.frame < 4294967295
    → lap q.key.geometry q.next.frame ≢ 4294967295
turned_fits p q is fits = λ e. omega (arith, fits, e, turned_lap p q is)

-- a player that went to a lap, and then took a word there: this is what it took from the first
pub turned_taken : (p q r : PlayerSeat) (x : Taken) → IsTurnedPlayer p q → HasTaken q r x → HasTaken p r x
turned_taken p q r x is has = grind (arith, nat_tests)
