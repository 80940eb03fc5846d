-- Steps keep the rule, and what they show holds: the loads and the exchange of a mix seat, and what the player does.
use Rattle.sum_table.specs.Prelude.{ap, arith, Bool, false, get_or, inl, inr, length, List, negsuc, None, Option, pos, refl, set, Some, subst, sym, true, ℕ, ℤ}
use Rattle.sum_table.specs.Prelude.{[], ◌%◌, ◌++◌, ◌+ℤ◌, ◌+◌, ◌<◌, ◌==◌, ◌∙◌, ◌∷◌, ◌≡◌, ◌≤ℤ◌, ◌≤◌, cases_lt, false≢true, nat_tests, append-nil, at_snoc}
use Rattle.sum_table.specs.Prelude.{exchanged as by_exchange, Act, Allows, carried_after, keeps, Me, State, step, stepped, Valid, get_elem?, none, some, either}
use Rattle.sum_table.specs.Prelude.{Geometry, Cursor, div-lt_same, cursor_after, first_frame, first_free, IsFrom, lap, clamp_of, word_of, count_of, lap_of}
use Rattle.sum_table.specs.Prelude.{StandsFor, StandsFor-fields, sum_of, Add, Publish, Take, Withdraw, Late, Published, Took, Taken, Marks, Entry, Kind, Added}
use Rattle.sum_table.specs.Prelude.{Withdrawn, is_taken, IsReply, laid_of, next_to_take, Row, taken_words, cursor_of, marks_after, total, value_of}
use Rattle.sum_table.specs.Prelude.{cursor_of-least, lap-taken, IsNow, IsNow-next, now_of, noted_set, IsPosition-last, IsPosition-more, last_number-more}
use Rattle.sum_table.specs.Prelude.{index_of-lt, NotPast-position, NotPast-set, set_read, index_of, NotPast, rank, Track, View, AreViews, BeginsWith, Exact}
use Rattle.sum_table.specs.Prelude.{is_tracked, IsHistory, IsKept, IsLaid, IsOwn, IsPublishedPosition, IsRing, IsView, next_at, position_at, the_track}
use Rattle.sum_table.specs.Prelude.{all_laid, count, Finds, HoldsLast, in_row, IsLateAt, IsLateHeld, IsStep, IsSumOf, MakesLook, next_taken, position_load}
use Rattle.sum_table.specs.Prelude.{position_store, track_gone, track_published, track_taken, unplug_store, with_entry, with_gone, with_note, with_position}
use Rattle.sum_table.specs.Prelude.{with_published, with_taken, withdrawable_after, word_exchange, word_load, word_take}
use Rattle.sum_table.specs.declared.view.Key.{Key}
use Rattle.sum_table.proofs.Kept.{HeldFacts, IsHeldAt, held_facts, held_of, kept_add, kept_later, kept_withdraw}
use Rattle.sum_table.proofs.Places.{index_places, next_word-channel}
use Rattle.sum_table.proofs.Rings.{IsRing-put, IsRing-same, not_taken, IsRing-stored, IsRing-publish, IsRing-take, next_at-taken}
use Rattle.sum_table.proofs.Rows.{BeginsWith-more, BeginsWith-same, history_put, history_same, inside, is_held, own_marks, step_of, history_publish, history_take}
use Rattle.sum_table.proofs.Sums.{SameSums-put, SameSums-set}
use Rattle.sum_table.proofs.Views.{ByLap, Later, Later-same, by_lap, finds, rank-of, view_later, views_set, none_far}

-- what the rule says of some words and views, with the player's track and the history
pub record Holds (k : Key) (words : List ℕ) (views : List View) (at : ℕ) (t : Track) (h : List Row) : Type 0 where
  pub ring : IsRing k.geometry words (all_laid views) t
  pub views_ok : AreViews k words views at t h
  pub history : IsHistory k.geometry views t h

-- a view of which a load changes nothing but what was seen
pub record Same (v w : View) : Type 0 where
  pub places : w.places ≡ v.places
  pub laid : w.laid ≡ v.laid
  pub mine : w.mine ≡ v.mine
  pub ended : w.ended ≡ v.ended
  pub track : w.track ≡ v.track

-- the track of a view that has it
pub tracked_some : (o : Option Track) → is_tracked o ≡ true → o ≡ Some (the_track o)
tracked_some None is = absurd (false≢true is)
tracked_some (Some t) is = refl

-- a step that writes nothing
pub idle : (k : Key) (words : List ℕ) (views : List View) (at : ℕ) (t : Track) (h : List Row) (id : ℕ) (v w : View)
    → Holds k words views at t h → get_elem? views id ≡ some v → Same v w → IsView k words t h w
    → Holds k words (set views id w) at t h
idle k words views at t h id v w x here same own = record {
  ring = IsRing-same k.geometry words (all_laid views) (all_laid (set views id w)) t (SameSums-set views id v w here same.laid) x.ring;
  views_ok = views_set k words words views at t t h h id v w x.views_ok (Later-same k.geometry words t h h (λ early b. b)) here same.places own
      (λ u tracks. x.views_ok.player id v u here (sym same.track ∙ tracks)) (inl refl);
  history = history_same k.geometry views t h id v w x.history here same.laid same.mine same.ended;
}

-- the rule after a load, of which the word stays
pub loaded : (k : Key) (words : List ℕ) (views : List View) (at : ℕ) (t : Track) (h : List Row) (i : ℕ) (homes : List (mathlib.Core.Option.Option Entry))
    → Holds k words views at t h → Exact k (record { words = set words i (get_or words i 0); homes = homes; views = views })
loaded k words views at t h i homes x =
    subst (λ ws. Exact k (record { words = ws; homes = homes; views = views })) (sym (set_read words i)) (at, t, h, x.ring, x.views_ok, x.history)

-- a step of no event
pub none_made : (g : Geometry) (views : List View) (t : Track) (h : List Row) (id : ℕ) (v w : View)
    → IsHistory g (set views id w) t h → get_elem? views id ≡ some v → w.ended ≡ false → w.history ≡ h → v.key.geometry ≡ g
    → (begins : BeginsWith h v.history) → IsStep v w id (length views) begins.0 []
none_made g views t h id v w y here lasts history of_ring begins =
    step_of g views t h id v w [] (subst (IsHistory g (set views id w) t) (sym (append-nil h)) y) here lasts (history ∙ sym (append-nil h)) of_ring begins

-- a load of the position
pub locates : (slots id : ℕ) (m : Me Entry View) → m.0.ended ≡ false
    → Allows (Exact m.0.key) slots id m 0 (λ n. n) (position_load (step slots 0 0 0 none) m)
locates slots id m lasts s e homes here fits =
    let v : View = m.0 in
    let k : Key = v.key in
    let t : Track = e.1 in
    let h : List Row = e.2 in
    let x : Holds k s.words s.views e.0 t h = record { ring = e.3; views_ok = e.4; history = e.5 } in
    let own : IsView k s.words t h v = e.4.each id v here in
    let p : ℕ = position_at k.geometry t in
    let w : View = with_position v h p t.gone in
    let kept = kept_later k.geometry v.places v.laid v.mine v.free v.marks v.seen p v.ended own.seen_high own.kept in
    let seen_high : p ≤ position_at k.geometry t = omega arith in
    let positions : (i q : ℕ) → get_elem? (v.positions ++ p ∷ []) i ≡ some q → IsPublishedPosition k.geometry t q = λ i q there. elim (at_snoc v.positions p q i there) [
      | inl old ↦ own.positions i q old
      | inr new ↦ subst (IsPublishedPosition k.geometry t) new (IsPosition-last k.geometry t.published)
    ] in
    let after : IsView k s.words t h w = assumption (BeginsWith-same h) in
    let y : Holds k s.words (set s.views id w) e.0 t h = idle k s.words s.views e.0 t h id v w x here (record { places = refl; laid = refl; mine = refl; ended = refl; track = refl }) after in (
      w,
      keeps,
      tt,
      loaded k s.words (set s.views id w) e.0 t h 0 s.homes y,
      (
        h,
        p,
        t.gone,
        refl,
        e.3.position,
        own.seen_high,
        omega (arith, e.3.not_ahead, e.3.within),
        own.gone,
        (id, length s.views, own.begins.0, none_made k.geometry s.views t h id v w y.history here lasts refl refl own.begins),
      ),
    )

-- from a seat's cursor on are the ring's frames
least_placed : (g : Geometry) (views : List View) (t : Track) (h : List Row) (id : ℕ) (v : View) (f c : ℕ)
    → IsHistory g views t h → get_elem? views id ≡ some v → v.ended ≡ false → IsOwn g v.mine v.free v.marks → IsFrom v.marks.cursor f c → first_frame g ≤ f
least_placed g views t h id v f c y here lasts o from =
    let first : first_frame g ≤ (cursor_of g id (laid_of h)).frame = cursor_of-least g (length views) h id (y.legal (length views) (omega arith)) in
    let moved : first_free (cursor_of g id (laid_of h)) c ≤ first_free v.marks.cursor c =
    subst (λ (m : Marks). first_free m.cursor c ≤ first_free v.marks.cursor c) (sym (own_marks g views t h id v y here lasts)) (o.within.cursor c) in
    let start : (cursor_of g id (laid_of h)).frame ≤ first_free (cursor_of g id (laid_of h)) c = grind (arith, nat_tests) in
    omega (arith, first, moved, start, from)

-- a word of a later lap is where something was taken
late_taken : (words : List ℕ) (views : List View) (at : ℕ) (t : Track) (h : List Row) (v : View) (i f c : ℕ) → Holds v.key words views at t h → v.seen ≤ position_at v.key.geometry t
    → c < v.key.geometry.channels → f < v.seen + v.key.geometry.frames → index_of v.key.geometry f c ≡ i → lap v.key.geometry f < lap_of (get_or words i 0)
    → (f < first_free (next_at v.key.geometry t) c) × (first_frame v.key.geometry ≤ f → is_taken (taken_words h) f c ≡ true)
late_taken words views at t h v i f c x high in_range near index past = grind (arith, nat_tests)

-- a word of a later lap is an add that was late
pub late_reply : (words : List ℕ) (views : List View) (at : ℕ) (t : Track) (h : List Row) (id : ℕ) (v : View) (i f c : ℕ) (sample : ℤ)
    → Holds v.key words views at t h → get_elem? views id ≡ some v → v.ended ≡ false → IsLateAt v i (get_or words i 0) f c
    → IsReply v.key.geometry (length views) h (Add id f c sample, Late)
late_reply words views at t h id v i f c sample x here lasts late =
    let g : Geometry = v.key.geometry in
    let own : IsView v.key words t h v = x.views_ok.each id v here in
    let o : IsOwn g v.mine v.free v.marks = own.kept.own lasts in
    let taken = late_taken words views at t h v i f c x own.seen_high late.channel late.ahead late.index late.past in
    let next_is : next_to_take g h ≡ next_at g t = ap (λ (ts : List Taken). next_at g (record t { taken = ts })) x.history.taken in
    let legal = x.history.legal (length views) (omega arith) in
    let fits : lap g f < 4294967295 = lap-taken g (length views) h f c legal (subst (λ (y : Cursor). f < first_free y c) (sym next_is) taken.0) in
    let least = least_placed g views t h id v f c x.history here lasts o late.from_cursor in
    (inside g views t h id (length views) v f c x.history here lasts o (omega arith) late.channel late.from_cursor fits (omega (arith, late.ahead, own.seen_high)), taken.1 least)

-- and so is one where the seat's last standing add is
pub late_held : (words : List ℕ) (views : List View) (at : ℕ) (t : Track) (h : List Row) (id : ℕ) (v : View) (i f c : ℕ) (sample : ℤ)
    → Holds v.key words views at t h → get_elem? views id ≡ some v → v.ended ≡ false → IsLateHeld v i (get_or words i 0) f c sample
    → IsReply v.key.geometry (length views) h (Withdraw id f c sample, Late)
late_held words views at t h id v i f c sample x here lasts late =
    let g : Geometry = v.key.geometry in
    let own : IsView v.key words t h v = x.views_ok.each id v here in
    let held : IsHeldAt v.laid v.marks f c sample = held_of v f c sample late.holds in
    let facts : HeldFacts g v.marks v.seen f c = held_facts g v.places v.laid v.mine v.free v.marks v.seen v.ended f c sample own.kept held in
    let taken = late_taken words views at t h v i f c x own.seen_high facts.channel facts.ahead late.index late.past in
    (is_held g views t h id (length views) v v.seen f c sample x.history here lasts own.kept (omega arith) held, taken.1 facts.low)

-- a word of a frame's own lap is the sum of what the history placed there
sum_there : (words : List ℕ) (views : List View) (at : ℕ) (t : Track) (h : List Row) (k : Key) (f c : ℕ) → Holds k words views at t h → c < k.geometry.channels
    → IsSumOf k.geometry h f c (get_or words (index_of k.geometry f c) 0)
sum_there words views at t h k f c x in_range of_lap =
    let g : Geometry = k.geometry in
    let next = next_at g t in
    let found : (j : ℕ) × IsNow g next j c × (j % g.frames ≡ f % g.frames) × (index_of g j c ≡ index_of g f c) = now_of g (index_of g) _ (index_places g) next f c in_range in
    let j : ℕ = found.0 in
    let word : ℕ = get_or words (index_of g f c) 0 in
    let stands : StandsFor word (lap g j) (count (all_laid views) j c) (total (all_laid views) j c) =
    subst (λ i. StandsFor (get_or words i 0) (lap g j) (count (all_laid views) j c) (total (all_laid views) j c)) found.3 (x.ring.sums j c found.1) in
    let laps : lap g j ≡ lap g f = sym (StandsFor-fields _ _ _ _ stands).0 ∙ of_lap in
    let same : j ≡ f = elim (cases_lt j f) [
      | inl before ↦ absurd (omega (arith, laps, div-lt_same g.frames j f found.2 before))
      | inr from ↦ elim (cases_lt f j) [ inl after ↦ absurd (omega (arith, laps, div-lt_same g.frames f j (sym found.2) after)) | inr up ↦ omega (arith, from, up) ]
    ] in
    let here : StandsFor word (lap g f) (count (all_laid views) f c) (total (all_laid views) f c) = subst (λ i. StandsFor word (lap g i) (count (all_laid views) i c) (total (all_laid views) i c)) same stands in
    rw (x.history.sums.counts f c, x.history.sums.totals f c) here

-- a word was found and noted
pub notes : (slots id : ℕ) (m : Me Entry View) (i : ℕ) (s : State Entry View) (at : ℕ) (t : Track) (h : List Row)
    → m.0.ended ≡ false → Holds m.0.key s.words s.views at t h → get_elem? s.views id ≡ some m.0
    → Holds m.0.key s.words (set s.views id (with_note m.0 h i (get_or s.words i 0))) at t h × MakesLook m.0 (with_note m.0 h i (get_or s.words i 0)) i (get_or s.words i 0)
    × ((f c : ℕ) → index_of m.0.key.geometry f c ≡ i → c < m.0.key.geometry.channels → IsSumOf m.0.key.geometry h f c (get_or s.words i 0))
notes slots id m i s at t h lasts x here =
    let v : View = m.0 in
    let k : Key = v.key in
    let n : ℕ = get_or s.words i 0 in
    let own : IsView k s.words t h v = x.views_ok.each id v here in
    let w : View = with_note v h i n in
    let noted : (j o : ℕ) → 0 < j → get_or (set v.noted i (Some n)) j None ≡ Some o → NotPast o (get_or s.words j 0) = λ j o positive there. elim (noted_set v.noted i j n o there) [
      | inl new ↦ inl (new.1 ∙ ap (λ l. get_or s.words l 0) (sym new.0))
      | inr old ↦ own.noted j o positive old
    ] in
    let after : IsView k s.words t h w = assumption (BeginsWith-same h) in
    let y : Holds k s.words (set s.views id w) at t h = idle k s.words s.views at t h id v w x here (record { places = refl; laid = refl; mine = refl; ended = refl; track = refl }) after in (
      y,
      (
        id,
        length s.views,
        own.begins.0,
        none_made k.geometry s.views t h id v w y.history here lasts refl refl own.begins,
        (λ f c sample late. late_reply s.words s.views at t h id v i f c sample x here lasts late),
        (λ f c sample late. late_held s.words s.views at t h id v i f c sample x here lasts late),
      ),
      (λ f c index in_range. subst (λ j. IsSumOf k.geometry h f c (get_or s.words j 0)) index (sum_there s.words s.views at t h k f c x in_range)),
    )

-- a load of the word of a frame and channel
pub looks : (slots id : ℕ) (m : Me Entry View) (f c : ℕ) → m.0.ended ≡ false → c < m.0.key.geometry.channels
    → Allows (Exact m.0.key) slots id m (index_of m.0.key.geometry f c) (λ n. n) (word_load (step slots (index_of m.0.key.geometry f c) 0 0 none) m)
looks slots id m f c lasts in_range s e homes here fits =
    let v : View = m.0 in
    let k : Key = v.key in
    let i : ℕ = index_of k.geometry f c in
    let t : Track = e.1 in
    let h : List Row = e.2 in
    let x : Holds k s.words s.views e.0 t h = record { ring = e.3; views_ok = e.4; history = e.5 } in
    let w : View = with_note v h i (get_or s.words i 0) in
    let noted = notes slots id m i s e.0 t h lasts x here in (
      w,
      keeps,
      tt,
      loaded k s.words (set s.views id w) e.0 t h i s.homes noted.0,
      (finds s.words s.views e.0 t h id v f c e.3 e.4 here in_range fits, (h, refl, noted.1, noted.2)),
    )

-- what a seat knows of an entry that it adds, and of one that it withdraws
abbrev pub may_put : Kind → View → ℕ → ℕ → ℤ → Type 0
may_put Added v f c s =
    (c < v.key.geometry.channels) × IsFrom v.marks.cursor f c × (f < v.seen + v.key.geometry.frames) × (0 < v.places) × (lap v.key.geometry f < 4294967295)
may_put Withdrawn v f c s = HoldsLast v f c s

-- what a seat knows before an exchange that places an entry
pub record MayPut (v : View) (e : Entry) (old new : ℕ) : Type 0 where
  pub lasts : v.ended ≡ false
  pub may : may_put e.kind v e.frame e.channel e.sample
  pub channel : e.channel < v.key.geometry.channels
  pub low : negsuc 32767 ≤ℤ value_of e
  pub high : value_of e ≤ℤ pos 32768
  pub of_lap : lap_of old ≡ lap v.key.geometry e.frame
  pub stands : StandsFor new (lap_of old) (count_of old + 1) (sum_of old +ℤ value_of e)

-- what the entry then is: it is in the ring, the seat's list stays in order, and the history replies that it is in time
pub record Puts (words : List ℕ) (views : List View) (t : Track) (h : List Row) (id : ℕ) (v : View) (e : Entry) : Type 0 where
  pub ahead : e.frame < v.seen + v.key.geometry.frames
  pub kept : IsKept v.key.geometry v.places (v.laid ++ e ∷ []) (v.mine ++ e ∷ []) (withdrawable_after e.kind v.marks v.free e) (marks_after v.key.geometry v.marks e) v.seen v.ended
  pub reply : is_taken t.taken e.frame e.channel ≡ false → (members : ℕ) → length views ≤ members → IsReply v.key.geometry members h (in_row id e)

put_cases : (words : List ℕ) (views : List View) (at : ℕ) (t : Track) (h : List Row) (id : ℕ) (v : View) (e : Entry)
    → Holds v.key words views at t h → get_elem? views id ≡ some v → v.ended ≡ false → may_put e.kind v e.frame e.channel e.sample
    → Puts words views t h id v e
put_cases words views at t h id v e x here lasts may = by_kind e.kind refl may where
  own : IsView v.key words t h v
  own = x.views_ok.each id v here

  untaken_is : is_taken t.taken e.frame e.channel ≡ false → is_taken (taken_words h) e.frame e.channel ≡ false
  untaken_is untaken = ap (λ ts. is_taken ts e.frame e.channel) x.history.taken ∙ untaken

  by_kind : (k : Kind) → e.kind ≡ k → may_put k v e.frame e.channel e.sample → Puts words views t h id v e
  by_kind Added kind may =
      let g : Geometry = v.key.geometry in
      let o : IsOwn g v.mine v.free v.marks = own.kept.own lasts in
      let laid : IsLaid g v.seen e = record { channel = may.0; low = least_placed g views t h id v e.frame e.channel x.history here lasts o may.1; ahead = may.2; fits = may.4 } in
      record {
        ahead = may.2;
        kept = kept_add g v.places v.laid v.mine v.free v.marks v.seen v.ended e own.kept kind laid may.1 may.3;
        reply = λ untaken members up. rw kind
            (inside g views t h id members v e.frame e.channel x.history here lasts o up may.0 may.1 may.4 (omega (arith, may.2, own.seen_high)), untaken_is untaken);
      }
  by_kind Withdrawn kind may =
      let g : Geometry = v.key.geometry in
      let held : IsHeldAt v.laid v.marks e.frame e.channel e.sample = held_of v e.frame e.channel e.sample may in
      record {
        ahead = (held_facts g v.places v.laid v.mine v.free v.marks v.seen v.ended e.frame e.channel e.sample own.kept held).ahead;
        kept = kept_withdraw g v.places v.laid v.mine v.free v.marks v.seen v.ended e own.kept kind held;
        reply = λ untaken members up. rw kind (is_held g views t h id members v v.seen e.frame e.channel e.sample x.history here lasts own.kept up held, untaken_is untaken);
      }

-- the entry is placed where the word is still the old one
pub puts : (words : List ℕ) (views : List View) (at : ℕ) (t : Track) (h : List Row) (id : ℕ) (v : View) (e : Entry) (old new : ℕ)
    → Holds v.key words views at t h → get_elem? views id ≡ some v → MayPut v e old new
    → get_or words (index_of v.key.geometry e.frame e.channel) 0 ≡ old
    → Holds v.key (set words (index_of v.key.geometry e.frame e.channel) new) (set views id (with_entry v (h ++ in_row id e ∷ []) e)) at t (h ++ in_row id e ∷ [])
puts words views at t h id v e old new x here may is =
    let k : Key = v.key in
    let g : Geometry = k.geometry in
    let f : ℕ = e.frame in
    let c : ℕ = e.channel in
    let i : ℕ = index_of g f c in
    let late : List Row = h ++ in_row id e ∷ [] in
    let w : View = with_entry v late e in
    let own : IsView k words t h v = x.views_ok.each id v here in
    let one : Puts words views t h id v e = put_cases words views at t h id v e x here may.lasts may.may in
    let ahead : f < position_at g t + g.frames = omega (arith, one.ahead, own.seen_high) in
    let laps : ByLap g (next_at g t) old f c = subst (λ n. ByLap g (next_at g t) n f c) is (by_lap g words (all_laid views) t f c x.ring may.channel ahead) in
    let now : IsNow g (next_at g t) f c = laps.now may.of_lap in
    let stood : StandsFor old (lap g f) (count (all_laid views) f c) (total (all_laid views) f c) =
    subst (λ n. StandsFor n (lap g f) (count (all_laid views) f c) (total (all_laid views) f c)) is (x.ring.sums f c now) in
    let fields : (lap_of old ≡ lap g f) × (count_of old ≡ count (all_laid views) f c) × (sum_of old ≡ total (all_laid views) f c) = StandsFor-fields _ _ _ _ stood in
    let stands : StandsFor new (lap g f) (count (all_laid views) f c + 1) (total (all_laid views) f c +ℤ value_of e) = rw (← fields.0, ← fields.1, ← fields.2) may.stands in
    let ring : IsRing g (set words i new) (all_laid views ++ e ∷ []) t = IsRing-put g words (all_laid views) t e new x.ring now may.low may.high stands in
    let up : rank old < rank new = omega (arith, rank-of old _ _ _ stood, rank-of new _ _ _ stands) in
    let in_words : i < length words = omega (arith, index_of-lt g f c may.channel, x.ring.room) in
    let later : Later g words (set words i new) t t h late = record {
      next = λ d. omega arith;
      position = omega arith;
      published = λ p q. q;
      gone = λ q. q;
      words = λ j n positive past. NotPast-set words i new j n in_words (subst (λ q. rank q < rank new) (sym is) up) past;
      history = λ early b. BeginsWith-more h early (in_row id e ∷ []) b;
    } in
    let moved : IsView k (set words i new) t late v = view_later k words (set words i new) t t h late v later own in
    let after : IsView k (set words i new) t late w = assumption (one.kept, BeginsWith-same late) in
    record {
      ring = IsRing-same g (set words i new) (all_laid views ++ e ∷ []) (all_laid (set views id w)) t (SameSums-put views id v w e here refl) ring;
      views_ok = views_set k words (set words i new) views at t t h late id v w x.views_ok later here refl after
          (λ u tracks. x.views_ok.player id v u here tracks) (inl refl);
      history = history_put g views t h id v w e x.history here may.lasts refl refl (one.reply (not_taken g words (all_laid views) t f c x.ring now));
    }

-- a compare-exchange that places an entry where the word is the expected one, and else notes the word found
pub exchanges : (slots id : ℕ) (m : Me Entry View) (e : Entry) (old new : ℕ) → MayPut m.0 e old new
    → Allows (Exact m.0.key) slots id m (index_of m.0.key.geometry e.frame e.channel) (λ n. either (n == old) new n)
    (word_exchange (step slots (index_of m.0.key.geometry e.frame e.channel) old new (some e)) m)
exchanges slots id m e old new may s x homes here fits =
    let v : View = m.0 in
    let k : Key = v.key in
    let g : Geometry = k.geometry in
    let i : ℕ = index_of g e.frame e.channel in
    let n : ℕ = get_or s.words i 0 in
    let t : Track = x.1 in
    let h : List Row = x.2 in
    let all : Holds k s.words s.views x.0 t h = record { ring = x.3; views_ok = x.4; history = x.5 } in
    let own : IsView k s.words t h v = x.4.each id v here in
    let found : Finds v i n = finds s.words s.views x.0 t h id v e.frame e.channel x.3 x.4 here may.channel fits in
    let Goes : ℕ → Type 0 = λ word. (w : View) × (a : Act Entry) × Rattle.atomic_table.specs.Table.Valid s.homes m.1 a
    × Exact k (Rattle.atomic_table.specs.Table.stepped s i word id m.1 w a)
    × word_exchange (step slots i old new (some e)) m n (w, Rattle.atomic_table.specs.Table.carried_after m.1 a) in
    by_exchange n old new Goes
    (λ won.
    let late : List Row = h ++ in_row id e ∷ [] in
    let w : View = with_entry v late e in
    let y : Holds k (set s.words i new) (set s.views id w) x.0 t late = puts s.words s.views x.0 t h id v e old new all here may won in (
      w,
      keeps,
      tt,
      (x.0, t, late, y.ring, y.views_ok, y.history),
      (
        found,
        (λ same. (e, refl, (late, refl, (id, length s.views, own.begins.0, step_of g s.views t h id v w (in_row id e ∷ []) y.history here may.lasts refl refl own.begins)))),
        (λ other. absurd (other won)),
      ),
    ))
    (λ lost.
    let w : View = with_note v h i n in
    let noted = notes slots id m i s x.0 t h may.lasts all here in (
      w,
      keeps,
      tt,
      loaded k s.words (set s.views id w) x.0 t h i s.homes noted.0,
      (found, (λ same. absurd (lost same)), (λ other. (h, refl, noted.1, noted.2))),
    ))

-- ---- the player's steps keep the rule: it takes a word, publishes its position, and unplugs the card

abbrev pub track_or : Track → Option Track → Track
track_or t None = t
track_or t (Some u) = u

-- the next word's cursor moves back for no channel
grows : (g : Geometry) (next : Cursor) (c : ℕ) → first_free next c ≤ first_free (cursor_after g next.frame next.channel) c
grows g next c = grind (arith, nat_tests)

-- the swap of the next word for the empty word of the next lap, as the rule has it
took : (s : State Entry View) (slots id : ℕ) (m : Me Entry View) (at : ℕ) (t : Track) (h : List Row) (word : ℕ)
    → m.0.ended ≡ false → m.0.track ≡ Some t → id ≡ at → Holds m.0.key s.words s.views at t h → get_elem? s.views id ≡ some m.0
    → lap m.0.key.geometry (next_at m.0.key.geometry t).frame < 4294967295
    → StandsFor word (lap m.0.key.geometry (next_at m.0.key.geometry t).frame + 1) 0 (pos 0)
    → let i : ℕ = index_of m.0.key.geometry (next_at m.0.key.geometry t).frame (next_at m.0.key.geometry t).channel in
    (w : View) × (a : Act Entry) × Valid s.homes m.1 a × Exact m.0.key (stepped s i word id m.1 w a)
    × word_take (step slots i word 0 none) m (get_or s.words i 0) (w, carried_after m.1 a)
took s slots id m at t h word lasts tracks player x here fits stands =
    let v : View = m.0 in
    let k : Key = v.key in
    let g : Geometry = k.geometry in
    let next : Cursor = next_at g t in
    let i : ℕ = index_of g next.frame next.channel in
    let n : ℕ = get_or s.words i 0 in
    let channel = next_word-channel g (length t.taken) in
    let now : IsNow g next next.frame next.channel = IsNow-next g next channel in
    let stood = x.ring.sums next.frame next.channel now in
    let fields : (lap_of n ≡ lap g next.frame) × (count_of n ≡ count (all_laid s.views) next.frame next.channel) × (sum_of n ≡ total (all_laid s.views) next.frame next.channel) = StandsFor-fields _ _ _ _ stood in
    let z : ℤ = clamp_of (sum_of n) in
    let value : z ≡ clamp_of (total (all_laid s.views) next.frame next.channel) = ap clamp_of fields.2 in
    let rows : List Row = (Take, Took next.frame next.channel z) ∷ [] in
    let late : List Row = h ++ rows in
    let u : Track = track_taken t (next_taken g t z) in
    let w : View = with_taken v late t (next_taken g t z) in
    let own : IsView k s.words t h v = x.views_ok.each id v here in
    let behind_it : next_at g u ≡ cursor_after g next.frame next.channel = next_at-taken g t (next_taken g t z) in
    let up : rank n < rank word = omega (arith, rank-of n _ _ _ stood, stood.count_fits, rank-of word _ _ _ stands) in
    let in_words : i < length s.words = omega (arith, index_of-lt g next.frame next.channel channel, x.ring.room) in
    let later : Later g s.words (set s.words i word) t u h late = record {
      next = λ c. subst (λ (y : Cursor). first_free next c ≤ first_free y c) (sym behind_it) (grows g next c);
      position = omega arith;
      published = λ p q. q;
      gone = λ q. q;
      words = λ j o positive past. NotPast-set s.words i word j o in_words up past;
      history = λ early b. BeginsWith-more h early rows b;
    } in
    let moved : IsView k (set s.words i word) u late v = view_later k s.words (set s.words i word) t u h late v later own in
    let after : IsView k (set s.words i word) u late w = assumption (BeginsWith-same late) in
    let ring = IsRing-take g s.words (all_laid s.views) t z word x.ring fits (none_far k s.words s.views at t h x.views_ok x.ring.not_ahead) stands value in
    let views = views_set k s.words (set s.words i word) s.views at t u h late id v w x.views_ok later here refl after
    (λ y is. (player, sym (ap (λ (o : Option Track). track_or u o) is))) (inr player) in
    let seated : IsHistory g (set s.views id w) u late =
    history_same g s.views u late id v w (history_take g s.views t h z x.history (λ same. omega (arith, fits, same)) value) here refl refl refl in (
      w,
      keeps,
      tt,
      (at, u, late, IsRing-same g (set s.words i word) (all_laid s.views) (all_laid (set s.views id w)) u (SameSums-set s.views id v w here refl) ring, views, seated),
      (late, t, z, tracks, refl, value ∙ ap clamp_of ((SameSums-set s.views id v w here refl).totals next.frame next.channel ∙ sym (seated.sums.totals next.frame next.channel)), refl, (id, length s.views, own.begins.0, step_of g s.views u h id v w rows seated here lasts refl refl own.begins)),
    )

-- the player's swap of the next word
pub takes : (slots id : ℕ) (m : Me Entry View) (next : Cursor) (word : ℕ)
    → m.0.ended ≡ false → is_tracked m.0.track ≡ true → ((t : Track) → m.0.track ≡ Some t → next ≡ next_at m.0.key.geometry t)
    → lap m.0.key.geometry next.frame < 4294967295
    → StandsFor word (lap m.0.key.geometry next.frame + 1) 0 (pos 0)
    → Allows (Exact m.0.key) slots id m (index_of m.0.key.geometry next.frame next.channel) (λ n. word) (word_take (step slots (index_of m.0.key.geometry next.frame next.channel) word 0 none) m)
takes slots id m next word lasts is next_is fits stands s x homes here small =
    let t : Track = x.1 in
    let found = tracked_some m.0.track is in
    let mine = x.4.player id m.0 (the_track m.0.track) here found in
    let tracks : m.0.track ≡ Some t = found ∙ ap (λ u. Some u) mine.1 in
    let at_next : next ≡ next_at m.0.key.geometry t = next_is t tracks in
    let Goes : Cursor → Type 0 = λ (y : Cursor).
    let i : ℕ = index_of m.0.key.geometry y.frame y.channel in
    (w : View) × (a : Act Entry) × Valid s.homes m.1 a × Exact m.0.key (stepped s i word id m.1 w a)
    × word_take (step slots i word 0 none) m (get_or s.words i 0) (w, carried_after m.1 a) in
    subst Goes (sym at_next)
    (took s slots id m x.0 t x.2 word lasts tracks mine.0 (record { ring = x.3; views_ok = x.4; history = x.5 }) here
    (subst (λ (y : Cursor). lap m.0.key.geometry y.frame < 4294967295) at_next fits)
    (subst (λ (y : Cursor). StandsFor word (lap m.0.key.geometry y.frame + 1) 0 (pos 0)) at_next stands))

-- the player's store of its position
pub publishes : (slots id : ℕ) (m : Me Entry View) (next : Cursor) (gone : Bool)
    → m.0.ended ≡ false → is_tracked m.0.track ≡ true
    → ((t : Track) → m.0.track ≡ Some t → next ≡ next_at m.0.key.geometry t) → ((t : Track) → m.0.track ≡ Some t → gone ≡ t.gone)
    → Allows (Exact m.0.key) slots id m 0 (λ n. word_of next.frame gone) (λ n. position_store (step slots 0 (word_of next.frame gone) 0 none) m (word_of next.frame gone))
publishes slots id m next gone lasts is next_is gone_is s x homes here small =
    let v : View = m.0 in
    let k : Key = v.key in
    let g : Geometry = k.geometry in
    let t : Track = x.1 in
    let h : List Row = x.2 in
    let found = tracked_some v.track is in
    let mine = x.4.player id v (the_track v.track) here found in
    let tracks : v.track ≡ Some t = found ∙ ap (λ u. Some u) mine.1 in
    let at_next : next ≡ next_at g t = next_is t tracks in
    let p : ℕ = (next_at g t).frame in
    let word_is : word_of next.frame gone ≡ word_of p t.gone = ap (λ (y : Cursor). word_of y.frame gone) at_next ∙ ap (λ b. word_of p b) (gone_is t tracks) in
    let words : List ℕ = set s.words 0 (word_of p t.gone) in
    let rows : List Row = (Publish, Published p) ∷ [] in
    let late : List Row = h ++ rows in
    let u : Track = track_published t p in
    let w : View = with_published v late t p in
    let own : IsView k s.words t h v = x.4.each id v here in
    let last : position_at g u ≡ p = last_number-more (first_frame g) t.published p in
    let later : Later g s.words words t u h late = record {
      next = λ c. omega arith;
      position = omega (arith, last, x.3.not_ahead);
      published = λ q was. IsPosition-more g t.published q p was;
      gone = λ q. q;
      words = λ j o positive past. NotPast-position s.words (word_of p t.gone) j o positive past;
      history = λ early b. BeginsWith-more h early rows b;
    } in
    let moved : IsView k words u late v = view_later k s.words words t u h late v later own in
    let kept = kept_later g v.places v.laid v.mine v.free v.marks v.seen p v.ended (omega (arith, own.seen_high, x.3.not_ahead)) moved.kept in
    let seen_high : p ≤ position_at g u = omega (arith, last) in
    let positions : (i q : ℕ) → get_elem? (v.positions ++ p ∷ []) i ≡ some q → IsPublishedPosition g u q = λ i q there. elim (at_snoc v.positions p q i there) [
      | inl old ↦ moved.positions i q old
      | inr new_one ↦ subst (IsPublishedPosition g u) (last ∙ new_one) (IsPosition-last g u.published)
    ] in
    let after : IsView k words u late w = assumption (BeginsWith-same late) in
    let ring = IsRing-publish g s.words (all_laid s.views) t x.3 in
    let views = views_set k s.words words s.views x.0 t u h late id v w x.4 later here refl after
    (λ y one. (mine.0, sym (ap (λ (o : Option Track). track_or u o) one))) (inr mine.0) in
    let seated : IsHistory g (set s.views id w) u late = history_same g s.views u late id v w (history_publish g s.views t h x.5) here refl refl refl in (
      w,
      keeps,
      tt,
      subst (λ n. Exact k (record { words = set s.words 0 n; homes = s.homes; views = set s.views id w })) (sym word_is)
          (x.0, u, late, IsRing-same g words (all_laid s.views) (all_laid (set s.views id w)) u (SameSums-set s.views id v w here refl) ring, views, seated),
      (late, t, tracks, refl, (id, length s.views, own.begins.0, step_of g s.views u h id v w rows seated here lasts refl refl own.begins)),
    )

-- the player's store that says that the card is gone
pub unplugs : (slots id : ℕ) (m : Me Entry View) (position : ℕ)
    → m.0.ended ≡ false → is_tracked m.0.track ≡ true → ((t : Track) → m.0.track ≡ Some t → position ≡ position_at m.0.key.geometry t)
    → Allows (Exact m.0.key) slots id m 0 (λ n. word_of position true) (λ n. unplug_store (step slots 0 (word_of position true) 0 none) m (word_of position true))
unplugs slots id m position lasts is position_is s x homes here small =
    let v : View = m.0 in
    let k : Key = v.key in
    let g : Geometry = k.geometry in
    let t : Track = x.1 in
    let h : List Row = x.2 in
    let found = tracked_some v.track is in
    let mine = x.4.player id v (the_track v.track) here found in
    let tracks : v.track ≡ Some t = found ∙ ap (λ u. Some u) mine.1 in
    let p : ℕ = position_at g t in
    let words : List ℕ = set s.words 0 (word_of p true) in
    let u : Track = track_gone t in
    let w : View = with_gone v h t in
    let own : IsView k s.words t h v = x.4.each id v here in
    let later : Later g s.words words t u h h = record {
      next = λ c. omega arith;
      position = omega arith;
      published = λ q was. was;
      gone = λ q. refl;
      words = λ j o positive past. NotPast-position s.words (word_of p true) j o positive past;
      history = λ early b. b;
    } in
    let moved : IsView k words u h v = view_later k s.words words t u h h v later own in
    let after : IsView k words u h w = assumption (BeginsWith-same h) in
    let ring = IsRing-stored g s.words (all_laid s.views) t t.published true x.3 x.3.rising x.3.not_ahead in
    let views = views_set k s.words words s.views x.0 t u h h id v w x.4 later here refl after
    (λ y one. (mine.0, sym (ap (λ (o : Option Track). track_or u o) one))) (inr mine.0) in
    let was : IsHistory g s.views t h = x.5 in
    let gone : IsHistory g s.views u h = assumption in
    let seated : IsHistory g (set s.views id w) u h = history_same g s.views u h id v w gone here refl refl refl in (
      w,
      keeps,
      tt,
      subst (λ q. Exact k (record { words = set s.words 0 (word_of q true); homes = s.homes; views = set s.views id w })) (sym (position_is t tracks))
          (x.0, u, h, IsRing-same g words (all_laid s.views) (all_laid (set s.views id w)) u (SameSums-set s.views id v w here refl) ring, views, seated),
      (h, t, tracks, refl, (id, length s.views, own.begins.0, none_made g s.views u h id v w seated here lasts refl refl own.begins)),
    )
