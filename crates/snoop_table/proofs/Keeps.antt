-- Steps keep the rule, and what they show holds: a reader's loads, and the writer's stores.
use Rattle.snoop_table.specs.Prelude.{ap, arith, Bool, cond, false, get_or, inl, inr, length, List, None, Option, pos, refl, set, Some, subst, suc, sym, true}
use Rattle.snoop_table.specs.Prelude.{zero, ℕ, ℤ, [], ◌%◌, ◌*◌, ◌++◌, ◌+◌, ◌-◌, ◌<◌, ◌==◌, ◌∙◌, ◌∷◌, ◌≡◌, ◌≤◌, ◌⊎◌, add-mod_right, cases_eq, cases_lt}
use Rattle.snoop_table.specs.Prelude.{false≢true, nat_tests, get_or-set_other, get_or-set_same, get_or_append_left, get_or_at, length-append, length-set}
use Rattle.snoop_table.specs.Prelude.{at_set, at_snoc, Act, Allows, carried_after, keeps, Me, State, step, stepped, Valid, get_elem?, none, some, Geometry}
use Rattle.snoop_table.specs.Prelude.{Cursor, div-lt_same, suc-le-end_frame, cursor_after, end_frame, first_frame, first_free, lap, word_of, Frame}
use Rattle.snoop_table.specs.Prelude.{numbered_frame, HoldLast, IsCaptured, IsLast, IsUnused, next_after_stored, sample_at, by_laps, BySlots, first_free-more}
use Rattle.snoop_table.specs.Prelude.{HaveLaps-holding, HoldLast-written, IsByLaps, IsCaptured-more, IsWritten, next_after_stored-channel}
use Rattle.snoop_table.specs.Prelude.{next_after_stored-grows, next_after_stored-more, own_sample, sample_at-more, HoldsSample, HoldsSample-fields, laps_of}
use Rattle.snoop_table.specs.Prelude.{sample_of, noted_set, IsPosition-last, IsPosition-more, last_number-more, Rising-more, index_of-lt, index_of-same}
use Rattle.snoop_table.specs.Prelude.{NotPast-position, NotPast-set, set_read, index_of, NotPast, rank, words_of, Track, View, AreViews, Holds, is_tracked}
use Rattle.snoop_table.specs.Prelude.{IsRing, IsSample, IsView, LoadsStored, next_to_store, position_of, the_track, word_in, Finds, IsNext, position_load}
use Rattle.snoop_table.specs.Prelude.{position_store, sample_store, samples_before, track_gone, track_published, track_stored, unplug_store, with_gone}
use Rattle.snoop_table.specs.Prelude.{with_note, with_position, with_published, with_sample, with_stored, word_load}
use Rattle.std.proofs.lemmas.Nat.{le-div}
use Rattle.ring_rule.specs.Positions.{IsPosition, Rising, last_position}

-- what the rule says of some words and views, with the writer's track
pub record IsSo (g : Geometry) (words : List ℕ) (views : List View) (at : ℕ) (t : Track) : Type 0 where
  pub ring : IsRing g words t
  pub views_ok : AreViews g words views at t

-- what may change under a view: the writer goes on, and words are not followed by earlier ones
pub record Later (g : Geometry) (before after : List ℕ) (t u : Track) : Type 0 where
  pub position : position_of g t ≤ position_of g u
  pub published : (p : ℕ) → IsPosition g t.published p → IsPosition g u.published p
  pub gone : t.gone ≡ true → u.gone ≡ true
  pub words : (i n : ℕ) → 0 < i → NotPast n (get_or before i 0) → NotPast n (get_or after i 0)
  pub more : List ℤ
  pub stored : t.stored ++ more ≡ u.stored

IsSample-more : (g : Geometry) (xs ys : List ℤ) (f c : ℕ) (x : ℤ) → IsSample g xs f c x → IsSample g (xs ++ ys) f c x
IsSample-more g xs ys f c x is =
    let stored : f < first_free (next_after_stored g (xs ++ ys)) c = omega (arith, is.stored, first_free-more g xs ys c) in
    let sample = is.sample ∙ sym (sample_at-more g xs ys f c is.channel is.least is.stored) in
    assumption

pub view_later : (g : Geometry) (before after : List ℕ) (t u : Track) (v : View) → Later g before after t u → IsView g before t v → IsView g after u v
view_later g before after t u v l x = record {
  seen_high = omega (arith, x.seen_high, l.position);
  positions = λ i p there. l.published p (x.positions i p there);
  gone = λ seen. l.gone (x.gone seen);
  noted = λ i n positive there. l.words i n positive (x.noted i n positive there);
  got = λ i f there. subst (λ xs. IsCaptured g xs f) l.stored (IsCaptured-more g t.stored l.more f (x.got i f there));
  loading = subst (λ xs. LoadsStored g xs v.loading) l.stored (λ c inside. IsSample-more g t.stored l.more v.loading.number c _ (x.loading c inside));
}

-- one view changes, and its seat is the writer's where the track does
pub views_set : (g : Geometry) (before after : List ℕ) (views : List View) (at : ℕ) (t u : Track) (id : ℕ) (v w : View)
    → AreViews g before views at t → Later g before after t u → get_elem? views id ≡ some v
    → IsView g after u w
    → ((x : Track) → w.track ≡ Some x → (id ≡ at) × (x ≡ u))
    → ((t ≡ u) ⊎ (id ≡ at))
    → AreViews g after (set views id w) at u
views_set g before after views at t u id v w a l here own writer same = record {
  each = λ i x there. elim (at_set views id i w x there) [
    | inl this ↦ subst (IsView g after u) this.1 own
    | inr other ↦ view_later g before after t u x l (a.each i x other.1)
  ];
  writer = λ i x y there tracks. elim (at_set views id i w x there) [
    | inl this ↦
        let mine : (id ≡ at) × (y ≡ u) = writer y (ap (λ (z : View). z.track) this.1 ∙ tracks) in
        (this.0 ∙ mine.0, mine.1)
    | inr other ↦
        let was : (i ≡ at) × (y ≡ t) = a.writer i x y other.1 tracks in
        elim same [
          | inl stays ↦ (was.0, was.1 ∙ stays)
          | inr is_writer ↦ absurd (other.0 (was.0 ∙ sym is_writer))
        ]
  ];
}

pub Later-same : (g : Geometry) (words : List ℕ) (t : Track) → Later g words words t t
Later-same g words t = record {
  position = omega arith;
  published = λ p x. x;
  gone = λ x. x;
  words = λ i n positive x. x;
  more = [];
  stored = Rattle.std.proofs.lemmas.List.append-nil t.stored;
}

-- a step that writes nothing
pub idle : (g : Geometry) (words : List ℕ) (views : List View) (at : ℕ) (t : Track) (id : ℕ) (v w : View)
    → IsSo g words views at t → get_elem? views id ≡ some v → w.track ≡ v.track → IsView g words t w
    → IsSo g words (set views id w) at t
idle g words views at t id v w x here same own = record {
  ring = x.ring;
  views_ok = views_set g words words views at t t id v w x.views_ok (Later-same g words t) here own
      (λ u tracks. x.views_ok.writer id v u here (sym same ∙ tracks)) (inl refl);
}

-- the rule after a load, of which the word stays
pub loaded : (g : Geometry) (words : List ℕ) (views : List View) (at : ℕ) (t : Track) (i : ℕ) (homes : List (mathlib.Core.Option.Option (Unit {0})))
    → IsSo g words views at t → Holds g (record { words = set words i (get_or words i 0); homes = homes; views = views })
loaded g words views at t i homes x =
    subst (λ ws. Holds g (record { words = ws; homes = homes; views = views })) (sym (set_read words i)) (at, t, x.ring, x.views_ok)

-- a load of the position
pub locates : (slots id : ℕ) (m : Me (Unit {0}) View) → Allows (Holds m.0.geometry) slots id m 0 (λ n. n) (position_load (step slots 0 0 0 none) m)
locates slots id m s e homes here fits =
    let v : View = m.0 in
    let g : Geometry = v.geometry in
    let t : Track = e.1 in
    let x : IsSo g s.words s.views e.0 t = record { ring = e.2; views_ok = e.3 } in
    let own : IsView g s.words t v = e.3.each id v here in
    let p : ℕ = position_of g t in
    let w : View = with_position v p t.gone in
    let seen_high : p ≤ position_of g t = omega arith in
    let positions : (i q : ℕ) → get_elem? (v.positions ++ p ∷ []) i ≡ some q → IsPosition g t.published q = λ i q there. elim (at_snoc v.positions p q i there) [
      | inl old ↦ own.positions i q old
      | inr new ↦ subst (IsPosition g t.published) new (IsPosition-last g t.published)
    ] in
    let after : IsView g s.words t w = assumption in
    let y : IsSo g s.words (set s.views id w) e.0 t = idle g s.words s.views e.0 t id v w x here refl after in (
      w,
      keeps,
      tt,
      loaded g s.words (set s.views id w) e.0 t 0 s.homes y,
      (p, t.gone, refl, e.2.position, own.seen_high, omega (arith, e.2.not_ahead, e.2.within), own.gone),
    )

-- the words go by slots
pub by_slots : (g : Geometry) (words : List ℕ) → BySlots g (word_in words g)
by_slots g words f k c same = ap (λ s. get_or words (s * g.channels + c + 1) 0) same

-- a frame before the position is stored in each channel
pub stored-before : (g : Geometry) (words : List ℕ) (t : Track) (f c : ℕ) → IsRing g words t → f < position_of g t → f < first_free (next_to_store g t) c
stored-before g words t f c r before = grind (arith, nat_tests)

-- what a seat is shown by a word
finds : (words : List ℕ) (t : Track) (v : View) (f c : ℕ) → IsRing v.geometry words t → IsView v.geometry words t v
    → c < v.geometry.channels → first_frame v.geometry ≤ f → f < v.seen → Finds v f c (word_in words v.geometry f c)
finds words t v f c r own in_range least seen =
    let g : Geometry = v.geometry in
    let stored = stored-before g words t f c r (omega (arith, seen, own.seen_high)) in
    let told : IsByLaps g (next_to_store g t) (word_in words g f c) f c =
    by_laps g (next_to_store g t) (word_in words g) f c (HaveLaps-holding g (word_in words g) t.stored r.holds) (by_slots g words) in_range least stored in
    record {
      noted = λ o is. own.noted (index_of g f c) o (omega arith) is;
      not_before = told.not_before;
      past = λ far. told.past (stored-before g words t (f + g.frames) c r (omega (arith, far, own.seen_high)));
    }

before-length : (v : View) (c : ℕ) → (0 < c → length v.loading.samples ≡ c) → length (samples_before v c) ≡ c
before-length v zero after = refl
before-length v (suc c) after = after (omega arith)

before-sample : (g : Geometry) (xs : List ℤ) (v : View) (f c d : ℕ) → (0 < c → v.loading.number ≡ f) → (0 < c → length v.loading.samples ≡ c) → d < c
    → LoadsStored g xs v.loading → IsSample g xs f d (get_or (samples_before v c) d (pos 0))
before-sample g xs v f c d of_frame after before part = grind (arith, nat_tests)

-- one more sample
part-more : (g : Geometry) (xs : List ℤ) (v : View) (f c : ℕ) (x : ℤ) → (0 < c → v.loading.number ≡ f) → (0 < c → length v.loading.samples ≡ c)
    → LoadsStored g xs v.loading → IsSample g xs f c x → LoadsStored g xs (numbered_frame f (samples_before v c ++ x ∷ []))
part-more g xs v f c x of_frame after part one d inside =
    let early : List ℤ = samples_before v c in
    let number : length early ≡ c = before-length v c after in
    let total : length (early ++ x ∷ []) ≡ c + 1 = omega (arith, length-append early (x ∷ []), number) in
    elim (cases_eq d c) [
      | inl same ↦
          subst (λ e. IsSample g xs f e (get_or (early ++ x ∷ []) e (pos 0))) (sym same)
          (subst (IsSample g xs f c) (sym (get_or_at early x [] (pos 0) c number)) one)
      | inr other ↦
          let before : d < c = omega (arith, inside, total, other) in
          subst (IsSample g xs f d) (sym (get_or_append_left early (x ∷ []) (pos 0) d (omega (arith, before, number))))
          (before-sample g xs v f c d of_frame after before part)
    ]

-- a frame whose channels were all loaded is the stored one
whole : (g : Geometry) (xs : List ℤ) (f : ℕ) (ys : List ℤ) → first_frame g ≤ f → f < (next_after_stored g xs).frame → length ys ≡ g.channels
    → LoadsStored g xs (numbered_frame f ys) → IsCaptured g xs (numbered_frame f ys)
whole g xs f ys least stored size part = record {
  least = least;
  whole = stored;
  size = size;
  samples = λ c in_range. (part c (omega (arith, size, in_range))).sample;
}

-- the view after a note
noted_view : (g : Geometry) (words : List ℕ) (t : Track) (v : View) (i : ℕ) → IsView g words t v → IsView g words t (with_note v i (get_or words i 0))
noted_view g words t v i own =
    let noted : (j o : ℕ) → 0 < j → get_or (set v.noted i (Some (get_or words i 0))) j None ≡ Some o → NotPast o (get_or words j 0) =
    λ j o positive there. elim (noted_set v.noted i j (get_or words i 0) o there) [
      | inl new ↦ inl (new.1 ∙ ap (λ l. get_or words l 0) (sym new.0))
      | inr old ↦ own.noted j o positive old
    ] in
    assumption

-- the view after a sample
got_by : (g : Geometry) (xs : List ℤ) (frames : List Frame) (frame : Frame) (b : Bool) → ((i : ℕ) (f : Frame) → get_elem? frames i ≡ some f → IsCaptured g xs f)
    → (b ≡ true → IsCaptured g xs frame) → (i : ℕ) (f : Frame) → get_elem? (cond b (frames ++ frame ∷ []) frames) i ≡ some f → IsCaptured g xs f
got_by g xs frames frame true old new i f there = elim (at_snoc frames frame f i there) [
  | inl was ↦ old i f was
  | inr one ↦ subst (IsCaptured g xs) one (new refl)
]
got_by g xs frames frame false old new i f there = old i f there

sampled_view : (g : Geometry) (words : List ℕ) (t : Track) (v : View) (f c : ℕ) (x : ℤ) → v.geometry ≡ g → IsRing g words t → IsView g words t v → IsNext v f c
    → IsSample g t.stored f c x → IsView g words t (with_sample v f c x)
sampled_view g words t v f c x of_ring r own next one =
    let ys : List ℤ = samples_before v c ++ x ∷ [] in
    let part : LoadsStored g t.stored (numbered_frame f ys) = part-more g t.stored v f c x next.of_frame next.after own.loading one in
    record {
      seen_high = own.seen_high;
      positions = own.positions;
      gone = own.gone;
      noted = own.noted;
      got = got_by g t.stored v.got (numbered_frame f ys) (c + 1 == v.geometry.channels) own.got
          (λ last.
          let all : c + 1 ≡ v.geometry.channels = grind (arith, nat_tests, last) in
          whole g t.stored f ys one.least (omega (arith, next.seen, own.seen_high, r.not_ahead))
          (omega (arith, length-append (samples_before v c) (x ∷ []), before-length v c next.after, all, ap (λ (k : Geometry). k.channels) of_ring)) part);
      loading = part;
    }

-- a load of the word of a frame and channel
pub looks : (slots id : ℕ) (m : Me (Unit {0}) View) (f c : ℕ) → IsNext m.0 f c
    → Allows (Holds m.0.geometry) slots id m (index_of m.0.geometry f c) (λ n. n) (word_load f c (step slots (index_of m.0.geometry f c) 0 0 none) m)
looks slots id m f c next s e homes here fits =
    let v : View = m.0 in
    let g : Geometry = v.geometry in
    let t : Track = e.1 in
    let i : ℕ = index_of g f c in
    let n : ℕ = get_or s.words i 0 in
    let x : IsSo g s.words s.views e.0 t = record { ring = e.2; views_ok = e.3 } in
    let own : IsView g s.words t v = e.3.each id v here in
    let noted : View = with_note v i n in
    let noted_ok : IsView g s.words t noted = noted_view g s.words t v i own in
    let found : Finds v f c n = finds s.words t v f c e.2 own next.channel next.least next.seen in
    let Goes : Type 0 = (w : View) × (a : Act (Unit {0})) × Valid s.homes m.1 a × Holds g (stepped s i n id m.1 w a) × word_load f c (step slots i 0 0 none) m n (w, carried_after m.1 a) in
    let done : (w : View) → IsView g s.words t w → w.track ≡ v.track → word_load f c (step slots i 0 0 none) m n (w, m.1) → Goes =
    λ w ok same told. (w, keeps, tt, loaded g s.words (set s.views id w) e.0 t i s.homes (idle g s.words s.views e.0 t id v w x here same ok), told) in
    elim (cases_eq (laps_of n) (lap g f + 1)) [
      | inl is ↦
          let stored = stored-before g s.words t f c e.2 (omega (arith, next.seen, own.seen_high)) in
          let one : IsSample g t.stored f c (sample_of n) = record {
            channel = next.channel;
            least = next.least;
            stored = stored;
            sample = own_sample g (word_in s.words g) t.stored f c e.2.holds (by_slots g s.words) next.channel next.least stored is;
          } in
          done (with_sample noted f c (sample_of n))
          (sampled_view g s.words t noted f c (sample_of n) refl e.2 noted_ok (record { channel = next.channel; least = next.least; seen = next.seen; of_frame = next.of_frame; after = next.after }) one)
          refl
          (found, (λ same. refl), (λ other. absurd (other is)))
      | inr other ↦ done noted noted_ok refl (found, (λ is. absurd (other is)), (λ same. refl))
    ]

-- ---- the writer's stores keep the rule, and what they show holds

abbrev pub track_or : Track → Option Track → Track
track_or t None = t
track_or t (Some u) = u

-- the track of a view that has it
pub tracked_some : (o : Option Track) → is_tracked o ≡ true → o ≡ Some (the_track o)
tracked_some None is = absurd (false≢true is)
tracked_some (Some t) is = refl

-- the word of the next frame and channel is written
written : (g : Geometry) (words : List ℕ) (next : Cursor) (word : ℕ) → next.channel < g.channels → index_of g next.frame next.channel < length words
    → IsWritten g next word (word_in words g) (word_in (set words (index_of g next.frame next.channel) word) g)
written g words next word in_range inside =
    let at : ℕ = index_of g next.frame next.channel in
    record {
      here = λ f same.
          let index : index_of g f next.channel ≡ at = ap (λ s. s * g.channels + next.channel + 1) same in
          ap (λ i. get_or (set words at word) i 0) index ∙ get_or-set_same words at word 0 inside;
      elsewhere = λ f c c_in apart.
          get_or-set_other words at (index_of g f c) word 0 (λ same. apart (index_of-same g f c next.frame next.channel c_in in_range same));
    }

-- the laps of the next frame's word are not past its lap
old_laps : (g : Geometry) (words : List ℕ) (t : Track) → IsRing g words t
    → laps_of (word_in words g (next_to_store g t).frame (next_to_store g t).channel) ≤ lap g (next_to_store g t).frame
old_laps g words t r =
    let next : Cursor = next_to_store g t in
    let c : ℕ = next.channel in
    let in_range : c < g.channels = next_after_stored-channel g t.stored in
    let start : first_free next c ≡ next.frame = grind (arith, nat_tests) in
    let some : 0 < g.frames = omega (arith, g.frames_least) in
    elim (cases_lt next.frame (first_frame g + g.frames)) [
      | inl first ↦
          let unused : IsUnused g next next.frame c = record { channel = in_range; unstored = omega (arith, start); first_lap = first } in
          let is : laps_of (word_in words g next.frame c) ≡ g.first_lap = (HoldsSample-fields _ _ _ (r.holds.unused next.frame c unused)).0 in
          omega (arith, is, le-div g.first_lap next.frame g.frames some (omega arith))
      | inr later ↦
          let k : ℕ = next.frame - g.frames in
          let up : k + g.frames ≡ next.frame = omega (arith, later) in
          let last : IsLast g next k c = record { channel = in_range; least = omega (arith, later); stored = omega (arith, start, up, some); last = omega (arith, start, up) } in
          let same : k % g.frames ≡ next.frame % g.frames = sym (add-mod_right k g.frames) ∙ ap (λ x. x % g.frames) up in
          let is : laps_of (word_in words g k c) ≡ lap g k + 1 = (HoldsSample-fields _ _ _ (r.holds.last k c last)).0 in
          let there : word_in words g next.frame c ≡ word_in words g k c = ap (λ s. get_or words (s * g.channels + c + 1) 0) (sym same) in
          omega (arith, ap laps_of there, is, div-lt_same g.frames k next.frame same (omega (arith, up, some)))
    ]

-- the ring after the next sample was stored
ring_stored : (g : Geometry) (words : List ℕ) (t : Track) (word : ℕ) (x : ℤ) → IsRing g words t → lap g (next_to_store g t).frame < 4294967295
    → HoldsSample word (lap g (next_to_store g t).frame + 1) x
    → IsRing g (set words (index_of g (next_to_store g t).frame (next_to_store g t).channel) word) (track_stored t x)
ring_stored g words t word x r fits holds =
    let next : Cursor = next_to_store g t in
    let at : ℕ = index_of g next.frame next.channel in
    let in_range = next_after_stored-channel g t.stored in
    let inside : at < length words = omega (arith, index_of-lt g next.frame next.channel in_range, r.room) in
    let moved : next_to_store g (track_stored t x) ≡ cursor_after g next.frame next.channel = next_after_stored-more g t.stored x in
    let end : next.frame + 1 ≤ end_frame g = suc-le-end_frame g next.frame fits in
    record {
      room = length-set words at word ∙ r.room;
      position = get_or-set_other words at 0 word 0 (λ same. omega arith) ∙ r.position;
      rising = r.rising;
      not_ahead = omega (arith, r.not_ahead, next_after_stored-grows g t.stored (x ∷ []));
      within = subst (λ (y : Cursor). y.frame ≤ end_frame g) (sym moved) (grind (arith, nat_tests, r.within, end));
      holds = HoldLast-written g word x (word_in words g) (word_in (set words at word) g) t.stored (written g words next word in_range inside) holds r.holds;
    }

-- the store of the next sample, as the rule has it
stores_at : (s : State (Unit {0}) View) (slots id : ℕ) (m : Me (Unit {0}) View) (at : ℕ) (t : Track) (word : ℕ)
    → m.0.track ≡ Some t → id ≡ at → IsSo m.0.geometry s.words s.views at t → get_elem? s.views id ≡ some m.0
    → lap m.0.geometry (next_to_store m.0.geometry t).frame < 4294967295
    → HoldsSample word (lap m.0.geometry (next_to_store m.0.geometry t).frame + 1) (sample_of word)
    → let i : ℕ = index_of m.0.geometry (next_to_store m.0.geometry t).frame (next_to_store m.0.geometry t).channel in
    (w : View) × (a : Act (Unit {0})) × Valid s.homes m.1 a × Holds m.0.geometry (stepped s i word id m.1 w a)
    × sample_store (step slots i word 0 none) m word (w, carried_after m.1 a)
stores_at s slots id m at t word tracks writer x here fits holds =
    let v : View = m.0 in
    let g : Geometry = v.geometry in
    let next : Cursor = next_to_store g t in
    let i : ℕ = index_of g next.frame next.channel in
    let y : ℤ = sample_of word in
    let u : Track = track_stored t y in
    let w : View = with_stored v t y in
    let own : IsView g s.words t v = x.views_ok.each id v here in
    let in_range = next_after_stored-channel g t.stored in
    let inside : i < length s.words = omega (arith, index_of-lt g next.frame next.channel in_range, x.ring.room) in
    let new_laps : laps_of word ≡ lap g next.frame + 1 = (HoldsSample-fields _ _ _ holds).0 in
    let laps_up : laps_of (get_or s.words i 0) < laps_of word = omega (arith, new_laps, old_laps g s.words t x.ring) in
    let up : rank (get_or s.words i 0) < rank word = grind (arith, laps_up) in
    let later : Later g s.words (set s.words i word) t u = record {
      position = omega arith;
      published = λ p is. is;
      gone = λ is. is;
      words = λ j n positive past. NotPast-set s.words i word j n inside up past;
      more = y ∷ [];
      stored = refl;
    } in
    let moved : IsView g (set s.words i word) u v = view_later g s.words (set s.words i word) t u v later own in
    let after : IsView g (set s.words i word) u w = assumption in
    let views = views_set g s.words (set s.words i word) s.views at t u id v w x.views_ok later here after
    (λ z is. (writer, sym (ap (λ (o : Option Track). track_or u o) is))) (inr writer) in (
      w,
      keeps,
      tt,
      (at, u, ring_stored g s.words t word y x.ring fits holds, views),
      (t, tracks, refl),
    )

-- the writer's store of the next sample
pub stores : (slots id : ℕ) (m : Me (Unit {0}) View) (next : Cursor) (word : ℕ)
    → is_tracked m.0.track ≡ true → ((t : Track) → m.0.track ≡ Some t → next ≡ next_to_store m.0.geometry t)
    → lap m.0.geometry next.frame < 4294967295
    → HoldsSample word (lap m.0.geometry next.frame + 1) (sample_of word)
    → Allows (Holds m.0.geometry) slots id m (index_of m.0.geometry next.frame next.channel) (λ n. word) (λ n. sample_store (step slots (index_of m.0.geometry next.frame next.channel) word 0 none) m word)
stores slots id m next word is next_is fits holds s x homes here small =
    let g : Geometry = m.0.geometry in
    let t : Track = x.1 in
    let found = tracked_some m.0.track is in
    let mine = x.3.writer id m.0 (the_track m.0.track) here found in
    let tracks : m.0.track ≡ Some t = found ∙ ap (λ u. Some u) mine.1 in
    let at_next : next ≡ next_to_store g t = next_is t tracks in
    let Goes : Cursor → Type 0 = λ (y : Cursor).
    let i : ℕ = index_of g y.frame y.channel in
    (w : View) × (a : Act (Unit {0})) × Valid s.homes m.1 a × Holds g (stepped s i word id m.1 w a)
    × sample_store (step slots i word 0 none) m word (w, carried_after m.1 a) in
    subst Goes (sym at_next)
    (stores_at s slots id m x.0 t word tracks mine.0 (record { ring = x.2; views_ok = x.3 }) here
    (subst (λ (y : Cursor). lap g y.frame < 4294967295) at_next fits)
    (subst (λ (y : Cursor). HoldsSample word (lap g y.frame + 1) (sample_of word)) at_next holds))

-- the words of slots and channels stay where the position's word changes
HoldLast-position : (g : Geometry) (words : List ℕ) (word : ℕ) (xs : List ℤ) → HoldLast g (word_in words g) xs → HoldLast g (word_in (set words 0 word) g) xs
HoldLast-position g words word xs h = record {
  last = λ f c is. subst (λ w. HoldsSample w (lap g f + 1) (sample_at g xs f c)) (sym (same f c)) (h.last f c is);
  unused = λ f c is. subst (λ w. HoldsSample w g.first_lap (pos 0)) (sym (same f c)) (h.unused f c is);
} where
  same : (f c : ℕ) → word_in (set words 0 word) g f c ≡ word_in words g f c
  same f c = get_or-set_other words 0 (index_of g f c) word 0 (λ e. omega arith)

-- a position was stored, and whether the card is gone
ring_told : (g : Geometry) (words : List ℕ) (t : Track) (published : List ℕ) (gone : Bool) → IsRing g words t
    → Rising (first_frame g) published → last_position g published ≤ (next_to_store g t).frame
    → IsRing g (set words 0 (word_of (last_position g published) gone)) (record t { published = published; gone = gone })
ring_told g words t published gone r rising not_ahead =
    let word : ℕ = word_of (last_position g published) gone in
    let room : length (set words 0 word) ≡ words_of g = length-set words 0 word ∙ r.room in
    let position : get_or (set words 0 word) 0 0 ≡ word = get_or-set_same words 0 word 0 (omega (arith, r.room)) in
    let holds = HoldLast-position g words word t.stored r.holds in
    assumption

ring_published : (g : Geometry) (words : List ℕ) (t : Track) → IsRing g words t
    → IsRing g (set words 0 (word_of (next_to_store g t).frame t.gone)) (track_published t (next_to_store g t).frame)
ring_published g words t r =
    let p : ℕ = (next_to_store g t).frame in
    let last : position_of g (track_published t p) ≡ p = last_number-more (first_frame g) t.published p in
    subst (λ q. IsRing g (set words 0 (word_of q t.gone)) (track_published t p)) last
    (ring_told g words t (t.published ++ p ∷ []) t.gone r (Rising-more (first_frame g) t.published p r.rising r.not_ahead) (omega (arith, last)))

-- the writer's store of its position
pub publishes : (slots id : ℕ) (m : Me (Unit {0}) View) (next : Cursor) (gone : Bool)
    → is_tracked m.0.track ≡ true
    → ((t : Track) → m.0.track ≡ Some t → next ≡ next_to_store m.0.geometry t) → ((t : Track) → m.0.track ≡ Some t → gone ≡ t.gone)
    → Allows (Holds m.0.geometry) slots id m 0 (λ n. word_of next.frame gone) (λ n. position_store (step slots 0 (word_of next.frame gone) 0 none) m (word_of next.frame gone))
publishes slots id m next gone is next_is gone_is s x homes here small =
    let v : View = m.0 in
    let g : Geometry = v.geometry in
    let t : Track = x.1 in
    let found = tracked_some v.track is in
    let mine = x.3.writer id v (the_track v.track) here found in
    let tracks : v.track ≡ Some t = found ∙ ap (λ u. Some u) mine.1 in
    let p : ℕ = (next_to_store g t).frame in
    let word_is : word_of next.frame gone ≡ word_of p t.gone =
    ap (λ (y : Cursor). word_of y.frame gone) (next_is t tracks) ∙ ap (λ b. word_of p b) (gone_is t tracks) in
    let words : List ℕ = set s.words 0 (word_of p t.gone) in
    let u : Track = track_published t p in
    let w : View = with_published v t p in
    let own : IsView g s.words t v = x.3.each id v here in
    let last : position_of g u ≡ p = last_number-more (first_frame g) t.published p in
    let later : Later g s.words words t u = record {
      position = omega (arith, last, x.2.not_ahead);
      published = λ q was. IsPosition-more g t.published q p was;
      gone = λ q. q;
      words = λ j n positive past. NotPast-position s.words (word_of p t.gone) j n positive past;
      more = [];
      stored = Rattle.std.proofs.lemmas.List.append-nil t.stored;
    } in
    let moved : IsView g words u v = view_later g s.words words t u v later own in
    let seen_high : p ≤ position_of g u = omega (arith, last) in
    let positions : (i q : ℕ) → get_elem? (v.positions ++ p ∷ []) i ≡ some q → IsPosition g u.published q = λ i q there. elim (at_snoc v.positions p q i there) [
      | inl old ↦ moved.positions i q old
      | inr new_one ↦ subst (IsPosition g u.published) (last ∙ new_one) (IsPosition-last g u.published)
    ] in
    let after : IsView g words u w = assumption in
    let views = views_set g s.words words s.views x.0 t u id v w x.3 later here after
    (λ y one. (mine.0, sym (ap (λ (o : Option Track). track_or u o) one))) (inr mine.0) in (
      w,
      keeps,
      tt,
      subst (λ n. Holds g (record { words = set s.words 0 n; homes = s.homes; views = set s.views id w })) (sym word_is) (x.0, u, ring_published g s.words t x.2, views),
      (t, tracks, refl),
    )

-- the writer's store that says that the card is gone
pub unplugs : (slots id : ℕ) (m : Me (Unit {0}) View) (position : ℕ)
    → is_tracked m.0.track ≡ true → ((t : Track) → m.0.track ≡ Some t → position ≡ position_of m.0.geometry t)
    → Allows (Holds m.0.geometry) slots id m 0 (λ n. word_of position true) (λ n. unplug_store (step slots 0 (word_of position true) 0 none) m (word_of position true))
unplugs slots id m position is position_is s x homes here small =
    let v : View = m.0 in
    let g : Geometry = v.geometry in
    let t : Track = x.1 in
    let found = tracked_some v.track is in
    let mine = x.3.writer id v (the_track v.track) here found in
    let tracks : v.track ≡ Some t = found ∙ ap (λ u. Some u) mine.1 in
    let p : ℕ = position_of g t in
    let words : List ℕ = set s.words 0 (word_of p true) in
    let u : Track = track_gone t in
    let w : View = with_gone v t in
    let own : IsView g s.words t v = x.3.each id v here in
    let later : Later g s.words words t u = record {
      position = omega arith;
      published = λ q was. was;
      gone = λ q. refl;
      words = λ j n positive past. NotPast-position s.words (word_of p true) j n positive past;
      more = [];
      stored = Rattle.std.proofs.lemmas.List.append-nil t.stored;
    } in
    let moved : IsView g words u v = view_later g s.words words t u v later own in
    let after : IsView g words u w = assumption in
    let views = views_set g s.words words s.views x.0 t u id v w x.3 later here after
    (λ y one. (mine.0, sym (ap (λ (o : Option Track). track_or u o) one))) (inr mine.0) in (
      w,
      keeps,
      tt,
      subst (λ q. Holds g (record { words = set s.words 0 (word_of q true); homes = s.homes; views = set s.views id w })) (sym (position_is t tracks))
          (x.0, u, ring_told g s.words t t.published true x.2 x.2.rising x.2.not_ahead, views),
      (t, tracks, refl),
    )
