-- The ring's history: how it goes on at each kind of step, and whose step that is.
use Rattle.sum_table.specs.Prelude.{ap, append_assoc, arith, false, inl, inr, length, List, map, refl, set, Some, subst, suc, sym, zero, ℕ, ℤ, [], ◌++◌, ◌+◌}
use Rattle.sum_table.specs.Prelude.{◌<◌, ◌∙◌, ◌∷◌, ◌≡◌, ◌≢◌, ◌≤◌, nat_tests, ints, append-nil, length-set, map-append, fold_push, at_set, set_here, get_elem?}
use Rattle.sum_table.specs.Prelude.{some, some-ne-none, Geometry, Cursor, first_frame, IsFrom, lap, clamp_of, Publish, Take, In, Published, Took, Taken, Marks}
use Rattle.sum_table.specs.Prelude.{Entry, IsHeld, IsInside, IsLegal, IsReply, IsSample, laid_of, next_to_take, position_after, position_of, Row, taken_words}
use Rattle.sum_table.specs.Prelude.{laid_of-append_published, laid_of-append_rows, laid_of-append_took, position_after-row, taken_words-append_published}
use Rattle.sum_table.specs.Prelude.{taken_words-append_rows, taken_words-append_took, total-append, last_entry, marks_by, marks_of, standing, standing_of}
use Rattle.sum_table.specs.Prelude.{total, without_last, IsLegal-more, count-append, IsHolding, IsHolding-last, last_entry-more, own-more, own-more_other}
use Rattle.sum_table.specs.Prelude.{last_number-more, Track, View, BeginsWith, IsHistory, IsKept, IsOwn, next_at, position_at, all_laid, by_member, own_entries}
use Rattle.sum_table.specs.Prelude.{SameSums, in_row, IsStep, next_taken, track_published, track_taken}
use Rattle.sum_table.proofs.Kept.{HeldFacts, IsHeldAt, held_facts, marks_by-member, standing-member}
use Rattle.sum_table.proofs.Sums.{SameSums-by_member, SameSums-put, SameSums-set}

pub within : {A : Type 0} (l : List A) (i : ℕ) (a : A) → get_elem? l i ≡ some a → i < length l
within [] i a here = absurd (some-ne-none a (sym here))
within (x ∷ xs) zero a here = omega arith
within (x ∷ xs) (suc i) a here = omega (arith, within xs i a here)

pub BeginsWith-same : (h : List Row) → BeginsWith h h
BeginsWith-same h = ([], sym (append-nil h))

pub BeginsWith-more : (h early rows : List Row) → BeginsWith h early → BeginsWith (h ++ rows) early
BeginsWith-more h early rows begins = (begins.0 ++ rows, ap (λ x. x ++ rows) begins.1 ∙ append_assoc early begins.0 rows)

-- the views are others, of one history
pub history_over : (g : Geometry) (views later : List View) (t : Track) (h : List Row)
    → IsHistory g views t h → length views ≤ length later → SameSums (all_laid views) (all_laid later)
    → ((i : ℕ) (u : View) → get_elem? later i ≡ some u → u.ended ≡ false → own_entries i (laid_of h) ≡ map (by_member i) u.mine)
    → IsHistory g later t h
history_over g views later t h y up sums owns = grind (arith, nat_tests)

-- the adds that a seat made stay those of its number
pub owns_same : (g : Geometry) (views : List View) (t : Track) (h : List Row) (id : ℕ) (v w : View) → IsHistory g views t h → get_elem? views id ≡ some v
    → w.mine ≡ v.mine → w.ended ≡ v.ended → (i : ℕ) (u : View) → (i ≡ id) × (w ≡ u) → u.ended ≡ false → own_entries i (laid_of h) ≡ map (by_member i) u.mine
owns_same g views t h id v w y here mine ended i u this lasts =
    rw (this.0, ← this.1, mine) (y.owns id v here (sym ended ∙ (ap (λ (x : View). x.ended) this.1 ∙ lasts)))

-- a step of no event
pub history_same : (g : Geometry) (views : List View) (t : Track) (h : List Row) (id : ℕ) (v w : View)
    → IsHistory g views t h → get_elem? views id ≡ some v
    → w.laid ≡ v.laid → w.mine ≡ v.mine → w.ended ≡ v.ended
    → IsHistory g (set views id w) t h
history_same g views t h id v w y here laid mine ended =
    history_over g views (set views id w) t h y (omega (arith, length-set views id w)) (SameSums-set views id v w here laid) (λ i u there lasts. elim (at_set views id i w u there) [
      | inl this ↦ owns_same g views t h id v w y here mine ended i u this lasts
      | inr other ↦ y.owns i u other.1 lasts
    ])

-- one more row, which placed nothing
history_row : (g : Geometry) (views : List View) (t u : Track) (h : List Row) (r : Row) → IsHistory g views t h → laid_of (h ++ r ∷ []) ≡ laid_of h → ((members : ℕ) → IsReply g members h r)
    → taken_words (h ++ r ∷ []) ≡ u.taken → position_of g (h ++ r ∷ []) ≡ position_at g u → IsHistory g views u (h ++ r ∷ [])
history_row g views t u h r y laid reply taken position = record {
  legal = λ members up. IsLegal-more g members h r (y.legal members up) (reply members);
  taken = taken;
  position = position;
  sums = subst (λ es. SameSums es (all_laid views)) (sym laid) y.sums;
  owns = λ i u there lasts. ap (own_entries i) laid ∙ y.owns i u there lasts;
  no_more = λ i up. ap (own_entries i) laid ∙ y.no_more i up;
}

-- the next word was taken
pub history_take : (g : Geometry) (views : List View) (t : Track) (h : List Row) (z : ℤ)
    → IsHistory g views t h → lap g (next_at g t).frame ≢ 4294967295
    → z ≡ clamp_of (total (all_laid views) (next_at g t).frame (next_at g t).channel)
    → IsHistory g views (track_taken t (next_taken g t z)) (h ++ (Take, Took (next_at g t).frame (next_at g t).channel z) ∷ [])
history_take g views t h z y fits value =
    let f : ℕ = (next_at g t).frame in
    let c : ℕ = (next_at g t).channel in
    let next_is : next_to_take g h ≡ next_at g t = ap (λ (ts : List Taken). next_at g (record t { taken = ts })) y.taken in
    history_row g views t (track_taken t (next_taken g t z)) h (Take, Took f c z) y (laid_of-append_took h f c z) (λ members. (
      subst (λ (x : Cursor). lap g x.frame ≢ 4294967295) (sym next_is) fits,
      ap (λ (x : Cursor). x.frame) (sym next_is),
      ap (λ (x : Cursor). x.channel) (sym next_is),
      value ∙ ap clamp_of (sym (y.sums.totals f c)),
    )) (taken_words-append_took h f c z ∙ ap (λ ts. ts ++ next_taken g t z ∷ []) y.taken) (fold_push position_after (first_frame g) h (Take, Took f c z) ∙ y.position)

-- a position was published
pub history_publish : (g : Geometry) (views : List View) (t : Track) (h : List Row)
    → IsHistory g views t h
    → IsHistory g views (track_published t (next_at g t).frame) (h ++ (Publish, Published (next_at g t).frame) ∷ [])
history_publish g views t h y =
    let f : ℕ = (next_at g t).frame in
    let next_is : next_to_take g h ≡ next_at g t = ap (λ (ts : List Taken). next_at g (record t { taken = ts })) y.taken in
    history_row g views t (track_published t f) h (Publish, Published f) y (laid_of-append_published h f) (λ members. ap (λ (x : Cursor). x.frame) (sym next_is))
    (taken_words-append_published h f ∙ y.taken) (fold_push position_after (first_frame g) h (Publish, Published f) ∙ sym (last_number-more (first_frame g) t.published f))

-- a member's marks in the history are those after the entries that its seat placed itself
pub own_marks : (g : Geometry) (views : List View) (t : Track) (h : List Row) (id : ℕ) (v : View)
    → IsHistory g views t h → get_elem? views id ≡ some v → v.ended ≡ false → marks_of g id (laid_of h) ≡ marks_by g v.mine
own_marks g views t h id v y here lasts = ap (marks_by g) (y.owns id v here lasts) ∙ marks_by-member g id v.mine

-- a member may add at a frame and channel
pub inside : (g : Geometry) (views : List View) (t : Track) (h : List Row) (id members : ℕ) (v : View) (f c : ℕ)
    → IsHistory g views t h → get_elem? views id ≡ some v → v.ended ≡ false → IsOwn g v.mine v.free v.marks → length views ≤ members
    → c < g.channels → IsFrom v.marks.cursor f c → lap g f < 4294967295 → f < position_at g t + g.frames
    → IsInside g members h id f c
inside g views t h id members v f c y here lasts o up channel from fits ahead = record {
  member_in_range = omega (arith, within views id v here);
  channel_in_range = channel;
  from_cursor = subst (λ (m : Marks). IsFrom m.cursor f c) (sym (own_marks g views t h id v y here lasts)) (omega (arith, o.within.cursor c, from));
  lap_fits = fits;
  ahead = subst (λ p. f < p + g.frames) (sym y.position) ahead;
}

-- a member may withdraw its last standing add
pub is_held : (g : Geometry) (views : List View) (t : Track) (h : List Row) (id members : ℕ) (v : View) (seen f c : ℕ) (s : ℤ)
    → IsHistory g views t h → get_elem? views id ≡ some v → v.ended ≡ false → IsKept g v.places v.laid v.mine v.free v.marks seen v.ended → length views ≤ members
    → IsHeldAt v.laid v.marks f c s
    → IsHeld g members h id f c s
is_held g views t h id members v seen f c s y here lasts x up held =
    let o : IsOwn g v.mine v.free v.marks = x.own lasts in
    let facts : HeldFacts g v.marks seen f c = held_facts g v.places v.laid v.mine v.free v.marks seen v.ended f c s x held in
    let from_last : IsFrom v.marks.floor held.last.frame held.last.channel =
    subst (λ d. IsFrom v.marks.floor held.last.frame d) (sym held.channel) (subst (λ k. IsFrom v.marks.floor k c) (sym held.frame) held.from_floor) in
    let last : v.free ≡ without_last v.free ++ held.last ∷ [] =
    IsHolding-last g v.marks held.early v.free held.last (subst (λ zs. IsHolding g v.marks zs v.free) held.ends x.holding) from_last in
    let mine : standing v.mine ≡ (o.ends.0 ++ without_last v.free) ++ held.last ∷ [] =
    o.ends.1 ∙ (ap (λ zs. o.ends.0 ++ zs) last ∙ sym (append_assoc o.ends.0 (without_last v.free) (held.last ∷ []))) in
    let one : last_entry (standing_of id (laid_of h)) ≡ Some (by_member id held.last) =
    ap last_entry (ap standing (y.owns id v here lasts) ∙ (standing-member id v.mine ∙ (ap (map (by_member id)) mine ∙ map-append (by_member id) (o.ends.0 ++ without_last v.free) (held.last ∷ []))))
    ∙ last_entry-more (map (by_member id) (o.ends.0 ++ without_last v.free)) (by_member id held.last) in
    record {
      member_in_range = omega (arith, within views id v here);
      channel_in_range = facts.channel;
      last = subst (λ o. IsSample o f c s) (sym one) (held.frame, held.channel, held.sample);
      from_floor = subst (λ (m : Marks). IsFrom m.floor f c) (sym (own_marks g views t h id v y here lasts)) (omega (arith, o.within.floor c, held.from_floor));
    }

-- an entry was placed
pub history_put : (g : Geometry) (views : List View) (t : Track) (h : List Row) (id : ℕ) (v w : View) (e : Entry)
    → IsHistory g views t h → get_elem? views id ≡ some v → v.ended ≡ false
    → w.laid ≡ v.laid ++ e ∷ [] → w.mine ≡ v.mine ++ e ∷ []
    → ((members : ℕ) → length views ≤ members → IsReply g members h (in_row id e))
    → IsHistory g (set views id w) t (h ++ in_row id e ∷ [])
history_put g views t h id v w e y here lasts laid mine reply =
    let m : Entry = by_member id e in
    let r : Row = in_row id e in
    let more : laid_of (h ++ r ∷ []) ≡ laid_of h ++ m ∷ [] = laid_of-append_rows h (m ∷ []) in
    let same_count : length (set views id w) ≡ length views = length-set views id w in
    let by : SameSums (m ∷ []) (e ∷ []) = SameSums-by_member id e in
    let put : SameSums (all_laid views ++ e ∷ []) (all_laid (set views id w)) = SameSums-put views id v w e here laid in
    let sums_more : SameSums (laid_of h ++ m ∷ []) (all_laid (set views id w)) = record {
      counts = λ f c. omega (arith, y.sums.counts f c, by.counts f c, put.counts f c, count-append (laid_of h) (m ∷ []) f c, count-append (all_laid views) (e ∷ []) f c);
      totals = λ f c. omega (arith, ints, y.sums.totals f c, by.totals f c, put.totals f c, total-append (laid_of h) (m ∷ []) f c, total-append (all_laid views) (e ∷ []) f c);
    } in
    record {
      legal = λ members up. IsLegal-more g members h r (y.legal members (omega (arith, same_count))) (reply members (omega (arith, same_count)));
      taken = taken_words-append_rows h (m ∷ []) ∙ y.taken;
      position = fold_push position_after (first_frame g) h r ∙ (position_after-row (position_of g h) m In ∙ y.position);
      sums = subst (λ es. SameSums es (all_laid (set views id w))) (sym more) sums_more;
      owns = λ i u there stays. ap (own_entries i) more ∙ elim (at_set views id i w u there) [
        | inl this ↦
            rw (this.0, ← this.1, mine) (own-more id (laid_of h) m refl
            ∙ (ap (λ es. es ++ m ∷ []) (y.owns id v here lasts) ∙ sym (map-append (by_member id) v.mine (e ∷ []))))
        | inr other ↦ own-more_other i (laid_of h) m (λ same. other.0 (sym same)) ∙ y.owns i u other.1 stays
      ];
      no_more = λ i up.
          let apart : i ≢ id = λ same. omega (arith, within views id v here, same_count) in
          ap (own_entries i) more ∙ (own-more_other i (laid_of h) m (λ same. apart (sym same)) ∙ y.no_more i (omega (arith, same_count)));
    }

-- what a seat is shown by its step
pub step_of : (g : Geometry) (views : List View) (t : Track) (early : List Row) (id : ℕ) (v w : View) (rows : List Row)
    → IsHistory g (set views id w) t (early ++ rows) → get_elem? views id ≡ some v → w.ended ≡ false → w.history ≡ early ++ rows → v.key.geometry ≡ g
    → (begins : BeginsWith early v.history) → IsStep v w id (length views) begins.0 rows
step_of g views t early id v w rows y here lasts history of_ring begins =
    let all : w.history ≡ (v.history ++ begins.0) ++ rows = history ∙ ap (λ x. x ++ rows) begins.1 in
    record {
      history = all;
      legal = subst (λ x. IsLegal x (length views) w.history) (sym of_ring)
          (subst (λ x. IsLegal g (length views) x) (sym history) (y.legal (length views) (omega (arith, length-set views id w))));
      in_range = within views id v here;
      own_adds = ap (λ x. own_entries id (laid_of x)) history ∙ y.owns id w (set_here views id w (within views id v here)) lasts;
    }
