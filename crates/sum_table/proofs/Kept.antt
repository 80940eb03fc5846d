-- What a seat placed stays in order when it places one more entry, when it sees a later position, and when it is joined.
use Rattle.sum_table.specs.Prelude.{ap, append_assoc, arith, Bool, false, fold, inl, inr, List, map, max, refl, subst, suc, sym, true, zero, ℕ, ℤ, [], ◌*◌}
use Rattle.sum_table.specs.Prelude.{◌++◌, ◌+◌, ◌<◌, ◌∙◌, ◌∷◌, ◌≡◌, ◌≤◌, ◌⊎◌, cases_Bool, nat_tests, append-nil, fold-append, fold_push, at_snoc, get_elem?}
use Rattle.sum_table.specs.Prelude.{some, some-ne-none, Geometry, Cursor, cursor_after, first_frame, first_free, IsFrom, lap, Marks, Entry, Kind, Added}
use Rattle.sum_table.specs.Prelude.{Withdrawn, EndsIn, is_at, marks_after, marks_by, marks_with, stand_after, standing, standing_with, without_last, behind_up}
use Rattle.sum_table.specs.Prelude.{count-append, count-elsewhere, count-here, Each, Each-append, Each-of, Each-right, free_after, IsBeforeCursor, IsHolding}
use Rattle.sum_table.specs.Prelude.{IsHolding-add, IsHolding-last, IsHolding-withdraw, IsMarked-add, IsMarked-withdraw, later_up_to, place_cases, standing-each}
use Rattle.sum_table.specs.Prelude.{up_to_later, without_last-more, added_at, is_before, later_of, start_marks, withdrawn_at, marks_by-more, standing-more}
use Rattle.sum_table.specs.Prelude.{at_append, View, joined_free, joined_marks, AreWithinMarks, IsKept, IsLaid, IsOwn, by_member, count, HoldsLast}
use Rattle.sum_table.specs.Prelude.{withdrawable_after}

pub IsLaid-later : (g : Geometry) (seen later : ℕ) → seen ≤ later → (e : Entry) → IsLaid g seen e → IsLaid g later e
IsLaid-later g seen later up e l = record { channel = l.channel; low = l.low; ahead = omega (arith, l.ahead, up); fits = l.fits }

-- a later position was seen
pub kept_later : (g : Geometry) (places : ℕ) (es mine free : List Entry) (marks : Marks) (seen later : ℕ) (ended : Bool)
    → seen ≤ later → IsKept g places es mine free marks seen ended → IsKept g places es mine free marks later ended
kept_later g places es mine free marks seen later ended up x =
    let laid : (i : ℕ) (e : Entry) → get_elem? es i ≡ some e → IsLaid g later e = λ i e there. IsLaid-later g seen later up e (x.laid i e there) in
    assumption

-- nothing was placed
pub kept_none : (g : Geometry) (places : ℕ) (marks : Marks) (seen : ℕ) (ended : Bool)
    → ((c : ℕ) → first_free marks.floor c ≤ first_free marks.high c) → ((c : ℕ) → first_free marks.cursor c ≤ first_free marks.high c)
    → (ended ≡ false → marks ≡ start_marks g) → IsKept g places [] [] [] marks seen ended
kept_none g places marks seen ended floor cursor start = record {
  laid = λ i e there. absurd (some-ne-none e (sym there));
  few = λ f c. omega arith;
  marked = record {
    floor_high = floor;
    cursor_high = cursor;
    past_high = λ f c c_in past. refl;
    past_cursor = λ f c c_in past. omega arith;
    past_floor = λ f c c_in past near. omega arith;
  };
  holding = record { before = tt; rising = tt; ends = ([], refl, tt) };
  backed = λ before. sym (append-nil before);
  few_held = λ f c. omega arith;
  own = λ lasts. record {
    ends = ([], refl);
    within = subst (AreWithinMarks (start_marks g)) (sym (start lasts)) (record { floor = λ c. omega arith; cursor = λ c. omega arith; tops = inl (record { cursor = refl; high = refl }) });
  };
}

-- nothing was placed, and there are other places
pub kept_places : (g : Geometry) (p n : ℕ) (es mine free : List Entry) (marks : Marks) (seen : ℕ) (ended : Bool) → (es ≡ []) ⊎ (n ≡ p)
    → IsKept g p es mine free marks seen ended → IsKept g n es mine free marks seen ended
kept_places g p n es mine free marks seen ended is x = grind (arith, nat_tests)

-- what is known of the last standing add
pub record IsHeldAt (es : List Entry) (marks : Marks) (f c : ℕ) (s : ℤ) : Type 0 where
  pub early : List Entry
  pub last : Entry
  pub ends : standing es ≡ early ++ last ∷ []
  pub frame : last.frame ≡ f
  pub channel : last.channel ≡ c
  pub sample : last.sample ≡ s
  pub from_floor : IsFrom marks.floor f c

abbrev pub held_of : (v : View) (f c : ℕ) (s : ℤ) → HoldsLast v f c s → IsHeldAt v.laid v.marks f c s
held_of v f c s x = record { early = x.early; last = x.last; ends = x.ends; frame = x.frame; channel = x.channel; sample = x.sample; from_floor = x.from_floor }

-- what holds of each entry holds of the standing ones
each_of : {X : Type 0} (P : X → Type 0) (xs : List X) → ((i : ℕ) (x : X) → get_elem? xs i ≡ some x → P x) → Each P xs
each_of P [] all = tt
each_of P (x ∷ xs) all = (all 0 x refl, each_of P xs (λ i y there. all (suc i) y there))

-- what holds of each placed entry holds of the last standing add
pub held_each : (P : Entry → Type 0) (es : List Entry) (marks : Marks) (f c : ℕ) (s : ℤ) → ((i : ℕ) (e : Entry) → get_elem? es i ≡ some e → P e)
    → (y : IsHeldAt es marks f c s) → P y.last
held_each P es marks f c s all y = (Each-right P y.early (y.last ∷ []) (subst (Each P) y.ends (standing-each P es (each_of P es all)))).0

-- the last standing add was placed
pub held_laid : (g : Geometry) (es : List Entry) (marks : Marks) (seen f c : ℕ) (s : ℤ) → ((i : ℕ) (e : Entry) → get_elem? es i ≡ some e → IsLaid g seen e)
    → (y : IsHeldAt es marks f c s) → IsLaid g seen y.last
held_laid g es marks seen f c s laid y = held_each (IsLaid g seen) es marks f c s laid y

-- it is in the ring, before the cursor
pub record HeldFacts (g : Geometry) (marks : Marks) (seen f c : ℕ) : Type 0 where
  pub channel : c < g.channels
  pub low : first_frame g ≤ f
  pub ahead : f < seen + g.frames
  pub fits : lap g f < 4294967295
  pub before : f < first_free marks.cursor c

pub held_facts : (g : Geometry) (places : ℕ) (es mine free : List Entry) (marks : Marks) (seen : ℕ) (ended : Bool) (f c : ℕ) (s : ℤ)
    → IsKept g places es mine free marks seen ended → IsHeldAt es marks f c s → HeldFacts g marks seen f c
held_facts g places es mine free marks seen ended f c s x y =
    let l : IsLaid g seen y.last = held_laid g es marks seen f c s x.laid y in
    let b : Each (IsBeforeCursor g marks.cursor) (y.last ∷ []) = Each-right (IsBeforeCursor g marks.cursor) y.early (y.last ∷ []) (subst (Each (IsBeforeCursor g marks.cursor)) y.ends x.holding.before) in
    rw (← y.frame, ← y.channel) (record { channel = l.channel; low = l.low; ahead = l.ahead; fits = l.fits; before = b.0.1 })

-- there it has at most one entry
pub held_once : (g : Geometry) (places : ℕ) (es mine free : List Entry) (marks : Marks) (seen : ℕ) (ended : Bool) (f c : ℕ) (s : ℤ)
    → IsKept g places es mine free marks seen ended → IsHeldAt es marks f c s → count es f c ≤ 1
held_once g places es mine free marks seen ended f c s x y =
    let facts : HeldFacts g marks seen f c = held_facts g places es mine free marks seen ended f c s x y in
    x.marked.past_floor f c facts.channel y.from_floor facts.before

-- and the seat has a place
pub held_place : (g : Geometry) (places : ℕ) (es mine free : List Entry) (marks : Marks) (seen : ℕ) (ended : Bool) (f c : ℕ) (s : ℤ)
    → IsKept g places es mine free marks seen ended → IsHeldAt es marks f c s → 0 < places
held_place g places es mine free marks seen ended f c s x y =
    let one : count (standing es) y.last.frame y.last.channel ≡ count y.early y.last.frame y.last.channel + 1 =
    ap (λ zs. count zs y.last.frame y.last.channel) y.ends ∙ count-here y.early y.last in
    omega (arith, one, x.few_held y.last.frame y.last.channel)

-- where a place is from a cursor on, the cursor is before what is after the place
later_of-behind : (g : Geometry) (at : Cursor) (f c : ℕ) → c < g.channels → IsFrom at f c → later_of at (cursor_after g f c) ≡ cursor_after g f c
later_of-behind g at f c c_in from = grind (arith, nat_tests)

-- a seat's own marks stay within its marks
pub within_add : (g : Geometry) (a b : Marks) (f c : ℕ) → AreWithinMarks a b → c < g.channels → IsFrom b.cursor f c → AreWithinMarks (added_at g a f c) (added_at g b f c)
within_add g a b f c x c_in from = elim x.tops [
  | inl same ↦ record {
    floor = λ d. elim (cases_Bool (is_before b.cursor b.high)) [
      | inl before ↦ rw (same.cursor, same.high, before) (omega arith)
      | inr level ↦ rw (same.cursor, same.high, level) (x.floor d)
    ];
    cursor = λ d. omega arith;
    tops = inl (record { cursor = refl; high = ap (λ (y : Cursor). later_of y (cursor_after g f c)) same.high });
  }
  | inr level ↦
      let at_high : IsFrom b.high f c = subst (λ (y : Cursor). IsFrom y f c) level.cursor_is from in
      let test : is_before b.cursor b.high ≡ false = subst (λ (y : Cursor). is_before y b.high ≡ false) (sym level.cursor_is) (grind (arith, nat_tests)) in
      record {
        floor = λ d. elim (cases_Bool (is_before a.cursor a.high)) [
          | inl before ↦ rw (before, test) (subst (λ (y : Cursor). first_free a.high d ≤ first_free y d) (sym level.floor_is) (level.high d))
          | inr not_before ↦ rw (not_before, test) (x.floor d)
        ];
        cursor = λ d. omega arith;
        tops = inl (record {
          cursor = refl;
          high = later_of-behind g a.high f c c_in (omega (arith, level.high c, at_high)) ∙ sym (later_of-behind g b.high f c c_in at_high);
        });
      }
]

pub within_withdraw : (a b : Marks) (f c : ℕ) → AreWithinMarks a b → IsFrom b.floor f c → f < first_free b.cursor c → AreWithinMarks (withdrawn_at a f c) (withdrawn_at b f c)
within_withdraw a b f c x from near = grind (arith, nat_tests)

within_join : (a b w : Marks) (n : ℕ) → AreWithinMarks a b → ((c : ℕ) → first_free b.floor c ≤ first_free b.high c) → ((c : ℕ) → first_free b.cursor c ≤ first_free b.high c)
    → AreWithinMarks a (joined_marks b w n)
within_join a b w zero x floor cursor = x
within_join a b w (suc n) x floor cursor = record {
  floor = λ c. omega (arith, x.floor c, floor c, up_to_later b.high w.high c);
  cursor = λ c. omega (arith, x.cursor c, cursor c, up_to_later b.high w.high c);
  tops = inr (record {
    high = λ c. elim x.tops [
      | inl same ↦ subst (λ (y : Cursor). first_free y c ≤ first_free (later_of b.high w.high) c) (sym same.high) (up_to_later b.high w.high c)
      | inr level ↦ omega (arith, level.high c, up_to_later b.high w.high c)
    ];
    cursor_is = refl;
    floor_is = refl;
  });
}

-- one more entry is in the ring
pub laid_more : (g : Geometry) (es : List Entry) (seen : ℕ) (e : Entry) → ((i : ℕ) (a : Entry) → get_elem? es i ≡ some a → IsLaid g seen a) → IsLaid g seen e
    → (i : ℕ) (a : Entry) → get_elem? (es ++ e ∷ []) i ≡ some a → IsLaid g seen a
laid_more g es seen e old new i a there = elim (at_snoc es e a i there) [
  | inl was ↦ old i a was
  | inr is ↦ subst (IsLaid g seen) is new
]

-- what is before a cursor is not at a place from it on
count_before : (g : Geometry) (at : Cursor) (es : List Entry) (f c : ℕ) → Each (IsBeforeCursor g at) es → IsFrom at f c → count es f c ≡ 0
count_before g at [] f c all from = refl
count_before g at (x ∷ xs) f c all from =
    let apart : ¬ ((x.frame ≡ f) × (x.channel ≡ c)) = λ same. omega (arith, subst (λ d. x.frame < first_free at d) same.1 all.0.1, same.0, from) in
    let test : is_at f c x ≡ false = grind (arith, nat_tests) in
    rw test (count_before g at xs f c all.1 from)

-- one more entry is where it was placed
count_within : (es : List Entry) (e : Entry) (f c most : ℕ) → count es e.frame e.channel < most → count es f c ≤ most → count (es ++ e ∷ []) f c ≤ most
count_within es e f c most here there = elim (place_cases e.frame e.channel f c) [
  | inl same ↦ rw (← same.0, ← same.1) (omega (arith, count-here es e, here))
  | inr elsewhere ↦ omega (arith, count-elsewhere es e f c elsewhere, there)
]

-- a seat added a sample
pub kept_add : (g : Geometry) (places : ℕ) (es mine free : List Entry) (marks : Marks) (seen : ℕ) (ended : Bool) (e : Entry)
    → IsKept g places es mine free marks seen ended → e.kind ≡ Added → IsLaid g seen e → IsFrom marks.cursor e.frame e.channel → 0 < places
    → IsKept g places (es ++ e ∷ []) (mine ++ e ∷ []) (withdrawable_after e.kind marks free e) (marks_after g marks e) seen ended
kept_add g places es mine free marks seen ended e x kind laid from has =
    let held : standing (es ++ e ∷ []) ≡ standing es ++ e ∷ [] = standing-more es e ∙ ap (λ k. standing_with k (standing es) e) kind in
    let own_held : standing (mine ++ e ∷ []) ≡ standing mine ++ e ∷ [] = standing-more mine e ∙ ap (λ k. standing_with k (standing mine) e) kind in
    let own_marks : marks_by g (mine ++ e ∷ []) ≡ added_at g (marks_by g mine) e.frame e.channel = marks_by-more g mine e ∙ ap (λ k. marks_with k g (marks_by g mine) e.frame e.channel) kind in
    let none : count (standing es) e.frame e.channel ≡ 0 = count_before g marks.cursor (standing es) e.frame e.channel x.holding.before from in
    subst (λ k. IsKept g places (es ++ e ∷ []) (mine ++ e ∷ []) (withdrawable_after k marks free e) (marks_with k g marks e.frame e.channel) seen ended) (sym kind) (record {
      laid = laid_more g es seen e x.laid laid;
      few = λ f c. count_within es e f c (3 * places) (omega (arith, x.marked.past_cursor e.frame e.channel laid.channel from, has)) (x.few f c);
      marked = IsMarked-add g marks es e x.marked laid.channel from;
      holding = rw held (IsHolding-add g marks (standing es) free e x.holding x.marked.cursor_high laid.channel from);
      backed = λ before.
          fold_push stand_after before es e
          ∙ (ap (λ k. standing_with k (fold stand_after before es) e) kind
          ∙ (ap (λ zs. zs ++ e ∷ []) (x.backed before) ∙ (append_assoc before (standing es) (e ∷ []) ∙ ap (λ zs. before ++ zs) (sym held))));
      few_held = λ f c. rw held (count_within (standing es) e f c places (omega (arith, none, has)) (x.few_held f c));
      own = λ lasts.
          let o : IsOwn g mine free marks = x.own lasts in
          record {
            ends = rw own_held (ends_more (is_before marks.cursor marks.high) (standing mine) free e o.ends);
            within = rw own_marks (within_add g (marks_by g mine) marks e.frame e.channel o.within laid.channel from);
          };
    }) where
      ends_more : (b : Bool) (held free : List Entry) (e : Entry) → EndsIn held free → EndsIn (held ++ e ∷ []) (free_after b free e)
      ends_more true held free e ends = (held, refl)
      ends_more false held free e ends = (ends.0, ap (λ zs. zs ++ e ∷ []) ends.1 ∙ append_assoc ends.0 free (e ∷ []))

-- a seat withdrew its last standing add
pub kept_withdraw : (g : Geometry) (places : ℕ) (es mine free : List Entry) (marks : Marks) (seen : ℕ) (ended : Bool) (e : Entry)
    → IsKept g places es mine free marks seen ended → e.kind ≡ Withdrawn → IsHeldAt es marks e.frame e.channel e.sample
    → IsKept g places (es ++ e ∷ []) (mine ++ e ∷ []) (withdrawable_after e.kind marks free e) (marks_after g marks e) seen ended
kept_withdraw g places es mine free marks seen ended e x kind y =
    let facts : HeldFacts g marks seen e.frame e.channel = held_facts g places es mine free marks seen ended e.frame e.channel e.sample x y in
    let laid : IsLaid g seen e = assumption in
    let held : standing (es ++ e ∷ []) ≡ y.early = standing-more es e ∙ (ap (λ k. standing_with k (standing es) e) kind ∙ (ap without_last y.ends ∙ without_last-more y.early y.last)) in
    let own_held : standing (mine ++ e ∷ []) ≡ without_last (standing mine) = standing-more mine e ∙ ap (λ k. standing_with k (standing mine) e) kind in
    let own_marks : marks_by g (mine ++ e ∷ []) ≡ withdrawn_at (marks_by g mine) e.frame e.channel = marks_by-more g mine e ∙ ap (λ k. marks_with k g (marks_by g mine) e.frame e.channel) kind in
    let from_last : IsFrom marks.floor y.last.frame y.last.channel = rw (y.frame, y.channel) y.from_floor in
    let was : IsHolding g marks (y.early ++ y.last ∷ []) free = subst (λ zs. IsHolding g marks zs free) y.ends x.holding in
    let last : free ≡ without_last free ++ y.last ∷ [] = IsHolding-last g marks y.early free y.last was from_last in
    let now : IsHolding g (withdrawn_at marks e.frame e.channel) y.early (without_last free) = rw (← y.frame, ← y.channel) (IsHolding-withdraw g marks y.early free y.last was from_last) in
    let has : 0 < places = held_place g places es mine free marks seen ended e.frame e.channel e.sample x y in
    subst (λ k. IsKept g places (es ++ e ∷ []) (mine ++ e ∷ []) (withdrawable_after k marks free e) (marks_with k g marks e.frame e.channel) seen ended) (sym kind) (record {
      laid = laid_more g es seen e x.laid laid;
      few = λ f c. count_within es e f c (3 * places) (omega (arith, x.marked.past_floor e.frame e.channel facts.channel y.from_floor facts.before, has)) (x.few f c);
      marked = IsMarked-withdraw g marks es e x.marked facts.channel y.from_floor facts.before;
      holding = rw held now;
      backed = λ before.
          let taken : fold stand_after before es ≡ (before ++ y.early) ++ y.last ∷ [] =
          x.backed before ∙ (ap (λ zs. before ++ zs) y.ends ∙ sym (append_assoc before y.early (y.last ∷ []))) in
          fold_push stand_after before es e
          ∙ (ap (λ k. standing_with k (fold stand_after before es) e) kind
          ∙ (ap without_last taken ∙ (without_last-more (before ++ y.early) y.last ∙ ap (λ zs. before ++ zs) (sym held))));
      few_held = λ f c. rw held (omega (arith, count-append y.early (y.last ∷ []) f c, ap (λ zs. count zs f c) y.ends, x.few_held f c));
      own = λ lasts.
          let o : IsOwn g mine free marks = x.own lasts in
          let joined : standing mine ≡ (o.ends.0 ++ without_last free) ++ y.last ∷ [] =
          o.ends.1 ∙ (ap (λ zs. o.ends.0 ++ zs) last ∙ sym (append_assoc o.ends.0 (without_last free) (y.last ∷ []))) in
          record {
            ends = rw own_held (o.ends.0, ap without_last joined ∙ without_last-more (o.ends.0 ++ without_last free) y.last);
            within = rw own_marks (within_withdraw (marks_by g mine) marks e.frame e.channel o.within y.from_floor facts.before);
          };
    })

-- where no entry is anywhere, nothing was placed
none_laid : (es : List Entry) → ((f c : ℕ) → count es f c ≤ 0) → es ≡ []
none_laid [] none = refl
none_laid (e ∷ es) none =
    let here : is_at e.frame e.channel e ≡ true = grind (arith, nat_tests) in
    let one : count (e ∷ []) e.frame e.channel ≡ 1 = rw here refl in
    absurd (omega (arith, one, count-append (e ∷ []) es e.frame e.channel, none e.frame e.channel))

-- a seat took another one over
pub kept_join : (g : Geometry) (p q : ℕ) (xs ys mine yours free freed_too : List Entry) (a b : Marks) (seen saw : ℕ) (ended gone : Bool)
    → IsKept g p xs mine free a seen ended → IsKept g q ys yours freed_too b saw gone
    → IsKept g (p + q) (xs ++ ys) mine (joined_free free q) (joined_marks a b q) (max seen saw) ended
kept_join g p zero xs ys mine yours free freed_too a b seen saw ended gone x y =
    let none : ys ≡ [] = none_laid ys (λ f c. y.few f c) in
    let same : xs ++ ys ≡ xs = ap (λ zs. xs ++ zs) none ∙ append-nil xs in
    subst (λ n. IsKept g n (xs ++ ys) mine free a (max seen saw) ended) (omega arith)
    (subst (λ zs. IsKept g p zs mine free a (max seen saw) ended) (sym same) (kept_later g p xs mine free a seen (max seen saw) ended (omega arith) x))
kept_join g p (suc q) xs ys mine yours free freed_too a b seen saw ended gone x y =
    let top : Cursor = later_of a.high b.high in
    let left : (c : ℕ) → first_free a.high c ≤ first_free top c = λ c. up_to_later a.high b.high c in
    let right : (c : ℕ) → first_free b.high c ≤ first_free top c = λ c. later_up_to a.high b.high c in
    let held : standing (xs ++ ys) ≡ standing xs ++ standing ys = fold-append stand_after [] xs ys ∙ y.backed (standing xs) in
    let all : Each (IsBeforeCursor g top) (standing xs ++ standing ys) =
    Each-append (IsBeforeCursor g top) (standing xs) (standing ys)
    (Each-of (IsBeforeCursor g a.cursor) (IsBeforeCursor g top) (standing xs) (behind_up g a.cursor top (λ d d_in. omega (arith, x.marked.cursor_high d, left d))) x.holding.before)
    (Each-of (IsBeforeCursor g b.cursor) (IsBeforeCursor g top) (standing ys) (behind_up g b.cursor top (λ d d_in. omega (arith, y.marked.cursor_high d, right d))) y.holding.before) in
    record {
      laid = λ i e there. elim (at_append xs ys e i there) [
        | inl first ↦ IsLaid-later g seen (max seen saw) (omega arith) e (x.laid i e first)
        | inr second ↦ IsLaid-later g saw (max seen saw) (omega arith) e (y.laid second.0 e second.1)
      ];
      few = λ f c. omega (arith, count-append xs ys f c, x.few f c, y.few f c);
      marked = record {
        floor_high = λ c. omega arith;
        cursor_high = λ c. omega arith;
        past_high = λ f c c_in past. omega (arith, count-append xs ys f c, x.marked.past_high f c c_in (omega (arith, left c, past)), y.marked.past_high f c c_in (omega (arith, right c, past)));
        past_cursor = λ f c c_in past. omega (arith, count-append xs ys f c, x.marked.past_high f c c_in (omega (arith, left c, past)), y.marked.past_high f c c_in (omega (arith, right c, past)));
        past_floor = λ f c c_in past near. absurd (omega (arith, past, near));
      };
      holding = subst (λ zs. IsHolding g (record { cursor = top; floor = top; high = top }) zs []) (sym held)
          (record { before = all; rising = tt; ends = (standing xs ++ standing ys, sym (append-nil (standing xs ++ standing ys)), all) });
      backed = λ before.
          fold-append stand_after before xs ys ∙ (y.backed (fold stand_after before xs) ∙ (ap (λ zs. zs ++ standing ys) (x.backed before)
          ∙ (append_assoc before (standing xs) (standing ys) ∙ ap (λ zs. before ++ zs) (sym held))));
      few_held = λ f c. subst (λ zs. count zs f c ≤ p + suc q) (sym held) (omega (arith, count-append (standing xs) (standing ys) f c, x.few_held f c, y.few_held f c));
      own = λ lasts.
          let o : IsOwn g mine free a = x.own lasts in
          record {
            ends = (standing mine, sym (append-nil (standing mine)));
            within = within_join (marks_by g mine) a b (suc q) o.within x.marked.floor_high x.marked.cursor_high;
          };
    }

-- entries of another member
pub marks_by-member : (g : Geometry) (m : ℕ) (es : List Entry) → marks_by g (map (by_member m) es) ≡ marks_by g es
marks_by-member g m es = from (start_marks g) es where
  from : (at : Marks) (xs : List Entry) → fold (marks_after g) at (map (by_member m) xs) ≡ fold (marks_after g) at xs
  from at [] = refl
  from at (x ∷ xs) = from (marks_after g at x) xs

without_last-map : {X Y : Type 0} (f : X → Y) (xs : List X) → without_last (map f xs) ≡ map f (without_last xs)
without_last-map f [] = refl
without_last-map f (x ∷ []) = refl
without_last-map f (x ∷ y ∷ ys) = ap (λ zs. f x ∷ zs) (without_last-map f (y ∷ ys))

pub standing-member : (m : ℕ) (es : List Entry) → standing (map (by_member m) es) ≡ map (by_member m) (standing es)
standing-member m es = from [] es where
  stood_member : (k : Kind) (held : List Entry) (e : Entry) → Rattle.mix_core.specs.Laid.standing_with k (map (by_member m) held) (by_member m e) ≡ map (by_member m) (Rattle.mix_core.specs.Laid.standing_with k held e)
  stood_member Added held e = sym (Rattle.std.proofs.lemmas.List.map-append (by_member m) held (e ∷ []))
  stood_member Withdrawn held e = without_last-map (by_member m) held

  from : (held xs : List Entry) → fold stand_after (map (by_member m) held) (map (by_member m) xs) ≡ map (by_member m) (fold stand_after held xs)
  from held [] = refl
  from held (x ∷ xs) = ap (λ zs. fold stand_after zs (map (by_member m) xs)) (stood_member x.kind held x) ∙ from (stand_after held x) xs
