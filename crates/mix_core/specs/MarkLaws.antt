-- How many entries may be where, and which adds may still be withdrawn: what marks say of the entries that they come from.
use Rattle.std.specs.Prelude.{◌≡◌, ◌⊎◌, ℕ, ◌+◌, ◌<◌, ◌≤◌, Bool, true, false, List, [], ◌∷◌, ◌++◌, drop, fold, length, ⊤, filter}
use Rattle.std.proofs.Common.{get_or, refl, sym, subst, ap, ◌∙◌, append_assoc, arith, inl, inr}
use Rattle.std.proofs.lemmas.Bool.{cases_Bool, cases_eq, cases_lt}
use Rattle.std.proofs.lemmas.Bool.Decides.{nat_tests}
use Rattle.std.proofs.lemmas.List.{append-nil, length-append}
use Rattle.snd_base.specs.declared.geometry.Geometry.{Geometry}
use Rattle.snd_base.specs.declared.places.Cursor.{Cursor}
use Rattle.snd_base.specs.PlaceLaws.{first_free-behind_grows, first_free-behind_low}
use Rattle.snd_base.specs.Places.{IsFrom, cursor_after, first_free}
use Rattle.mix_core.specs.declared.marks.Marks.{Marks}
use Rattle.mix_core.specs.declared.port.Entry.{Entry}
use Rattle.mix_core.specs.HistoryLaws.{at-append}
use Rattle.mix_core.specs.Laid.{at, count, is_at, stand_after, standing, standing_with, without_last}
use Rattle.mix_core.specs.declared.port.Kind.{Kind}
use Rattle.mix_core.specs.declared.port.Kind.TheVariants.{Added, Withdrawn}
use Rattle.mix_core.specs.Marks.{added_at, is_before, later_of, withdrawn_at}

-- the place of an entry
abbrev pub place_at : Entry → Cursor
place_at e = record { frame = e.frame; channel = e.channel }

-- two cursors in order
pub up_to : (a b : Cursor) (c : ℕ) → is_before b a ≡ false → first_free a c ≤ first_free b c
up_to a b c not_before = grind (arith, nat_tests)

pub up_to_later : (a b : Cursor) (c : ℕ) → first_free a c ≤ first_free (later_of a b) c
up_to_later a b c = grind (arith, nat_tests)

pub later_up_to : (a b : Cursor) (c : ℕ) → first_free b c ≤ first_free (later_of a b) c
later_up_to a b c = grind (arith, nat_tests)

-- a place from a cursor on is from it on in each channel
pub up_to_place : (at : Cursor) (f c d : ℕ) → IsFrom at f c → first_free at d ≤ first_free (record { frame = f; channel = c }) d
up_to_place at f c d from = grind (arith, nat_tests)

-- and one before a cursor is before it in each channel
pub place_up_to : (at : Cursor) (f c d : ℕ) → f < first_free at c → first_free (record { frame = f; channel = c }) d ≤ first_free at d
place_up_to at f c d before = grind (arith, nat_tests)

pub count-append : (xs ys : List Entry) (f c : ℕ) → count (xs ++ ys) f c ≡ count xs f c + count ys f c
count-append xs ys f c = ap length (at-append xs ys f c) ∙ length-append (at xs f c) (at ys f c)

-- one more entry, at its own frame and channel and elsewhere
pub count-here : (es : List Entry) (e : Entry) → count (es ++ e ∷ []) e.frame e.channel ≡ count es e.frame e.channel + 1
count-here es e =
    let here : is_at e.frame e.channel e ≡ true = grind (arith, nat_tests) in
    let one : count (e ∷ []) e.frame e.channel ≡ 1 = rw here refl in
    count-append es (e ∷ []) e.frame e.channel ∙ ap (λ n. count es e.frame e.channel + n) one

pub count-elsewhere : (es : List Entry) (e : Entry) (f c : ℕ) → ¬ ((e.frame ≡ f) × (e.channel ≡ c)) → count (es ++ e ∷ []) f c ≡ count es f c
count-elsewhere es e f c elsewhere =
    let test : is_at f c e ≡ false = grind (arith, nat_tests) in
    let none : count (e ∷ []) f c ≡ 0 = rw test refl in
    count-append es (e ∷ []) f c ∙ (ap (λ n. count es f c + n) none ∙ omega arith)

-- two places are one, or not
pub place_cases : (f c k d : ℕ) → ((f ≡ k) × (c ≡ d)) ⊎ (¬ ((f ≡ k) × (c ≡ d)))
place_cases f c k d = elim (cases_eq f k) [
  | inl frame ↦ elim (cases_eq c d) [ inl channel ↦ inl (frame, channel) | inr apart ↦ inr (λ same. apart same.1) ]
  | inr apart ↦ inr (λ same. apart same.0)
]

-- how many entries marks allow: floor and cursor are not past the high; from the high on there is none, from the cursor on
-- there are at most two, and from the floor to before the cursor at most one
pub record IsMarked (g : Geometry) (m : Marks) (es : List Entry) : Type 0 where
  pub floor_high : (c : ℕ) → first_free m.floor c ≤ first_free m.high c
  pub cursor_high : (c : ℕ) → first_free m.cursor c ≤ first_free m.high c
  pub past_high : (f c : ℕ) → c < g.channels → first_free m.high c ≤ f → count es f c ≡ 0
  pub past_cursor : (f c : ℕ) → c < g.channels → first_free m.cursor c ≤ f → count es f c ≤ 2
  pub past_floor : (f c : ℕ) → c < g.channels → first_free m.floor c ≤ f → f < first_free m.cursor c → count es f c ≤ 1

pub IsMarked-add : (g : Geometry) (m : Marks) (es : List Entry) (e : Entry) → IsMarked g m es → e.channel < g.channels → IsFrom m.cursor e.frame e.channel
    → IsMarked g (added_at g m e.frame e.channel) (es ++ e ∷ [])
IsMarked-add g m es e x channel from =
    let f : ℕ = e.frame in
    let c : ℕ = e.channel in
    let own : count (es ++ e ∷ []) f c ≡ count es f c + 1 = count-here es e in
    let behind_it : first_free (cursor_after g f c) c ≡ f + 1 = first_free-behind_low g f c c channel (omega arith) in
    let grows : (d : ℕ) → d < g.channels → first_free m.cursor d ≤ first_free (cursor_after g f c) d = λ d d_in. first_free-behind_grows g m.cursor f c d from d_in in
    let apart : (k d : ℕ) → first_free (cursor_after g f c) d ≤ k → ¬ ((f ≡ k) × (c ≡ d)) = λ k d past same. omega (arith, subst (λ y. first_free (cursor_after g f c) y ≤ k) (sym same.1) past, behind_it, same.0) in
    elim (cases_Bool (is_before m.cursor m.high)) [
      | inl before ↦ rw before (record {
        floor_high = λ d. up_to_later m.high (cursor_after g f c) d;
        cursor_high = λ d. later_up_to m.high (cursor_after g f c) d;
        past_high = λ k d d_in past.
            let elsewhere = apart k d (omega (arith, later_up_to m.high (cursor_after g f c) d, past)) in
            count-elsewhere es e k d elsewhere ∙ x.past_high k d d_in (omega (arith, up_to_later m.high (cursor_after g f c) d, past));
        past_cursor = λ k d d_in past. omega (arith, count-elsewhere es e k d (apart k d past), x.past_cursor k d d_in (omega (arith, grows d d_in, past)));
        past_floor = λ k d d_in past near. elim (place_cases f c k d) [
          | inl same ↦
              let none : count es k d ≡ 0 = x.past_high k d d_in past in
              let here : count (es ++ e ∷ []) k d ≡ count es k d + 1 = subst (λ y. count (es ++ e ∷ []) y d ≡ count es y d + 1) same.0 (subst (λ y. count (es ++ e ∷ []) f y ≡ count es f y + 1) same.1 own) in
              omega (arith, none, here)
          | inr elsewhere ↦ omega (arith, count-elsewhere es e k d elsewhere, x.past_high k d d_in past)
        ];
      })
      | inr level ↦
          let at_high : (d : ℕ) → first_free m.high d ≤ first_free m.cursor d = λ d. up_to m.high m.cursor d level in
          rw level (record {
            floor_high = λ d. omega (arith, x.floor_high d, up_to_later m.high (cursor_after g f c) d);
            cursor_high = λ d. later_up_to m.high (cursor_after g f c) d;
            past_high = λ k d d_in past.
                let elsewhere = apart k d (omega (arith, later_up_to m.high (cursor_after g f c) d, past)) in
                count-elsewhere es e k d elsewhere ∙ x.past_high k d d_in (omega (arith, up_to_later m.high (cursor_after g f c) d, past));
            past_cursor = λ k d d_in past. omega (arith, count-elsewhere es e k d (apart k d past), x.past_cursor k d d_in (omega (arith, grows d d_in, past)));
            past_floor = λ k d d_in past near. elim (place_cases f c k d) [
              | inl same ↦
                  let none : count es f c ≡ 0 = x.past_high f c channel (omega (arith, at_high c, from)) in
                  let here : count (es ++ e ∷ []) k d ≡ count es f c + 1 = subst (λ y. count (es ++ e ∷ []) y d ≡ count es f c + 1) same.0 (subst (λ y. count (es ++ e ∷ []) f y ≡ count es f c + 1) same.1 own) in
                  omega (arith, none, here)
              | inr elsewhere ↦ elim (cases_lt k (first_free m.cursor d)) [
                | inl old ↦ omega (arith, count-elsewhere es e k d elsewhere, x.past_floor k d d_in past old)
                | inr new ↦ omega (arith, count-elsewhere es e k d elsewhere, x.past_high k d d_in (omega (arith, at_high d, new)))
              ]
            ];
          })
    ]

pub IsMarked-withdraw : (g : Geometry) (m : Marks) (es : List Entry) (e : Entry) → IsMarked g m es → e.channel < g.channels → IsFrom m.floor e.frame e.channel
    → e.frame < first_free m.cursor e.channel → IsMarked g (withdrawn_at m e.frame e.channel) (es ++ e ∷ [])
IsMarked-withdraw g m es e x channel from near =
    let f : ℕ = e.frame in
    let c : ℕ = e.channel in
    let own : count (es ++ e ∷ []) f c ≡ count es f c + 1 = count-here es e in
    let down : (d : ℕ) → first_free (record { frame = f; channel = c }) d ≤ first_free m.cursor d = λ d. place_up_to m.cursor f c d near in
    let up : (d : ℕ) → first_free m.floor d ≤ first_free (record { frame = f; channel = c }) d = λ d. up_to_place m.floor f c d from in
    let self : first_free (record { frame = f; channel = c }) c ≡ f = grind (arith, nat_tests) in
    record {
      floor_high = x.floor_high;
      cursor_high = λ d. omega (arith, down d, x.cursor_high d);
      past_high = λ k d d_in past.
          let elsewhere : ¬ ((f ≡ k) × (c ≡ d)) = λ same. omega (arith, subst (λ y. first_free m.high y ≤ k) (sym same.1) past, same.0, near, x.cursor_high c) in
          count-elsewhere es e k d elsewhere ∙ x.past_high k d d_in past;
      past_cursor = λ k d d_in past. elim (place_cases f c k d) [
        | inl same ↦
            let here : count (es ++ e ∷ []) k d ≡ count es f c + 1 = subst (λ y. count (es ++ e ∷ []) y d ≡ count es f c + 1) same.0 (subst (λ y. count (es ++ e ∷ []) f y ≡ count es f c + 1) same.1 own) in
            omega (arith, here, x.past_floor f c channel from near)
        | inr elsewhere ↦ elim (cases_lt k (first_free m.cursor d)) [
          | inl old ↦ omega (arith, count-elsewhere es e k d elsewhere, x.past_floor k d d_in (omega (arith, up d, past)) old)
          | inr new ↦ omega (arith, count-elsewhere es e k d elsewhere, x.past_cursor k d d_in new)
        ]
      ];
      past_floor = λ k d d_in past before.
          let elsewhere : ¬ ((f ≡ k) × (c ≡ d)) = λ same. omega (arith, subst (λ y. k < first_free (record { frame = f; channel = c }) y) (sym same.1) before, same.0, self) in
          omega (arith, count-elsewhere es e k d elsewhere, x.past_floor k d d_in past (omega (arith, down d, before)));
    }

-- something holds of each item of a list
abbrev pub Each : {X : Type 0} → (X → Type 0) → List X → Type 0
Each P [] = ⊤
Each P (x ∷ xs) = P x × Each P xs

pub Each-append : {X : Type 0} (P : X → Type 0) (xs ys : List X) → Each P xs → Each P ys → Each P (xs ++ ys)
Each-append P [] ys all more = more
Each-append P (x ∷ xs) ys all more = (all.0, Each-append P xs ys all.1 more)

pub Each-left : {X : Type 0} (P : X → Type 0) (xs ys : List X) → Each P (xs ++ ys) → Each P xs
Each-left P [] ys all = tt
Each-left P (x ∷ xs) ys all = (all.0, Each-left P xs ys all.1)

pub Each-right : {X : Type 0} (P : X → Type 0) (xs ys : List X) → Each P (xs ++ ys) → Each P ys
Each-right P [] ys all = all
Each-right P (x ∷ xs) ys all = Each-right P xs ys all.1

pub Each-of : {X : Type 0} (P Q : X → Type 0) (xs : List X) → ((x : X) → P x → Q x) → Each P xs → Each Q xs
Each-of P Q [] more all = tt
Each-of P Q (x ∷ xs) more all = (more x all.0, Each-of P Q xs more all.1)

-- a list is empty or has a last item
pub last_cases : {X : Type 0} (xs : List X) → (xs ≡ []) ⊎ ((ys : List X) × (y : X) × (xs ≡ ys ++ y ∷ []))
last_cases [] = inl refl
last_cases (x ∷ xs) = elim (last_cases xs) [
  | inl none ↦ inr ([], x, ap (λ zs. x ∷ zs) none)
  | inr some ↦ inr (x ∷ some.0, some.1, ap (λ zs. x ∷ zs) some.2)
]

pub without_last-more : {X : Type 0} (xs : List X) (x : X) → without_last (xs ++ x ∷ []) ≡ xs
without_last-more [] x = refl
without_last-more (y ∷ []) x = refl
without_last-more (y ∷ z ∷ zs) x = ap (λ us. y ∷ us) (without_last-more (z ∷ zs) x)

pub last-same : {X : Type 0} (xs ys : List X) (x y : X) → xs ++ x ∷ [] ≡ ys ++ y ∷ [] → (xs ≡ ys) × (x ≡ y)
last-same xs ys x y same =
    let lists : xs ≡ ys = sym (without_last-more xs x) ∙ (ap without_last same ∙ without_last-more ys y) in
    let ends : ys ++ x ∷ [] ≡ ys ++ y ∷ [] = ap (λ zs. zs ++ x ∷ []) (sym lists) ∙ same in
    (lists, last_item ys x y ends) where
      last_item : {X : Type 0} (ys : List X) (x y : X) → ys ++ x ∷ [] ≡ ys ++ y ∷ [] → x ≡ y
      last_item [] x y is = ap (λ zs. get_or zs 0 x) is
      last_item (z ∷ zs) x y is = last_item zs x y (ap (drop 1) is)

-- an entry is before a cursor
abbrev pub IsBeforeCursor : Geometry → Cursor → Entry → Type 0
IsBeforeCursor g at e = (e.channel < g.channels) × (e.frame < first_free at e.channel)

-- entries rise by frame and channel
abbrev pub AreRising : Geometry → List Entry → Type 0
AreRising g [] = ⊤
AreRising g (e ∷ es) = Each (λ x. IsBeforeCursor g (place_at x) e) es × AreRising g es

pub AreRising-more : (g : Geometry) (es : List Entry) (e : Entry) → AreRising g es → Each (IsBeforeCursor g (place_at e)) es → AreRising g (es ++ e ∷ [])
AreRising-more g [] e rising before = (tt, tt)
AreRising-more g (x ∷ xs) e rising before = (Each-append (λ y. IsBeforeCursor g (place_at y) x) xs (e ∷ []) rising.0 (before.0, tt), AreRising-more g xs e rising.1 before.1)

pub AreRising-less : (g : Geometry) (es : List Entry) (e : Entry) → AreRising g (es ++ e ∷ []) → AreRising g es × Each (IsBeforeCursor g (place_at e)) es
AreRising-less g [] e rising = (tt, tt)
AreRising-less g (x ∷ xs) e rising =
    let rest : AreRising g xs × Each (IsBeforeCursor g (place_at e)) xs = AreRising-less g xs e rising.1 in
    let last : Each (λ y. IsBeforeCursor g (place_at y) x) (e ∷ []) = Each-right (λ y. IsBeforeCursor g (place_at y) x) xs (e ∷ []) rising.0 in
    ((Each-left (λ y. IsBeforeCursor g (place_at y) x) xs (e ∷ []) rising.0, rest.0), (last.0, rest.1))

-- which standing adds may still be withdrawn: all are before the cursor; after those that are before the floor they end
-- in these, which rise
pub record IsHolding (g : Geometry) (m : Marks) (held free : List Entry) : Type 0 where
  pub before : Each (IsBeforeCursor g m.cursor) held
  pub rising : AreRising g free
  pub ends : (early : List Entry) × (held ≡ early ++ free) × Each (IsBeforeCursor g m.floor) early

-- what may still be withdrawn after an add
abbrev pub free_after : Bool → List Entry → Entry → List Entry
free_after true free e = e ∷ []
free_after false free e = free ++ e ∷ []

pub behind_up : (g : Geometry) (a b : Cursor) → ((d : ℕ) → d < g.channels → first_free a d ≤ first_free b d) → (x : Entry) → IsBeforeCursor g a x → IsBeforeCursor g b x
behind_up g a b up x is = (is.0, omega (arith, is.1, up x.channel is.0))

pub IsHolding-add : (g : Geometry) (m : Marks) (held free : List Entry) (e : Entry) → IsHolding g m held free
    → ((c : ℕ) → first_free m.cursor c ≤ first_free m.high c) → e.channel < g.channels → IsFrom m.cursor e.frame e.channel
    → IsHolding g (added_at g m e.frame e.channel) (held ++ e ∷ []) (free_after (is_before m.cursor m.high) free e)
IsHolding-add g m held free e x cursor_high channel from =
    let f : ℕ = e.frame in
    let c : ℕ = e.channel in
    let behind_it : first_free (cursor_after g f c) c ≡ f + 1 = first_free-behind_low g f c c channel (omega arith) in
    let grows : (d : ℕ) → d < g.channels → first_free m.cursor d ≤ first_free (cursor_after g f c) d = λ d d_in. first_free-behind_grows g m.cursor f c d from d_in in
    let self : IsBeforeCursor g (cursor_after g f c) e = (channel, omega (arith, behind_it)) in
    let all : Each (IsBeforeCursor g (cursor_after g f c)) (held ++ e ∷ []) =
    Each-append (IsBeforeCursor g (cursor_after g f c)) held (e ∷ []) (Each-of (IsBeforeCursor g m.cursor) (IsBeforeCursor g (cursor_after g f c)) held (behind_up g m.cursor (cursor_after g f c) grows) x.before) (self, tt) in
    elim (cases_Bool (is_before m.cursor m.high)) [
      | inl before ↦ rw before (record {
        before = all;
        rising = (tt, tt);
        ends = (held, refl, Each-of (IsBeforeCursor g m.cursor) (IsBeforeCursor g m.high) held (behind_up g m.cursor m.high (λ d d_in. cursor_high d)) x.before);
      })
      | inr level ↦
          let parted : Each (IsBeforeCursor g m.cursor) (x.ends.0 ++ free) = subst (Each (IsBeforeCursor g m.cursor)) x.ends.1 x.before in
          let at_place : Each (IsBeforeCursor g (place_at e)) free =
          Each-of (IsBeforeCursor g m.cursor) (IsBeforeCursor g (place_at e)) free (behind_up g m.cursor (place_at e) (λ d d_in. up_to_place m.cursor f c d from))
          (Each-right (IsBeforeCursor g m.cursor) x.ends.0 free parted) in
          rw level (record {
            before = all;
            rising = AreRising-more g free e x.rising at_place;
            ends = (x.ends.0, ap (λ es. es ++ e ∷ []) x.ends.1 ∙ append_assoc x.ends.0 free (e ∷ []), x.ends.2);
          })
    ]

-- what is withdrawn is the last one of these
pub IsHolding-last : (g : Geometry) (m : Marks) (early free : List Entry) (e : Entry) → IsHolding g m (early ++ e ∷ []) free → IsFrom m.floor e.frame e.channel
    → free ≡ without_last free ++ e ∷ []
IsHolding-last g m early free e x from = elim (last_cases free) [
  | inl none ↦
      let all_early : early ++ e ∷ [] ≡ x.ends.0 = x.ends.1 ∙ (ap (λ es. x.ends.0 ++ es) none ∙ append-nil x.ends.0) in
      let low : Each (IsBeforeCursor g m.floor) (early ++ e ∷ []) = subst (Each (IsBeforeCursor g m.floor)) (sym all_early) x.ends.2 in
      let own : Each (IsBeforeCursor g m.floor) (e ∷ []) = Each-right (IsBeforeCursor g m.floor) early (e ∷ []) low in
      absurd (omega (arith, own.0.1, from))
  | inr some ↦
      let joined : early ++ e ∷ [] ≡ (x.ends.0 ++ some.0) ++ some.1 ∷ [] = x.ends.1 ∙ (ap (λ es. x.ends.0 ++ es) some.2 ∙ sym (append_assoc x.ends.0 some.0 (some.1 ∷ []))) in
      let same : (early ≡ x.ends.0 ++ some.0) × (e ≡ some.1) = last-same early (x.ends.0 ++ some.0) e some.1 joined in
      let less : without_last free ≡ some.0 = ap without_last some.2 ∙ without_last-more some.0 some.1 in
      some.2 ∙ (ap (λ es. es ++ some.1 ∷ []) (sym less) ∙ ap (λ y. without_last free ++ y ∷ []) (sym same.1))
]

pub IsHolding-withdraw : (g : Geometry) (m : Marks) (early free : List Entry) (e : Entry) → IsHolding g m (early ++ e ∷ []) free → IsFrom m.floor e.frame e.channel
    → IsHolding g (withdrawn_at m e.frame e.channel) early (without_last free)
IsHolding-withdraw g m early free e x from =
    let last : free ≡ without_last free ++ e ∷ [] = IsHolding-last g m early free e x from in
    let joined : early ++ e ∷ [] ≡ (x.ends.0 ++ without_last free) ++ e ∷ [] = x.ends.1 ∙ (ap (λ es. x.ends.0 ++ es) last ∙ sym (append_assoc x.ends.0 (without_last free) (e ∷ []))) in
    let same : early ≡ x.ends.0 ++ without_last free = (last-same early (x.ends.0 ++ without_last free) e e joined).0 in
    let less : AreRising g (without_last free) × Each (IsBeforeCursor g (place_at e)) (without_last free) = AreRising-less g (without_last free) e (subst (AreRising g) last x.rising) in
    let low : Each (IsBeforeCursor g (place_at e)) x.ends.0 =
    Each-of (IsBeforeCursor g m.floor) (IsBeforeCursor g (place_at e)) x.ends.0 (behind_up g m.floor (place_at e) (λ d d_in. up_to_place m.floor e.frame e.channel d from)) x.ends.2 in
    record {
      before = subst (Each (IsBeforeCursor g (place_at e))) (sym same) (Each-append (IsBeforeCursor g (place_at e)) x.ends.0 (without_last free) low less.1);
      rising = less.0;
      ends = (x.ends.0, same, x.ends.2);
    }

-- what holds of each holds of all but the last one
pub each_without : {X : Type 0} (P : X → Type 0) (xs : List X) → Each P xs → Each P (without_last xs)
each_without P [] all = tt
each_without P (x ∷ []) all = tt
each_without P (x ∷ y ∷ ys) all = (all.0, each_without P (y ∷ ys) all.1)

pub each_filter : {X : Type 0} (P : X → Type 0) (test : X → Bool) (xs : List X) → Each P xs → Each P (filter test xs)
each_filter P test [] all = tt
each_filter P test (x ∷ xs) all = elim (cases_Bool (test x)) [
  | inl kept ↦ rw kept (all.0, each_filter P test xs all.1)
  | inr out ↦ rw out (each_filter P test xs all.1)
]

pub standing-each : (P : Entry → Type 0) (es : List Entry) → Each P es → Each P (standing es)
standing-each P es all = from [] es tt all where
  stood_each : (k : Kind) (held : List Entry) (e : Entry) → Each P held → P e → Each P (standing_with k held e)
  stood_each Added held e all one = Each-append P held (e ∷ []) all (one, tt)
  stood_each Withdrawn held e all one = each_without P held all

  from : (held xs : List Entry) → Each P held → Each P xs → Each P (fold stand_after held xs)
  from held [] first then = first
  from held (x ∷ xs) first then = from (stand_after held x) xs (stood_each x.kind held x first then.0) then.1

-- each entry counts at its own place
pub each_counted : (es : List Entry) → Each (λ e. 1 ≤ count es e.frame e.channel) es
each_counted es = from [] es where
  from : (before xs : List Entry) → Each (λ e. 1 ≤ count (before ++ xs) e.frame e.channel) xs
  from before [] = tt
  from before (x ∷ xs) =
      let here : is_at x.frame x.channel x ≡ true = grind (arith, nat_tests) in
      let one : count (x ∷ []) x.frame x.channel ≡ 1 = rw here refl in (
        omega (arith, count-append before (x ∷ xs) x.frame x.channel, count-append (x ∷ []) xs x.frame x.channel, one),
        subst (λ zs. Each (λ e. 1 ≤ count zs e.frame e.channel) xs) (append_assoc before (x ∷ []) xs) (from (before ++ x ∷ []) xs),
      )
