-- The greatest frame that a seat placed in is the last one before its high.
use Rattle.sum_table.specs.Prelude.{ap, arith, Bool, false, if◌then◌else◌, is_some, List, max, None, Option, refl, Some, subst, suc, sym, true, zero, ℕ, []}
use Rattle.sum_table.specs.Prelude.{◌+◌, ◌<◌, ◌∙◌, ◌∷◌, ◌≡◌, ◌≤◌, false≢true, nat_tests, get_elem?, some, some-injective, some-ne-none, Geometry, Cursor}
use Rattle.sum_table.specs.Prelude.{cursor_after, first_frame, first_free, IsFrom, Marks, Entry, added_at, high_frame, is_before, last_before, later_of}
use Rattle.sum_table.specs.Prelude.{start_of, withdrawn_at, joined_marks, free_from, greater, IsReach, last_frame}

-- the last frame before a cursor, where that is past a start
abbrev frame_before : Cursor → Cursor → Option ℕ
frame_before start at = if is_before start at then Some (last_before at) else None

abbrev frame_if : Bool → Cursor → Option ℕ
frame_if past at = if past then Some (last_before at) else None

later-last : (a b : Cursor) → is_before a b ≡ true → last_before b ≡ max (last_before a) (last_before b)
later-last a b before = grind (arith, nat_tests)

first-last : (a b : Cursor) → is_before a b ≡ false → last_before a ≡ max (last_before a) (last_before b)
first-last a b before = grind (arith, nat_tests)

both-past : (start a b : Cursor) → is_before a b ≡ true → is_before start a ≡ true → is_before start b ≡ true
both-past start a b before past = grind (arith, nat_tests)

first-past : (start a b : Cursor) → is_before a b ≡ false → is_before start b ≡ true → is_before start a ≡ true
first-past start a b before past = grind (arith, nat_tests)

later-frame : (start a b : Cursor) → frame_before start (later_of a b) ≡ greater (frame_before start a) (frame_before start b)
later-frame start a b = by_tests (is_before a b) refl (is_before start a) refl (is_before start b) refl
  where
    by_tests : (x : Bool) → is_before a b ≡ x → (y : Bool) → is_before start a ≡ y → (z : Bool) → is_before start b ≡ z
        → frame_before start (if x then b else a) ≡ greater (frame_if y a) (frame_if z b)
    by_tests true ab true sa true sb = ap (λ past. frame_if past b) sb ∙ ap Some (later-last a b ab)
    by_tests true ab true sa false sb = absurd (false≢true (sym sb ∙ both-past start a b ab sa))
    by_tests true ab false sa z sb = ap (λ past. frame_if past b) sb
    by_tests false ab true sa true sb = ap (λ past. frame_if past a) sa ∙ ap Some (first-last a b ab)
    by_tests false ab true sa false sb = ap (λ past. frame_if past a) sa
    by_tests false ab false sa true sb = absurd (false≢true (sym sa ∙ first-past start a b ab sb))
    by_tests false ab false sa false sb = ap (λ past. frame_if past a) sa

-- an add raises the high to right after it, where it isn't past that
high_frame-added : (g : Geometry) (m : Marks) (f c : ℕ) → c < g.channels → first_frame g ≤ f
    → high_frame g (added_at g m f c) ≡ greater (high_frame g m) (Some f)
high_frame-added g m f c channel low = grind (arith, nat_tests)

pub greater_none : (o : Option ℕ) → greater o None ≡ o
greater_none None = refl
greater_none (Some n) = refl

-- a frame that is among some doesn't change the greatest of them, and neither of more
greater-own : (o : Option ℕ) (x y : ℕ) → x ≡ y → greater (greater (Some x) o) (Some y) ≡ greater (Some x) o
greater-own o x y same = grind arith

greater-past : (o : Option ℕ) (x y : ℕ) → greater o (Some y) ≡ o → greater (greater (Some x) o) (Some y) ≡ greater (Some x) o
greater-past o x y is = grind arith

-- the greatest frame of some entries is that of them and of one of them
pub last_frame-has : (es : List Entry) (i : ℕ) (e : Entry) → get_elem? es i ≡ some e → greater (last_frame es) (Some e.frame) ≡ last_frame es
last_frame-has [] i e there = absurd (some-ne-none e (sym there))
last_frame-has (x ∷ xs) zero e there = greater-own (last_frame xs) x.frame e.frame (ap (λ (y : Entry). y.frame) (some-injective x e there))
last_frame-has (x ∷ xs) (suc i) e there = greater-past (last_frame xs) x.frame e.frame (last_frame-has xs i e there)

-- where some entries have no greatest frame there is no entry
pub last_frame-nil : (es : List Entry) → is_some (last_frame es) ≡ false → es ≡ []
last_frame-nil [] none = refl
last_frame-nil (e ∷ es) none = absurd (false≢true (sym none ∙ ever (last_frame es)))
  where
    ever : (o : Option ℕ) → is_some (greater (Some e.frame) o) ≡ true
    ever None = refl
    ever (Some n) = refl

-- ---- what is free after it

-- a cursor isn't past the frame after the last one before it
high-free : (g : Geometry) (at : Cursor) → IsFrom at (free_from g (frame_before (start_of g) at)) 0
high-free g at = grind (arith, nat_tests)

high_free : (g : Geometry) (m : Marks) (last : Option ℕ) → high_frame g m ≡ last → IsFrom m.high (free_from g last) 0
high_free g m last is = subst (λ o. IsFrom m.high (free_from g o) 0) is (high-free g m.high)

-- and after an add
pub IsReach-added : (g : Geometry) (m : Marks) (places : ℕ) (last : Option ℕ) (f c : ℕ) → IsReach g m places last → 0 < places → c < g.channels → first_frame g ≤ f
    → IsReach g (added_at g m f c) places (greater last (Some f))
IsReach-added g m places last f c is placed channel low =
    let here : f + 1 ≤ free_from g (greater last (Some f)) = has last in
    record {
      high = high_frame-added g m f c channel low ∙ ap (λ o. greater o (Some f)) is.high;
      cursor = omega (arith, behind_free, here);
      floor = floor_by (is_before m.cursor m.high);
      none = λ none_left. absurd (omega (arith, none_left, placed));
    }
  where
    behind_free : first_free (cursor_after g f c) 0 ≤ f + 1
    behind_free = grind (arith, nat_tests)

    grows : (o : Option ℕ) → free_from g o ≤ free_from g (greater o (Some f))
    grows None = omega (arith, low)
    grows (Some l) = omega arith

    has : (o : Option ℕ) → f + 1 ≤ free_from g (greater o (Some f))
    has None = omega arith
    has (Some l) = omega arith

    floor_by : (before : Bool) → IsFrom (if before then m.high else m.floor) (free_from g (greater last (Some f))) 0
    floor_by true = omega (arith, high_free g m last is.high, grows last)
    floor_by false = omega (arith, is.floor, grows last)

-- and after a withdrawal in a frame that was placed in before
pub IsReach-withdrawn : (g : Geometry) (m : Marks) (places : ℕ) (last : Option ℕ) (f c : ℕ) → IsReach g m places last → greater last (Some f) ≡ last
    → IsReach g (withdrawn_at m f c) places (greater last (Some f))
IsReach-withdrawn g m places last f c is had = grind (arith, nat_tests)

-- and after a join
pub IsReach-joined : (g : Geometry) (a b : Marks) (p q : ℕ) (l m : Option ℕ) → IsReach g a p l → IsReach g b q m
    → IsReach g (joined_marks a b q) (p + q) (greater l m)
IsReach-joined g a b p zero l m first second =
    let same : l ≡ greater l m = sym (ap (greater l) (second.none refl) ∙ greater_none l) in
    subst (λ n. IsReach g a n (greater l m)) (omega arith) (subst (IsReach g a p) same first)
IsReach-joined g a b p (suc q) l m first second =
    let later : high_frame g (joined_marks a b (suc q)) ≡ greater l m =
    later-frame (start_of g) a.high b.high ∙ (ap (λ o. greater o (high_frame g b)) first.high ∙ ap (greater l) second.high) in
    let free = high_free g (joined_marks a b (suc q)) (greater l m) later in
    record { high = later; cursor = free; floor = free; none = λ none_left. absurd (omega arith) }
