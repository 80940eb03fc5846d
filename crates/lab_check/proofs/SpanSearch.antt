-- A frame is looked up among spans.
use Rattle.lab_check.specs.Prelude.{ap, arith, get_or, length, List, None, refl, Some, subst, sym, take, ℕ, [], ◌++◌, ◌+◌, ◌-◌, ◌<◌, ◌^◌, ◌∙◌, ◌∷◌, ◌≡◌, ◌≤◌}
use Rattle.lab_check.specs.Prelude.{or-false, or_assoc, nat_tests, length-map, map-append, take_more, list_any_none, list_any, position, prefix_len, Bool, cond}
use Rattle.lab_check.specs.Prelude.{false, map, max, min, nat_le, nat_lt, not, slice_index_or, suc, true, zero, ◌&&◌, ◌||◌, FrameSpan, greatest_ends}
use Rattle.lab_check.specs.Prelude.{is_in_span}

-- ---- one span

le-max : (frame a b : ℕ) → nat_le frame (max a b) ≡ (nat_le frame a || nat_le frame b)
le-max frame a b = grind (arith, nat_tests)

-- the frames up to the one that is so many behind a first one
pub span-frames : (frame first count last : ℕ) → frame < 2 ^ 64 → last ≡ min (first + count) (2 ^ 64 - 1)
    → (nat_le first frame && nat_le frame last) ≡ (nat_le first frame && nat_le (frame - first) count)
span-frames frame first count last low last_is = grind (arith, nat_tests)

-- ---- spans, one after the other

pub ends-length : (most : ℕ) (spans : List FrameSpan) → length (greatest_ends most spans) ≡ length spans
ends-length most [] = refl
ends-length most (span ∷ spans) = ap suc (ends-length (max most span.last) spans)

-- no span begins by a frame
pub none-begins : (frame : ℕ) (spans : List FrameSpan) → ((j : ℕ) (d : FrameSpan) → j < length spans → nat_le (slice_index_or spans j d).first frame ≡ false)
    → list_any (is_in_span frame) spans ≡ false
none-begins frame spans late =
    list_any_none (is_in_span frame) spans (λ j d below. ap (λ b. b && nat_le frame (slice_index_or spans j d).last) (late j d below))

-- as many as k of the spans begin by a frame
looked-up : (most frame k : ℕ) (spans : List FrameSpan) → k ≤ length spans
    → ((j : ℕ) (d : FrameSpan) → j < k → nat_le (slice_index_or spans j d).first frame ≡ true)
    → ((j : ℕ) (d : FrameSpan) → k ≤ j → j < length spans → nat_le (slice_index_or spans j d).first frame ≡ false)
    → (nat_le frame most || list_any (is_in_span frame) spans) ≡ nat_le frame (slice_index_or (most ∷ greatest_ends most spans) k 0)
looked-up most frame zero spans low early late =
    ap (λ b. nat_le frame most || b) (none-begins frame spans (λ j d below. late j d (omega arith) below))
    ∙ or-false (nat_le frame most)
looked-up most frame (suc k) [] low early late = absurd (omega (arith, low))
looked-up most frame (suc k) (span ∷ spans) low early late =
    let here : nat_le span.first frame ≡ true = early zero span (omega arith) in
    let any = list_any (is_in_span frame) spans in
    ap (λ b. nat_le frame most || ((b && nat_le frame span.last) || any)) here
    ∙ sym (or_assoc (nat_le frame most) (nat_le frame span.last) any)
    ∙ ap (λ b. b || any) (sym (le-max frame most span.last))
    ∙ looked-up (max most span.last) frame k spans (omega (arith, low)) (λ j d below. early (suc j) d (omega (arith, below)))
    (λ j d from below. late (suc j) d (omega (arith, from)) (omega (arith, below)))

-- the greatest last frame so far tells of all spans that begin by a frame
pub found : (frame k : ℕ) (spans : List FrameSpan) → k < length spans
    → ((j : ℕ) (d : FrameSpan) → j < suc k → nat_le (slice_index_or spans j d).first frame ≡ true)
    → ((j : ℕ) (d : FrameSpan) → suc k ≤ j → j < length spans → nat_le (slice_index_or spans j d).first frame ≡ false)
    → list_any (is_in_span frame) spans ≡ nat_le frame (slice_index_or (greatest_ends 0 spans) k 0)
found frame k [] low early late = absurd (omega (arith, low))
found frame k (span ∷ spans) low early late =
    let here : nat_le span.first frame ≡ true = early zero span (omega arith) in
    let same : span.last ≡ max 0 span.last = omega arith in
    ap (λ b. (b && nat_le frame span.last) || list_any (is_in_span frame) spans) here
    ∙ looked-up span.last frame k spans (omega (arith, low)) (λ j d below. early (suc j) d (omega (arith, below)))
    (λ j d from below. late (suc j) d (omega (arith, from)) (omega (arith, below)))
    ∙ ap (λ most. nat_le frame (slice_index_or (most ∷ greatest_ends most spans) k 0)) same

-- ---- lists of indexes

-- ---- the place of a test among the answers

answers-before : {X : Type 0} (test : X → Bool) (xs : List X) → prefix_len (λ b. not (not b)) (map test xs) ≡ prefix_len (λ x. not (not (test x))) xs
answers-before test [] = refl
answers-before test (x ∷ xs) = ap (λ n. cond (not (not (test x))) (1 + n) 0) (answers-before test xs)

pub position-map : {X : Type 0} (test : X → Bool) (xs : List X) → position (λ b. not b) (map test xs) ≡ position (λ x. not (test x)) xs
position-map test xs =
    ap (λ n. cond (nat_lt n (length (map test xs))) (Some n) None) (answers-before test xs)
    ∙ ap (λ n. cond (nat_lt (prefix_len (λ x. not (not (test x))) xs) n) (Some (prefix_len (λ x. not (not (test x))) xs)) None) (length-map xs test)

-- one answer more
pub map-more : {X Y : Type 0} (f : X → Y) (xs ys : List X) (k : ℕ) (d : X) → ys ≡ xs → k < length ys
    → map f (take k xs) ++ f (get_or ys k d) ∷ [] ≡ map f (take (k + 1) xs)
map-more {X} f xs ys k d same low =
    let within : k < length xs = subst (λ (l : List X). k < length l) same low in
    ap (λ (l : List X). map f (take k xs) ++ f (get_or l k d) ∷ []) same
    ∙ sym (ap (map f) (take_more xs k d within) ∙ map-append f (take k xs) (get_or xs k d ∷ []))
