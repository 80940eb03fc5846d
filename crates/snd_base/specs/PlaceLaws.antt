-- Laws of places: how a cursor moves, and which frames share a word of the ring.
use Rattle.std.specs.Prelude.{◌≡◌, ℕ, ◌+◌, ◌-◌, ◌*◌, ◌/◌, ◌%◌, ◌<◌, ◌≤◌, ◌==◌, ◌&&◌, ◌||◌, nat_lt}
use Rattle.std.proofs.Common.{arith, ap, sym, ◌∙◌}
use Rattle.std.proofs.Math.Nat.{lt_of_mul-lt-mul_left, mul-le-mul_left, div-add-mod, div-lt_iff_lt-mul, mod-lt, add-mul-mod_self_left}
use Rattle.std.proofs.lemmas.Nat.{div-add-mod', div-mul-add, mod-mul-add, mul-add-lt, same_from_place}
use Rattle.std.proofs.lemmas.Bool.Decides.{nat_tests}
use Rattle.snd_base.specs.declared.geometry.Geometry.{Geometry}
use Rattle.snd_base.specs.declared.places.Cursor.{Cursor}
use Rattle.snd_base.specs.Places.{IsFrom, cursor_after, end_frame, first_free, lap, next_word, slot, word_index}

-- after a frame and channel, the channels up to this one go on with the next frame
pub first_free-behind_low : (g : Geometry) (f c d : ℕ) → c < g.channels → d ≤ c → first_free (cursor_after g f c) d ≡ f + 1
first_free-behind_low g f c d in_range low = grind (arith, nat_tests)

-- and the channels after it with this frame
pub first_free-behind_high : (g : Geometry) (f c d : ℕ) → c < d → d < g.channels → first_free (cursor_after g f c) d ≡ f
first_free-behind_high g f c d high in_range = grind (arith, nat_tests)

-- a cursor that moves past a frame and channel from it on moves back for no channel
pub first_free-behind_grows : (g : Geometry) (at : Cursor) (f c d : ℕ) → IsFrom at f c → d < g.channels → first_free at d ≤ first_free (cursor_after g f c) d
first_free-behind_grows g at f c d from in_range = grind (arith, nat_tests)

-- what is before the cursor after a place is that place and what was before it
pub nat_lt-behind : (g : Geometry) (at : Cursor) (f c : ℕ) → at.channel < g.channels → c < g.channels
    → nat_lt f (first_free (cursor_after g at.frame at.channel) c) ≡ (((at.frame == f) && (at.channel == c)) || nat_lt f (first_free at c))
nat_lt-behind g at f c here in_range = grind (arith, nat_tests)

-- of two numbers with one remainder the greater has the greater quotient
pub div-lt_same : (n f k : ℕ) → f % n ≡ k % n → f < k → f / n < k / n
div-lt_same n f k same later =
    let below : n * (f / n) < n * (k / n) = omega (arith, div-add-mod f n, div-add-mod k n) in
    lt_of_mul-lt-mul_left n below

-- two numbers less than n apart with one remainder are one
pub mod-same_lt : (n f k : ℕ) → f % n ≡ k % n → f ≤ k → k < f + n → ¬ (f < k)
mod-same_lt n f k same up near later =
    let quotient : f / n + 1 ≤ k / n = omega (arith, div-lt_same n f k same later) in
    let product : n * (f / n + 1) ≤ n * (k / n) = mul-le-mul_left n quotient in
    omega (arith, product, div-add-mod f n, div-add-mod k n)

pub mod-same : (n low f k : ℕ) → low ≤ f → f < low + n → low ≤ k → k < low + n → f % n ≡ k % n → f ≡ k
mod-same n low f k f_low f_high k_low k_high same =
    let not_below : ¬ (f < k) = λ h. mod-same_lt n f k same (omega arith) (omega arith) h in
    let not_above : ¬ (k < f) = λ h. mod-same_lt n k f (sym same) (omega arith) (omega arith) h in
    omega (arith, not_below, not_above)

-- each number has one with its remainder among n numbers in a row
pub mod-window : (n low f : ℕ) → 0 < n → (k : ℕ) × ((low ≤ k) × ((k < low + n) × (k % n ≡ f % n)))
mod-window n low f some =
    let x : ℕ = f + (n * low - low) in
    let k : ℕ = low + x % n in
    let enough : 1 * low ≤ n * low = grind arith in
    let same_sum : k + n * (x / n) ≡ f + n * low = omega (arith, div-add-mod x n, enough) in (
      k,
      (
        omega arith,
        (
          omega (arith, mod-lt x some),
          sym (add-mul-mod_self_left k n (x / n)) ∙ (ap (λ y. y % n) same_sum ∙ add-mul-mod_self_left f n low),
        ),
      ),
    )

-- the next number in the same row, or at the start of the next
pub div-suc_low : (n w : ℕ) → n % w + 1 < w → (n + 1) / w ≡ n / w
div-suc_low n w h =
    let e : n + 1 ≡ n / w * w + (n % w + 1) = omega (arith, div-add-mod' n w) in
    ap (λ x. x / w) e ∙ div-mul-add (n / w) w (n % w + 1) h

pub mod-suc_low : (n w : ℕ) → n % w + 1 < w → (n + 1) % w ≡ n % w + 1
mod-suc_low n w h =
    let e : n + 1 ≡ n / w * w + (n % w + 1) = omega (arith, div-add-mod' n w) in
    ap (λ x. x % w) e ∙ mod-mul-add (n / w) w (n % w + 1) h

pub div-suc_high : (n w : ℕ) → 0 < w → w ≤ n % w + 1 → (n + 1) / w ≡ n / w + 1
div-suc_high n w some h =
    let last : n % w + 1 ≡ w = omega (arith, mod-lt n some) in
    let e : n + 1 ≡ (n / w + 1) * w + 0 = grind (arith, div-add-mod' n w) in
    ap (λ x. x / w) e ∙ div-mul-add (n / w + 1) w 0 some

pub mod-suc_high : (n w : ℕ) → 0 < w → w ≤ n % w + 1 → (n + 1) % w ≡ 0
mod-suc_high n w some h =
    let last : n % w + 1 ≡ w = omega (arith, mod-lt n some) in
    let e : n + 1 ≡ (n / w + 1) * w + 0 = grind (arith, div-add-mod' n w) in
    ap (λ x. x % w) e ∙ mod-mul-add (n / w + 1) w 0 some

-- one more word was used: the next one is after the last
pub next_word-suc : (g : Geometry) (n : ℕ) → next_word g (n + 1) ≡ cursor_after g (next_word g n).frame (next_word g n).channel
next_word-suc g n =
    let some : 0 < g.channels = omega (arith, g.channels_least) in
    let row : g.channels ≤ n % g.channels + 1 → ((n + 1) / g.channels ≡ n / g.channels + 1) × ((n + 1) % g.channels ≡ 0) = λ h. (div-suc_high n g.channels some h, mod-suc_high n g.channels some h) in
    let same : n % g.channels + 1 < g.channels → ((n + 1) / g.channels ≡ n / g.channels) × ((n + 1) % g.channels ≡ n % g.channels + 1) = λ h. (div-suc_low n g.channels h, mod-suc_low n g.channels h) in
    grind (arith, nat_tests, row, same)

-- two places that have one word of the ring have one slot and one channel
pub word_index-same : (g : Geometry) (f c k d : ℕ) → c < g.channels → d < g.channels → word_index g f c ≡ word_index g k d → (slot g f ≡ slot g k) × (c ≡ d)
word_index-same g f c k d c_in d_in same = same_from_place (slot g f) c (slot g k) d g.channels c_in d_in same

-- each frame and channel has a word of its slot and channel
pub word_index-lt : (g : Geometry) (f c : ℕ) → c < g.channels → word_index g f c < g.frames * g.channels
word_index-lt g f c in_range =
    let below : slot g f < g.frames = mod-lt f (omega (arith, g.frames_least)) in
    let place : slot g f * g.channels + c < g.channels * g.frames = mul-add-lt (slot g f) g.channels c g.frames below in_range in
    grind arith

-- a frame whose lap fits a word has a next one up to the end
pub suc-le-end_frame : (g : Geometry) (f : ℕ) → lap g f < 4294967295 → f + 1 ≤ end_frame g
suc-le-end_frame g f fits =
    let some : 0 < g.frames = omega (arith, g.frames_least) in
    let below : f < 4294967295 * g.frames = (div-lt_iff_lt-mul some).0 fits in
    omega arith
