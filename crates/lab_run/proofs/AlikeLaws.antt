-- Laws of courses that differ in samples and words alone.
use Rattle.lab_run.specs.Prelude.{Option, refl, sym, ℕ, Bool, false, if◌then◌else◌, true, Ended, Late, Stopped, Whole, Entry, Position, Got, Course, ends, gets}
use Rattle.lab_run.specs.Prelude.{lays, loads, Takes, ◌>>=◌, Alike, IsFromOn, IsSamePlace}
use Rattle.snoop_core.specs.declared.port.Got.TheVariants as got

-- one course after another
pub Alike-then : {A B C D : Type 0} (from : ℕ) (Q : A → B → Type 0) (R : C → D → Type 0) (m : Course A) (n : Course B) (f : A → Course C) (g : B → Course D)
    → Alike from Q m n → ((x : A) (y : B) → Q x y → Alike from R (f x) (g y)) → Alike from R (m >>= f) (n >>= g)
unfolding ◌>>=◌
Alike-then from Q R (ends x) (ends y) f g alike next = next x y alike
Alike-then from Q R (loads m) (loads n) f g alike next = λ load after. Alike-then from Q R (m load) (n load) f g (alike load after) next
Alike-then from Q R (lays e m) (lays d n) f g alike next = (
  alike.0,
  Alike-then from Q R (m Whole) (n Whole) f g alike.1 next,
  λ word. Alike-then from Q R (m (Late word)) (n (Late 0)) f g (alike.2 word) next,
  Alike-then from Q R (m Stopped) (n Stopped) f g alike.3 next,
)
Alike-then from Q R (gets frame m) (gets other n) f g alike next = (
  alike.0,
  Alike-then from Q R (m got.Whole) (n got.Whole) f g alike.1 next,
  λ channel word. Alike-then from Q R (m (got.Overtaken channel word)) (n (got.Overtaken channel 0)) f g (alike.2 channel word) next,
  Alike-then from Q R (m got.Stopped) (n got.Stopped) f g alike.3 next,
)
Alike-then from Q R (ends x) (loads n) f g alike next = elim alike [ ]
Alike-then from Q R (ends x) (lays d n) f g alike next = elim alike [ ]
Alike-then from Q R (ends x) (gets other n) f g alike next = elim alike [ ]
Alike-then from Q R (loads m) (ends y) f g alike next = elim alike [ ]
Alike-then from Q R (loads m) (lays d n) f g alike next = elim alike [ ]
Alike-then from Q R (loads m) (gets other n) f g alike next = elim alike [ ]
Alike-then from Q R (lays e m) (ends y) f g alike next = elim alike [ ]
Alike-then from Q R (lays e m) (loads n) f g alike next = elim alike [ ]
Alike-then from Q R (lays e m) (gets other n) f g alike next = elim alike [ ]
Alike-then from Q R (gets frame m) (ends y) f g alike next = elim alike [ ]
Alike-then from Q R (gets frame m) (loads n) f g alike next = elim alike [ ]
Alike-then from Q R (gets frame m) (lays d n) f g alike next = elim alike [ ]

-- by a test
pub Alike-if : {X Y : Type 0} (from : ℕ) (R : X → Y → Type 0) (test : Bool) (a b : Course X) (c d : Course Y) → Alike from R a c → Alike from R b d
    → Alike from R (if test then a else b) (if test then c else d)
Alike-if from R true a b c d first second = first
Alike-if from R false a b c d first second = second

-- how a step ended, without its word
abbrev pub without_word : Ended → Ended
without_word Whole = Whole
without_word (Late word) = Late 0
without_word Stopped = Stopped

abbrev pub got_without_word : Got → Got
got_without_word got.Whole = got.Whole
got_without_word (got.Overtaken channel word) = got.Overtaken channel 0
got_without_word got.Stopped = got.Stopped

-- where each step of one world is a step of another but for samples and words, a course is taken there by one that is like it
pub Takes-alike : {S W X Y : Type 0} (L : S → Option Position → S → Type 0) (P : S → Entry → Ended → S → Type 0) (G : S → ℕ → Got → S → Type 0)
    (M : W → Option Position → W → Type 0) (Q : W → Entry → Ended → W → Type 0) (H : W → ℕ → Got → W → Type 0) (IsAt : S → W → Type 0) (from : ℕ) (R : X → Y → Type 0)
    → ((s t : S) (w : W) (load : Option Position) → IsAt s w → L s load t → (v : W) × M w load v × IsAt t v × IsFromOn from load)
    → ((s t : S) (w : W) (e d : Entry) (ended : Ended) → IsSamePlace e d → IsAt s w → P s e ended t → (v : W) × Q w d (without_word ended) v × IsAt t v)
    → ((s t : S) (w : W) (frame : ℕ) (g : Got) → IsAt s w → G s frame g t → (v : W) × H w frame (got_without_word g) v × IsAt t v)
    → (s t : S) (w : W) (m : Course X) (n : Course Y) (x : X) → Alike from R m n → IsAt s w → Takes L P G s m t x
    → (v : W) × (y : Y) × Takes M Q H w n v y × IsAt t v × R x y
Takes-alike L P G M Q H IsAt from R by_load by_lay by_get s t w (ends z) (ends y) x alike at takes =
    (w, y, record { there = refl; result = refl }, rw takes.there at, rw takes.result alike)
Takes-alike L P G M Q H IsAt from R by_load by_lay by_get s t w (loads m) (loads n) x alike at (load, u, step, rest) =
    let one = by_load s u w load at step in
    let more = Takes-alike L P G M Q H IsAt from R by_load by_lay by_get u t one.0 (m load) (n load) x (alike load one.3) one.2 rest in
    (more.0, more.1, (load, one.0, one.1, more.2), more.3, more.4)
Takes-alike L P G M Q H IsAt from R by_load by_lay by_get s t w (lays e m) (lays d n) x alike at (Whole, u, step, rest) =
    let one = by_lay s u w e d Whole alike.0 at step in
    let more = Takes-alike L P G M Q H IsAt from R by_load by_lay by_get u t one.0 (m Whole) (n Whole) x alike.1 one.2 rest in
    (more.0, more.1, (Whole, one.0, one.1, more.2), more.3, more.4)
Takes-alike L P G M Q H IsAt from R by_load by_lay by_get s t w (lays e m) (lays d n) x alike at (Late word, u, step, rest) =
    let one = by_lay s u w e d (Late word) alike.0 at step in
    let more = Takes-alike L P G M Q H IsAt from R by_load by_lay by_get u t one.0 (m (Late word)) (n (Late 0)) x (alike.2 word) one.2 rest in
    (more.0, more.1, (Late 0, one.0, one.1, more.2), more.3, more.4)
Takes-alike L P G M Q H IsAt from R by_load by_lay by_get s t w (lays e m) (lays d n) x alike at (Stopped, u, step, rest) =
    let one = by_lay s u w e d Stopped alike.0 at step in
    let more = Takes-alike L P G M Q H IsAt from R by_load by_lay by_get u t one.0 (m Stopped) (n Stopped) x alike.3 one.2 rest in
    (more.0, more.1, (Stopped, one.0, one.1, more.2), more.3, more.4)
Takes-alike L P G M Q H IsAt from R by_load by_lay by_get s t w (gets frame m) (gets other n) x alike at (got.Whole, u, step, rest) =
    let one = by_get s u w frame got.Whole at step in
    let more = Takes-alike L P G M Q H IsAt from R by_load by_lay by_get u t one.0 (m got.Whole) (n got.Whole) x alike.1 one.2 rest in
    (more.0, more.1, (got.Whole, one.0, rw (sym alike.0) one.1, more.2), more.3, more.4)
Takes-alike L P G M Q H IsAt from R by_load by_lay by_get s t w (gets frame m) (gets other n) x alike at (got.Overtaken channel word, u, step, rest) =
    let one = by_get s u w frame (got.Overtaken channel word) at step in
    let more = Takes-alike L P G M Q H IsAt from R by_load by_lay by_get u t one.0 (m (got.Overtaken channel word)) (n (got.Overtaken channel 0)) x (alike.2 channel word) one.2 rest in
    (more.0, more.1, (got.Overtaken channel 0, one.0, rw (sym alike.0) one.1, more.2), more.3, more.4)
Takes-alike L P G M Q H IsAt from R by_load by_lay by_get s t w (gets frame m) (gets other n) x alike at (got.Stopped, u, step, rest) =
    let one = by_get s u w frame got.Stopped at step in
    let more = Takes-alike L P G M Q H IsAt from R by_load by_lay by_get u t one.0 (m got.Stopped) (n got.Stopped) x alike.3 one.2 rest in
    (more.0, more.1, (got.Stopped, one.0, rw (sym alike.0) one.1, more.2), more.3, more.4)
Takes-alike L P G M Q H IsAt from R by_load by_lay by_get s t w (ends z) (loads n) x alike at takes = elim alike [ ]
Takes-alike L P G M Q H IsAt from R by_load by_lay by_get s t w (ends z) (lays d n) x alike at takes = elim alike [ ]
Takes-alike L P G M Q H IsAt from R by_load by_lay by_get s t w (ends z) (gets other n) x alike at takes = elim alike [ ]
Takes-alike L P G M Q H IsAt from R by_load by_lay by_get s t w (loads m) (ends y) x alike at takes = elim alike [ ]
Takes-alike L P G M Q H IsAt from R by_load by_lay by_get s t w (loads m) (lays d n) x alike at takes = elim alike [ ]
Takes-alike L P G M Q H IsAt from R by_load by_lay by_get s t w (loads m) (gets other n) x alike at takes = elim alike [ ]
Takes-alike L P G M Q H IsAt from R by_load by_lay by_get s t w (lays e m) (ends y) x alike at takes = elim alike [ ]
Takes-alike L P G M Q H IsAt from R by_load by_lay by_get s t w (lays e m) (loads n) x alike at takes = elim alike [ ]
Takes-alike L P G M Q H IsAt from R by_load by_lay by_get s t w (lays e m) (gets other n) x alike at takes = elim alike [ ]
Takes-alike L P G M Q H IsAt from R by_load by_lay by_get s t w (gets frame m) (ends y) x alike at takes = elim alike [ ]
Takes-alike L P G M Q H IsAt from R by_load by_lay by_get s t w (gets frame m) (loads n) x alike at takes = elim alike [ ]
Takes-alike L P G M Q H IsAt from R by_load by_lay by_get s t w (gets frame m) (lays d n) x alike at takes = elim alike [ ]
