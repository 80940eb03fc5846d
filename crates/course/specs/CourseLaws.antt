-- Laws of courses: one after another, in parts, what each step keeps, and how a course is taken in another world.
use Rattle.std.specs.Prelude.{◌≡◌, ℕ, Option}
use Rattle.std.proofs.Common.{refl, sym}
use Rattle.mix_core.specs.declared.port.Ended.{Ended}
use Rattle.mix_core.specs.declared.port.Entry.{Entry}
use Rattle.mix_core.specs.declared.port.Position.{Position}
use Rattle.snoop_core.specs.declared.port.Got.{Got}
use Rattle.course.specs.Course.{◌>>=◌, Course, Takes, ends, gets, lays, loads}

module _ {S : Type 0} (L : S → Option Position → S → Type 0) (P : S → Entry → Ended → S → Type 0) (G : S → ℕ → Got → S → Type 0) where
  -- one course and then another
  pub Takes-then : {A B : Type 0} (s t u : S) (m : Course A) (f : A → Course B) (x : A) (y : B)
      → Takes L P G s m t x → Takes L P G t (f x) u y → Takes L P G s (m >>= f) u y
  unfolding ◌>>=◌
  Takes-then s t u (ends z) f x y one two = rw (sym one.there) (rw (sym one.result) two)
  Takes-then s t u (loads next) f x y (load, m, step, rest) two = (load, m, step, Takes-then m t u (next load) f x y rest two)
  Takes-then s t u (lays e next) f x y (ended, m, step, rest) two = (ended, m, step, Takes-then m t u (next ended) f x y rest two)
  Takes-then s t u (gets frame next) f x y (got, m, step, rest) two = (got, m, step, Takes-then m t u (next got) f x y rest two)

  -- a course, and then a function of its result
  pub Takes-map : {A B : Type 0} (s t : S) (m : Course A) (f : A → B) (x : A) (y : B)
      → Takes L P G s m t x → f x ≡ y → Takes L P G s (m >>= λ z. ends (f z)) t y
  Takes-map s t m f x y takes is = Takes-then s t t m (λ z. ends (f z)) x y takes (record { there = refl; result = sym is })

  -- one course after another was taken in two parts
  pub Takes-parts : {A B : Type 0} (s u : S) (m : Course A) (f : A → Course B) (y : B)
      → Takes L P G s (m >>= f) u y → (t : S) × (x : A) × Takes L P G s m t x × Takes L P G t (f x) u y
  unfolding ◌>>=◌
  Takes-parts s u (ends z) f y takes = (s, z, record { there = refl; result = refl }, takes)
  Takes-parts s u (loads next) f y (load, m, step, rest) =
      let parts = Takes-parts m u (next load) f y rest in (parts.0, parts.1, (load, m, step, parts.2), parts.3)
  Takes-parts s u (lays e next) f y (ended, m, step, rest) =
      let parts = Takes-parts m u (next ended) f y rest in (parts.0, parts.1, (ended, m, step, parts.2), parts.3)
  Takes-parts s u (gets frame next) f y (got, m, step, rest) =
      let parts = Takes-parts m u (next got) f y rest in (parts.0, parts.1, (got, m, step, parts.2), parts.3)

-- what each step keeps, and what holds of two steps in a row where it holds of both, holds of a course without captured frames
pub Takes-keeps : {S X : Type 0} (L : S → Option Position → S → Type 0) (P : S → Entry → Ended → S → Type 0) (K : S → S → Type 0)
    → ((s : S) → K s s) → ((s m t : S) → K s m → K m t → K s t)
    → ((s t : S) (load : Option Position) → L s load t → K s t) → ((s t : S) (e : Entry) (ended : Ended) → P s e ended t → K s t)
    → (s t : S) (m : Course X) (y : X) → Takes L P (λ a frame got b. ⊥) s m t y → K s t
Takes-keeps L P K none then by_load by_lay s t (ends x) y takes = rw takes.there (none s)
Takes-keeps L P K none then by_load by_lay s t (loads next) y (load, m, step, rest) =
    then s m t (by_load s m load step) (Takes-keeps L P K none then by_load by_lay m t (next load) y rest)
Takes-keeps L P K none then by_load by_lay s t (lays e next) y (ended, m, step, rest) =
    then s m t (by_lay s m e ended step) (Takes-keeps L P K none then by_load by_lay m t (next ended) y rest)
Takes-keeps L P K none then by_load by_lay s t (gets frame next) y (got, m, step, rest) = absurd step

-- the same of a course that places nothing
pub Takes-keeps_getting : {S X : Type 0} (L : S → Option Position → S → Type 0) (G : S → ℕ → Got → S → Type 0) (K : S → S → Type 0)
    → ((s : S) → K s s) → ((s m t : S) → K s m → K m t → K s t)
    → ((s t : S) (load : Option Position) → L s load t → K s t) → ((s t : S) (frame : ℕ) (got : Got) → G s frame got t → K s t)
    → (s t : S) (m : Course X) (y : X) → Takes L (λ a e ended b. ⊥) G s m t y → K s t
Takes-keeps_getting L G K none then by_load by_get s t (ends x) y takes = rw takes.there (none s)
Takes-keeps_getting L G K none then by_load by_get s t (loads next) y (load, m, step, rest) =
    then s m t (by_load s m load step) (Takes-keeps_getting L G K none then by_load by_get m t (next load) y rest)
Takes-keeps_getting L G K none then by_load by_get s t (lays e next) y (ended, m, step, rest) = absurd step
Takes-keeps_getting L G K none then by_load by_get s t (gets frame next) y (got, m, step, rest) =
    then s m t (by_get s m frame got step) (Takes-keeps_getting L G K none then by_load by_get m t (next got) y rest)

-- where each step of one world is a step of another, so is a course
pub Takes-follow : {S W X : Type 0} (L : S → Option Position → S → Type 0) (P : S → Entry → Ended → S → Type 0) (G : S → ℕ → Got → S → Type 0)
    (M : W → Option Position → W → Type 0) (Q : W → Entry → Ended → W → Type 0) (H : W → ℕ → Got → W → Type 0) (IsAt : S → W → Type 0)
    → ((s t : S) (w : W) (load : Option Position) → IsAt s w → L s load t → (v : W) × M w load v × IsAt t v)
    → ((s t : S) (w : W) (e : Entry) (ended : Ended) → IsAt s w → P s e ended t → (v : W) × Q w e ended v × IsAt t v)
    → ((s t : S) (w : W) (frame : ℕ) (got : Got) → IsAt s w → G s frame got t → (v : W) × H w frame got v × IsAt t v)
    → (s t : S) (w : W) (m : Course X) (y : X) → IsAt s w → Takes L P G s m t y → (v : W) × Takes M Q H w m v y × IsAt t v
Takes-follow L P G M Q H IsAt by_load by_lay by_get s t w (ends x) y at takes =
    (w, record { there = refl; result = takes.result }, rw takes.there at)
Takes-follow L P G M Q H IsAt by_load by_lay by_get s t w (loads next) y at (load, m, step, rest) =
    let one = by_load s m w load at step in
    let more = Takes-follow L P G M Q H IsAt by_load by_lay by_get m t one.0 (next load) y one.2 rest in
    (more.0, (load, one.0, one.1, more.1), more.2)
Takes-follow L P G M Q H IsAt by_load by_lay by_get s t w (lays e next) y at (ended, m, step, rest) =
    let one = by_lay s m w e ended at step in
    let more = Takes-follow L P G M Q H IsAt by_load by_lay by_get m t one.0 (next ended) y one.2 rest in
    (more.0, (ended, one.0, one.1, more.1), more.2)
Takes-follow L P G M Q H IsAt by_load by_lay by_get s t w (gets frame next) y at (got, m, step, rest) =
    let one = by_get s m w frame got at step in
    let more = Takes-follow L P G M Q H IsAt by_load by_lay by_get m t one.0 (next got) y one.2 rest in
    (more.0, (got, one.0, one.1, more.1), more.2)
