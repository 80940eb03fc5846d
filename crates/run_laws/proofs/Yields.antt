-- What a course yields at a port, whatever its steps may be: a fact of what is looked at of the port, and of its result.
use Rattle.run_laws.specs.Prelude.{refl, ◌≡◌, Course, ends, ◌>>=◌, AtPort, May, MayGet, MayLay, MayLoad, Rules, IsSaying}
use Rattle.course.specs.CourseLaws.{Takes-parts}

-- of a port of which this is looked at, where it is w when the course begins
pub record Yields {W : Type 0} (rules : Rules) (of : AtPort → W) (X : Type 0) (Q : W → X → Type 0) (w : W) (course : Course X) : Type 0 where
  pub by : (a b : AtPort) (x : X) → of a ≡ w → May rules a course b x → Q (of b) x

module _ {W : Type 0} {rules : Rules} {of : AtPort → W} where
  pub Yields-ends : {X : Type 0} {Q : W → X → Type 0} {w : W} {x : X} → Q w x → Yields rules of X Q w (ends x)
  Yields-ends is = record { by = λ a b y at takes. rw (takes.there, takes.result, at) is }

  pub Yields-then : {X Y : Type 0} {R : W → X → Type 0} {Q : W → Y → Type 0} {w : W} {m : Course X} {f : X → Course Y} → Yields rules of X R w m
      → ((v : W) (x : X) → R v x → Yields rules of Y Q v (f x)) → Yields rules of Y Q w (m >>= f)
  Yields-then {m = m} {f = f} one next = record {
    by = λ a b y at takes.
        let parts = Takes-parts (MayLoad rules) (MayLay rules) (MayGet rules) a b m f y takes in
        (next (of parts.0) parts.1 (one.by a parts.0 parts.1 at parts.2)).by parts.0 b y refl parts.3;
  }

  pub Yields-map : {X : Type 0} {R Q : W → X → Type 0} {w : W} {m : Course X} → Yields rules of X R w m → ((v : W) (x : X) → R v x → Q v x) → Yields rules of X Q w m
  Yields-map one less = record { by = λ a b x at takes. less (of b) x (one.by a b x at takes) }

-- so such a fact is said of a course
pub yields-so : {W : Type 0} (rules : Rules) (of : AtPort → W) → IsSaying (Yields rules of)
yields-so rules of = record {
  at_end = λ X Q w x is. Yields-ends is;
  after = λ X Y R Q w m f one next. Yields-then one next;
  implied = λ X R Q w m one less. Yields-map one less;
}
