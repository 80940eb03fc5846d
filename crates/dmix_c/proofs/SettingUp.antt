-- A stream is set up, and given software parameters, by what was tested before.
use Rattle.dmix_c.specs.Prelude.{ap, inl, inr, length, List, refl, subst, sym, ℕ, ◌≡◌, Err, IfErr, None, Ok, OnErr, OnOk, Option, Result, Some, ◌⊎◌, PcmError}
use Rattle.dmix_c.specs.Prelude.{Invalid, Memory, Geometry, not-both, same-refusal, done_of, CanConfigure, CanSetUp, SetsUp}
use Rattle.snd_base.specs.declared.errors.Why.{Why}
use Rattle.snd_base.specs.declared.errors.Why.TheVariants.{Config}
use Rattle.bindings.specs.Answers.{answer_of}
use Rattle.dmix_c.specs.declared.params.StreamHwParams.{StreamHwParams}

-- an error that is answered
abbrev failed : PcmError → Result ℕ PcmError
failed e = Err e

same-list : (answer : Result (List ℕ) Why) (xs ys : List ℕ) → answer ≡ Ok xs → answer ≡ Ok ys → xs ≡ ys
same-list answer xs ys one other = cc

not-read : (answer : Result (List ℕ) Why) (xs : List ℕ) (why : Why) → answer ≡ Ok xs → answer ≡ Err why → ⊥
not-read answer xs why ok err = cc

-- a stream that its state may refuse, and that is as `after` says once it is set up
module _ {X : Type 0} {refusal : Option PcmError} {after : List ℕ → X} {g : Geometry} {rate : ℕ} {params : StreamHwParams} {list : List ℕ} {c : X}
    {made : Result ℕ PcmError} where
  pub SetsUp-refused : (e : PcmError) → refusal ≡ Some e → made ≡ Err e → SetsUp refusal after g rate params list c c made
  SetsUp-refused e some is = subst (SetsUp refusal after g rate params list c c) (sym is) (record {
    refused = λ f found. ap failed (same-refusal refusal e f some found);
    invalid = λ none cannot. absurd (not-both refusal e some none);
    set = λ none can. absurd (not-both refusal e some none);
    done = tt;
    kept = refl;
  })

  pub SetsUp-unbound : (why : Why) → refusal ≡ None → answer_of list g.channels ≡ Err why → made ≡ Err (Invalid why)
      → SetsUp refusal after g rate params list c c made
  SetsUp-unbound why none bad is = subst (SetsUp refusal after g rate params list c c) (sym is) (record {
    refused = λ e some. absurd (not-both refusal e some none);
    invalid = λ admitted cannot. (why, refl);
    set = λ admitted can. absurd (not-read (answer_of list g.channels) can.bindings why can.bound bad);
    done = tt;
    kept = refl;
  })

  pub SetsUp-unfit : (bindings : List ℕ) → refusal ≡ None → answer_of list g.channels ≡ Ok bindings
      → (CanConfigure rate (length bindings) params → ⊥) → made ≡ Err (Invalid Config) → SetsUp refusal after g rate params list c c made
  SetsUp-unfit bindings none bound unfit is = subst (SetsUp refusal after g rate params list c c) (sym is) (record {
    refused = λ e some. absurd (not-both refusal e some none);
    invalid = λ admitted cannot. (Config, refl);
    set = λ admitted can. absurd (unfit (subst (λ (b : List ℕ). CanConfigure rate (length b) params) (same-list (answer_of list g.channels) can.bindings bindings can.bound bound) can.runs));
    done = tt;
    kept = refl;
  })

  -- by the answer of the stream's own call
  pub SetsUp-done : {d : X} (can : CanSetUp g rate params list) (r : Result (Unit {0}) PcmError) → refusal ≡ None
      → OnOk r (d ≡ after can.bindings) → OnErr r (d ≡ c) → IfErr r (λ e. (refusal ≡ Some e) ⊎ (e ≡ Memory))
      → made ≡ done_of r → SetsUp refusal after g rate params list c d made
  SetsUp-done {d = d} can r none ok err only is = subst (SetsUp refusal after g rate params list c d) (sym is) (by_answer r ok err only)
    where
      by_answer : (r : Result (Unit {0}) PcmError) → OnOk r (d ≡ after can.bindings) → OnErr r (d ≡ c) → IfErr r (λ e. (refusal ≡ Some e) ⊎ (e ≡ Memory))
          → SetsUp refusal after g rate params list c d (done_of r)
      by_answer (Ok done) ok err only = record {
        refused = λ e some. absurd (not-both refusal e some none);
        invalid = λ admitted cannot. absurd (cannot can);
        set = λ admitted other. inl refl;
        done = (refl, (can, ok));
        kept = tt;
      }
      by_answer (Err e) ok err (inl some) = absurd (not-both refusal e some none)
      by_answer (Err e) ok err (inr memory) = record {
        refused = λ f some. absurd (not-both refusal f some none);
        invalid = λ admitted cannot. absurd (cannot can);
        set = λ admitted other. inr (ap failed memory);
        done = tt;
        kept = err;
      }

-- what it has as it was, and with any bindings, it has afterwards
pub SetsUp-keeps : {X : Type 0} {refusal : Option PcmError} {after : List ℕ → X} {g : Geometry} {rate : ℕ} {params : StreamHwParams} {list : List ℕ} {c d : X}
    (Q : X → Type 0) (made : Result ℕ PcmError) → SetsUp refusal after g rate params list c d made
    → ((bindings : List ℕ) → Q (after bindings)) → Q c → Q d
SetsUp-keeps Q (Ok n) has set kept = subst Q (sym has.done.1.1) (set has.done.1.0.bindings)
SetsUp-keeps Q (Err e) has set kept = subst Q (sym has.kept) kept

-- what a stream has as it was, and as a call leaves it, it has after the call, whether that is refused or not
pub kept-by : {X Y : Type 0} (Q : X → Type 0) (c d end : X) (r : Result Y PcmError) → OnOk r (d ≡ end) → OnErr r (d ≡ c) → Q end → Q c → Q d
kept-by Q c d end (Ok done) ok err after before = subst Q (sym ok) after
kept-by Q c d end (Err e) ok err after before = subst Q (sym err) before
