-- What is late in an error, an answer or an outcome of the table.
use Rattle.run_laws.specs.Prelude.{arith, Option, Some, subst, sym, ℕ, ◌≡◌, nat_tests, Err, IfSome, Ok, Result, ⊤, PcmError, XrunWhy, Call, Facts, State, Xrun}
use Rattle.run_laws.specs.Prelude.{next_of, Cases, next_of-holds, Playback, refusal_of, PlaybackStream, Answer, Failed, reported_error}
use Rattle.pcm_states.specs.declared.calls.Outcome.{Outcome}
use Rattle.snd_base.specs.declared.errors.PcmError.TheVariants as error
use Rattle.snd_base.specs.declared.errors.XrunWhy.TheVariants as why

-- ---- a fact of the place that an error, an answer or a fact of the table names, if it is late

abbrev pub LateWhy : (ℕ → ℕ → Type 0) → XrunWhy → Type 0
LateWhy Q (why.Late frame channel word) = Q frame channel
LateWhy Q other = ⊤

abbrev pub LateErr : (ℕ → ℕ → Type 0) → PcmError → Type 0
LateErr Q (error.Xrun w) = LateWhy Q w
LateErr Q other = ⊤

abbrev pub LateIn : {T : Type 0} → (ℕ → ℕ → Type 0) → Result T PcmError → Type 0
LateIn Q (Ok x) = ⊤
LateIn Q (Err e) = LateErr Q e

abbrev pub LateAnswer : (ℕ → ℕ → Type 0) → Answer → Type 0
LateAnswer Q (Failed e) = LateErr Q e
LateAnswer Q other = ⊤

module _ (Q : ℕ → ℕ → Type 0) where
  pub reported-late : (e : PcmError) → LateErr Q e → LateErr Q (reported_error e)
  reported-late other late = grind (arith, nat_tests)

  -- an outcome of the table that is late is XRUN
  abbrev Says : Outcome → Type 0
  Says o = LateIn (λ frame channel. Q frame channel × (o.state ≡ Xrun)) o.answer

  cases-late : (s : State) (f : Facts) → IfSome f.late (LateWhy Q) → Cases Says s f
  cases-late s f late = grind (arith, nat_tests)

  pub next-late : (s : State) (c : Call) (f : Facts) → IfSome f.late (LateWhy Q) → Says (next_of s c f)
  next-late s c f late = next_of-holds Says s c f (cases-late s f late) (λ t is. tt)

  -- by what its facts say of a late frame
  pub facts-late : (s : State) (c : Call) (f : Facts) (late : Option XrunWhy) → f.late ≡ late → IfSome late (LateWhy Q) → Says (next_of s c f)
  facts-late s c f late same is = next-late s c f (subst (λ (l : Option XrunWhy). IfSome l (LateWhy Q)) (sym same) is)

  -- a refusal isn't late
  refusal-late : (c : PlaybackStream) (asked : Call) → IfSome (refusal_of Playback c.status asked) (LateErr Q)
  refusal-late c asked = grind (arith, nat_tests)

  pub refused-late : (c : PlaybackStream) (asked : Call) (e : PcmError) → refusal_of Playback c.status asked ≡ Some e → LateErr Q e
  refused-late c asked e is = subst (λ (refusal : Option PcmError). IfSome refusal (LateErr Q)) is (refusal-late c asked)
