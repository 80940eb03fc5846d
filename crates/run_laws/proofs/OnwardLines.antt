-- Each line of a client goes on after what was placed before.
use Rattle.run_laws.specs.Prelude.{ap, arith, inl, inr, List, None, Option, refl, Some, subst, sym, ℕ, [], ◌++◌, ◌+◌, ◌∙◌, ◌∷◌, ◌≡◌, ◌≤◌, ◌⊎◌, nat_tests}
use Rattle.run_laws.specs.Prelude.{append-nil, Bool, Contains, false, if◌then◌else◌, nat_eq, not, Ok, true, ◌&&◌, PcmError, Playback, refusal_of, Marks, ends}
use Rattle.run_laws.specs.Prelude.{◌>>=◌, PlaybackStream, after_prepare, is_paused, segment_of, admitted_by, Sound, Op, Answer, after_call, begins, call_answer}
use Rattle.run_laws.specs.Prelude.{call_of, Client, client_kind, done_answer, ended_by, line_by, line_if, stretch_of, LineMay, AtPort, Rules}
use Rattle.run_laws.proofs.Onward.{Channels, OnwardAfter, Leads, Onward, Reached, Waits, end_of, reached, waits-anew}
use Rattle.run_laws.proofs.OnwardCalls.{call-goes, is_resumed, resume-past}
use Rattle.run_laws.proofs.Yields.{Yields-ends, Yields-then}
use Rattle.pcm_states.specs.declared.calls.Call.TheVariants as call
use Rattle.lab_lines.specs.declared.line.Op.TheVariants as op

-- ---- what a line ends

pub append-none : {X : Type 0} (xs ys : List X) → ys ≡ [] → xs ++ ys ≡ xs
append-none xs ys is = ap (λ l. xs ++ l) is ∙ append-nil xs

-- a client is open, and has a fact
abbrev pub InOpen : Option PlaybackStream → (PlaybackStream → Type 0) → Type 0
InOpen None F = ⊥
InOpen (Some c) F = F c

-- nothing is placed in the stretch
abbrev pub has_none : PlaybackStream → Bool
has_none c = nat_eq c.stretch.committed 0 && nat_eq c.stretch.part 0

-- What a line makes of an open client: it goes on past x; and where its stretch ended with something placed, it goes on past the end of that.
abbrev pub After : ℕ → ℕ → ℕ → Client → PlaybackStream → Marks → Client → Type 0
After p x y client c n after =
    InOpen after.own (Onward p x y n)
    × ((after.ended ≡ client.ended)
    ⊎ ((after.ended ≡ client.ended ++ segment_of c ∷ []) × (has_none c ≡ false) × InOpen after.own (Onward p (end_of c) (end_of c) n)))

abbrev AfterLine : ℕ → ℕ → ℕ → Client → PlaybackStream → Marks → Client × Answer → Type 0
AfterLine p x y client c n done = After p x y client c n done.0

-- nothing is placed of one that waits
pub waits-none : (p x y : ℕ) (m : Marks) (c : PlaybackStream) → Waits p x y m c → has_none c ≡ true
waits-none p x y m c is = rw is.none (rw is.no_part refl)

-- so what the marks reach is past it
pub past-reached : (p x y : ℕ) (m : Marks) (c : PlaybackStream) → Onward p x y m c → has_none c ≡ false → Channels c.setup.bindings × Reached p (end_of c) (end_of c) m
past-reached p x y m c is some = grind (arith, nat_tests)

-- a line that ends the stretch, or doesn't
line-ends : (p x y : ℕ) (client : Client) (c : PlaybackStream) (n : Marks) (own : Option PlaybackStream) (over : Bool) → InOpen own (Onward p x y n)
    → (over ≡ true → has_none c ≡ false → InOpen own (Onward p (end_of c) (end_of c) n))
    → After p x y client c n (record { own = own; ended = client.ended ++ (if over then stretch_of c else []) })
line-ends p x y client c n own over goes past = by_test over (has_none c) refl refl
  where
    by_test : (ended none : Bool) → over ≡ ended → has_none c ≡ none
        → After p x y client c n (record { own = own; ended = client.ended ++ (if ended then (if none then [] else segment_of c ∷ []) else []) })
    by_test true false is some = (goes, inr (refl, some, past is some))
    by_test ended none is some = (goes, inl (append-nil client.ended))

-- a resume of a client that isn't paused ends no stretch
pub unpaused-ends : (answer : Answer) (c d : PlaybackStream) → is_paused c.status.state ≡ false → ended_by op.Resume answer c d ≡ []
unpaused-ends answer c d not = rw not refl

-- how a line begins moves no marks
begins-marks : (own : Option PlaybackStream) (asked : Op) (a : AtPort) → (begins own asked a).marks ≡ a.marks
begins-marks own asked a = grind (arith, nat_tests)

-- ---- the lines

module _ (rules : Rules) (p : ℕ) (least : (q : ℕ) → Contains rules.published q → p ≤ q) (x y : ℕ) where
  module _ (wav : Sound) (client : Client) (c : PlaybackStream) (m : Marks) (there : client.own ≡ Some c) (is : Onward p x y m c) where
    -- a line whose call ends no stretch
    call-after : (asked : Op) → ((answer : Answer) (d : PlaybackStream) → ended_by asked answer c d ≡ [])
        → Leads rules (AfterLine p x y client c) m (call_of wav m c asked >>= λ done. ends (after_call client c asked done))
    call-after asked none = Yields-then (call-goes rules p least x y wav c asked m is)
        (λ n done goes. Yields-ends (goes, inl (append-none client.ended (ended_by asked done.1 c done.0) (none done.1 done.0))))

    prepare-after : (refusal : Option PcmError) → Leads rules (AfterLine p x y client c) m
        (call_answer done_answer (admitted_by refusal c (ends (after_prepare c, Ok tt))) >>= λ done. ends (after_call client c op.Prepare done))
    unfolding ◌>>=◌
    prepare-after None = Yields-ends (line-ends p x y client c m (Some (after_prepare c)) true (inr (waits-anew (reached p x y m c is)))
        (λ over some. inr (waits-anew (past-reached p x y m c is some))))
    prepare-after (Some e) = Yields-ends (is, inl (append-nil client.ended))

    resume-after : Leads rules (AfterLine p x y client c) m (call_of wav m c op.Resume >>= λ done. ends (after_call client c op.Resume done))
    resume-after = Yields-then
        {R = λ n done. OnwardAfter p x y n done × (has_none c ≡ false → is_resumed c done.0 ≡ true → Onward p (end_of c) (end_of c) n done.0)}
        (record {
          by = λ a b done at takes. (
            (call-goes rules p least x y wav c op.Resume m is).by a b done at takes,
            λ some. (resume-past rules p least (end_of c) (end_of c) wav c m (past-reached p x y m c is some)).by a b done at takes,
          );
        })
        (λ n done both. Yields-ends (line-ends p x y client c n (Some done.0) (is_resumed c done.0) both.0 (λ over some. both.1 some over)))

    stays : InOpen client.own (Onward p x y m)
    stays = subst (λ (own : Option PlaybackStream). InOpen own (Onward p x y m)) (sym there) is

    by_line : (stopped : Bool) (asked : Op) → Leads rules (AfterLine p x y client c) m (line_if stopped wav m client c asked)
    by_line true asked = Yields-ends (stays, inl refl)
    by_line false (op.Die k) = Yields-ends (stays, inl refl)
    by_line false op.Prepare = prepare-after (refusal_of Playback c.status call.Prepare)
    by_line false op.Resume = resume-after
    by_line false other = call-after other (λ answer d. refl)

  -- a line of an open client
  pub line-after : (phase : ℕ) (wav : Sound) (number : ℕ) (a b : AtPort) (client after : Client) (asked : Op) (answer : Answer) (c : PlaybackStream) → client.own ≡ Some c
      → Onward p x y a.marks c → LineMay (client_kind phase wav number) rules (a, client) asked (b, after) answer → After p x y client c b.marks after
  line-after phase wav number a b client after asked answer c is onward may =
      (subst (λ own. Leads rules (AfterLine p x y client c) m (line_by wav m client own asked)) (sym is) (by_line wav client c m is goes c.status.stopped asked)).by
      (begins client.own asked a) b (after, answer) refl may
    where
      m : Marks
      m = (begins client.own asked a).marks

      goes : Onward p x y m c
      goes = subst (λ (k : Marks). Onward p x y k c) (sym (begins-marks client.own asked a)) onward
