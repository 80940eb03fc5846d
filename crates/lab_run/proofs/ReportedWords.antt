-- What a call gives, as a report has it, doesn't depend on the word that a late sample found, nor on the client's member.
use Rattle.lab_run.specs.Prelude.{arith, None, Option, refl, Some, ℕ, ◌≡◌, nat_tests, List, [], ◌∷◌, Cursor, Call, State, Running, first_outcome, Late}
use Rattle.lab_run.specs.Prelude.{Position, Commit, PlaybackStream, accepted_if, after_resume, after_start, after_sync, Answered, with_new_base, with_number}
use Rattle.lab_run.specs.Prelude.{written_after, after_rewind, SameButMember, count_answer, done_answer, with_member}
use Rattle.pcm_states.specs.declared.calls.Facts.{Facts}
use Rattle.pcm_states.specs.declared.calls.Outcome.{Outcome}
use Rattle.lab_run.proofs.AlikeLaws.{without_word}
use Rattle.snd_base.specs.declared.errors.XrunWhy.TheVariants as why

-- two outcomes leave the same state, and are answered alike in a report
record SameOutcome (o u : Outcome) : Type 0 where
  pub state : o.state ≡ u.state
  pub answer : done_answer o.answer ≡ done_answer u.answer

same : (o : Outcome) → SameOutcome o o
same o = record { state = refl; answer = refl }

first-more : (o : Option Outcome) (xs ys : List (Option Outcome)) (d e : Outcome) → SameOutcome (first_outcome xs d) (first_outcome ys e)
    → SameOutcome (first_outcome (o ∷ xs) d) (first_outcome (o ∷ ys) e)
first-more None xs ys d e rest = rest
first-more (Some o) xs ys d e rest = same o

-- the facts with a late sample that found a word
abbrev with_late : Facts → ℕ → ℕ → ℕ → Facts
with_late f frame channel word = record f { late = Some (why.Late frame channel word) }

-- a commit without its word
abbrev pub commit_without_word : Commit → Commit
commit_without_word x = record x { ended = without_word x.ended }

module _ (member : ℕ) where
  -- the parts of the calls, by a load and a commit

  pub after_sync-word : (c : PlaybackStream) (call : Call) (load : Option Position) (x : Commit)
      → SameButMember member done_answer (after_sync c call load x) (after_sync (with_member member c) call load (commit_without_word x))
  after_sync-word c call load x = grind (arith, nat_tests)

  pub after_start-word : (c : PlaybackStream) (state : State) (cursor : Cursor) (load : Option Position) (x : Commit)
      → SameButMember member done_answer (after_start c state cursor load x) (after_start (with_member member c) state cursor load (commit_without_word x))
  after_start-word c state cursor load x = grind (arith, nat_tests)

  pub resumed-word : (c : PlaybackStream) (cursor : Cursor) (load : Option Position) (x : Commit)
      → SameButMember member done_answer (after_resume c cursor load x) (after_resume (with_member member c) cursor load (commit_without_word x))
  resumed-word c cursor None x = record { client = refl; answer_is = refl }
  resumed-word c cursor (Some p) x = after_start-word (with_new_base c) Running cursor (Some p) x

  pub accepted_if-alike : (n : ℕ) (a b : Answered (Unit {0})) → SameButMember member done_answer a b → SameButMember member count_answer (accepted_if n a) (accepted_if n b)
  accepted_if-alike n a b is = grind (arith, nat_tests)

  pub with_number-alike : (number : PlaybackStream → ℕ) → ((c : PlaybackStream) → number (with_member member c) ≡ number c) → (a b : Answered (Unit {0})) → SameButMember member done_answer a b
      → SameButMember member count_answer (with_number number a) (with_number number b)
  with_number-alike number same a b is = grind (arith, nat_tests)

  pub written_after-word : (c : PlaybackStream) (n : ℕ) (x : Commit)
      → SameButMember member count_answer (written_after c n x) (written_after (with_member member c) n (commit_without_word x))
  written_after-word c n x = grind (arith, nat_tests)

  pub rewound-word : (c : PlaybackStream) (n : ℕ) (left : Commit)
      → SameButMember member count_answer (after_rewind c n left) (after_rewind (with_member member c) n (commit_without_word left))
  rewound-word c n left = grind (arith, nat_tests)
