-- The rows of late lines: they name the first sample that their clients haven't placed, or of a rewind the last that it couldn't take back, and
-- leave their clients in XRUN.
use Rattle.run_laws.specs.Prelude.{None, Option, refl, Some, subst, sym, ℕ, ◌≡◌, IfSome, Xrun, PlaybackStream, Sound, Op, Answer, Client, client_kind, LineMay}
use Rattle.run_laws.specs.Prelude.{AtPort, Rules, IsLate, IsLastSample, LateRewindsNameLast, LateRowsNameNext, NamesLast, NamesNext}
use Rattle.run_laws.proofs.Going.{in-open, open-map, still-client}
use Rattle.run_laws.proofs.LateLaws.{LateAnswer}
use Rattle.run_laws.proofs.LateParts.{IsMissed, NamedBy, Place, line-late, missed-of}
use Rattle.run_laws.proofs.OnwardLines.{InOpen}
use Rattle.lab_lines.specs.declared.line.Op.TheVariants as op

pub late-rows : (rules : Rules) (phase : ℕ) (wav : Sound) (number : ℕ) → LateRowsNameNext rules phase wav number
late-rows rules phase wav number a b client after c asked answer is not may =
    by_own after.own refl (line-late rules phase wav number c.setup.bindings a b client after c asked answer is refl may)
  where
    by_own : (own : Option PlaybackStream) → after.own ≡ own → InOpen own (λ d. NamedBy (Place c.setup.bindings asked) c.setup.bindings (d, answer)) → NamesNext after answer
    by_own None own named = absurd named
    by_own (Some d) own named = record {
      own = d;
      is_own = own;
      late = λ frame channel late. (subst (LateAnswer (λ f k. IsMissed c.setup.bindings d f k × (d.status.state ≡ Xrun))) late
          (missed-of c.setup.bindings asked (d, answer) not named).1).0.0;
    }

pub late-rewinds : (rules : Rules) (phase : ℕ) (wav : Sound) (number : ℕ) → LateRewindsNameLast rules phase wav number
late-rewinds rules phase wav number a b client after c n answer is may =
    by_own after.own refl (line-late rules phase wav number c.setup.bindings a b client after c (op.Rewind n) answer is refl may)
  where
    by_own : (own : Option PlaybackStream) → after.own ≡ own → InOpen own (λ d. NamedBy IsLastSample c.setup.bindings (d, answer)) → NamesLast after answer
    by_own None own named = absurd named
    by_own (Some d) own named = record {
      own = d;
      is_own = own;
      late = λ frame channel late. (subst (LateAnswer (λ f k. IsLastSample d f k × (d.status.state ≡ Xrun))) late named.1).0;
    }

-- a client is in XRUN after a line that was late
pub late-ends : (rules : Rules) (phase : ℕ) (wav : Sound) (number : ℕ) (a b : AtPort) (client after : Client) (asked : Op) (answer : Answer) (frame channel : ℕ)
    → IsLate answer frame channel → LineMay (client_kind phase wav number) rules (a, client) asked (b, after) answer → IfSome after.own (λ d. d.status.state ≡ Xrun)
late-ends rules phase wav number a b client after asked answer frame channel late may = by_own client.own refl
  where
    by_own : (own : Option PlaybackStream) → client.own ≡ own → IfSome after.own (λ d. d.status.state ≡ Xrun)
    by_own None none = subst (λ (x : Client). IfSome x.own (λ d. d.status.state ≡ Xrun)) (sym (still-client rules phase wav number a b client after asked answer none may))
        (subst (λ own. IfSome own (λ d. d.status.state ≡ Xrun)) (sym none) tt)
    by_own (Some c) is = in-open (λ d. d.status.state ≡ Xrun) after.own
        (open-map (λ d. NamedBy (Place c.setup.bindings asked) c.setup.bindings (d, answer)) (λ d. d.status.state ≡ Xrun) after.own
        (λ d named. (subst (LateAnswer (λ f k. Place c.setup.bindings asked d f k × (d.status.state ≡ Xrun))) late named.1).1)
        (line-late rules phase wav number c.setup.bindings a b client after c asked answer is refl may))
