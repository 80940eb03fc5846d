use Rattle.std.proofs.Common.{◌+◌, arith, inl, inr, refl}
use Rattle.pcm_format.proofs.Ranges.{HoldsRange-last, HoldsRange-none, last-held, never-past}
use Rattle.pcm_format.proofs.areas.Areas.holds.Goals.{then-count-self-via-then-count-self, then-count-self-via-else-count-self+then-first-self, then-count-eq0-via-then-count-eq0, then-count-eq0-via-else-count-eq0+then-self-eq0}
use Rattle.pcm_format.proofs.areas.Areas.holds.Goals as goal

pub returns-then-count-self : goal.returns-then-count-self
returns-then-count-self c = (
  λ never. absurd (cc),
  λ held. elim c.then-count-self.branch [
    | then-count-self-via-then-count-self w ↦ absurd (never-past c.args.self.now c.args.samples c.args.first c.args.count (omega (arith, w.if-count-self.true)) held)
    | then-count-self-via-else-count-self+then-first-self w ↦ absurd (never-past c.args.self.now c.args.samples c.args.first c.args.count (omega (arith, w.if-count-self.false, w.if-first-self.true)) held)
  ],
)

pub returns-then-count-eq0 : goal.returns-then-count-eq0
returns-then-count-eq0 c = (
  λ always. elim c.then-count-eq0.branch [
    | then-count-eq0-via-then-count-eq0 w ↦ HoldsRange-none c.args.self.now c.args.samples c.args.first c.args.count (omega (arith, c.if-count-self.false, c.if-first-self.false)) (inl w.if-count-eq0.true)
    | then-count-eq0-via-else-count-eq0+then-self-eq0 w ↦ HoldsRange-none c.args.self.now c.args.samples c.args.first c.args.count (omega (arith, c.if-count-self.false, c.if-first-self.false)) (inr w.if-self-eq0.true)
  ],
  λ held. refl,
)

pub returns : goal.returns
returns c = (
  λ low. HoldsRange-last c.args.self.now c.args.samples c.args.first c.args.count c.place.result (omega (arith, c.if-count-self.false, c.if-first-self.false)) c.place.ensures low,
  λ held. last-held c.args.self.now c.args.samples c.args.first c.args.count c.place.result (omega (arith, c.if-count-eq0.false)) (omega (arith, c.if-self-eq0.false)) c.place.ensures held,
)
