use Rattle.dmix_c.specs.Prelude.{ap, refl, subst, ◌∙◌, Geometry, Cursor, geometry_of_ring, HasSeats}
use Rattle.dmix_c.proofs.OpeningDuplex.{AreInStep-new, IsAtPublished-new, IsNewDuplex-made, IsNewOpenRing-same, IsNewPair-alone, IsNewPair-captures}
use Rattle.dmix_c.proofs.open_ring.OpenRing.open.Goals as goal

pub invariant_of-alone : goal.invariant_of-alone
invariant_of-alone c = record { at_frame = ap (λ (x : Cursor). x.channel) c.in_ok-ring.ensures.at_start.next }

pub returns-then-not-captures-clause-ok : goal.returns-then-not-captures-clause-ok
returns-then-not-captures-clause-ok c =
    IsNewPair-alone c.args.captures c.args.params.now _ _ _ c.if-not-captures.true refl c.in_ok-ring.ensures.ok c.in_ok-ring.ensures.plays_alone

pub new-card-requires : goal.new-card-requires
new-card-requires c =
    let words = c.leak-words.ensures.value ∙ c.in_ok-new.ensures.ok in
    let start = c.in_ok-ring.ensures.at_start in
    let has = subst (λ (g : Geometry). HasSeats g c.seats-writer.result.0 c.seats-writer.result.1) (ap geometry_of_ring words ∙ c.in_ok-words.ensures.ok.of_geometry) c.seats-writer.ensures in
    record {
      period = c.requires.period_least;
      in_step = AreInStep-new c.geometry-geometry.result _ _ _ start has;
      published = IsAtPublished-new c.geometry-geometry.result _ start;
    }

pub returns-clause-ok : goal.returns-clause-ok
returns-clause-ok c =
    let words = c.leak-words.ensures.value ∙ c.in_ok-new.ensures.ok in
    let has = subst (λ (g : Geometry). HasSeats g c.seats-writer.result.0 c.seats-writer.result.1) (ap geometry_of_ring words ∙ c.in_ok-words.ensures.ok.of_geometry) c.seats-writer.ensures in
    IsNewPair-captures c.args.captures c.args.params.now _ _ c.if-not-captures.false
    (IsNewDuplex-made c.args.params.now c.geometry-geometry.result _ _ _ _ _ (IsNewOpenRing-same c.args.params.now _ _ _ refl refl refl c.in_ok-ring.ensures.ok) refl has
    c.new-card.ensures.player c.new-card.ensures.writer c.new-card.ensures.period)
