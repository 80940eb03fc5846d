use Rattle.examples.specs.Prelude.{ap, ap₂, rules, SFits, to_z-of_z, w16, ◌∙◌, ℤ, ◌+ℤ◌, first_frame, clamp_of}
use Rattle.examples.proofs.Words.{IsRun-sum, of_ok}
use Rattle.examples.proofs.two_threads.sum_in_threads.Goals as goal

pub returns : goal.returns
returns g c =
    let fits : SFits w16 c.in_ok-taken.taken.value = search rules in
    let value = IsRun-sum _ _ _ _ _ _ _ _ _ c.in_ok-taken.taken c.close.result _ _ (ap first_frame c.in_ok-ring.ensures.ok.of_geometry) record {
      seats = c.seats-player.ensures;
      split = c.split-right.ensures;
      one = of_ok _ _ _ c.in_ok-one.was c.place_both-one.ensures.left;
      two = of_ok _ _ _ c.in_ok-two.was c.place_both-one.ensures.right;
      took = c.in_ok-taken.ensures.ok;
      joined = c.join.ensures;
      closed_is = c.close.ensures;
    } in
    record {
      sum = to_z-of_z fits ∙ value
          ∙ ap₂ (λ (x y : ℤ). clamp_of (x +ℤ y)) (to_z-of_z c.ranges.first) (to_z-of_z c.ranges.second);
    }
