use Rattle.examples.proofs.Mixing.{AreSums-segments}
use Rattle.examples.proofs.two_clients.mix_two.Goals as goal

pub returns-clause-sums : goal.returns-clause-sums
returns-clause-sums c =
    AreSums-segments c.in_ok-core.core c.write.new.core c.write-2.new.core c.play.new.core c.args.geometry 2 _ _ _ _ _ _ _
    c.in_ok-core.ensures.ok c.write.ensures.geometry c.write-2.ensures.geometry c.play.ensures.geometry
    c.write.ensures.mixed c.write-2.ensures.mixed c.in_ok-taken.ensures.mixed c.segment.ensures c.segment-2.ensures
