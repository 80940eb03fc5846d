use Rattle.std.proofs.Common.{ap, arith, length}
use Rattle.lab_clients.proofs.SegmentParts.{length-parts}
use Rattle.lab_clients.proofs.client.LabClient.segments_into.Goals as goal

pub push_segments-requires : goal.push_segments-requires
push_segments-requires c =
    let parts = length-parts c.args.self.now in
    let space = c.requires in
    let ended = ap length c.ended.ensures in
    omega (arith, parts, space, ended)
