use Rattle.lab_clients.specs.Prelude.{ap, arith, length, ◌++◌, ◌∙◌, take_all, flat_map, lists-next, lists-room, LabClient, clients_of, all_segments-listed}
use Rattle.lab_clients.specs.Prelude.{segments_by}
use Rattle.lab_clients.proofs.EndLaws.{length-segments_by}
use Rattle.lab_clients.proofs.clients.LabClients.segments_into.Goals as goal

pub segments_into-requires : goal.segments_into-requires
segments_into-requires c =
    let l = c.loop-index in
    let d = c.index.result.now in
    let space = lists-room segments_by c.args.all.now l.all (clients_of c.args.self.now) l.index d (omega arith) l.invariant.segments c.requires l.invariant.room in
    omega (arith, space, ap (λ (e : LabClient). length (segments_by e)) c.index.ensures, length-segments_by d)

pub loop-index-preserved : goal.loop-index-preserved
loop-index-preserved c =
    let l = c.loop-index in
    record {
      segments = c.segments_into.ensures.segments ∙ ap (λ (e : LabClient). l.all.items ++ segments_by e) c.index.ensures
          ∙ lists-next segments_by c.args.all.now.items l.all.items (clients_of c.args.self.now) l.index c.index.result.now (omega arith) l.invariant.segments;
      room = omega (arith, l.invariant.room, c.segments_into.ensures.room);
    }

pub returns : goal.returns
returns c session held xs are =
    c.loop-index.invariant.segments
    ∙ ap (λ more. c.args.all.now.items ++ more)
    (ap (flat_map segments_by) (take_all c.loop-index.index (clients_of c.args.self.now) (omega arith)) ∙ all_segments-listed session held xs c.args.self.now are)
