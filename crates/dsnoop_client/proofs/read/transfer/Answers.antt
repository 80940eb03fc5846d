use Rattle.dsnoop_client.specs.Prelude.{subst, sym, ℕ, Answered, GivesFrames}
use Rattle.dsnoop_client.proofs.CallLaws.{both}
use Rattle.dsnoop_client.proofs.Loading.{transfers-by}
use Rattle.dsnoop_client.proofs.Reading.{reads-of}
use Rattle.dsnoop_client.proofs.Waiting.{IsReady-running}
use Rattle.dsnoop_client.proofs.read.transfer.Goals as goal

pub returns-clause-takes : goal.returns-clause-takes
returns-clause-takes g c =
    let s = both c.args.port.now c.args.gate.now in
    let t = both c.load_frames-loads.new.port c.load_frames-loads.new.gate in
    transfers-by g.P.SnoopPort g.G.Gate s t c.args.stream.now c.args.frames c.taken-count.result c.load_frames-loads.result.frames
    c.load_frames-loads.result.ended c.read_after-after.result c.taken-count.ensures c.load_frames-loads.ensures.takes c.read_after-after.ensures

pub returns-clause-reads : goal.returns-clause-reads
returns-clause-reads g c =
    subst (λ (x : Answered ℕ). GivesFrames g.P.SnoopPort c.args.port.now c.load_frames-loads.new.port c.args.stream.now x.0 c.args.out.now
    c.load_frames-loads.new.out x.1) (sym c.read_after-after.ensures)
    (reads-of g.P.SnoopPort c.args.port.now c.load_frames-loads.new.port c.args.stream.now c.args.out.now c.load_frames-loads.new.out
    c.requires.going.same_geometry c.args.frames c.load_frames-loads.result.frames c.load_frames-loads.result.ended c.load_frames-loads.ensures.fills)

pub taken-count-requires : goal.taken-count-requires
taken-count-requires g c = IsReady-running c.args.stream.now c.requires.sound c.requires.going.running

pub read_after-after-requires-clause-ready : goal.read_after-after-requires-clause-ready
read_after-after-requires-clause-ready g c = IsReady-running c.args.stream.now c.requires.sound c.requires.going.running
