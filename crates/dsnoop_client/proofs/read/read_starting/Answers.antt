use Rattle.dsnoop_client.specs.Prelude.{length, refl, Err, Ok}
use Rattle.dsnoop_client.proofs.CallLaws.{both}
use Rattle.dsnoop_client.proofs.Loading.{reads_first-by}
use Rattle.dsnoop_client.proofs.Stepping.{HasRoom-same, fits-same, reads-behind, reads-none}
use Rattle.dsnoop_client.proofs.read.read_starting.Goals as goal

pub returns-in-Err : goal.returns-in-Err
returns-in-Err g c =
    let P = g.P.SnoopPort in
    let stream = c.args.stream.now in
    let after = c.start_call.new.stream in
    let s = both c.args.port.now c.args.gate.now in
    let t = both c.start_call.new.port c.start_call.new.gate in
    record {
      takes = reads_first-by P g.G.Gate s t t stream c.args.frames (after, Err c.in-Err.error) (after, Err c.in-Err.error) c.in-Err.ensures.takes
          (record { there = refl; result = refl });
      reads = reads-none P s.0 t.0 stream after c.args.out.now c.args.out.now c.in-Err.error c.in-Err.ensures.got_nothing
          (λ runs. let waits = c.requires.prepared in absurd (cc));
      few = tt;
    }

pub transfer-requires : goal.transfer-requires
transfer-requires g c =
    let keeps = c.in_default.ensures.keeps in
    record {
      sound = keeps.sound;
      going = c.in_default.ensures.going;
      room = HasRoom-same c.args.stream.now c.start_call.new.stream c.args.frame.now keeps.same_ring keeps.same_setup c.requires.room;
      fits = fits-same c.args.stream.now c.start_call.new.stream c.args.frames (length c.args.out.now) keeps.same_setup c.requires.fits;
    }

pub returns : goal.returns
returns g c =
    let P = g.P.SnoopPort in
    let stream = c.args.stream.now in
    let begun = c.start_call.new.stream in
    let after = c.transfer.new.stream in
    let s = both c.args.port.now c.args.gate.now in
    let t = both c.start_call.new.port c.start_call.new.gate in
    let u = both c.transfer.new.port c.transfer.new.gate in
    let first = c.in_default.ensures in
    record {
      takes = reads_first-by P g.G.Gate s t u stream c.args.frames (begun, Ok c.in_default.field-0) (after, c.transfer.result) first.takes
          c.transfer.ensures.takes;
      reads = reads-behind P g.met.P.SnoopPort.got_composes s.0 t.0 u.0 stream begun after c.args.out.now c.transfer.new.out c.transfer.result
          first.got_nothing first.keeps.same_ring first.keeps.same_setup first.going.running (λ runs. let waits = c.requires.prepared in absurd (cc))
          c.transfer.ensures.reads;
      few = c.transfer.ensures.few;
    }
