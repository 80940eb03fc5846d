use Rattle.std.proofs.Common.{rules}
use Rattle.std.proofs.Common.{refl}
use Rattle.pcm_states.specs.declared.calls.Call.TheVariants as call
use Rattle.dsnoop_client.proofs.CallLaws.{Refusal, admitted-by, both, never-admitted, refused-answer, refused-by, refused-takes, sound-seen, usable-inside}
use Rattle.dsnoop_client.proofs.Refusing.{Keeps-refused}
use Rattle.dsnoop_client.proofs.Stepping.{reads-refused}
use Rattle.dsnoop_client.proofs.reader.Reader.readi.Goals as goal

pub returns-in_err-admit : goal.returns-in_err-admit
returns-in_err-admit g c =
    let P = g.P.SnoopPort in
    let v = c.args.self.now in
    let answer = c.from_residual.result in
    let r : Refusal v call.Transfer answer = refused-by c.self.view_is c.admit.ensures.answer c.in_err-admit.was c.from_residual.ensures.1 in
    record {
      takes = refused-takes P g.G.Gate (both c.args.port.now c.args.gate.now) _ r;
      refused = λ e found. (refused-answer r e found, refl, refl, refl, refl);
      reads = reads-refused P g.met.P.SnoopPort.got_composes c.args.port.now v c.args.out.now c.in_err-admit.field-0.0 answer c.from_residual.ensures.1;
      keeps = Keeps-refused P g.G.Gate (both c.args.port.now c.args.gate.now) v call.Transfer r.error answer (sound-seen c.self.view_is c.self.invariant.0)
          c.requires.port r.found r.answered;
      waits = λ admitted few. absurd (never-admitted r admitted);
      causes = λ admitted loads. absurd (never-admitted r admitted);
      asks = λ admitted loads. absurd (never-admitted r admitted);
    }

pub returns : goal.returns
returns g c = rw (← c.self.view_is, c.frames_answer.ensures) c.read_admitted-answer.ensures.reads

pub read_admitted-answer-requires : goal.read_admitted-answer-requires
read_admitted-answer-requires g c = record {
  sound = c.self.invariant.0;
  admitted = admitted-by c.self.inside.stream call.Transfer c.admit.ensures.answer c.in_ok-admit.was;
  port = usable-inside c.self.view_is c.requires.port;
  room = search rules;
}
