use Rattle.pcm_states.specs.declared.calls.Call.TheVariants as call
use Rattle.dsnoop_client.proofs.CallLaws.{admitted-by, admitted-call, refused-by, refused-call, usable-inside}
use Rattle.dsnoop_client.proofs.Refusing.{OnOk-of}
use Rattle.dsnoop_client.proofs.reader.Reader.start.Goals as goal

pub returns-in_err-admit : goal.returns-in_err-admit
returns-in_err-admit g c =
    refused-call c.self.view_is c.self.invariant.0 c.requires
    (refused-by c.self.view_is c.admit.ensures.answer c.in_err-admit.was c.from_residual.ensures.1)

pub returns : goal.returns
returns g c =
    let admitted = admitted-by c.self.inside.stream call.Start c.admit.ensures.answer c.in_ok-admit.was in
    rw (← c.self.view_is) (admitted-call admitted c.start_call.ensures.takes c.start_call.ensures.keeps
    c.start_call.ensures.causes)

pub start_call-requires-clause-sound : goal.start_call-requires-clause-sound
start_call-requires-clause-sound g c = c.self.invariant.0

pub start_call-requires-clause-unstopped : goal.start_call-requires-clause-unstopped
start_call-requires-clause-unstopped g c = OnOk-of c.admit.result _ c.in_ok-admit.was c.admit.ensures.unstopped

pub start_call-requires-clause-port : goal.start_call-requires-clause-port
start_call-requires-clause-port g c = usable-inside c.self.view_is c.requires
