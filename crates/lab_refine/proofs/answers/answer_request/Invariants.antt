use Rattle.lab_refine.specs.Prelude.{string_bytes, take, Answers}
use Rattle.lab_refine.proofs.answers.answer_request.Given as goal

abbrev pub invariant-loop-ask : goal.invariant-loop-ask
invariant-loop-ask l =
    Answers l.fn.request.slave.period l.initial.space (take l.ask-index l.ask-items) (string_bytes l.text) l.space
