use Rattle.lab_refine.specs.Prelude.{List, string_bytes, subst, ◌∙◌, take_all, Ask, Answers}
use Rattle.lab_refine.proofs.AnswerLaws.{Answers-next}
use Rattle.lab_refine.proofs.answers.answer_request.Goals as goal

pub loop-ask-preserved : goal.loop-ask-preserved
loop-ask-preserved c =
    Answers-next _ c.first_space-space.result _ _ c.as_slice-ask-items.result.now c.loop-ask.ask-index _ _ _ c.loop-ask.invariant
    c.loop-ask-test.true
    (rw c.slave_of-slave.ensures.period at c.in_ok-answer.ensures)

pub returns : goal.returns
returns c = record {
  answers = record {
    first = c.first_space-space.result;
    last = c.loop-ask.space;
    begins = rw (c.slave_of-slave.ensures.channels, c.slave_of-slave.ensures.rate, c.slave_of-slave.ensures.ring) at c.first_space-space.ensures;
    answered =
        subst (λ (asks : List Ask). Answers c.args.request.now.slave.period c.first_space-space.result asks (string_bytes c.loop-ask.text) c.loop-ask.space)
        (take_all _ _ c.loop-ask-test.false ∙ c.as_slice-ask-items.ensures) c.loop-ask.invariant;
  };
}
