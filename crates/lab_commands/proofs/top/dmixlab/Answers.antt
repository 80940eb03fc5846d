use Rattle.lab_commands.specs.Prelude.{rules, sym, ◌∙◌, InputFaults-other, OnOk-done, OutputFaults-other, form_of, texts}
use Rattle.lab_commands.proofs.Ends.{SaysWhy-stop, status_of-no, status_of-text, status_of-wav, status_of-reliable}
use Rattle.lab_commands.proofs.Only.{DoneIn-only}
use Rattle.lab_commands.proofs.top.dmixlab.Goals as goal

pub returns : goal.returns
returns g c = record {
  headline = search rules;
  asked = λ zero. OnOk-done c.command-end.result _ c.command-end.ensures.asked (sym c.status.ensures ∙ zero);
  exact = λ zero. DoneIn-only c.scripts_have_one_session.ensures c.command-end.result (form_of (texts c.args.words.now)) _ _ _ _ _ c.command-end.ensures.leaves (sym c.status.ensures ∙ zero);
  statuses = rw c.status.ensures c.command-end.ensures.statuses;
  words = search rules;
  script = λ files told.
      rw c.status.ensures
      (status_of-text c.command-end.result (form_of (texts c.args.words.now)) files _ _ (c.command-end.ensures.cause files told)
      c.command-end.ensures.words c.command-end.ensures.reads);
  wav = λ files told.
      rw c.status.ensures
      (status_of-wav c.command-end.result (form_of (texts c.args.words.now)) files _ _ (c.command-end.ensures.cause files told)
      c.command-end.ensures.words c.command-end.ensures.reads);
  no = λ files told.
      rw c.status.ensures
      (status_of-no c.command-end.result (form_of (texts c.args.words.now)) files _ _ (c.command-end.ensures.cause files told)
      c.command-end.ensures.words c.command-end.ensures.reads);
  read = search rules;
  missing = search rules;
  write = search rules;
  no_fetch_fault = λ other. InputFaults-other c.command-end.result _ _ c.command-end.ensures.reads (λ is. other (c.status.ensures ∙ is));
  no_write_fault = λ other. OutputFaults-other c.command-end.result _ _ _ _ c.command-end.ensures.writes (λ is. other (c.status.ensures ∙ is));
  complete = search rules;
  reliable = λ shelf out files told.
      rw c.status.ensures
      (status_of-reliable c.command-end.result (texts c.args.words.now) files (c.command-end.ensures.cause files told) c.command-end.ensures.words
      (c.command-end.ensures.reliable shelf out files told));
  rest = search rules;
  silent = λ zero. OnOk-done c.command-end.result _ c.put_reason.ensures.silent (sym c.status.ensures ∙ zero);
  line = λ other.
      rw c.status.ensures
      (SaysWhy-stop c.command-end.result _ (texts c.args.words.now) _ _ _ c.command-end.ensures.cause
      (λ is. c.command-end.ensures.reliable is.0 is.1) c.put_reason.ensures.line (λ is. other (c.status.ensures ∙ is)));
}
