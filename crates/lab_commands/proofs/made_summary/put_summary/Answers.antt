use Rattle.lab_commands.specs.Prelude.{ap, List, subst, ℕ, ◌++◌, ◌∙◌, ◌≡◌, err_from_is_err_and, on_err_weaker, on_ok_weaker, option_map, Option, ℤ, TookPart}
use Rattle.lab_commands.specs.Prelude.{Outcome, outcome_in, Summary, Workload, IsSummaryOf, summary_text, HasPutSummary, HasPutSummaryPart}
use Rattle.lab_shelf.specs.Changes.{TookPart-nothing}
use Rattle.lab_commands.proofs.made_summary.put_summary.Goals as goal

-- the summary of what the run played
summary-of : (w : Workload) (outcome : Outcome) (played : List ℤ) (summary : Summary) → played ≡ outcome.played → IsSummaryOf w outcome.report played summary
    → IsSummaryOf w outcome.report outcome.played summary
summary-of w outcome played summary same is = subst (λ (samples : List ℤ). IsSummaryOf w outcome.report samples summary) same is

put-all : (w : Workload) (outcome : Outcome) (summary : Summary) (bytes : List ℕ) (taken taken_after : Option (List ℕ)) → IsSummaryOf w outcome.report outcome.played summary
    → bytes ≡ summary_text summary → taken_after ≡ option_map (λ t. t ++ bytes) taken → HasPutSummary w outcome taken taken_after
put-all w outcome summary bytes taken taken_after is shown text =
    record { summary = summary; is_summary = is; text = text ∙ ap (λ (all : List ℕ). option_map (λ t. t ++ all) taken) shown }

put-part : (w : Workload) (outcome : Outcome) (summary : Summary) (bytes : List ℕ) (taken taken_after : Option (List ℕ)) → IsSummaryOf w outcome.report outcome.played summary
    → bytes ≡ summary_text summary → TookPart taken taken_after bytes → HasPutSummaryPart w outcome taken taken_after
put-part w outcome summary bytes taken taken_after is shown text =
    record { summary = summary; is_summary = is; text = subst (λ (all : List ℕ). TookPart taken taken_after all) shown text }

pub returns-in_err-text-clause-part : goal.returns-in_err-text-clause-part
returns-in_err-text-clause-part g c =
    let p = err_from_is_err_and c.from_residual.result c.from_residual.ensures.1 in
    rw p.1
    (record {
      summary = c.summary_of-summary.result;
      is_summary = summary-of c.args.workload.now (outcome_in c.args.outcome.now) c.as_slice.result.now c.summary_of-summary.result c.as_slice.ensures.value c.summary_of-summary.ensures;
      text = TookPart-nothing (g.K.Sink.taken c.args.out.now) (summary_text c.summary_of-summary.result);
    })

pub returns : goal.returns
returns g c = record {
  done = on_ok_weaker c.put.result
      (λ text. put-all c.args.workload.now (outcome_in c.args.outcome.now) c.summary_of-summary.result c.as_bytes.result.now (g.K.Sink.taken c.args.out.now) (g.K.Sink.taken c.put.new.out)
      (summary-of c.args.workload.now (outcome_in c.args.outcome.now) c.as_slice.result.now c.summary_of-summary.result c.as_slice.ensures.value c.summary_of-summary.ensures)
      (c.as_bytes.ensures.value ∙ c.in_ok-text.ensures.ok) text)
      c.put.ensures.puts_text.taken;
  part = on_err_weaker c.put.result
      (λ text. put-part c.args.workload.now (outcome_in c.args.outcome.now) c.summary_of-summary.result c.as_bytes.result.now (g.K.Sink.taken c.args.out.now) (g.K.Sink.taken c.put.new.out)
      (summary-of c.args.workload.now (outcome_in c.args.outcome.now) c.as_slice.result.now c.summary_of-summary.result c.as_slice.ensures.value c.summary_of-summary.ensures)
      (c.as_bytes.ensures.value ∙ c.in_ok-text.ensures.ok) text)
      c.put.ensures.puts_text.text;
  only = c.put.ensures.puts_text.only;
  faults = c.put.ensures.puts_text.faults;
  reliable = c.put.ensures.puts_text.reliable;
}
