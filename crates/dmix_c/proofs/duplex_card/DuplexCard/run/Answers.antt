use Rattle.dmix_c.specs.Prelude.{refl, sym, ◌∙◌, false≢true}
use Rattle.dmix_c.proofs.duplex_card.DuplexCard.run.Goals as goal

pub returns-then-not-are_buffers : goal.returns-then-not-are_buffers
returns-then-not-are_buffers c = record {
  defect = λ other. (refl, refl, refl);
  ran = λ fit. absurd (false≢true (sym c.if-not-are_buffers.true ∙ c.are_buffers.ensures.1 fit));
  period = refl;
}

pub returns : goal.returns
returns c =
    let made = c.run_frames.ensures in
    record {
      defect = λ refuses. absurd (refuses (c.are_buffers.ensures.0 c.if-not-are_buffers.false));
      ran = λ fit. record { runs = made.runs; count = made.count; lap_end = made.lap_end; only = made.only };
      period = made.period;
    }
