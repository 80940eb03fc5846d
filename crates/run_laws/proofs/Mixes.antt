-- What the card played is the mix of the report's segments.
use Rattle.run_laws.specs.Prelude.{ap, arith, List, mul-le-mul, Option, refl, subst, sym, ℕ, ◌*◌, ◌+◌, ◌<◌, ◌∙◌, ◌≡◌, ◌≤◌, get_or-map-range_with_len}
use Rattle.run_laws.specs.Prelude.{length-map-range_with_len, div-mul-add, mod-mul-add, pos, suc, ◌%◌, clamp_of, total, Sound, Item, LabRun, mixed_at, Outcome}
use Rattle.run_laws.specs.Prelude.{outcome_of, report_of, Session, Stage, IsMixOf, placed_entries}

stage-mix : (session : Session) (capture : Option Sound) (end : Stage)
    → IsMixOf session (outcome_of session capture end).report (outcome_of session capture end).played
stage-mix session capture end =
    let report = report_of session end in
    let channels = session.card.channels in
    let mixed_of = mixed_at channels report.first (placed_entries session report) in
    record {
      first = refl;
      samples = length-map-range_with_len mixed_of 0 (report.frames * channels);
      sums = λ frame channel in_frames in_channels.
          let k = frame * channels + channel in
          let most : suc frame * channels ≤ report.frames * channels = mul-le-mul {n₁ = suc frame} {m₁ = channels} {n₂ = report.frames} {m₂ = channels} in_frames (omega arith) in
          let step : suc frame * channels ≡ frame * channels + channels = omega arith in
          let within : k < report.frames * channels = omega (arith, most, step, in_channels) in
          get_or-map-range_with_len mixed_of 0 (report.frames * channels) k k (pos 0) within (omega arith)
          ∙ ap (λ f. clamp_of (total (placed_entries session report) (report.first + f) (k % channels))) (div-mul-add frame channels channel in_channels)
          ∙ ap (λ c. clamp_of (total (placed_entries session report) (report.first + frame) c)) (mod-mul-add frame channels channel in_channels);
    }

pub LabRun-mix : (session : Session) (capture : Option Sound) (body : List Item) (client_stops reader_stops : ℕ → ℕ) (outcome : Outcome)
    → LabRun session capture body client_stops reader_stops outcome → IsMixOf session outcome.report outcome.played
LabRun-mix session capture body client_stops reader_stops outcome run =
    subst (λ (o : Outcome). IsMixOf session o.report o.played) (sym run.is) (stage-mix session capture run.end)
