use Rattle.lab_readers.specs.Prelude.{ap, arith, length, List, map, take, ℕ, length-append, length-map, length-take-le, number_of}
use Rattle.lab_readers.proofs.end.push_runs.Goals as goal

pub unwrap-requires : goal.unwrap-requires
unwrap-requires c =
    let is = c.loop-index.invariant in
    let before = c.args.all.now in
    let runs = c.runs-runs.result.now in
    let done = take c.loop-index.index runs in
    let with_number : ℕ × ℕ → ℕ × ℕ × ℕ = λ run. (number_of c.args.reader.now, run.0, run.1) in
    c.push.ensures.succeeds (omega (
      arith,
      c.requires,
      is.room,
      c.loop-index-test.true,
      c.loop-index.all.ok.0,
      before.ok.0,
      ap length is.runs,
      length-append before.items (map with_number done),
      length-map done with_number,
      length-take-le c.loop-index.index runs c.loop-index.auto.index-end,
      ap (λ (all : List (ℕ × ℕ)). length (map with_number all)) c.runs-runs.ensures.report,
      length-map runs with_number,
    ))
