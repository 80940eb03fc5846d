use Rattle.lab_clients.specs.Prelude.{ap, arith, length, map, take, ℕ, length-append, length-map, length-take-le, Segment}
use Rattle.lab_clients.proofs.segments.push_segments.Goals as goal

pub unwrap-requires : goal.unwrap-requires
unwrap-requires c =
    let is = c.loop-segment.invariant in
    let before = c.args.all.now in
    let done = take c.loop-segment.segment-index c.args.segments.now in
    let with_number : Segment → ℕ × Segment = λ s. (c.args.number, s) in
    c.push.ensures.succeeds (omega (
      arith,
      c.requires,
      is.room,
      c.loop-segment-test.true,
      c.loop-segment.all.ok.0,
      before.ok.0,
      ap length is.segments,
      length-append before.items (map with_number done),
      length-map done with_number,
      length-take-le c.loop-segment.segment-index c.args.segments.now c.loop-segment.auto.segment-index-end,
    ))
