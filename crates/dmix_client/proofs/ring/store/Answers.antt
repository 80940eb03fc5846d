use Rattle.dmix_client.specs.Prelude.{ap, arith, drop, List, sym, take, ℕ, ◌%◌, ◌*◌, ◌+◌, ◌-◌, ◌∙◌, ◌≡◌, ◌≤◌, mul-le-mul_right, nat_tests, ℤ, with_frames}
use Rattle.dmix_client.specs.Prelude.{written_over, stored-run}
use Rattle.dmix_client.proofs.ring.store.Goals as goal

pub loop-done-preserved : goal.loop-done-preserved
loop-done-preserved c =
    let done : ℕ = c.loop-done.done in
    let run : ℕ = c.min-run.result in
    let slot : c.slot_of-slot.result ≡ (c.args.from + done) % c.args.buffer_size = c.slot_of-slot.ensures.value in
    let few : run ≤ c.args.frames - done = grind (arith, nat_tests, c.min-run.ensures) in
    let fits : run ≤ c.args.buffer_size - c.slot_of-slot.result = grind (arith, nat_tests, c.min-run.ensures) in
    let within : done + run ≤ c.args.frames = omega (arith, few, c.loop-done.invariant.within) in
    let scaled : (done + run) * c.args.channels ≤ c.args.frames * c.args.channels = mul-le-mul_right c.args.channels within in
    let before : List ℤ = with_frames c.args.buffer_size c.args.channels c.args.ring.now c.args.from c.args.samples.now done in
    let part : List ℤ = take (run * c.args.channels) (drop (done * c.args.channels) c.args.samples.now) in
    record {
      within = within;
      so_far = c.write_frames.ensures
          ∙ ap (λ (xs : List ℤ). written_over xs (c.slot_of-slot.result * c.args.channels) part) c.loop-done.invariant.so_far
          ∙ ap (λ (s : ℕ). written_over before (s * c.args.channels) part) slot
          ∙ sym (stored-run c.args.buffer_size c.args.channels c.args.ring.now c.args.from c.args.samples.now done run
          (record { some = c.requires.some; room = c.requires.room })
          (omega (arith, scaled, c.requires.held)) (omega (arith, fits, slot, c.slot_of-slot.ensures.within)));
    }
