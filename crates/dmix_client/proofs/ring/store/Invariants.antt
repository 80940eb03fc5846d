use Rattle.dmix_client.specs.Prelude.{◌-◌, ◌≡◌, ◌≤◌, with_frames}
use Rattle.dmix_client.proofs.ring.store.Given as goal

abbrev pub invariant-loop-done : goal.invariant-loop-done
invariant-loop-done l = record {
  within : l.done ≤ l.frames;
  so_far : l.ring ≡ with_frames l.buffer_size l.channels l.initial.ring l.from l.samples l.done;
}

abbrev pub decreases-loop-done : goal.decreases-loop-done
decreases-loop-done l = l.frames - l.done
