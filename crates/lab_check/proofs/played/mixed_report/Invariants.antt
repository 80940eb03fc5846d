use Rattle.lab_check.specs.Prelude.{◌*◌, ◌-◌, ◌≡◌, ◌≤◌, range_with_len, map, mixed_at, placed_from}
use Rattle.lab_check.proofs.played.mixed_report.Given as goal

abbrev pub invariant-loop-done : goal.invariant-loop-done
invariant-loop-done l = record {
  most : l.done ≤ l.report.frames;
  items : l.played.items ≡ map (mixed_at l.script.card.channels l.report.first (placed_from l.script l.wavs l.report)) (range_with_len 0 (l.done * l.script.card.channels));
}

abbrev pub decreases-loop-done : goal.decreases-loop-done
decreases-loop-done l = l.report.frames - l.done
