use Rattle.lab_readers.specs.Prelude.{rules, subst, ℕ, ◌≤◌, HasSpace}
use Rattle.lab_readers.proofs.lines.ReaderActor.take_room.Goals as goal

pub returns-clause-room : goal.returns-clause-room
returns-clause-room c = record {
  lines = record {
    rows = subst (λ (count : ℕ). HasSpace count c.reserve.new.self) c.line_count-count.ensures.value c.in_ok-reserve.ensures.ok;
    runs = subst (λ (count : ℕ). count ≤ c.reserve-2.new.self.room) c.line_count-count.ensures.value c.in_ok-reserve-2.ensures.room;
  };
  samples = search rules;
}
