use Rattle.lab_readers.specs.Prelude.{ap, arith, List, refl, subst, sym, ℕ, [], ◌++◌, ◌∙◌, ◌∷◌, ◌≡◌, range_with_len, Some, ◌-◌, Row, frames_by, IsReaderLine}
use Rattle.lab_readers.specs.Prelude.{at_gate_of, by_gate_of, left_of, both, ReaderActor, frames_of_runs, reader_of}
use Rattle.lab_readers.proofs.Called.{frames_by-count}
use Rattle.lab_readers.proofs.PartLaws.{HasGot-line}
use Rattle.lab_lines.specs.declared.line.Actor.TheVariants as actor
use Rattle.lab_readers.proofs.lines.ReaderActor.do_line.Goals as goal

pub returns : goal.returns
returns g c =
    let P = g.P.SnoopPort in
    let by_gate = by_gate_of g.G.Gate.stops in
    let a = c.args.self.now in
    let asked = c.args.asked in
    let answer = c.answer_line-answer.result in
    let d = c.answer_line-answer.new.reader in
    let answered = c.answer_line-answer.ensures.answered in
    let has_read = answered.has_read in
    let t = both c.answer_line-answer.new.port c.answer_line-answer.new.gate in
    let frames_are : frames_of_runs c.push.new.self.runs ≡ frames_of_runs a.frames.runs ++ frames_by asked answer d =
    c.push.ensures.frames
    ∙ ap (λ (frames : List ℕ). frames_of_runs a.frames.runs ++ frames)
    ((λ i. range_with_len (c.next.ensures i - c.frames_read-count.ensures i) (c.frames_read-count.ensures i)) ∙ sym (frames_by-count asked answer d)) in
    let after : ReaderActor = record a { reader = d; samples = c.answer_line-answer.new.samples; frames = c.push.new.self; rows = c.push_row.new.rows } in
    record {
      line = record {
        answer = answer;
        rows_are = c.push_row.ensures.items ∙ (λ i. a.rows.items ++ (let row : Row = record {
          phase = c.args.phase;
          actor = actor.Reader a.number;
          op = asked;
          answer = answer;
          state = c.state.ensures i;
          seen = c.seen.ensures i;
        } in row) ∷ []);
        line = λ fits first ring before at.
            subst (λ (frames : List ℕ). IsReaderLine P left_of by_gate at_gate_of first ring t c.args.phase a.number before (reader_of a) asked (record { own = Some d; frames = frames }) answer)
            (sym frames_are) (answered.line fits c.args.phase a.number (frames_of_runs a.frames.runs) first ring before at);
        loaded = answered.loaded;
        appends = record {
          numbers = frames_by asked answer d;
          numbers_are = frames_are;
          more = has_read.more;
          more_are = has_read.appended;
          samples = has_read.read;
        };
        same = record { number = refl; setup = has_read.same };
      };
      usable = has_read.usable;
      own_gate = c.answer_line-answer.ensures.own_gate;
      room = record {
        rows = record { few = (let one = c.push_row.ensures.one in omega (arith, one)); kept = c.push_row.ensures.room };
        runs = c.push.ensures.room;
      };
      got = HasGot-line P left_of by_gate at_gate_of (both c.args.port.now c.args.gate.now) t a after asked answer answered c.answer_line-answer.ensures.room;
    }
