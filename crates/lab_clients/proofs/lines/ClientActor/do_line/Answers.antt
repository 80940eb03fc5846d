use Rattle.lab_clients.specs.Prelude.{ap, arith, List, refl, subst, sym, [], ◌++◌, ◌∙◌, ◌∷◌, ◌≡◌, if◌then◌else◌, Some, Segment, Row, ended_by, IsClientLine}
use Rattle.lab_clients.specs.Prelude.{with_member, at_gate_of, by_gate_of, left_of, both, ends_stretch, laid_of, client_of}
use Rattle.lab_clients.proofs.Answered.{ended_by-test}
use Rattle.lab_lines.specs.declared.line.Actor.TheVariants as actor
use Rattle.lab_clients.proofs.lines.ClientActor.do_line.Goals as goal

pub returns : goal.returns
returns g c =
    let P = g.P.MixPort in
    let by_gate = by_gate_of g.G.Gate.stops in
    let a = c.args.self.now in
    let asked = c.args.asked in
    let answer = c.answer_line-answer.result in
    let d = c.answer_line-answer.new.client in
    let answered = c.answer_line-answer.ensures.answered in
    let t = both c.answer_line-answer.new.port c.answer_line-answer.new.gate in
    let ended : List Segment = ended_by asked answer a.client.stream d.stream in
    let ends = c.ends_stretch-ends.ensures
    ∙ (λ i. ends_stretch asked answer (c.is_paused-was_paused.ensures i) (c.is_paused-paused.ensures i)) in
    let is : (if c.ends_stretch-ends.result then laid_of c.segment-segment.result else []) ≡ ended =
    (λ i. if ends i then laid_of (c.segment-segment.ensures i) else []) ∙ sym (ended_by-test asked answer a.client.stream d.stream) in
    let ended_is : c.push_ended.new.ended.items ≡ a.ended.items ++ ended = c.push_ended.ensures.items ∙ ap (λ (more : List Segment). a.ended.items ++ more) is in
    record {
      line = record {
        answer = answer;
        rows_are = c.push_row.ensures.items ∙ (λ i. a.rows.items ++ (let row : Row = record {
          phase = c.args.phase;
          actor = actor.Client a.number;
          op = asked;
          answer = answer;
          state = c.state.ensures i;
          seen = c.seen.ensures i;
        } in row) ∷ []);
        line = λ first ring from before at.
            subst (λ (segments : List Segment). IsClientLine P left_of by_gate at_gate_of first ring from t c.args.phase c.args.wav.now a.number before (client_of a) asked (record { own = Some (with_member a.number d.stream); ended = segments }) answer)
            (sym ended_is) (answered.line c.args.phase a.number a.ended.items first ring from before at);
        ended = ended;
        ended_are = ended_is;
        extends = answered.extends;
        same = refl;
      };
      ready = answered.ready;
      own_gate = c.answer_line-answer.ensures.own_gate;
      rows_room = record { few = (let one = c.push_row.ensures.one in omega (arith, one)); kept = c.push_row.ensures.room };
      ended_room = record { few = c.push_ended.ensures.few; kept = c.push_ended.ensures.room };
    }
