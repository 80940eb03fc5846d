use Rattle.lab_readers.specs.Prelude.{arith, refl, rules, subst, sym, ◌∙◌, HasAsked, at_gate_of, by_gate_of, left_of}
use Rattle.lab_actors.specs.Shares.{at_gate_in, left_in, stops_in}
use Rattle.lab_readers.proofs.PartLaws.{ReaderPart-shared}
use Rattle.lab_readers.proofs.lines.ReaderActor.run_at.Goals as goal

pub returns-clause-part : goal.returns-clause-part
returns-clause-part g c =
    let stops = g.G.Gate.stops in
    let asks = g.G.Gate.asked in
    let begun = c.new-countdown.ensures in
    let own = c.do_lines.ensures.own_gate in
    let same_gate = sym (own.same_gate ∙ begun.same_gate) in
    let left_behind = c.end-self.ensures.gate in
    let counted = own.count_is in
    let none = begun.at_gate ∙ c.open-tally.ensures.asks in
    record {
      asks = own.more;
      asked = subst (λ (after : _). HasAsked asks c.args.gate.now after own.more) (search rules)
          (subst (λ (before : _). HasAsked asks before c.do_lines.new.gate.gate.now own.more) begun.gate own.asked_it);
      part = ReaderPart-shared g.P.SnoopPort left_of (by_gate_of stops) at_gate_of left_in stops_in at_gate_in c.args.port.now c.do_lines.new.port
          c.new-countdown.result c.do_lines.new.gate _ _ c.args.phase _ c.args.self.now c.do_lines.new.self _ _
          begun.left begun.by_gate none (sym c.end-self.ensures.left) (search rules) (omega (arith, counted, none))
          (record { number = refl; reader = refl; frames = refl; samples = refl; rows = refl }) c.do_lines.ensures.part;
    }
