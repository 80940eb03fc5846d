use Rattle.lab_clients.specs.Prelude.{refl, subst, sym, ◌∙◌, IfSome, Option, Some, OpenClient, IsReady, AllRefused, GoesOrRests, HasRoomBy, number_of, HasRun}
use Rattle.lab_clients.specs.Prelude.{IsOpenReady}
use Rattle.lab_clients.specs.SeatPort.{seat_port}
use Rattle.lab_clients.proofs.client.LabClient.run_lines.Goals as goal

pub run_lines-requires-clause-rows_room : goal.run_lines-requires-clause-rows_room
run_lines-requires-clause-rows_room g c = (subst (λ (own : Option OpenClient). HasRoomBy c.args.lines.now c.args.self.now own) c.in-Some.is c.requires.room).rows

pub run_lines-requires-clause-ended_room : goal.run_lines-requires-clause-ended_room
run_lines-requires-clause-ended_room g c = (subst (λ (own : Option OpenClient). HasRoomBy c.args.lines.now c.args.self.now own) c.in-Some.is c.requires.room).ended

pub returns-in-Some : goal.returns-in-Some
returns-in-Some g c =
    let d = c.args.self.now in
    let o = c.in-Some.own in
    let p : OpenClient = record { actor = c.run_lines.new.self; bindings = o.bindings; seat = c.run_lines.new.port; opened_at = o.opened_at } in
    let wav = c.args.wav.now in
    let lines = c.args.lines.now in
    let before = g.G.Gate.stops c.args.gate.now in
    let after = g.G.Gate.stops c.run_lines.new.gate in
    let turn = c.run_lines.ensures.part in
    let is = c.run_lines.ensures.ready in
    let was : IsReady seat_port wav o.seat o.actor.client = subst (λ (own : Option OpenClient). IfSome own (IsOpenReady wav)) c.in-Some.is c.requires.ready in
    record {
      asks = turn.asks;
      asked = turn.asked;
      then = record {
        own = subst (λ (own : Option OpenClient). GoesOrRests (HasRun before after turn.asks c.args.phase wav lines)
            (AllRefused before after turn.asks c.args.phase (number_of d) lines d.rows.items d.rows.items) own (Some p)) (sym c.in-Some.is) (record {
              part = turn.part;
              ready = is;
              same = record { bindings = refl; opened_at = refl; member = is.usable.same_member ∙ turn.part.extends.same_member ∙ sym was.usable.same_member };
            });
        rest = record { number = refl; ended = refl };
      };
    }
