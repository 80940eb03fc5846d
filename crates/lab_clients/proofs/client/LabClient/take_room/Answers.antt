use Rattle.lab_clients.specs.Prelude.{subst, sym, ℕ, line_count, HasSpace, OpenClient, HasRoomAt}
use Rattle.lab_clients.proofs.Results.{OnOk-both}
use Rattle.lab_lines.specs.declared.line.Actor.TheVariants as actor
use Rattle.lab_clients.proofs.client.LabClient.take_room.Goals as goal

pub returns-in-Some-clause-room : goal.returns-in-Some-clause-room
returns-in-Some-clause-room c =
    let o : OpenClient = record { actor = c.take_room.new.self; bindings = c.in-Some.own.bindings; seat = c.in-Some.own.seat; opened_at = c.in-Some.own.opened_at } in
    let lines = c.args.lines.now in
    let number = c.in-Some.own.actor.number in
    OnOk-both (HasSpace (line_count (actor.Client number) lines) o.actor.rows) (HasSpace (line_count (actor.Client number) lines) o.actor.ended) (HasRoomAt lines o) c.take_room.result
    (λ rows ended. record {
      rows = subst (λ (n : ℕ). HasSpace (line_count (actor.Client n) lines) o.actor.rows) (sym c.take_room.ensures.same.0) rows;
      ended = subst (λ (n : ℕ). HasSpace (line_count (actor.Client n) lines) o.actor.ended) (sym c.take_room.ensures.same.0) ended;
    })
    c.take_room.ensures.rows c.take_room.ensures.ended
