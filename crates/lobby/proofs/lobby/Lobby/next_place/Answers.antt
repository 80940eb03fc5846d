use Rattle.lobby.specs.Prelude.{ap, Some, sym, ◌∙◌, ◌≡◌, key_of, ring_of, lowest_silent}
use Rattle.lobby.proofs.Placed.{silent-given, silent-not_none}
use Rattle.lobby.proofs.lobby.Lobby.next_place.Goals as goal

pub unreachable-requires : goal.unreachable-requires
unreachable-requires c =
    let l = c.args.self.now in
    let place : lowest_silent c.args.position l.seats.items ≡ Some c.in-Some.place = sym (c.in-Some.ensures ∙ ap (lowest_silent c.args.position) c.as_slice.ensures.value) in
    silent-not_none c.args.position l.seats.items c.in-Some.place c.index.result.now place c.index.ensures c.in_default-index.is

pub returns : goal.returns
returns c =
    let l = c.args.self.now in
    let place : lowest_silent c.args.position l.seats.items ≡ Some c.in-Some.place = sym (c.in-Some.ensures ∙ ap (lowest_silent c.args.position) c.as_slice.ensures.value) in
    let given = silent-given (ring_of l.base) (key_of l.base) c.args.position l.seats.items c.in-Some.place c.index.result.now c.in-Some-index.seat l.placed place c.index.ensures c.in-Some-index.is in
    ap Some (c.member.ensures ∙ given.0) ∙ sym place
