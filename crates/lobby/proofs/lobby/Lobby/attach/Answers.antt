use Rattle.lobby.specs.Prelude.{ap, Some, subst, sym, ◌∙◌, ◌≡◌, same_Some, HasLoaded, Attaches, lowest_free}
use Rattle.lobby.proofs.Attaching.{attached, still_free}
use Rattle.lobby.proofs.lobby.Lobby.attach.Goals as goal

pub hand_out-requires : goal.hand_out-requires
hand_out-requires c =
    let l = c.args.self.now in
    let place : lowest_free l.seats.items ≡ Some c.in-Some.place = sym (c.in-Some.ensures ∙ ap lowest_free c.as_slice.ensures.value) in
    still_free l.seats.items c.load_at-position.new.self.seats.items c.in-Some.place c.load_at-position.ensures.lasts place

pub returns-clause-free : goal.returns-clause-free
returns-clause-free c place is =
    let l = c.args.self.now in
    let here : c.in-Some.place ≡ place = same_Some c.in-Some.place place (c.in-Some.ensures ∙ (ap lowest_free c.as_slice.ensures.value ∙ is)) in
    let load = c.load_at-position.ensures in
    let given = c.hand_out.ensures in
    subst (λ i. Attaches (λ p s t. HasLoaded s t p) i l c.hand_out.new.self c.hand_out.result) here
    (attached (λ p s t. HasLoaded s t p) c.in-Some.place l c.load_at-position.new.self c.hand_out.new.self c.load_at-position.result c.hand_out.result load.loads load.lasts load.seen given.outcome given.seen)
