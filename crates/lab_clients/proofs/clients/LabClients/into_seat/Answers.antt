use Rattle.lab_clients.specs.Prelude.{ap, length, subst, sym, ◌∙◌, free_seats, laid_by_all, AreFree}
use Rattle.lobby.specs.declared.lobby.Lobby.{Lobby}
use Rattle.lab_clients.proofs.EndLaws.{AreFree-closed, IsPlacedAll-ended, places-ended}
use Rattle.lab_clients.proofs.clients.LabClients.into_seat.Goals as goal

pub close-requires : goal.close-requires
close-requires c =
    let run = c.requires in
    let has = c.close_all.ensures.ended run.session run.held run.xs run.are in
    subst (λ (l : Lobby). AreFree (free_seats l)) (sym c.into_lobby.ensures)
    (AreFree-closed run.session has.then_held has.ys c.close_all.new.self has.are c.close_all.ensures.closed)

pub returns-clause-placed : goal.returns-clause-placed
returns-clause-placed c session held xs are =
    IsPlacedAll-ended session held xs c.close_all.new.self c.close.result (c.close_all.ensures.ended session held xs are) c.close_all.ensures.closed
    (c.close.ensures.laid ∙ ap (λ (l : Lobby). laid_by_all (free_seats l)) c.into_lobby.ensures)

pub returns-clause-places : goal.returns-clause-places
returns-clause-places c session held xs are =
    c.close.ensures.places
    ∙ (ap (λ (l : Lobby). length (free_seats l)) c.into_lobby.ensures ∙ places-ended session held xs c.close_all.new.self (c.close_all.ensures.ended session held xs are))
