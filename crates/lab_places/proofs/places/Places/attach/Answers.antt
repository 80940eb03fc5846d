use Rattle.lab_places.specs.Prelude.{ap, Err, Ok, refl, Some, sym, ◌∙◌, position_of_player, free_seats, lobby_of}
use Rattle.lobby.specs.Loads.{HasLoadedBeside}
use Rattle.lab_places.proofs.Attached.{attaches-met, attaches-refused, free-given, given-is, place-given}
use Rattle.lab_places.proofs.Attaching.{lobby-attaches}
use Rattle.lab_places.proofs.Laying.{laid-attached, laid-met}
use Rattle.lab_places.proofs.places.Places.attach.Goals as goal

pub returns-in-Ok-clause-attaches : goal.returns-in-Ok-clause-attaches
returns-in-Ok-clause-attaches c number lobby is =
    attaches-met number (position_of_player c.args.player.now) lobby c.attach_beside.new.player c.meet_player.new.player c.in-Ok.seat c.meet_player.new.seat _
    (lobby-attaches (λ x s t. HasLoadedBeside c.args.player.now s c.attach_beside.new.player t x) number (position_of_player c.args.player.now) lobby
    (lobby_of c.args.self.now) c.attach_beside.new.self (Ok c.in-Ok.seat) is.places is.seen (λ none. let came = c.in-Ok.ensures.none_free none in (came.0, came.1)) c.in-Ok.ensures.free c.in-Ok.ensures.published_last)
    c.meet_player.ensures

pub returns-in-Ok-clause-given : goal.returns-in-Ok-clause-given
returns-in-Ok-clause-given c =
    given-is c.args.self.now (lobby_of c.args.self.now) c.attach_beside.new.self (position_of_player c.args.player.now) c.attach_beside.new.player c.meet_player.new.player
    c.in-Ok.seat c.meet_player.new.seat refl c.in-Ok.ensures.player.position c.in-Ok.ensures.silent
    (c.in-Ok.ensures.published_last (free-given (lobby_of c.args.self.now) c.attach_beside.new.self c.in-Ok.seat (Ok c.in-Ok.seat) refl (λ none. let came = c.in-Ok.ensures.none_free none in (came.0, came.1))))
    c.meet_player.ensures

pub returns-in-Ok-clause-place : goal.returns-in-Ok-clause-place
returns-in-Ok-clause-place c =
    let some_free = free-given (lobby_of c.args.self.now) c.attach_beside.new.self c.in-Ok.seat (Ok c.in-Ok.seat) refl (λ none. let came = c.in-Ok.ensures.none_free none in (came.0, came.1)) in
    place-given (λ x s t. HasLoadedBeside c.args.player.now s c.attach_beside.new.player t x) (lobby_of c.args.self.now) c.attach_beside.new.self (position_of_player c.args.player.now)
    c.in-Ok.seat some_free c.in-Ok.ensures.free (c.in-Ok.ensures.published_last some_free)
    ∙ ap Some (sym c.meet_player.ensures.member)

pub returns-in-Err-clause-attaches : goal.returns-in-Err-clause-attaches
returns-in-Err-clause-attaches c number lobby is =
    attaches-refused number (position_of_player c.args.player.now) lobby c.in-Err.e _
    (lobby-attaches (λ x s t. HasLoadedBeside c.args.player.now s c.attach_beside.new.player t x) number (position_of_player c.args.player.now) lobby
    (lobby_of c.args.self.now) c.attach_beside.new.self (Err c.in-Err.e) is.places is.seen (λ none. let came = c.in-Err.ensures.none_free none in (came.0, came.1)) c.in-Err.ensures.free c.in-Err.ensures.published_last)

pub returns-in-Ok-clause-laid : goal.returns-in-Ok-clause-laid
returns-in-Ok-clause-laid c =
    laid-met c.attach_beside.new.player c.meet_player.new.player (free_seats (lobby_of c.args.self.now)) (free_seats c.attach_beside.new.self) c.in-Ok.seat c.meet_player.new.seat
    c.meet_player.ensures
    (laid-attached (λ x s t. HasLoadedBeside c.args.player.now s c.attach_beside.new.player t x) (lobby_of c.args.self.now) c.attach_beside.new.self (Ok c.in-Ok.seat)
    (λ none. let came = c.in-Ok.ensures.none_free none in (came.0, came.1)) c.in-Ok.ensures.free)

pub returns-in-Err-clause-laid : goal.returns-in-Err-clause-laid
returns-in-Err-clause-laid c =
    laid-attached (λ x s t. HasLoadedBeside c.args.player.now s c.attach_beside.new.player t x) (lobby_of c.args.self.now) c.attach_beside.new.self (Err c.in-Err.e)
    (λ none. let came = c.in-Err.ensures.none_free none in (came.0, came.1)) c.in-Err.ensures.free
