use Rattle.lab_places.specs.Held.{lobby_of, share_of}
use Rattle.lab_places.proofs.Closing.{closed-is}
use Rattle.lab_places.proofs.Laying.{laid-back}
use Rattle.lab_places.proofs.places.Places.reap.Goals as goal

pub returns-clause-closes : goal.returns-clause-closes
returns-clause-closes c number held held_by before own holds last =
    let came = closed-is (share_of c.args.self.now) (lobby_of c.args.self.now) (lobby_of c.release.new.self) c.reap.new.self c.release.new.self.shares number c.args.bindings.now c.args.opened_at
    c.args.seat held before own held_by.lobby.places held_by.lobby.seen c.release.ensures.same.lobby c.reap.ensures.back
    (c.release.ensures.claims held.claims held_by.claims) holds last in
    record { lobby = record { places = came.0; seen = came.1 }; claims = came.2 }

pub returns-clause-laid : goal.returns-clause-laid
returns-clause-laid c =
    laid-back (lobby_of c.release.new.self) c.reap.new.self (lobby_of c.args.self.now) c.args.seat c.release.ensures.same.lobby c.requires.can.seat c.reap.ensures.back
