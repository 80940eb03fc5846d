use Rattle.std.proofs.Common.{rules}
use Rattle.std.proofs.Common.{refl}
use Rattle.dmix_c.proofs.FreePlaces.{IsHandedOut-given, StayFree-given, StayFree-refused, lowest_silent-refused}
use Rattle.dmix_c.proofs.Ringed.{IsSilentSeat-later}
use Rattle.dmix_c.proofs.open_ring.OpenRing.attach.Goals as goal

pub returns-in-Ok : goal.returns-in-Ok
returns-in-Ok c =
    let goes = c.attach.ensures.goes in
    record {
      keeps = record {
        ring = goes.ring;
        key = goes.key;
        places = goes.places;
        free = StayFree-given c.args.self.now.lobby c.attach.new.self c.in-Ok.seat (λ none. let came = c.in-Ok.ensures.none_free none in (came.0, came.1)) c.in-Ok.ensures.free;
        capture = refl;
        rate = refl;
        period = refl;
      };
      silent = IsSilentSeat-later c.args.self.now.lobby c.attach.new.self _ _ goes.ring goes.key c.in-Ok.ensures.silent;
      lowest = IsHandedOut-given c.args.self.now.lobby c.attach.new.self c.in-Ok.seat (λ none. let came = c.in-Ok.ensures.none_free none in (came.0, came.1)) c.in-Ok.ensures.free;
      none = search rules;
    }

pub returns-in-Err-clause-keeps : goal.returns-in-Err-clause-keeps
returns-in-Err-clause-keeps c =
    let goes = c.attach.ensures.goes in
    record {
      ring = goes.ring;
      key = goes.key;
      places = goes.places;
      free = StayFree-refused c.args.self.now.lobby c.attach.new.self _ (λ none. let came = c.in-Err.ensures.none_free none in (came.0, came.1)) c.in-Err.ensures.free;
      capture = refl;
      rate = refl;
      period = refl;
    }

pub returns-in-Err-clause-none : goal.returns-in-Err-clause-none
returns-in-Err-clause-none c = (
  refl,
  lowest_silent-refused c.args.self.now.lobby c.attach.new.self _ (λ none. let came = c.in-Err.ensures.none_free none in (came.0, came.1)) c.in-Err.ensures.free,
)
