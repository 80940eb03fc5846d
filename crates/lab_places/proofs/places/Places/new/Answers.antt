use Rattle.std.proofs.Common.{sym}
use Rattle.lab_places.proofs.Laying.{unlaid-new}
use Rattle.lab_places.proofs.Starting.{new-at}
use Rattle.lab_places.proofs.places.Places.new.Goals as goal

pub returns-clause-held : goal.returns-clause-held
returns-clause-held c = record {
  lobby = record { places = new-at c.args.seat c.in_ok-lobby.lobby c.in_ok-lobby.ensures.ok; seen = sym c.in_ok-lobby.ensures.ok.saw_none };
  claims = c.new-2.ensures.nothing;
}

pub returns-clause-laid : goal.returns-clause-laid
returns-clause-laid c = unlaid-new c.args.seat c.in_ok-lobby.lobby c.in_ok-lobby.ensures.ok
