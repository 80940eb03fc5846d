use Rattle.lab_clients.proofs.EndLaws.{AreAt-new}
use Rattle.lab_clients.proofs.clients.LabClients.new.Goals as goal

pub returns-clause-first : goal.returns-clause-first
returns-clause-first c session card setups =
    AreAt-new session c.args.seat c.args.share c.args.count (record { places = c.in_ok-places.places; clients = c.in_ok-clients.clients }) card setups c.in_ok-places.ensures.held
    c.in_ok-places.ensures.key c.in_ok-places.ensures.share c.in_ok-places.ensures.channels c.in_ok-places.ensures.laid c.in_ok-clients.ensures.new c.in_ok-clients.ensures.count
