use Rattle.lab_clients.specs.Prelude.{arith, sym, held_of, AreEach-length, clients_of, IsSameWithRows}
use Rattle.lab_clients.specs.Same.{AreAt-same}
use Rattle.lab_clients.proofs.Results.{OnErr-always}
use Rattle.lab_clients.proofs.clients.LabClients.open_with.Goals as goal

pub make_stream-requires-clause-usable : goal.make_stream-requires-clause-usable
make_stream-requires-clause-usable c = rw (c.geometry.ensures, c.requires.one_ring.1) c.requires.usable

pub returns-in_err-stream-clause-same : goal.returns-in_err-stream-clause-same
returns-in_err-stream-clause-same c = OnErr-always _ c.make_stream.ensures.same

pub returns-in_err-stream-clause-places : goal.returns-in_err-stream-clause-places
returns-in_err-stream-clause-places c = OnErr-always _ c.make_stream.ensures.places

pub open_made-requires : goal.open_made-requires
open_made-requires c =
    let run = c.requires.run in
    record {
      run = record {
        session = run.session;
        held = run.held;
        xs = run.xs;
        are = AreAt-same run.session run.held run.xs c.args.self.now c.make_stream.new.self c.make_stream.ensures.same c.make_stream.ensures.places run.are;
      };
      number = omega (arith, c.requires.number, AreEach-length IsSameWithRows 0 (clients_of c.args.self.now) (clients_of c.make_stream.new.self) c.make_stream.ensures.same);
      closed = c.make_stream.ensures.closed;
      kept = c.in_ok-stream.ensures.kept;
      stream = rw (c.make_stream.ensures.places, sym c.position-position.ensures.value, sym c.geometry.ensures) c.in_ok-stream.ensures.stream;
      one_ring = rw c.make_stream.ensures.places c.requires.one_ring;
      usable = rw c.make_stream.ensures.places c.requires.usable;
    }

pub returns-clause-after : goal.returns-clause-after
returns-clause-after c session stage before =
    c.open_made.ensures.after session stage (record {
      at = record {
        are = AreAt-same session (held_of stage) stage.clients c.args.self.now c.make_stream.new.self c.make_stream.ensures.same c.make_stream.ensures.places before.at.are;
        phase_is = before.at.phase_is;
      };
      setup_is = before.setup_is;
      position_is = before.position_is;
    })

pub returns-clause-card : goal.returns-clause-card
returns-clause-card c = rw (sym c.make_stream.ensures.places) c.open_made.ensures.card
