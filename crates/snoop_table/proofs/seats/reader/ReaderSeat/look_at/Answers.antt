use Rattle.snoop_table.specs.Prelude.{arith, refl, subst, ◌<◌, step, none, Geometry, index_of-lt, word_load}
use Rattle.snoop_table.proofs.Keeps.{looks}
use Rattle.snoop_table.proofs.Reading.{has_looked}
use Rattle.snoop_table.proofs.seats.reader.ReaderSeat.look_at.Goals as goal

pub load-requires : goal.load-requires
load-requires g c =
    let s = c.args.self.now in
    let in_range = subst (λ (k : Geometry). c.args.channel < k.channels) s.known.same_geometry c.requires.next.channel in (
      s.same_ring.0,
      omega (arith, s.same_ring.3, c.requires.index, index_of-lt s.geometry c.args.frame c.args.channel in_range),
      rw (c.requires.frame, c.requires.channel, c.requires.index, ← s.same_ring.1, ← s.known.same_geometry)
          (looks s.ring.now.table_id.slots s.seat.id s.seat.me c.args.frame c.args.channel c.requires.next),
    )

pub returns : goal.returns
returns g c =
    let s = c.args.self.now in
    let slots = s.ring.now.table_id.slots in
    let in_range = subst (λ (k : Geometry). c.args.channel < k.channels) s.known.same_geometry c.requires.next.channel in
    let told : word_load c.args.frame c.args.channel (step slots c.args.index 0 0 none) s.seat.me c.load.result c.load.new.seat.me =
    rw (c.requires.frame, c.requires.channel) at c.load.ensures.2 in
    has_looked s _ slots c.args.index c.args.frame c.args.channel c.load.result c.load.ensures.0 refl refl in_range c.requires.index told
