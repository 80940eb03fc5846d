use Rattle.snoop_table.specs.Prelude.{ap, arith, subst, sym, ◌∙◌, Me, Geometry, View, IsBorneOut, view_of, desk_track}
use Rattle.snoop_table.proofs.Cuts.{joins, closed_borne_out, learns_both}
use Rattle.snoop_table.proofs.seats.reader.ReaderSeat.close.Goals as goal

pub join_seat-requires : goal.join_seat-requires
join_seat-requires c =
    let s = c.args.self in
    let d = c.args.writer.desk in
    (s.same_ring.0, c.requires.0 ∙ s.same_ring.0, d.same_ring.2, omega (arith, s.same_ring.3), joins s.ring.now.key s.seat.id s.seat.me.0 d.seat.id d.seat.me.0)

pub load-requires : goal.load-requires
load-requires c =
    let s = c.args.self in
    (c.join_seat.ensures.0 ∙ s.same_ring.0, omega (arith, s.same_ring.3), learns_both _ _ _ s.seat.me.0 c.args.writer.desk.seat.me.0 _ _ c.join_seat.ensures.2 (s.known.same_geometry ∙ s.same_ring.1))

pub returns : goal.returns
returns c =
    let s = c.args.self in
    let d = c.args.writer.desk in
    record {
      last = d.known.position_is;
      borne_out = subst (λ (g : Geometry). IsBorneOut g (desk_track d) (view_of s)) (sym c.requires.1)
          (closed_borne_out s d s.ring.now.table_id.slots c.load.result c.join_seat.new.seat.me c.load.new.seat.me (ap (λ (m : Me (Unit {0}) View). m.0) c.join_seat.ensures.2) c.load.ensures.2);
    }
