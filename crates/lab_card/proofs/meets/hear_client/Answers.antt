use Rattle.lab_card.specs.Prelude.{ap, arith, sym, ◌∙◌, ◌≡◌, Cursor, Track, View, next_frame, writer_geometry, writer_ring, writer_track, frame_of_card}
use Rattle.lab_card.specs.Prelude.{seat_of_card}
use Rattle.lab_card.proofs.Hearing.{noted-heard, published-heard}
use Rattle.lab_card.proofs.meets.hear_client.Goals as goal

pub meet_client-requires : goal.meet_client-requires
meet_client-requires c = (c.note-note.ensures.ring ∙ c.requires.0, c.note-note.ensures.key ∙ c.requires.1)

pub returns : goal.returns
returns c =
    let p = seat_of_card c.args.card.now in
    let q = seat_of_card c.meet_client.new.self in
    let note = c.note-note.ensures in
    let heard = c.meet_client.ensures.heard in
    let same = c.meet_client.ensures.writer in
    let next : frame_of_card c.meet_client.new.self ≡ frame_of_card c.args.card.now = ap (λ (x : Cursor). x.frame) heard.next in
    record {
      card = record {
        player = record { ring = heard.goes.ring; key = heard.goes.key; track = heard.track; next = heard.next };
        writer = record { ring = ap writer_ring same; geometry = ap writer_geometry same; track = ap writer_track same; next = ap next_frame same };
        period = c.meet_client.ensures.period;
        records = c.meet_client.ensures.records;
      };
      seat = assumption;
      knows = record {
        seen = omega (arith, note.stays.seen, note.seen, heard.seen, c.args.card.now.published, next);
        positions = published-heard p q c.args.seat.now c.note-note.new.self c.note-note.result note heard;
        noted = noted-heard p q c.args.seat.now c.note-note.new.self c.note-note.result c.requires.1 note heard;
        gone = λ is. ap (λ (t : Track). t.gone) heard.track ∙ heard.gone (note.gone ∙ (sym (ap (λ (v : View). v.seen_gone) note.same_view) ∙ is));
      };
    }
