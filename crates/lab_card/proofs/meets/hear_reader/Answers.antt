use Rattle.lab_card.specs.Prelude.{desk_of, writer_of}
use Rattle.lab_card.proofs.Meeting.{borne-heard}
use Rattle.lab_card.proofs.meets.hear_reader.Goals as goal

pub returns-clause-knows : goal.returns-clause-knows
returns-clause-knows c =
    borne-heard (desk_of (writer_of c.args.card.now)) (desk_of (writer_of c.meet_reader.new.self)) c.args.seat.now c.note-note.new.self c.note-note.result.seat
    c.note-note.ensures.split c.meet_reader.ensures.heard.heard
