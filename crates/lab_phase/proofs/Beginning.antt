-- A lab at its beginning, over the seats of two new rings.
use Rattle.lab_phase.specs.Prelude.{arith, ◌≡◌, nat_tests, Option, [], Geometry, MixSeat, PlayerSeat, ReaderSeat, period_of, records_of, writer_of, Sound}
use Rattle.lab_phase.specs.Prelude.{first_frame, first_stage, Session, CardActor, seat_of_card, has_readers, IsCardIn}
use Rattle.sum_table.specs.declared.view.Key.{Key}
use Rattle.snoop_table.specs.declared.seats.writer.WriterSeat.{WriterSeat}
use Rattle.snd_base.specs.Places as rings
use Rattle.sum_table.specs.Rings as sum
use Rattle.snoop_table.specs.Rings as snoop

-- a card over new rings, that did no line yet and stores where the session has a reader, is the card of the first stage
pub IsCardIn-new : (session : Session) (capture : Option Sound) (a : CardActor) (key : Key) (player : PlayerSeat) (mix : MixSeat) (shape : Geometry) (writer : WriterSeat)
    (reader : ReaderSeat) → sum.HasSeats key player mix → snoop.HasSeats shape writer reader → seat_of_card a.card ≡ player → writer_of a.card ≡ writer
    → period_of a.card ≡ session.card.period → records_of a.card ≡ has_readers session → key.geometry ≡ session.ring → first_frame session.card ≡ rings.first_frame session.ring → a.played.items ≡ []
    → IsCardIn session capture (first_stage session) a
IsCardIn-new session capture a key player mix shape writer reader sums_are snoops player_is writer_is period records ring first none = grind (arith, nat_tests)
