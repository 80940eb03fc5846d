use Rattle.lab_phase.specs.Prelude.{arith, refl, subst, sym, ◌<◌, length, ℕ, Actor, IsBorder, after_close, Lab, capture_of, DoesRow, session_of}
use Rattle.lab_phase.specs.Prelude.{DoesRow-clients, DoesRow-reader, after_close-keeps_clients, after_close-keeps_readers}
use Rattle.lab_readers.specs.StepLaws.{AreOfRing-at}
use Rattle.lab_phase.proofs.Numbers.{client_count, reader_count}
use Rattle.lab_lines.specs.declared.line.Actor.TheVariants as whose
use Rattle.lab_phase.proofs.lab.Lab.close.Goals as goal

pub close-requires-clause-number : goal.close-requires-clause-number
close-requires-clause-number c =
    let lab : Lab = c.args.self.now in
    let low : c.in-Client.number < length lab.script.now.clients =
    subst (IsBorder (length lab.script.now.clients) (length lab.script.now.readers)) c.in-Client.is c.requires.actor in
    let count = client_count lab c.requires.at.stage c.requires.at.at in
    omega (arith, low, count)

pub close-requires-in-Reader-clause-number : goal.close-requires-in-Reader-clause-number
close-requires-in-Reader-clause-number c =
    let lab : Lab = c.args.self.now in
    let low : c.in-Reader.number < length lab.script.now.readers =
    subst (IsBorder (length lab.script.now.clients) (length lab.script.now.readers)) c.in-Reader.is c.requires.actor in
    let count = reader_count lab c.requires.at.stage c.requires.at.at in
    omega (arith, low, count)

pub close-requires-in-Reader-clause-rings : goal.close-requires-in-Reader-clause-rings
close-requires-in-Reader-clause-rings c =
    let lab : Lab = c.args.self.now in
    let stage = c.requires.at.stage in
    AreOfRing-at (session_of lab) (capture_of lab) stage.readers lab.readers c.requires.at.at.actors.readers_are

pub returns-in-Client : goal.returns-in-Client
returns-in-Client c =
    let lab : Lab = c.args.self.now in
    let number : ℕ = c.in-Client.number in
    let after : Lab = record lab { clients = c.close.new.self } in
    record {
      does = subst (λ (who : Actor). DoesRow (λ stage. after_close (session_of lab) stage who) lab c.close.result after) (sym c.in-Client.is)
          (DoesRow-clients lab after (λ stage. after_close (session_of lab) stage (whose.Client number)) c.close.result
          (record { script = refl; wavs = refl; capture = refl; openings = refl }) (record { rows = refl; room = refl; phases = refl; next = refl }) refl refl c.close.ensures.card
          (λ stage. after_close-keeps_readers (session_of lab) stage number)
          (λ stage at. c.close.ensures.after (session_of lab) stage (record { are = at.actors.clients_are; phase_is = at.phases })));
      played = refl;
    }

pub returns-in-Reader : goal.returns-in-Reader
returns-in-Reader c =
    let lab : Lab = c.args.self.now in
    let number : ℕ = c.in-Reader.number in
    let after : Lab = record lab { readers = c.close-in-Reader.new.self } in
    record {
      does = subst (λ (who : Actor). DoesRow (λ stage. after_close (session_of lab) stage who) lab c.close-in-Reader.result after) (sym c.in-Reader.is)
          (DoesRow-reader lab after (λ stage. after_close (session_of lab) stage (whose.Reader number)) c.close-in-Reader.result
          (record { script = refl; wavs = refl; capture = refl; openings = refl }) (record { rows = refl; room = refl; phases = refl; next = refl }) refl refl
          (record { ring = c.close-in-Reader.ensures.spare.same_ring.0; geometry = c.close-in-Reader.ensures.spare.same_ring.1 })
          (λ stage. after_close-keeps_clients (session_of lab) stage number)
          (λ stage at. c.close-in-Reader.ensures.after (session_of lab) (capture_of lab) stage (record { are = at.actors.readers_are; phases = at.phases })));
      played = refl;
    }
