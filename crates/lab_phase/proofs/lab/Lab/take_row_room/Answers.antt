use Rattle.lab_phase.specs.Prelude.{arith, ◌+◌, length, Lab, HasReportRoom-fewer, StaysAtStage-room}
use Rattle.lab_phase.proofs.lab.Lab.take_row_room.Goals as goal

pub returns-in_err-reserve-clause-kept : goal.returns-in_err-reserve-clause-kept
returns-in_err-reserve-clause-kept c = StaysAtStage-room c.args.self.now c.reserve.new.self c.args.self.now.room c.reserve.ensures.items (λ rows readers has. has)

pub returns-in_err-reserve-2-clause-kept : goal.returns-in_err-reserve-2-clause-kept
returns-in_err-reserve-2-clause-kept c = StaysAtStage-room c.args.self.now c.reserve.new.self c.reserve-2.new.self c.reserve.ensures.items c.reserve-2.ensures.kept

pub returns-clause-report : goal.returns-clause-report
returns-clause-report c =
    let lab : Lab = c.args.self.now in
    let readers = length lab.script.now.readers in
    let space = c.in_ok-reserve.ensures.ok in
    let capacity = c.capacity.ensures in
    let len = c.reserve.new.self.ok.0 in
    HasReportRoom-fewer c.capacity.result (length c.reserve.new.self.items + 1) readers c.reserve-2.new.self (omega (arith, space, capacity, len))
    (c.in_ok-reserve-2.ensures.room (length lab.rows.items + 0) readers c.requires.at.at.room)

pub returns-clause-kept : goal.returns-clause-kept
returns-clause-kept c = StaysAtStage-room c.args.self.now c.reserve.new.self c.reserve-2.new.self c.reserve.ensures.items c.reserve-2.ensures.kept
