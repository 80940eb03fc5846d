use Rattle.lab_readers.specs.Prelude.{ap, arith, refl, ◌∙◌, BadState, NotSupported, count_answer, done_answer, call_of, both}
use Rattle.pcm_states.specs.declared.states.State.TheVariants.{Prepared, Setup}
use Rattle.lab_readers.proofs.Called.{call-none, called-keeps, called-refused, called-state}
use Rattle.pcm_states.specs.declared.calls.Call.TheVariants as call
use Rattle.lab_lines.specs.declared.line.Op.TheVariants as op
use Rattle.lab_readers.proofs.calls.call.Goals as goal

pub returns-in-Start-clause-called : goal.returns-in-Start-clause-called
returns-in-Start-clause-called g c =
    called-keeps g.P.SnoopPort g.G.Gate g.met.P.SnoopPort.got_composes done_answer _ _ _ _ _ _ op.Start _ c.in-Start.is c.start.ensures refl c.done_answer.ensures refl refl

pub returns-in-Sync-clause-called : goal.returns-in-Sync-clause-called
returns-in-Sync-clause-called g c =
    called-keeps g.P.SnoopPort g.G.Gate g.met.P.SnoopPort.got_composes done_answer _ _ _ _ _ _ op.Sync _ c.in-Sync.is c.sync.ensures refl c.done_answer-in-Sync.ensures refl refl

pub returns-in-Avail-clause-called : goal.returns-in-Avail-clause-called
returns-in-Avail-clause-called g c =
    called-keeps g.P.SnoopPort g.G.Gate g.met.P.SnoopPort.got_composes count_answer _ _ _ _ _ _ op.Avail _ c.in-Avail.is c.avail_update.ensures refl c.count_answer.ensures refl refl

pub returns-in-Drop-clause-called : goal.returns-in-Drop-clause-called
returns-in-Drop-clause-called g c =
    let does = c.drop_pending.ensures in
    called-state g.P.SnoopPort g.G.Gate g.met.P.SnoopPort.got_composes _ _ _ _ _ op.Drop call.Drop Setup c.drop_pending.result _ c.in-Drop.is refl does.refused does.dropped c.done_answer-in-Drop.ensures
    c.requires.usable refl refl

pub returns-in-Prepare-clause-called : goal.returns-in-Prepare-clause-called
returns-in-Prepare-clause-called g c =
    let does = c.prepare.ensures in
    called-state g.P.SnoopPort g.G.Gate g.met.P.SnoopPort.got_composes _ _ _ _ _ op.Prepare call.Prepare Prepared c.prepare.result _ c.in-Prepare.is refl does.refused does.prepared c.done_answer-in-Prepare.ensures
    c.requires.usable refl refl

pub returns-in-Pause-clause-called : goal.returns-in-Pause-clause-called
returns-in-Pause-clause-called g c = rw (c.pause.ensures.unchanged, c.done_answer-in-Pause.ensures ∙ ap done_answer c.pause.ensures.answer)
    (called-refused g.P.SnoopPort g.G.Gate g.met.P.SnoopPort.got_composes _ _ _ _ NotSupported (ap (call_of c.args.reader.now) c.in-Pause.is) c.requires.usable)

pub returns-in_default : goal.returns-in_default
returns-in_default g c =
    let n = c.in_default in
    record {
      called = called-refused g.P.SnoopPort g.G.Gate g.met.P.SnoopPort.got_composes (both c.args.port.now c.args.gate.now) c.args.reader.now c.args.samples.now.items c.args.asked BadState
          (call-none c.args.reader.now c.args.asked n.not-Read n.not-Start n.not-Sync n.not-Avail n.not-Drop n.not-Prepare n.not-Pause) c.requires.usable;
      room = record { few = omega arith; kept = omega arith };
    }
