use Rattle.dmix_c.specs.Prelude.{refl, NeverStops, in_state}
use Rattle.dsnoop_client.specs.Calls.{after_hw_free}
use Rattle.dmix_c.proofs.ReaderMaking.{reader-made-by, reader-made-plain, reader_done-taken}
use Rattle.dmix_c.proofs.Unstopped.{reader-unstopped}
use Rattle.pcm_states.specs.declared.calls.Call.TheVariants as call
use Rattle.pcm_states.specs.declared.states.State.TheVariants as state
use Rattle.dmix_c.specs.declared.reader_calls.ReaderCall.TheVariants as asked
use Rattle.dmix_c.proofs.reader_calls.make_call.Goals as goal

abbrev gate : NeverStops
gate = record {}

pub returns-in-HwFree : goal.returns-in-HwFree
returns-in-HwFree c =
    let made = c.hw_free.ensures in
    reader-made-plain asked.HwFree call.HwFree gate (after_hw_free c.args.reader.now) c.hw_free.result c.in-HwFree.is refl refl refl refl c.requires
    made.refused made.freed c.done_of.ensures

pub returns-in-Prepare : goal.returns-in-Prepare
returns-in-Prepare c =
    let made = c.prepare.ensures in
    reader-made-plain asked.Prepare call.Prepare gate (in_state c.args.reader.now state.Prepared) c.prepare.result c.in-Prepare.is refl refl refl refl c.requires
    made.refused made.prepared c.done_of-in-Prepare.ensures

pub returns-in-Start : goal.returns-in-Start
returns-in-Start c =
    let made = c.start.ensures in
    reader-made-by asked.Start _ _ c.in-Start.is (reader_done-taken _ _ _ _ _ _ made.takes c.done_of-in-Start.ensures) (reader-unstopped _ _ _ _ _ made.keeps)
    made.keeps.port

pub returns-in-Drop : goal.returns-in-Drop
returns-in-Drop c =
    let made = c.drop_pending.ensures in
    reader-made-plain asked.Drop call.Drop gate (in_state c.args.reader.now state.Setup) c.drop_pending.result c.in-Drop.is refl refl refl refl c.requires
    made.refused made.dropped c.done_of-in-Drop.ensures

pub returns-in-AvailUpdate : goal.returns-in-AvailUpdate
returns-in-AvailUpdate c =
    let made = c.avail_update.ensures in
    reader-made-by asked.AvailUpdate _ _ c.in-AvailUpdate.is made.takes (reader-unstopped _ _ _ _ _ made.keeps) made.keeps.port
