use Rattle.dmix_c.specs.Prelude.{refl, [], false≢true, NeverStops, seat_view, after_drop, after_hw_free, after_prepare, avail_answer, delay_answer, drain-done}
use Rattle.dmix_c.specs.Prelude.{number-counted, pause-done, resume-done, rewind-counted, rewindable-counted, start-done}
use Rattle.dmix_c.proofs.Backing.{backed-back, backed-grows, backed-new, backed-paused, standing-held, still-set_up}
use Rattle.dmix_c.proofs.Making.{done-taken, made-plain, made-stepping}
use Rattle.dmix_c.proofs.Unstopped.{unstopped, unstopped-base, unstopped-number, unstopped-rewind}
use Rattle.pcm_states.specs.declared.calls.Call.TheVariants as call
use Rattle.dmix_c.specs.declared.client_calls.ClientCall.TheVariants as asked
use Rattle.dmix_c.proofs.client_calls.make_call.Goals as goal

abbrev gate : NeverStops
gate = record {}

pub returns-in-HwFree : goal.returns-in-HwFree
returns-in-HwFree c =
    let made = c.hw_free.ensures in
    made-plain asked.HwFree call.HwFree gate (record { stream = after_hw_free c.args.client.now.stream; ring = [] }) c.hw_free.result c.in-HwFree.is
    refl refl (λ e. refl) refl refl refl c.requires.usable
    (λ found. record { configured = λ has. absurd (false≢true has); backed = λ has. absurd (false≢true has) })
    made.refused made.freed c.done_of.ensures

pub returns-in-Prepare : goal.returns-in-Prepare
returns-in-Prepare c =
    let made = c.prepare.ensures in
    let v = c.args.client.now in
    made-plain asked.Prepare call.Prepare gate (record { stream = after_prepare v.stream; ring = v.ring }) c.prepare.result c.in-Prepare.is
    refl refl (λ e. refl) refl refl refl c.requires.usable
    (λ found. record {
      configured = λ has. still-set_up call.Prepare v (λ same. absurd (cc)) c.counts_are_sound.ensures found;
      backed = λ has samples is. backed-new c.args.seat.now _ refl refl refl samples;
    })
    made.refused made.prepared c.done_of-in-Prepare.ensures

pub returns-in-Start : goal.returns-in-Start
returns-in-Start c =
    let made = c.start.ensures in
    let v = c.args.client.now in
    made-stepping asked.Start c.done_of-in-Start.result made c.in-Start.is (λ same. absurd (cc)) c.counts_are_sound.ensures
    (done-taken _ _ _ _ _ _ made.takes c.done_of-in-Start.ensures) made.ring (λ still. start-done unstopped v.stream v.ring _ still) made.keeps.told
    made.keeps.port (backed-grows _ _ v c.start.new.self c.start.result made.keeps)

pub returns-in-Drop : goal.returns-in-Drop
returns-in-Drop c =
    let made = c.drop_pending.ensures in
    let v = c.args.client.now in
    made-plain asked.Drop call.Drop gate (record { stream = after_drop v.stream; ring = v.ring }) c.drop_pending.result c.in-Drop.is
    refl refl (λ e. refl) refl refl refl c.requires.usable
    (λ found. record {
      configured = λ has. still-set_up call.Drop v (λ same. absurd (cc)) c.counts_are_sound.ensures found;
      backed = λ has samples is. record { stands = is.stands; segment = is.segment };
    })
    made.refused made.dropped c.done_of-in-Drop.ensures

pub returns-in-Drain : goal.returns-in-Drain
returns-in-Drain c =
    let made = c.drain.ensures in
    let v = c.args.client.now in
    made-stepping asked.Drain c.done_of-in-Drain.result made c.in-Drain.is (λ same. absurd (cc)) c.counts_are_sound.ensures
    (done-taken _ _ _ _ _ _ made.takes c.done_of-in-Drain.ensures) made.ring (λ still. drain-done unstopped v.stream v.ring _ still) made.keeps.told
    made.keeps.port (backed-grows _ _ v c.drain.new.self c.drain.result made.keeps)

pub returns-in-Pause : goal.returns-in-Pause
returns-in-Pause c =
    let made = c.pause.ensures in
    let keeps = made.keeps c.requires.usable in
    let v = c.args.client.now in
    let d = c.pause.new.self in
    made-stepping asked.Pause c.done_of-in-Pause.result made c.in-Pause.is (λ same. absurd (cc)) c.counts_are_sound.ensures
    (done-taken _ _ _ _ _ _ made.takes c.done_of-in-Pause.ensures) made.ring (λ still. pause-done unstopped v.stream still)
    (λ still. keeps.told (unstopped-base v.stream d.stream still)) keeps.port (backed-paused _ _ v d c.pause.result c.counts_are_sound.ensures keeps)

pub pause-requires : goal.pause-requires
pause-requires c on = c.requires.usable

pub returns-in-Resume : goal.returns-in-Resume
returns-in-Resume c =
    let made = c.pause-in-Resume.ensures in
    let keeps = made.keeps c.requires.usable in
    let v = c.args.client.now in
    let d = c.pause-in-Resume.new.self in
    made-stepping asked.Resume c.done_of-in-Resume.result made c.in-Resume.is (λ same. absurd (cc)) c.counts_are_sound.ensures
    (done-taken _ _ _ _ _ _ made.takes c.done_of-in-Resume.ensures) made.ring (λ still. resume-done unstopped v.stream v.ring _ still)
    (λ still. keeps.told (unstopped-base v.stream d.stream still)) keeps.port (backed-paused _ _ v d c.pause-in-Resume.result c.counts_are_sound.ensures keeps)

pub pause-requires-in-Resume : goal.pause-requires-in-Resume
pause-requires-in-Resume c off = c.requires.usable

pub returns-in-AvailUpdate : goal.returns-in-AvailUpdate
returns-in-AvailUpdate c =
    let made = c.avail_update.ensures in
    let v = c.args.client.now in
    made-stepping asked.AvailUpdate c.avail_update.result made c.in-AvailUpdate.is (λ same. absurd (cc)) c.counts_are_sound.ensures made.takes made.ring
    (λ still. number-counted unstopped unstopped-number avail_answer v.stream v.ring still) made.keeps.told
    made.keeps.port (backed-grows _ _ v c.avail_update.new.self c.avail_update.result made.keeps)

pub returns-in-Delay : goal.returns-in-Delay
returns-in-Delay c =
    let made = c.delay.ensures in
    let v = c.args.client.now in
    made-stepping asked.Delay c.delay.result made c.in-Delay.is (λ same. absurd (cc)) c.counts_are_sound.ensures made.takes made.ring
    (λ still. number-counted unstopped unstopped-number delay_answer v.stream v.ring still) made.keeps.told
    made.keeps.port (backed-grows _ _ v c.delay.new.self c.delay.result made.keeps)

pub returns-in-Rewindable : goal.returns-in-Rewindable
returns-in-Rewindable c =
    let made = c.rewindable.ensures in
    let v = c.args.client.now in
    made-stepping asked.Rewindable c.rewindable.result made c.in-Rewindable.is (λ same. absurd (cc)) c.counts_are_sound.ensures made.takes made.ring
    (λ still. rewindable-counted unstopped unstopped-number v.stream (seat_view c.args.seat.now).marks.floor still) made.keeps.told
    made.keeps.port (backed-grows _ _ v c.rewindable.new.self c.rewindable.result made.keeps)

pub returns-in-Rewind : goal.returns-in-Rewind
returns-in-Rewind c =
    let made = c.rewind.ensures in
    let v = c.args.client.now in
    made-stepping (asked.Rewind c.in-Rewind.frames) c.rewind.result made c.in-Rewind.is (λ same. absurd (cc)) c.counts_are_sound.ensures made.takes made.ring
    (λ still. rewind-counted unstopped-rewind v.stream v.ring (seat_view c.args.seat.now).marks.floor c.in-Rewind.frames still) made.keeps.told
    made.keeps.port (backed-back _ _ v c.rewind.new.self c.rewind.result made.keeps)

pub rewind-requires-clause-standing : goal.rewind-requires-clause-standing
rewind-requires-clause-standing c = standing-held c.args.seat.now c.args.client.now c.counts_are_sound.ensures c.requires.backed
