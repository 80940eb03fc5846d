use Rattle.lab_clients.specs.Prelude.{arith, refl, subst, [], after_drop, after_prepare, avail_answer, delay_answer, drain-done, number-counted, pause-done}
use Rattle.lab_clients.specs.Prelude.{resume-done, rewindable-counted, start-done, sync-done, IsBacked-held, count_answer, done_answer, IsFew}
use Rattle.pcm_states.specs.declared.states.State.TheVariants.{Setup}
use Rattle.lab_clients.proofs.Called.{IsReady-prepared, IsReady-resting, called-back, called-paused, called-refused, called-same, called-state, none-paused}
use Rattle.lab_clients.proofs.Fed.{counts-fed, leaves-fed, rewind-fed}
use Rattle.lab_clients.proofs.StretchLaws.{ExtendsStretches-ended, ExtendsStretches-still}
use Rattle.pcm_states.specs.declared.calls.Call.TheVariants as call
use Rattle.lab_lines.specs.declared.line.Op.TheVariants as op
use Rattle.lab_clients.proofs.calls.call.Goals as goal

pub returns-in-Write : goal.returns-in-Write
returns-in-Write g c = rw c.in-Write.is c.write.ensures

pub write-requires : goal.write-requires
write-requires g c = record { few = subst IsFew c.in-Write.is c.requires.few; ready = c.requires.ready }

pub returns-in-Start : goal.returns-in-Start
returns-in-Start g c =
    let met = g.met.P.MixPort in
    called-same g.P.MixPort g.G.Gate met.laid_composes met.held_laid done_answer _ _ _ _ _ _ op.Start _ c.requires.ready c.in-Start.is c.start.ensures refl c.done_answer.ensures tt refl
    (start-done (leaves-fed _) c.args.client.now.stream c.args.client.now.ring _ (omega arith))

pub returns-in-Sync : goal.returns-in-Sync
returns-in-Sync g c =
    let met = g.met.P.MixPort in
    called-same g.P.MixPort g.G.Gate met.laid_composes met.held_laid done_answer _ _ _ _ _ _ op.Sync _ c.requires.ready c.in-Sync.is c.sync.ensures refl c.done_answer-in-Sync.ensures tt refl
    (sync-done (leaves-fed _) _ _ (omega arith))

pub returns-in-Avail : goal.returns-in-Avail
returns-in-Avail g c =
    let met = g.met.P.MixPort in
    called-same g.P.MixPort g.G.Gate met.laid_composes met.held_laid count_answer _ _ _ _ _ _ op.Avail _ c.requires.ready c.in-Avail.is c.avail_update.ensures refl c.count_answer.ensures tt refl
    (number-counted (leaves-fed _) (counts-fed _) avail_answer _ _ (omega arith))

pub returns-in-Delay : goal.returns-in-Delay
returns-in-Delay g c =
    let met = g.met.P.MixPort in
    called-same g.P.MixPort g.G.Gate met.laid_composes met.held_laid count_answer _ _ _ _ _ _ op.Delay _ c.requires.ready c.in-Delay.is c.delay.ensures refl c.count_answer-in-Delay.ensures tt refl
    (number-counted (leaves-fed _) (counts-fed _) delay_answer _ _ (omega arith))

pub returns-in-Drain : goal.returns-in-Drain
returns-in-Drain g c =
    let met = g.met.P.MixPort in
    called-same g.P.MixPort g.G.Gate met.laid_composes met.held_laid done_answer _ _ _ _ _ _ op.Drain _ c.requires.ready c.in-Drain.is c.drain.ensures refl c.done_answer-in-Drain.ensures tt refl
    (drain-done (leaves-fed _) c.args.client.now.stream c.args.client.now.ring _ (omega arith))

pub returns-in-Rewindable : goal.returns-in-Rewindable
returns-in-Rewindable g c =
    let met = g.met.P.MixPort in
    called-same g.P.MixPort g.G.Gate met.laid_composes met.held_laid count_answer _ _ _ _ _ _ op.Rewindable _ c.requires.ready c.in-Rewindable.is c.rewindable.ensures refl c.count_answer-in-Rewindable.ensures tt refl
    (rewindable-counted (leaves-fed _) (counts-fed _) c.args.client.now.stream (g.P.MixPort.view c.args.port.now).marks.floor (omega arith))

pub returns-in-Drop : goal.returns-in-Drop
returns-in-Drop g c =
    let P = g.P.MixPort in
    let composes = g.met.P.MixPort.laid_composes in
    let v = c.args.client.now in
    called-state P g.G.Gate composes _ _ _ _ _ op.Drop call.Drop (after_drop v.stream) c.drop_pending.result _ c.requires.ready c.in-Drop.is refl tt c.drop_pending.ensures.refused c.drop_pending.ensures.dropped
    c.done_answer-in-Drop.ensures (IsReady-resting P c.args.wav.now c.args.port.now v Setup refl c.requires.ready)
    (ExtendsStretches-still P composes c.args.port.now v.stream (after_drop v.stream) c.args.wav.now.samples [] refl refl refl)

pub returns-in-Prepare : goal.returns-in-Prepare
returns-in-Prepare g c =
    let P = g.P.MixPort in
    let met = g.met.P.MixPort in
    let v = c.args.client.now in
    called-state P g.G.Gate met.laid_composes _ _ _ _ _ op.Prepare call.Prepare (after_prepare v.stream) c.prepare.result _ c.requires.ready c.in-Prepare.is refl tt c.prepare.ensures.refused
    c.prepare.ensures.prepared c.done_answer-in-Prepare.ensures (IsReady-prepared P g.G.Gate met.ends_in_part c.args.wav.now c.args.port.now v c.requires.ready)
    (ExtendsStretches-ended P met.laid_composes c.args.port.now v.stream (after_prepare v.stream) c.args.wav.now.samples refl refl refl)

pub returns-in-Pause : goal.returns-in-Pause
returns-in-Pause g c =
    let met = g.met.P.MixPort in
    let does = c.pause.ensures in
    let v = c.args.client.now in
    called-paused g.P.MixPort g.G.Gate met.laid_composes met.held_laid done_answer met.ends_in_part _ _ _ _ _ _ op.Pause _ c.requires.ready c.counts_are_sound.ensures c.in-Pause.is does refl c.done_answer-in-Pause.ensures tt
    (rw (none-paused v c.pause.new.self (λ e found. (does.refused e found).1) (λ found. ((does.causes found).pauses refl).1)) refl) (pause-done (leaves-fed _) _ (omega arith))

pub pause-requires : goal.pause-requires
pause-requires g c on = c.requires.ready.usable

pub returns-in-Resume : goal.returns-in-Resume
returns-in-Resume g c =
    let met = g.met.P.MixPort in
    called-paused g.P.MixPort g.G.Gate met.laid_composes met.held_laid done_answer met.ends_in_part _ _ _ _ _ _ op.Resume _ c.requires.ready c.counts_are_sound.ensures c.in-Resume.is c.pause-in-Resume.ensures refl
    c.done_answer-in-Resume.ensures tt refl (resume-done (leaves-fed _) c.args.client.now.stream c.args.client.now.ring _ (omega arith))

pub pause-requires-in-Resume : goal.pause-requires-in-Resume
pause-requires-in-Resume g c off = c.requires.ready.usable

pub returns-in-Rewind : goal.returns-in-Rewind
returns-in-Rewind g c =
    called-back g.P.MixPort g.G.Gate g.met.P.MixPort.laid_composes count_answer _ _ _ _ _ _ _ _ c.requires.ready c.in-Rewind.is c.rewind.ensures refl c.count_answer-in-Rewind.ensures
    (rewind-fed _ _ _ _ c.counts_are_sound.ensures c.requires.unstopped)

pub rewind-requires-clause-standing : goal.rewind-requires-clause-standing
rewind-requires-clause-standing g c = λ runs going.
    IsBacked-held g.P.MixPort g.G.Gate c.args.port.now c.args.client.now c.args.wav.now.samples g.met.P.MixPort.ends_in_part c.counts_are_sound.ensures runs going c.requires.ready.backed

pub returns-in-Play : goal.returns-in-Play
returns-in-Play g c = called-refused g.P.MixPort g.G.Gate g.met.P.MixPort.laid_composes _ _ _ _ c.requires.ready c.in-Play.is
