use Rattle.lab_clients.specs.Prelude.{ap, arith, drop, length, List, refl, subst, sym, take, ℕ, [], ◌*◌, ◌+◌, ◌∙◌, ◌≡◌, ◌≤◌, nat_tests, min, ℤ, ◌-◌}
use Rattle.lab_clients.specs.Prelude.{PlaybackStream, if_admitted, write_course, write-counted, Follows, frames_in, IsOffer, Sound, count_answer, frames_of}
use Rattle.lab_clients.specs.Prelude.{both}
use Rattle.lab_clients.proofs.Called.{answer-taken, called-from, fed-within}
use Rattle.lab_clients.proofs.Fed.{leaves-fed, writes-fed}
use Rattle.lab_clients.proofs.Offering.{Offers, Offers-Follows, Offers-IsOffer, slice-Offers}
use Rattle.lab_clients.proofs.StretchLaws.{ExtendsStretches-still}
use Rattle.pcm_states.specs.declared.calls.Call.TheVariants as call
use Rattle.lab_lines.specs.declared.line.Op.TheVariants as op
use Rattle.lab_clients.proofs.calls.write.Goals as goal

-- the frames that are offered, of the client's own count of frames
offered : (wav : Sound) (c : PlaybackStream) (offer : List ℤ) (fed frames : ℕ) → fed ≡ c.fed → offer ≡ take (min frames (frames_of wav - fed) * wav.channels) (drop (fed * wav.channels) wav.samples)
    → offer ≡ take (min frames (frames_of wav - c.fed) * wav.channels) (drop (c.fed * wav.channels) wav.samples)
offered wav c offer fed frames same is = is ∙ ap (λ (k : ℕ). take (min frames (frames_of wav - k) * wav.channels) (drop (k * wav.channels) wav.samples)) same

pub writei-answer-requires-clause-offer : goal.writei-answer-requires-clause-offer
writei-answer-requires-clause-offer g c = λ configured.
    let stream = c.args.client.now.stream in
    subst (λ (samples : List ℤ). IsOffer stream samples)
    (sym (offered c.args.wav.now stream c.next_frames-offer.result.now c.fed.result c.args.frames c.fed.ensures c.next_frames-offer.ensures.frames))
    (Offers-IsOffer c.args.wav.now stream c.args.frames (subst (λ (k : ℕ). 1 ≤ k) (sym c.requires.ready.channels) c.next_frames-offer.ensures.some) c.requires.ready.channels c.requires.ready.fed c.next_frames-offer.ensures.room c.requires.few)

pub returns : goal.returns
returns g c =
    let P = g.P.MixPort in
    let G = g.G.Gate in
    let met = g.met.P.MixPort in
    let does = c.writei-answer.ensures in
    let v = c.args.client.now in
    let stream = v.stream in
    let wav = c.args.wav.now in
    let offer = c.next_frames-offer.result.now in
    let n = min c.args.frames (frames_of wav - stream.fed) in
    let s = both c.args.port.now c.args.gate.now in
    let t = both c.writei-answer.new.port c.writei-answer.new.gate in
    let most : stream.fed + n ≤ frames_of wav = let fed = c.requires.ready.fed in grind (arith, nat_tests) in
    let some : 1 ≤ length stream.setup.bindings = subst (λ (k : ℕ). 1 ≤ k) (sym c.requires.ready.channels) c.next_frames-offer.ensures.some in
    let offers : Offers wav stream offer n =
    subst (λ (samples : List ℤ). Offers wav stream samples n)
    (sym (offered wav stream offer c.fed.result c.args.frames c.fed.ensures c.next_frames-offer.ensures.frames))
    (slice-Offers wav stream n some c.requires.ready.channels most) in
    let course = if_admitted stream call.Transfer (write_course stream v.ring offer (P.view c.args.port.now).marks.cursor) in
    called-from P G met.laid_composes met.held_laid s t wav v v c.writei-answer.new.self (op.Write c.args.frames) c.moved_answer.result offer [] offers.frames
    (answer-taken P G count_answer s t v c.writei-answer.new.self (op.Write c.args.frames) offer course c.writei-answer.result c.moved_answer.result does.takes refl c.moved_answer.ensures)
    does.keeps (subst (λ (k : ℕ). Follows stream wav.samples offer k) (sym offers.frames) (Offers-Follows wav stream offer n c.counts_are_sound.ensures.fed offers)) c.requires.ready c.requires.ready.backed
    (fed-within P G (stream.fed + frames_in stream offer) s t wav c.writei-answer.new.self.stream course c.writei-answer.result does.takes
    (write-counted (leaves-fed _) (writes-fed _ _) stream v.ring offer _ (omega arith)) (omega (arith, offers.frames, most)))
    (ExtendsStretches-still P met.laid_composes c.args.port.now stream stream wav.samples [] refl refl refl) refl
