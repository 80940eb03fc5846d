use Rattle.wav_io.specs.Prelude.{ap, Err, refl, subst, [], ◌≡◌, IfSome, Sixteen, error_of, Reader, contents, sounds}
use Rattle.wav_io.proofs.Readers.{starved_comes, refused_rest, ends_fed, sounds-frames, again_at, IfSome-weaker}
use Rattle.wav_io.proofs.reader.WavReader.finish.Goals as goal

pub returns-then-self-clause-err : goal.returns-then-self-clause-err
returns-then-self-clause-err c = rw (← c.self.view_is) (ap sounds (starved_comes Sixteen _ [] c.if-self.true))

pub returns-then-self-clause-frames : goal.returns-then-self-clause-frames
returns-then-self-clause-frames c bytes s is = sounds-frames (contents Sixteen bytes) s is

pub returns-in-Ok-clause-ok : goal.returns-in-Ok-clause-ok
returns-in-Ok-clause-ok c =
    let f = c.in-Ok.format in
    rw (← c.self.view_is)
    (ends_fed (record { scan = c.self.inside.scan; part = c.self.inside.part; starved = c.self.inside.is_starved }) f c.in-Ok.ensures.place.0 c.if-self.false c.in-Ok.ensures.place.1 c.self.invariant.part c.in-Ok.ensures.ok)

pub returns-in-Ok-clause-frames : goal.returns-in-Ok-clause-frames
returns-in-Ok-clause-frames c bytes s is = sounds-frames (contents Sixteen bytes) s is

pub returns-in-Err-clause-err : goal.returns-in-Err-clause-err
returns-in-Err-clause-err c = rw (← c.self.view_is) (ap sounds (refused_rest Sixteen _ [] c.in-Err.error c.if-self.false c.in-Err.ensures.err))

pub returns-in-Err-clause-again : goal.returns-in-Err-clause-again
returns-in-Err-clause-again c =
    let old : Reader = record { scan = c.self.inside.scan; part = c.self.inside.part; starved = c.self.inside.is_starved } in
    IfSome-weaker (error_of c.args.self) _ _ (λ e same. ap (λ x. Err x) same)
    (subst (λ (r : Reader). IfSome (error_of r) (λ d. c.in-Err.error ≡ d)) c.self.view_is (again_at Sixteen old c.in-Err.error _ refl (refused_rest Sixteen old [] c.in-Err.error c.if-self.false c.in-Err.ensures.err)))

pub returns-in-Err-clause-frames : goal.returns-in-Err-clause-frames
returns-in-Err-clause-frames c bytes s is = sounds-frames (contents Sixteen bytes) s is
