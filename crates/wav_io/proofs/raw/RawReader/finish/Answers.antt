use Rattle.wav_io.specs.Prelude.{ap, Err, refl, subst, [], ◌≡◌, IfSome, UpTo32, error_of, raws, Reader, contents}
use Rattle.wav_io.proofs.Raws.{ends_raw, raws-frames}
use Rattle.wav_io.proofs.Readers.{starved_comes, refused_rest, again_at, IfSome-weaker}
use Rattle.wav_io.proofs.Sizes.{length-raw_file}
use Rattle.wav_io.proofs.raw.RawReader.finish.Goals as goal

pub returns-then-self-clause-err : goal.returns-then-self-clause-err
returns-then-self-clause-err c = rw (← c.self.view_is) (ap raws (starved_comes UpTo32 _ [] c.if-self.true))

pub returns-then-self-clause-frames : goal.returns-then-self-clause-frames
returns-then-self-clause-frames c bytes s is = raws-frames (contents UpTo32 bytes) s is

pub returns-in-Ok-clause-ok : goal.returns-in-Ok-clause-ok
returns-in-Ok-clause-ok c =
    let f = c.in-Ok.format in
    rw (← c.self.view_is)
    (ends_raw (record { scan = c.self.inside.scan; part = c.self.inside.part; starved = c.self.inside.is_starved }) f c.in-Ok.ensures.place.0 c.if-self.false c.in-Ok.ensures.place.1 c.self.invariant.part c.in-Ok.ensures.ok)

pub returns-in-Ok-clause-frames : goal.returns-in-Ok-clause-frames
returns-in-Ok-clause-frames c bytes s is = raws-frames (contents UpTo32 bytes) s is

pub returns-in-Err-clause-err : goal.returns-in-Err-clause-err
returns-in-Err-clause-err c = rw (← c.self.view_is) (ap raws (refused_rest UpTo32 _ [] c.in-Err.error c.if-self.false c.in-Err.ensures.err))

pub returns-in-Err-clause-again : goal.returns-in-Err-clause-again
returns-in-Err-clause-again c =
    let old : Reader = record { scan = c.self.inside.scan; part = c.self.inside.part; starved = c.self.inside.is_starved } in
    IfSome-weaker (error_of c.args.self) _ _ (λ e same. ap (λ x. Err x) same)
    (subst (λ (r : Reader). IfSome (error_of r) (λ d. c.in-Err.error ≡ d)) c.self.view_is (again_at UpTo32 old c.in-Err.error _ refl (refused_rest UpTo32 old [] c.in-Err.error c.if-self.false c.in-Err.ensures.err)))

pub returns-in-Err-clause-frames : goal.returns-in-Err-clause-frames
returns-in-Err-clause-frames c bytes s is = raws-frames (contents UpTo32 bytes) s is

pub returns-then-self-clause-few : goal.returns-then-self-clause-few
returns-then-self-clause-few c = length-raw_file

pub returns-in-Ok-clause-few : goal.returns-in-Ok-clause-few
returns-in-Ok-clause-few c = length-raw_file

pub returns-in-Err-clause-few : goal.returns-in-Err-clause-few
returns-in-Err-clause-few c = length-raw_file
