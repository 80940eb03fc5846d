use Rattle.wav_io.specs.Prelude.{ap, refl, [], UpTo32, IsFormat, raws, Reader, with_bytes}
use Rattle.wav_io.proofs.Raws.{some_raw, raw_frame-some}
use Rattle.wav_io.proofs.Readers.{starved_comes, refused_rest, refused_same, no_data, not_refused, error_of-followed}
use Rattle.wav_io.proofs.Scans.{refused_comes}
use Rattle.wav_io.proofs.raw.RawReader.feed.Goals as goal

pub returns-then-self-clause-after : goal.returns-then-self-clause-after
returns-then-self-clause-after c more = rw (← c.self.view_is) (ap raws (starved_comes UpTo32 _ more c.if-self.true))

pub returns-in-Err-clause-same : goal.returns-in-Err-clause-same
returns-in-Err-clause-same c ne more =
    rw (← c.self.view_is)
    (ap (λ r. with_bytes c.args.body.now.items (raws r))
    (refused_same UpTo32 _ _ c.args.piece.now more _ c.if-self.false c.if-self.false (c.in-Err.ensures.err more) (refused_comes UpTo32 c.advance.new.self _ c.in-Err.ensures.refused.0 more)))

pub returns-in-Err-clause-after : goal.returns-in-Err-clause-after
returns-in-Err-clause-after c more = ap raws (refused_rest UpTo32 _ more _ c.if-self.false (refused_comes UpTo32 c.advance.new.self _ c.in-Err.ensures.refused.0 more))

pub returns-in-None-clause-same : goal.returns-in-None-clause-same
returns-in-None-clause-same c ne more =
    rw (← c.self.view_is)
    (ap (λ r. with_bytes c.args.body.now.items (raws r)) (no_data UpTo32 _ _ c.args.piece.now more c.if-self.false c.if-self.false refl (rw c.in-None.is at (c.in-Ok.ensures.ok more))))

pub returns-in-Ok-push_part-clause-same : goal.returns-in-Ok-push_part-clause-same
returns-in-Ok-push_part-clause-same c ne more =
    let got = c.in-Some.data in
    let come = rw c.in-Some.is at (c.in-Ok.ensures.ok more) in
    let behind = rw c.in-Some.is at c.in-Ok.ensures.behind in
    let in_order : IsFormat got.format = rw behind.1 at c.in-Ok.ensures.scan.place in
    let cut = c.in-Ok-push_part.ensures.ok in
    rw (← c.self.view_is)
    (some_raw _ _ got.format behind.0 c.args.piece.now got.body.now cut.0 _ _ c.if-self.false c.if-self.false behind.1 (raw_frame-some got.format in_order) cut.2 cut.1 more come)

pub returns-in-Err-push_part-clause-memory : goal.returns-in-Err-push_part-clause-memory
returns-in-Err-push_part-clause-memory c _ _ =
    let got = c.in-Some.data in
    let old : Reader = record { scan = c.self.inside.scan; part = c.self.inside.part; starved = c.self.inside.is_starved } in
    let come = rw c.in-Some.is at (c.in-Ok.ensures.ok []) in
    let behind = rw c.in-Some.is at c.in-Ok.ensures.behind in
    let rest = not_refused UpTo32 old c.advance.new.self got.format behind.0 c.args.piece.now got.body.now c.if-self.false c.in-Ok.ensures.scan behind.1 come in
    rw (← c.self.view_is, rest.1) refl

pub returns-in-Err-push_part-clause-after : goal.returns-in-Err-push_part-clause-after
returns-in-Err-push_part-clause-after c more = ap raws (starved_comes UpTo32 _ more refl)

pub returns-in-Ok-push_part-clause-again : goal.returns-in-Ok-push_part-clause-again
returns-in-Ok-push_part-clause-again c = error_of-followed _ _ c.args.self.now c.in-Ok.data c.self.view_is c.if-self.false c.in-Ok.ensures.follows

pub returns-in-None-clause-again : goal.returns-in-None-clause-again
returns-in-None-clause-again c = error_of-followed _ _ c.args.self.now c.in-Ok.data c.self.view_is c.if-self.false c.in-Ok.ensures.follows

pub returns-in-Err-push_part-clause-again : goal.returns-in-Err-push_part-clause-again
returns-in-Err-push_part-clause-again c = error_of-followed _ _ c.args.self.now c.in-Ok.data c.self.view_is c.if-self.false c.in-Ok.ensures.follows
