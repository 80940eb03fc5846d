use Rattle.lab_card.specs.Prelude.{ap, List, sym, ℤ, ◌*◌, ◌++◌, ◌∙◌, option_copied, pos, replicate, captured_frames}
use Rattle.lab_card.proofs.Silence.{captured_frames-none}
use Rattle.lab_card.proofs.capture.capture_frames.Goals as goal

pub returns-in-None-clause-items : goal.returns-in-None-clause-items
returns-in-None-clause-items c =
    c.push_silence.ensures.items
    ∙ ap (λ (xs : List ℤ). xs ++ replicate (c.args.frames * c.args.channels) (pos 0)) c.clear.ensures.items
    ∙ (sym (captured_frames-none c.args.channels c.args.from c.args.frames)
    ∙ ap (λ file. captured_frames (option_copied file) c.args.channels c.args.from c.args.frames) (sym c.in-None.is))
