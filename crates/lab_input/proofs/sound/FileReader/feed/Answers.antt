use Rattle.lab_input.specs.Prelude.{subst, FileReader, IsAfter}
use Rattle.lab_input.proofs.Feeding.{IsAfter-plugged, IsRefusal-plain, IsRefusal-plugged}
use Rattle.lab_input.proofs.sound.FileReader.feed.Goals as goal

pub returns-in-Plain-clause-refused : goal.returns-in-Plain-clause-refused
returns-in-Plain-clause-refused c shape seen rest is =
    IsRefusal-plain c.in-Plain.reader shape seen c.args.piece.now rest c.feed.result c.feed.ensures.refused
    (subst (λ (r : FileReader). IsAfter r shape seen) c.in-Plain.is is)

pub returns-in-Plugged-clause-more : goal.returns-in-Plugged-clause-more
returns-in-Plugged-clause-more c shape seen is =
    IsAfter-plugged c.in-Plugged.reader c.feed-in-Plugged.new.self shape seen c.args.piece.now c.feed-in-Plugged.result c.feed-in-Plugged.ensures.shape c.feed-in-Plugged.ensures.more
    (subst (λ (r : FileReader). IsAfter r shape seen) c.in-Plugged.is is)

pub returns-in-Plugged-clause-refused : goal.returns-in-Plugged-clause-refused
returns-in-Plugged-clause-refused c shape seen rest is =
    IsRefusal-plugged c.in-Plugged.reader shape seen c.args.piece.now rest c.feed-in-Plugged.result c.feed-in-Plugged.ensures.refused
    (subst (λ (r : FileReader). IsAfter r shape seen) c.in-Plugged.is is)
