use Rattle.std.proofs.Common.{sym, ◌∙◌}
use Rattle.wav_io.proofs.Places.{leads_twice, leads_first_short, leads_first}
use Rattle.wav_io.proofs.next_places.after_format_head.Goals as goal

pub returns-then-is_some : goal.returns-then-is_some
returns-then-is_some c depths name = leads_twice depths c.args.format name c.args.size (sym c.is_some.ensures ∙ c.if-is_some.true)

pub returns-then-size-lt16 : goal.returns-then-size-lt16
returns-then-size-lt16 c depths name = leads_first_short depths c.args.format name c.args.size (sym c.is_some.ensures ∙ c.if-is_some.false) c.if-size-lt16.true

pub returns : goal.returns
returns c depths name = leads_first depths c.args.format name c.args.size (sym c.is_some.ensures ∙ c.if-is_some.false) c.if-size-lt16.false
