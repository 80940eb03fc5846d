use Rattle.dmix_c.specs.Prelude.{ap, sym, ◌∙◌, none-some, channels_held, channels_of}
use Rattle.dmix_c.proofs.handle.Handle.put.Goals as goal

-- a handle of what was put there
pub invariant_of-handle : goal.invariant_of-handle
invariant_of-handle c = record {
  tied = (λ zero. absurd (cc), λ none. absurd (none-some c.args.opened.value (sym none ∙ c.seal.ensures)));
  counted = c.channels-channels.ensures ∙ (ap channels_of c.deref.ensures ∙ ap channels_held (sym c.seal.ensures));
}
