use Rattle.sum_table.specs.Prelude.{ap, Bool, false, is_some, List, not, refl, sym, true, [], ◌∙◌, ◌≡◌, false≢true, Entry, last_frame, view_of}
use Rattle.sum_table.proofs.Highs.{last_frame-nil}
use Rattle.sum_table.proofs.seats.mix.MixSeat.is_fresh.Goals as goal

-- that there is no greatest frame says that there is no entry
none_laid : (b : Bool) (es : List Entry) → is_some (last_frame es) ≡ not b → (b ≡ true → es ≡ []) × (es ≡ [] → b ≡ true)
none_laid true es is = (λ yes. last_frame-nil es is, λ nothing. refl)
none_laid false es is = (λ no. absurd (false≢true no), λ nothing. absurd (false≢true (sym (ap (λ xs. is_some (last_frame xs)) nothing) ∙ is)))

pub returns : goal.returns
returns c = none_laid c.is_none.result (view_of c.args.self.now).laid (ap is_some (sym c.last.ensures.of_view) ∙ c.is_none.ensures)
