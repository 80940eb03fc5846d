use Rattle.mix_core.proofs.Beginning.{IsNew-of, IsSound-new}
use Rattle.mix_core.proofs.ring.Core.new.Goals as goal

pub invariant_of-result : goal.invariant_of-result
invariant_of-result c =
    let words = c.in_ok-words.ensures.items_if_clones_equal (λ _ e. e) in
    let marks = c.in_ok-marks.ensures.items_if_clones_equal (λ _ e. e) in
    rw (words, marks, c.start.ensures, c.first_frame.ensures) (IsSound-new c.args.geometry c.args.members c.pack-silent.result c.requires.most c.pack-silent.ensures.stands)

pub returns-clause-ok : goal.returns-clause-ok
returns-clause-ok c =
    let words = c.in_ok-words.ensures.items_if_clones_equal (λ _ e. e) in
    let marks = c.in_ok-marks.ensures.items_if_clones_equal (λ _ e. e) in
    rw (words, marks, c.start.ensures, c.first_frame.ensures) (IsNew-of c.args.geometry c.args.members c.pack-silent.result c.pack-silent.ensures.stands)
