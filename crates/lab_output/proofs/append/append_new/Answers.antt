use Rattle.lab_output.specs.Prelude.{ap, sym, [], ◌∙◌, ◌≡◌, eqb-true, nil_from_length, flat_map, sample_bytes, CountsNoFault-same, OnlyWrites-done}
use Rattle.lab_output.specs.Prelude.{OnlyWrites-memory}
use Rattle.lab_output.proofs.Shelves.{appended-nothing}
use Rattle.lab_output.proofs.append.append_new.Goals as goal

pub returns-then-is_empty-clause-appended : goal.returns-then-is_empty-clause-appended
returns-then-is_empty-clause-appended g c =
    let none : c.args.samples.now ≡ [] = nil_from_length _ (eqb-true _ _ (sym c.is_empty.ensures ∙ c.if-is_empty.true)) in
    appended-nothing _ _ _ (ap (flat_map sample_bytes) none)

pub returns-then-is_empty-clause-only_writes : goal.returns-then-is_empty-clause-only_writes
returns-then-is_empty-clause-only_writes g c = OnlyWrites-done g.S.Shelf _ _ _ (CountsNoFault-same g.S.Shelf _)

pub returns-in_err-append_samples-clause-only_writes : goal.returns-in_err-append_samples-clause-only_writes
returns-in_err-append_samples-clause-only_writes g c = OnlyWrites-memory g.S.Shelf c.from_residual.result _ c.from_residual.ensures.1

pub returns-clause-only_writes : goal.returns-clause-only_writes
returns-clause-only_writes g c = c.append_bytes.ensures.only_writes
