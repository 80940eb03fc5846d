use Rattle.lab_readers.specs.Prelude.{ap, refl, slice_set, ◌∙◌, ◌≡◌, set-get_or, option_copied, with_item, LabReaders, readers_of, IsLaterSpare-same}
use Rattle.lab_readers.specs.Prelude.{AreAt-same}
use Rattle.std.proofs.lemmas.Result.{on_err_weaker}
use Rattle.lab_readers.proofs.OpeningLaws.{opened-ok}
use Rattle.lab_readers.proofs.readers.LabReaders.open.Goals as goal

pub returns-clause-after : goal.returns-clause-after
returns-clause-after c =
    let before : LabReaders = c.args.self.now in let reader = c.open_reader.new.reader in
    let after : LabReaders = record { seat = c.open_reader.new.spare; readers = with_item before.readers c.args.number reader } in
    opened-ok before after c.args.number c.args.phase c.index_mut.result.now reader (option_copied c.args.opening) c.open_reader.result c.index_mut.ensures.value c.requires.number
    (record { card = IsLaterSpare-same before.seat c.open_reader.new.spare c.open_reader.ensures.spare; readers = refl }) c.open_reader.ensures.opening

pub returns-clause-same : goal.returns-clause-same
returns-clause-same c =
    let before : LabReaders = c.args.self.now in let reader = c.open_reader.new.reader in
    let after : LabReaders = record { seat = c.open_reader.new.spare; readers = with_item before.readers c.args.number reader } in
    on_err_weaker c.open_reader.result
    (λ (same : reader ≡ c.index_mut.result.now). λ session capture xs are.
    AreAt-same session capture xs before after (IsLaterSpare-same before.seat c.open_reader.new.spare c.open_reader.ensures.spare)
    (ap (slice_set (readers_of before) c.args.number) (same ∙ c.index_mut.ensures.value) ∙ set-get_or (readers_of before) c.args.number c.index_mut.result.now) are)
    c.open_reader.ensures.same
