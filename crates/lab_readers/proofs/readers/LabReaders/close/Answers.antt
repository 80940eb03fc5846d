use Rattle.lab_readers.specs.Prelude.{refl, subst, sym, with_item, LabReaders, IsOfRing}
use Rattle.lab_readers.proofs.OpeningLaws.{closed-after}
use Rattle.lab_readers.proofs.readers.LabReaders.close.Goals as goal

pub close_reader-requires : goal.close_reader-requires
close_reader-requires c =
    let before : LabReaders = c.args.self.now in
    subst (IsOfRing before.seat) (sym c.index_mut.ensures.value) (c.requires.rings c.args.number c.index_mut.result.now c.requires.number)

pub returns-clause-after : goal.returns-clause-after
returns-clause-after c =
    let before : LabReaders = c.args.self.now in let reader = c.close_reader.new.reader in
    let after : LabReaders = record { seat = c.close_reader.new.spare; readers = with_item before.readers c.args.number reader } in
    closed-after before after c.args.number c.args.phase c.index_mut.result.now reader c.close_reader.result c.index_mut.ensures.value c.requires.number
    (record { card = c.close_reader.ensures.spare; readers = refl }) c.close_reader.ensures.closing
