use Rattle.lab_readers.specs.Prelude.{arith, length, slice_index_or, subst, sym, ◌<◌, ◌≡◌, AreEach-walked, HasWalked-map, HasWalked-none, HasWalked-step}
use Rattle.lab_readers.specs.Prelude.{IsOfRing, IsLaterSpare-joined, IsLaterSpare-none, IsOfRing-later, IsReaped-later, IsReaped}
use Rattle.lab_readers.proofs.reap.reap_readers.Goals as goal

pub reap_reader-requires : goal.reap_reader-requires
reap_reader-requires c =
    let index = c.loop-index.index in let before = c.args.readers.now in let d = c.index-readers-index.result in
    let inside : index < length before = omega arith in
    let same : slice_index_or c.loop-index.readers index d ≡ slice_index_or before index d = c.loop-index.invariant.1.others index d (omega arith) in
    subst (IsOfRing c.loop-index.spare) (sym same)
    (IsOfRing-later c.args.spare.now c.loop-index.spare (slice_index_or before index d) c.loop-index.invariant.0 (c.requires index d inside))

pub loop-index-init : goal.loop-index-init
loop-index-init c = (IsLaterSpare-none c.args.spare.now, HasWalked-none (IsReaped c.args.spare.now) c.args.readers.now)

pub loop-index-preserved : goal.loop-index-preserved
loop-index-preserved c =
    let index = c.loop-index.index in let before = c.args.readers.now in let reader = c.index-readers-index.result in let after = c.reap_reader.new.reader in
    let spare = c.loop-index.spare in let later = c.reap_reader.new.spare in
    let inside : index < length before = omega arith in
    let own : IsReaped later index (slice_index_or c.loop-index.readers index reader) after =
    record { stopped = c.reap_reader.ensures.reaped.stopped; goes = c.reap_reader.ensures.reaped.goes } in (
      IsLaterSpare-joined c.args.spare.now spare later c.loop-index.invariant.0 c.reap_reader.ensures.spare,
      HasWalked-step (IsReaped later) before c.loop-index.readers index after reader inside
          (HasWalked-map (IsReaped spare) (IsReaped later) before c.loop-index.readers index
          (λ j r s below reaped. IsReaped-later spare later j r s c.reap_reader.ensures.spare reaped) c.loop-index.invariant.1)
          own,
    )

pub returns-clause-reaped : goal.returns-clause-reaped
returns-clause-reaped c =
    AreEach-walked (IsReaped c.loop-index.spare) c.args.readers.now c.loop-index.readers c.loop-index.index (omega arith) c.loop-index.invariant.1
