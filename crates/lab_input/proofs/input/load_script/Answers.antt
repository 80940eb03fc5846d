use Rattle.std.proofs.lemmas.Result.{err_from_is_err_and}
use Rattle.lab_stop.specs.ReadLaws.{AnswersFrom-passed, IsSameShelf-reads, IsSameShelf-same, OnlyReads-done, OnlyReads-passed}
use Rattle.lab_input.proofs.Inputs.{script_in-all, script_in-missing, script_in-refused, Misses-refused, FetchFaults-refused}
use Rattle.lab_input.proofs.input.load_script.Goals as goal

pub returns-in_err-text-clause-script : goal.returns-in_err-text-clause-script
returns-in_err-text-clause-script g c =
    AnswersFrom-passed g.S.Shelf _ _ c.from_residual.result c.in_err-text.field-0.0 _ _ _ _ c.from_residual.ensures.1
    (IsSameShelf-same g.S.Shelf _) c.in_err-text.ensures.bytes (λ m told. script_in-missing m c.args.name.now)

pub returns-in_err-text-clause-only_reads : goal.returns-in_err-text-clause-only_reads
returns-in_err-text-clause-only_reads g c =
    OnlyReads-passed g.S.Shelf c.from_residual.result c.in_err-text.field-0.0 _ _ c.from_residual.ensures.1 c.in_err-text.ensures.only_reads

pub returns-in_err-script-clause-script : goal.returns-in_err-script-clause-script
returns-in_err-script-clause-script g c =
    let p = err_from_is_err_and c.from_residual-in_err-script.result c.from_residual-in_err-script.ensures.1 in
    rw p.1
    (record {
      answer = script_in-refused _ _ _ _ _ _ c.in_ok-text.ensures.bytes.answer c.deref.ensures.value c.in_err-script.ensures.exact p.2;
      missing = λ reliable m told. Misses-refused _ _ _ _ c.in_err-script.ensures.exact p.2;
    })

pub returns-in_err-script-clause-only_reads : goal.returns-in_err-script-clause-only_reads
returns-in_err-script-clause-only_reads g c =
    let p = err_from_is_err_and c.from_residual-in_err-script.result c.from_residual-in_err-script.ensures.1 in
    rw p.1
    (record {
      files = c.in_ok-text.ensures.only_reads.files;
      faults = FetchFaults-refused _ _ _ _ _ c.in_err-script.ensures.exact p.2 c.in_ok-text.ensures.only_reads.faults;
      write_faults = c.in_ok-text.ensures.only_reads.write_faults;
      reliable = c.in_ok-text.ensures.only_reads.reliable;
    })

pub returns-clause-script : goal.returns-clause-script
returns-clause-script g c = record {
  answer = script_in-all _ _ _ _ _ c.in_ok-text.ensures.bytes.answer c.deref.ensures.value c.in_ok-script.ensures.exact;
  missing = λ is m told. tt;
}

pub returns-clause-only_reads : goal.returns-clause-only_reads
returns-clause-only_reads g c = OnlyReads-done g.S.Shelf _ _ _ (IsSameShelf-reads g.S.Shelf _ _ _ c.in_ok-text.ensures.only_reads)
