use Rattle.lab_commands.specs.Prelude.{List, refl, subst, ℕ, ◌++◌, ◌≡◌, err_from_is_err_and, option_map, Err, OnErr, OnOk, Option, string_bytes, Files}
use Rattle.lab_commands.specs.Prelude.{TookPart, EndsOf-written, EndsReliably-written, Refuses-written, status_of-read, status_of-written, InputFaults-same}
use Rattle.lab_commands.specs.Prelude.{OutputFaults-puts, OutputFaults-reads}
use Rattle.lab_commands.proofs.Leaving.{CommandLeaves-answered}
use Rattle.lab_commands.proofs.commands.refine_command.Goals as goal

pub returns : goal.returns
returns g c =
    let before : Option Files = g.S.Shelf.files c.args.shelf.now in
    let after : Option Files = g.S.Shelf.files c.refine_file.new.shelf in
    let taken : Option (List ℕ) = g.K.Sink.taken c.args.out.now in
    let taken_after : Option (List ℕ) = g.K.Sink.taken c.put.new.out in
    record {
      leaves = λ gates.
          CommandLeaves-answered c.args.name.now (string_bytes c.in_ok-text.text) gates before after taken taken_after c.put.result c.put.ensures.puts_text.only c.in_ok-text.ensures.answers
          c.refine_file.ensures.only_reads.files
          (subst (λ (bytes : List ℕ). OnOk c.put.result (taken_after ≡ option_map (λ t. t ++ bytes) taken)) c.as_bytes.ensures.value c.put.ensures.puts_text.taken)
          (subst (λ (bytes : List ℕ). OnErr c.put.result (TookPart taken taken_after bytes)) c.as_bytes.ensures.value c.put.ensures.puts_text.text);
      cause = λ files told. EndsOf-written c.put.result _ c.put.ensures.puts_text.only (c.in_ok-text.ensures.cause files told);
      reliable = λ shelf out files told. EndsReliably-written c.put.result _ c.put.ensures.puts_text.only (c.put.ensures.puts_text.reliable out);
      statuses = status_of-written c.put.result c.put.ensures.puts_text.only;
      words = Refuses-written c.put.result _ c.put.ensures.puts_text.only;
      reads = InputFaults-same c.put.result _ _ c.put.ensures.puts_text.only c.in_ok-text.ensures.only_reads.faults;
      writes = OutputFaults-puts c.put.result _ _ _ _ c.in_ok-text.ensures.only_reads.write_faults c.put.ensures.puts_text.faults;
    }

pub returns-in_err-text-clause-writes : goal.returns-in_err-text-clause-writes
returns-in_err-text-clause-writes g c =
    let p = err_from_is_err_and c.from_residual.result c.from_residual.ensures.1 in
    rw (p.1, p.2)
    (OutputFaults-reads {X = Unit {0}} (Err c.in_err-text.field-0.0) _ _ _ _ c.in_err-text.ensures.only c.in_err-text.ensures.only_reads.write_faults refl)

pub returns-in_err-text-clause-statuses : goal.returns-in_err-text-clause-statuses
returns-in_err-text-clause-statuses g c =
    let p = err_from_is_err_and c.from_residual.result c.from_residual.ensures.1 in
    rw (p.1, p.2) (status_of-read {T = Unit {0}} (Err c.in_err-text.field-0.0) c.in_err-text.ensures.only)
