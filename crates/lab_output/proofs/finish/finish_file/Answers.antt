use Rattle.lab_output.specs.Prelude.{ap, subst, sym, ℕ, ◌/◌, ◌∙◌, ◌≡◌, on_err_weaker, on_ok_weaker, head, OnlyWrites-written, OnErr-written, OnOk-written}
use Rattle.lab_output.specs.Prelude.{written-no_write, head_of, HasFile}
use Rattle.lab_output.proofs.Going.{named-closed, named-part}
use Rattle.lab_output.proofs.Held.{no-failure}
use Rattle.lab_output.proofs.finish.finish_file.Goals as goal

pub returns : goal.returns
returns g c =
    let h : c.header-head.result ≡ head_of c.args.file.now c.args.samples =
    c.header-head.ensures ∙ ap (λ (d : ℕ). head c.args.file.now.channels c.args.file.now.rate (c.args.samples / d)) c.from.ensures in
    record {
      closed = rw c.written.ensures
          (OnOk-written _ c.finish.result
          (on_ok_weaker c.finish.result
          (named-closed _ _ c.as_slice.result.now c.args.file.now.name c.header-head.result (head_of c.args.file.now c.args.samples) c.as_slice.ensures h)
          c.finish.ensures.ok));
      part = rw c.written.ensures
          (OnErr-written _ c.finish.result
          (on_err_weaker c.finish.result
          (named-part _ _ c.as_slice.result.now c.args.file.now.name c.header-head.result (head_of c.args.file.now c.args.samples) c.as_slice.ensures h)
          c.finish.ensures.err));
      only_writes = rw c.written.ensures
          (OnlyWrites-written g.S.Shelf c.finish.result _ _ c.finish.ensures.fetch_faults c.finish.ensures.faults c.finish.ensures.reliable);
      never = λ reliable there. rw c.written.ensures
          (written-no_write c.finish.result
          (no-failure _ _ c.finish.result (c.finish.ensures.missing reliable)
          (subst (HasFile (g.S.Shelf.files c.args.shelf.now)) (sym c.as_slice.ensures) there)));
    }
