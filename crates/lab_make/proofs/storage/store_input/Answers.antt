use Rattle.lab_make.specs.Prelude.{ap, inl, inr, rules, subst, ◌∙◌, err_from_is_err_and, on_err_weaker, on_ok_weaker, option_map, Option, Files, IsPartWritten}
use Rattle.lab_make.specs.Prelude.{with_file, CountsNoFault-writes, OnlyWrites-after, OnlyWrites-passed, script_name}
use Rattle.lab_make.proofs.Storing.{with_input-joined}
use Rattle.lab_make.proofs.storage.store_input.Goals as goal

pub returns-in_err-store_clients : goal.returns-in_err-store_clients
returns-in_err-store_clients g c =
    let p = err_from_is_err_and c.from_residual.result c.from_residual.ensures.1 in
    record {
      stored = rw p.1 tt;
      read = rw p.1 tt;
      part = rw p.1 (inl c.in_err-store_clients.ensures.part);
      only_writes =
          OnlyWrites-passed g.S.Shelf c.from_residual.result c.in_err-store_clients.field-0.0 _ _ c.from_residual.ensures.1
          c.in_err-store_clients.ensures.only_writes;
      never = λ reliable. rw (p.1, p.2) (c.in_err-store_clients.ensures.never reliable);
    }

pub returns : goal.returns
returns g c = record {
  stored = on_ok_weaker c.store.result
      (λ stored. stored
      ∙ ap (option_map (λ files. with_file files script_name c.args.script.now)) c.in_ok-store_clients.ensures.stored
      ∙ with_input-joined c.args.wavs.now c.args.script.now (g.S.Shelf.files c.args.shelf.now))
      c.store.ensures.stored;
  read = search rules;
  part = on_err_weaker c.store.result
      (λ part. inr (subst (λ (before : Option Files). IsPartWritten before (g.S.Shelf.files c.store.new.shelf) script_name c.args.script.now)
      c.in_ok-store_clients.ensures.stored part))
      c.store.ensures.part;
  only_writes = OnlyWrites-after g.S.Shelf _ _ _ _ (CountsNoFault-writes g.S.Shelf _ _ _ c.in_ok-store_clients.ensures.only_writes) c.store.ensures.only_writes;
  never = λ reliable. c.store.ensures.never (c.in_ok-store_clients.ensures.only_writes.reliable reliable);
}
