use Rattle.lab_make.specs.Prelude.{List, refl, subst, ℕ, ◌∙◌, ◌≡◌, on_err_weaker, on_ok_weaker, option_map, Err, Option, canonical, Files, IsPartWritten}
use Rattle.lab_make.specs.Prelude.{with_file, Memory, OnlyWrites-memory, OnlyWrites-nothing, OnlyWrites-passed}
use Rattle.lab_make.proofs.MemoryStops.{Err-memory, OnErr-memory, OnOk-memory, memory-no_write}
use Rattle.lab_make.proofs.storage.store_client.Goals as goal

pub returns-clause-part : goal.returns-clause-part
returns-clause-part g c =
    let before : Option Files = g.S.Shelf.files c.args.shelf.now in
    let after : Option Files = g.S.Shelf.files c.store.new.shelf in
    on_err_weaker c.store.result
    (λ part. subst (λ (name : List ℕ). IsPartWritten before after name (canonical c.args.wav.now)) (c.as_bytes.ensures.value ∙ c.in_ok-name.ensures)
    (subst (λ (bytes : List ℕ). IsPartWritten before after c.as_bytes.result.now bytes) (c.deref.ensures.value ∙ c.in_ok-bytes.ensures.bytes) part))
    c.store.ensures.part

pub returns-clause-stored : goal.returns-clause-stored
returns-clause-stored g c =
    let before : Option Files = g.S.Shelf.files c.args.shelf.now in
    let after : Option Files = g.S.Shelf.files c.store.new.shelf in
    on_ok_weaker c.store.result
    (λ stored. subst (λ (name : List ℕ). after ≡ option_map (λ files. with_file files name (canonical c.args.wav.now)) before) (c.as_bytes.ensures.value ∙ c.in_ok-name.ensures)
    (subst (λ (bytes : List ℕ). after ≡ option_map (λ files. with_file files c.as_bytes.result.now bytes) before) (c.deref.ensures.value ∙ c.in_ok-bytes.ensures.bytes) stored))
    c.store.ensures.stored

pub returns-in_err-name : goal.returns-in_err-name
returns-in_err-name g c = record {
  stored = OnOk-memory _ _ (Err-memory Memory c.from_residual.result c.from_residual.ensures.1 refl);
  read = OnOk-memory _ _ (Err-memory Memory c.from_residual.result c.from_residual.ensures.1 refl);
  part = OnErr-memory _ _ _ _ (Err-memory Memory c.from_residual.result c.from_residual.ensures.1 refl);
  only_writes = OnlyWrites-memory g.S.Shelf c.from_residual.result _ c.from_residual.ensures.1;
  never = λ reliable. memory-no_write _ (Err-memory Memory c.from_residual.result c.from_residual.ensures.1 refl);
}

pub returns-in_err-bytes : goal.returns-in_err-bytes
returns-in_err-bytes g c = record {
  stored = OnOk-memory _ _ (Err-memory _ c.from_residual-in_err-bytes.result c.from_residual-in_err-bytes.ensures.1 c.in_err-bytes.ensures.only);
  read = OnOk-memory _ _ (Err-memory _ c.from_residual-in_err-bytes.result c.from_residual-in_err-bytes.ensures.1 c.in_err-bytes.ensures.only);
  part = OnErr-memory _ _ _ _ (Err-memory _ c.from_residual-in_err-bytes.result c.from_residual-in_err-bytes.ensures.1 c.in_err-bytes.ensures.only);
  only_writes =
      OnlyWrites-passed g.S.Shelf c.from_residual-in_err-bytes.result c.in_err-bytes.field-0.0 _ _ c.from_residual-in_err-bytes.ensures.1
      (OnlyWrites-nothing {X = Unit {0}} g.S.Shelf (Err c.in_err-bytes.field-0.0) _ c.in_err-bytes.ensures.only);
  never = λ reliable. memory-no_write _ (Err-memory _ c.from_residual-in_err-bytes.result c.from_residual-in_err-bytes.ensures.1 c.in_err-bytes.ensures.only);
}

pub returns-clause-only_writes : goal.returns-clause-only_writes
returns-clause-only_writes g c = c.store.ensures.only_writes
