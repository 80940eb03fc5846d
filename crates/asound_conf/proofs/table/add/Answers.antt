use Rattle.asound_conf.specs.Prelude.{arith, length, List, subst, sym, ◌<◌, ◌≡◌, err_from_is_err_and, Cell, IsTable}
use Rattle.asound_conf.proofs.Changes.{table-added}
use Rattle.asound_conf.proofs.table.add.Goals as goal

pub returns : goal.returns
returns c =
    let cells = c.args.cells.now.items in
    let heads = c.args.heads.now.items in
    let inside : c.args.parent < length cells = grind arith in
    let number : c.len-number.result ≡ length cells = grind arith in
    let wide : c.len.result ≡ length heads = grind arith in
    let within : c.bucket_of-bucket.result < length heads = omega (arith, wide, c.bucket_of-bucket.ensures.within) in
    let bucket = rw (wide, c.key_in.ensures) at c.bucket_of-bucket.ensures.value in
    let it = table-added c.args.text.now cells c.push.new.self.items heads c.args.parent c.len-number.result c.bucket_of-bucket.result c.index.result.now c.args.name
    c.args.value c.content_of.result
    c.noted-content.result c.index-2.result.now c.index-3.result.now inside number (omega arith) within bucket c.content_of.ensures c.index.ensures
    c.in_ok-push.ensures.items c.index-2.ensures
    c.noted-content.ensures c.index-3.ensures c.requires.table in
    record {
      table = rw c.with_content.ensures it.0;
      rows = rw c.with_content.ensures it.1;
      number = c.len-number.ensures;
      kept = tt;
      memory = tt;
    }

pub returns-in_err-push : goal.returns-in_err-push
returns-in_err-push c =
    let p = err_from_is_err_and c.from_residual.result c.from_residual.ensures.1 in
    record {
      table = subst (λ (cells : List Cell). IsTable c.args.text.now cells c.args.heads.now.items) (sym c.in_err-push.ensures.items) c.requires.table;
      rows = rw p.1 tt;
      number = rw p.1 tt;
      kept = rw p.1 c.in_err-push.ensures.items;
      memory = rw p.1 p.2;
    }

pub bucket_of-bucket-requires : goal.bucket_of-bucket-requires
bucket_of-bucket-requires c = omega (arith, c.requires.table.indexed.buckets, c.len.ensures, c.args.heads.now.ok)

pub index-requires : goal.index-requires
index-requires c = omega (arith, c.bucket_of-bucket.ensures.within, c.len.ensures)

pub index_mut-requires : goal.index_mut-requires
index_mut-requires c = omega (arith, c.bucket_of-bucket.ensures.within, c.len.ensures)
