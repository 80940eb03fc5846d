use Rattle.asound_conf.specs.Prelude.{arith, length, ◌≡◌, text_bytes}
use Rattle.asound_conf.proofs.Changes.{IsTable-forgot}
use Rattle.asound_conf.proofs.table.forget.Goals as goal

pub returns-then-number-eq0 : goal.returns-then-number-eq0
returns-then-number-eq0 c = c.requires.table

pub returns : goal.returns
returns c =
    let heads = c.args.heads.now.items in
    let wide : c.len.result ≡ length heads = omega (arith, c.len.ensures, c.args.heads.now.ok) in
    IsTable-forgot c.args.text.now c.args.cells.now heads c.args.number c.bucket_of-bucket.result c.len.result c.index.result.now _ (text_bytes c.key_in.result) c.requires.table c.requires.inside (omega (arith, c.if-number-eq0.false))
    c.requires.gone wide c.bucket_of-bucket.ensures.within c.bucket_of-bucket.ensures.value c.key_in.ensures c.index.ensures c.if-index-number.false
