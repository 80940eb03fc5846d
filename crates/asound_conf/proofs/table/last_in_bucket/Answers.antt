use Rattle.asound_conf.specs.Prelude.{arith, sym, ◌<◌, ◌∙◌, ◌≡◌, get_or_default, no_cell, text_bytes}
use Rattle.asound_conf.proofs.Changes.{zero_cell}
use Rattle.asound_conf.proofs.Tables.{IsAbsent-sought, IsNode-sought, IsSought-first, IsSought-next}
use Rattle.asound_conf.proofs.table.last_in_bucket.Goals as goal

pub loop-at-init : goal.loop-at-init
loop-at-init c =
    let bucket = c.bucket_of-bucket.ensures in
    rw bucket.value (IsSought-first c.args.text.now c.args.cells.now c.args.heads.now c.args.group (text_bytes c.args.key) c.requires.indexed (omega (arith, bucket.value, bucket.within)))

pub returns-then-fits-clause-some : goal.returns-then-fits-clause-some
returns-then-fits-clause-some c =
    let at = c.loop-at.at in
    let some : 0 < at = omega arith in
    let found = rw (get_or_default c.args.cells.now at zero_cell no_cell c.loop-at.invariant.inside) at (sym c.fits.ensures ∙ c.if-fits.true) in
    IsNode-sought c.args.text.now c.args.cells.now c.args.heads.now c.args.group (text_bytes c.args.key) at c.requires.indexed c.loop-at.invariant some found

pub loop-at-preserved : goal.loop-at-preserved
loop-at-preserved c =
    let at = c.loop-at.at in
    let some : 0 < at = omega arith in
    let same = get_or_default c.args.cells.now at zero_cell no_cell c.loop-at.invariant.inside in
    let other = rw same at (sym c.fits.ensures ∙ c.if-fits.false) in
    rw same (IsSought-next c.args.text.now c.args.cells.now c.args.heads.now c.args.group (text_bytes c.args.key) at c.requires.indexed c.loop-at.invariant some other)

pub returns-clause-none : goal.returns-clause-none
returns-clause-none c =
    let none : c.loop-at.at ≡ 0 = omega arith in
    IsAbsent-sought c.args.text.now c.args.cells.now c.args.heads.now c.args.group (text_bytes c.args.key) c.loop-at.at c.requires.indexed c.loop-at.invariant none
