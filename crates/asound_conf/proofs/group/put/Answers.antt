use Rattle.std.proofs.Common.{◌≡◌, ◌-◌, take, drop, length, arith}
use Rattle.asound_conf.proofs.Downs.{put-here}
use Rattle.asound_conf.proofs.group.put.Goals as goal

pub returns-then-is_empty : goal.returns-then-is_empty
returns-then-is_empty c =
    let parts = c.args.parts.now in
    let none : length (take (length parts - 1) (drop 1 parts)) ≡ 0 = grind arith in
    let is = put-here _ c.put_here.result c.args.table.now c.clear.new.table c.put_here.new.table c.args.group parts c.args.text c.requires.some none
    (record { value = c.clear.ensures.value; text = c.clear.ensures.text; alters = c.clear.ensures.alters })
    c.put_here.ensures.value c.put_here.ensures.step c.put_here.ensures.text c.put_here.ensures.alters in
    assumption (is)
