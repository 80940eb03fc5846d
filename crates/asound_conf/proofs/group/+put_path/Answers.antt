use Rattle.std.proofs.Common.{rules, ◌≡◌, ◌≤◌, ◌-◌, take, drop, length, arith}
use Rattle.asound_conf.proofs.Downs.{down-open, down-refused, is_down, put-here, put-on, IsDown, IsPut}
use Rattle.asound_conf.proofs.Groups.{Alters-both}
use Rattle.asound_conf.proofs.Ways.{IsWay-kept}
use Rattle.asound_conf.proofs.group.+put_path.Goals as goal

pub returns-then-is_empty : goal.returns-then-is_empty
returns-then-is_empty t c =
    let parts = c.args.parts.now in
    let none : length (take (length parts - 1) (drop 1 parts)) ≡ 0 = grind arith in
    let is = put-here _ c.put_here.result c.args.table.now c.clear.new.table c.put_here.new.table c.args.group parts c.args.text c.requires.some none
    (record { value = c.clear.ensures.value; text = c.clear.ensures.text; alters = c.clear.ensures.alters })
    c.put_here.ensures.value c.put_here.ensures.step c.put_here.ensures.text c.put_here.ensures.alters in
    assumption (is)

pub returns-in-Err-clause-placed : goal.returns-in-Err-clause-placed
returns-in-Err-clause-placed t c path way =
    let parts = c.args.parts.now in
    let more : 1 ≤ length (take (length parts - 1) (drop 1 parts)) = grind arith in
    down-refused _ c.in-Err.why c.args.table.now c.clear.new.table c.args.group parts _ c.requires.some more c.clear.ensures.text c.clear.ensures.value c.requires.open c.in-Err.ensures.value

pub returns-in-Err-clause-kept : goal.returns-in-Err-clause-kept
returns-in-Err-clause-kept t c path last low way =
    IsWay-kept c.args.group c.args.table.now.rows c.put_group.new.table.rows 0 path last
    (Alters-both c.args.group c.args.table.now.rows c.clear.new.table.rows c.put_group.new.table.rows c.clear.ensures.alters c.put_group.ensures.alters) low way

pub put_path-requires : goal.put_path-requires
put_path-requires t c =
    let parts = c.args.parts.now in
    let more : 1 ≤ length (take (length parts - 1) (drop 1 parts)) = grind arith in
    let down : IsDown c.args.table.now c.put_group.new.table c.args.group c.in-Ok.inner parts =
    is_down _ c.args.table.now c.clear.new.table c.put_group.new.table c.args.group c.in-Ok.inner parts c.requires.some more
    (record { value = c.clear.ensures.value; text = c.clear.ensures.text; alters = c.clear.ensures.alters })
    c.put_group.ensures.alters c.put_group.ensures.text c.in-Ok.ensures.value c.in-Ok.ensures.step in
    (search rules, (more, (down.step.is_node.inside, down-open c.args.table.now c.put_group.new.table c.args.group c.in-Ok.inner parts down c.requires.open)))

pub returns : goal.returns
returns t c =
    let parts = c.args.parts.now in
    let more : 1 ≤ length (take (length parts - 1) (drop 1 parts)) = grind arith in
    let down : IsDown c.args.table.now c.put_group.new.table c.args.group c.in-Ok.inner parts =
    is_down _ c.args.table.now c.clear.new.table c.put_group.new.table c.args.group c.in-Ok.inner parts c.requires.some more
    (record { value = c.clear.ensures.value; text = c.clear.ensures.text; alters = c.clear.ensures.alters })
    c.put_group.ensures.alters c.put_group.ensures.text c.in-Ok.ensures.value c.in-Ok.ensures.step in
    let rest : IsPut c.put_path.result c.put_group.new.table c.put_path.new.table c.in-Ok.inner (take (length parts - 1) (drop 1 parts)) c.args.text = assumption
    (c.put_path.ensures) in
    let is = put-on c.put_path.result c.args.table.now c.put_group.new.table c.put_path.new.table c.args.group c.in-Ok.inner parts c.args.text down rest in
    assumption (is)
