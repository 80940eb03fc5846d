use Rattle.asound_conf.specs.Prelude.{arith, drop, length, Ok, refl, take, ℕ, [], ◌+◌, ◌<◌, ◌∷◌, ◌≡◌, drop-length, take-length, length-drop, length-take}
use Rattle.asound_conf.specs.Prelude.{reverse-append, take-append-drop, err_from_is_err_and, reverse, parts_in}
use Rattle.asound_conf.specs.Key.{without_marks}
use Rattle.asound_conf.proofs.Readers.{group-open, key-clear, names-least, open_group-deep, open_group-refused, open_group-state}
use Rattle.asound_conf.proofs.reading.Reading.open_group.Goals as goal

pub key_behind-key-requires : goal.key_behind-key-requires
key_behind-key-requires c =
    let r = c.args.self.now in
    rw c.as_slice.ensures.value (names-least r.table r.path.items r.here c.requires.valid.innermost)

pub put-requires : goal.put-requires
put-requires c =
    let r = c.args.self.now in
    let n = r.here.names in
    record {
      some = rw (c.key_behind-key.ensures, c.as_slice.ensures.value) c.requires.some;
      inside = c.requires.valid.innermost.inside;
      «open» = rw (c.key_behind-key.ensures, c.as_slice.ensures.value) (key-clear r.table (take n r.path.items) (drop n r.path.items) r.here (reverse r.outer.items) r.awaits c.requires.valid c.requires.some);
    }

pub returns : goal.returns
returns c =
    let r = c.args.self.now in
    let n = r.here.names in
    let parts = r.path.items in
    let front = take n parts in
    let key = drop n parts in
    let outer = reverse r.outer.items in
    let is = c.requires.valid in
    let group = c.in_ok-group.group in
    let put = c.in_ok-group.ensures in
    let way = without_marks (parts_in r.table.text front) in
    let whole : c.len-2.result ≡ length parts = omega (arith, r.path.ok, c.len-2.ensures) in
    let short : length front + length key < 16 = omega (arith, r.path.ok, c.len.ensures, c.if-len-ge-DEEPEST.false, length-take n parts, length-drop n parts) in
    let puts = rw (c.key_behind-key.ensures, c.as_slice.ensures.value) at (put.placed way is.innermost.way) in
    let leads = rw (c.key_behind-key.ensures, c.as_slice.ensures.value) at (put.way way is.innermost.way refl) in
    let row = put.row refl in
    record {
      leads =
          rw (whole, take-length parts, drop-length parts, c.in_ok-push.ensures.items, reverse-append r.outer.items (r.here ∷ []))
          (rw (take-append-drop n parts) at (open_group-state {X = ℕ} (Ok group) r.table c.put.new.table front key r.here outer r.awaits c.args.line group c.args.array short c.put.ensures.text puts));
      valid =
          rw (whole, take-length parts, drop-length parts, c.in_ok-push.ensures.items, reverse-append r.outer.items (r.here ∷ []))
          (rw (take-append-drop n parts) at (group-open r.table c.put.new.table front key r.here outer r.awaits c.args.line group c.args.array is c.put.ensures.text c.put.ensures.longer c.put.ensures.kept row.0 row.1 leads));
      text = c.put.ensures.text;
    }

pub returns-then-len-ge-DEEPEST-clause-leads : goal.returns-then-len-ge-DEEPEST-clause-leads
returns-then-len-ge-DEEPEST-clause-leads c =
    let r = c.args.self.now in
    let n = r.here.names in
    let parts = r.path.items in
    open_group-deep r.table (take n parts) (drop n parts) r.here (reverse r.outer.items) r.awaits c.args.line c.args.array
    (omega (arith, r.path.ok, c.len.ensures, c.if-len-ge-DEEPEST.true, length-take n parts, length-drop n parts))

pub returns-in_err-group-clause-leads : goal.returns-in_err-group-clause-leads
returns-in_err-group-clause-leads c =
    let r = c.args.self.now in
    let n = r.here.names in
    let parts = r.path.items in
    let way = without_marks (parts_in r.table.text (take n parts)) in
    let refuses = rw (c.key_behind-key.ensures, c.as_slice.ensures.value) at (c.in_err-group.ensures.placed way c.requires.valid.innermost.way) in
    let short : length (take n parts) + length (drop n parts) < 16 = omega (arith, r.path.ok, c.len.ensures, c.if-len-ge-DEEPEST.false, length-take n parts, length-drop n parts) in
    let p = err_from_is_err_and c.from_residual.result c.from_residual.ensures.1 in
    rw (p.1, p.2) (open_group-refused c.in_err-group.field-0.0 r.table (take n parts) (drop n parts) r.here (reverse r.outer.items) r.awaits c.args.line c.args.array short refuses)

pub returns-in_err-push-clause-leads : goal.returns-in_err-push-clause-leads
returns-in_err-push-clause-leads c =
    let p = err_from_is_err_and c.from_residual-in_err-push.result c.from_residual-in_err-push.ensures.1 in
    rw (p.1, p.2) tt
