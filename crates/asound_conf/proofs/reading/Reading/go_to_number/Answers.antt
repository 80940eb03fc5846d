use Rattle.asound_conf.specs.Prelude.{drop, length, take, ◌≤◌, drop-append-le, take-append-le, reverse}
use Rattle.asound_conf.proofs.Readers.{names-least, number-open}
use Rattle.asound_conf.proofs.reading.Reading.go_to_number.Goals as goal

pub returns-clause-valid : goal.returns-clause-valid
returns-clause-valid c =
    let r = c.args.self.now in
    let n = r.here.names in
    let parts = r.path.items in
    let low : n ≤ length parts = names-least r.table parts r.here c.requires.valid.innermost in
    rw (c.in_ok-push.ensures.items, take-append-le n parts, drop-append-le n parts)
    (number-open r.table (take n parts) (drop n parts) r.here (reverse r.outer.items) r.awaits c.in_ok-next.next c.requires.none c.requires.valid)
