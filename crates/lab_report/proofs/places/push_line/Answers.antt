use Rattle.lab_report.proofs.Sorting.{AddsRequest-none, AddsRequest-set}
use Rattle.lab_report.proofs.places.push_line.Goals as goal

pub returns-then-place-places : goal.returns-then-place-places
returns-then-place-places c =
    AddsRequest-none c.args.phase c.place_of-place.result c.args.line.now c.args.places.now c.place_of-place.ensures c.if-place-places.true

pub returns : goal.returns
returns c =
    AddsRequest-set c.args.phase c.place_of-place.result c.args.line.now c.args.places.now c.push.new.self c.index-places-place.result c.place_of-place.ensures
    c.if-place-places.false c.in_ok-push.ensures
