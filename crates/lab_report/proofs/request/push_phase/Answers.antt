use Rattle.lab_report.specs.Prelude.{ap, arith, length, List, slice_index_or, sym, [], ◌++◌, ◌<◌, ◌∙◌, append-nil, get_or_default, Request}
use Rattle.lab_report.proofs.Actors.{before_place-zero, requests-more}
use Rattle.lab_report.proofs.request.push_phase.Goals as goal

pub sort_lines-requires : goal.sort_lines-requires
sort_lines-requires c = λ k.
    ap (λ (places : List (List Request)). slice_index_or places k []) c.as_mut_slice-places.ensures.value ∙ c.in_ok-all_places.ensures.none k

pub loop-place-init : goal.loop-place-init
loop-place-init c = rw (before_place-zero c.args.lines.now) (sym (append-nil c.args.requests.now.items))

pub loop-place-preserved : goal.loop-place-preserved
loop-place-preserved c =
    let places = c.sort_lines.new.places in
    let place = c.loop-place.place in
    let inside : place < length places =
    omega (arith, c.in_ok-all_places.ensures.count, c.as_mut_slice-places.ensures.len, c.sort_lines.auto.places) in
    let had = c.loop-place.requests.items in
    requests-more c.args.phase place c.args.lines.now c.args.requests.now.items had _ c.loop-place.invariant
    (c.in_ok-extend_from_slice.ensures.items
    ∙ ap (λ (own : List Request). had ++ own)
    (c.as_slice.ensures ∙ get_or_default places place c.index-places-place.result [] inside ∙ c.in_ok-sort_lines.ensures place inside))
