use Rattle.lab_report.specs.Prelude.{drop, length, ◌++◌, ◌+◌, ◌≡◌, phases_of, requests_from}
use Rattle.lab_report.proofs.request.requests_of.Given as goal

abbrev pub invariant-loop-item : goal.invariant-loop-item
invariant-loop-item l = record {
  said : l.requests.items ++ requests_from l.phases (drop l.item-index l.item-items) ≡ requests_from 0 l.item-items;
  counted : l.phases + length (phases_of (drop l.item-index l.item-items)) ≡ length (phases_of l.item-items);
}
