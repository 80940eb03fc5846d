use Rattle.lab_report.specs.Prelude.{map, ◌++◌, ◌≡◌, before_place, request_of}
use Rattle.lab_report.proofs.request.push_phase.Given as goal

abbrev pub invariant-loop-place : goal.invariant-loop-place
invariant-loop-place l = l.requests.items ≡ l.fn.requests.items ++ map (request_of l.phase) (before_place l.lines l.place)
