use Rattle.lab_check.specs.Prelude.{take, ℕ, ◌<◌, ◌^◌, ◌≡◌, list_any, covers, is_in_span}
use Rattle.lab_check.proofs.late.client_spans.Given as goal

abbrev pub invariant-loop-client : goal.invariant-loop-client
invariant-loop-client l = (frame : ℕ) → frame < 2 ^ 64
    → list_any (is_in_span frame) l.spans.items ≡ list_any (covers l.script l.wavs l.number frame l.channel) (take l.client-index l.segments)
