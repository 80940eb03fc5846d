use Rattle.wav_io.specs.Prelude.{length, ◌≡◌, GoesOn}
use Rattle.wav_io.proofs.scan.Scan.walk.Given as goal

abbrev pub invariant-loop-depths : goal.invariant-loop-depths
invariant-loop-depths l = record {
  goes_on : GoesOn l.depths l.fn.self.place l.fn.self.kept l.bytes l.self.place l.self.kept l.rest;
  counted : l.self.seen ≡ l.fn.self.seen;
}

abbrev pub decreases-loop-depths : goal.decreases-loop-depths
decreases-loop-depths l = length l.rest
