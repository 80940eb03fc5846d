use Rattle.wav_io.proofs.scan.Scan.step.Goals.{in-Opening, in-Head, in-FormatBody}
use Rattle.wav_io.proofs.scan.Scan.step.Goals as goal

pub returns-clause-goes_on : goal.returns-clause-goes_on
returns-clause-goes_on c = elim c.match-self.branch [
  | in-Opening w ↦ rw (w.place-is, w.self-is, w.in-Opening.is) (w.opening.ensures.goes_on c.args.depths)
  | in-Head w ↦ rw (w.place-is, w.self-is, w.in-Head.is) (w.head.ensures.goes_on c.args.depths)
  | in-FormatBody w ↦ rw (w.place-is, w.self-is, w.in-FormatBody.is) w.format_body.ensures.goes_on
]
