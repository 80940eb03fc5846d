use Rattle.asound_conf.specs.Prelude.{arith, drop, refl, take, [], ◌∷◌, reverse-append, take-take, reverse}
use Rattle.asound_conf.proofs.Readers.{close-leads, close-open, drop-front}
use Rattle.asound_conf.proofs.reading.Reading.leave.Goals as goal

pub returns : goal.returns
returns c =
    let r = c.args.self.now in
    let n = r.here.names in
    let parts = r.path.items in
    let around = c.in-Some.around in
    let rest = c.pop.new.self.items in
    let is = rw (c.in-Some.ensures.items, reverse-append rest (around ∷ [])) at c.requires.valid in
    let nearer = take-take around.names n parts is.around.0 in
    let same = take-take around.names around.names parts (omega arith) in
    record {
      leads =
          rw (c.in-Some.ensures.items, reverse-append rest (around ∷ []), c.truncate.ensures.items, same, drop-front around.names parts)
          (rw nearer at (close-leads r.table (take n parts) (drop n parts) r.here around (reverse rest) r.awaits is c.requires.none));
      valid = rw (c.truncate.ensures.items, same, drop-front around.names parts) (rw nearer at (close-open r.table (take n parts) (drop n parts) r.here around (reverse rest) r.awaits is));
      text = refl;
    }
