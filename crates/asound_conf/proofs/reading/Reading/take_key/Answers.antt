use Rattle.asound_conf.specs.Prelude.{drop, refl, sym, take, ◌∙◌, reverse}
use Rattle.asound_conf.proofs.Readers.{Refuses-Err, key-open, names-least, put_key-state}
use Rattle.asound_conf.proofs.reading.Reading.take_key.Goals as goal

pub key_behind-key-requires : goal.key_behind-key-requires
key_behind-key-requires c =
    let r = c.args.self.now in
    rw c.as_slice.ensures.value (names-least r.table r.path.items r.here c.requires.valid.innermost)

pub returns-in-Some-clause-leads : goal.returns-in-Some-clause-leads
returns-in-Some-clause-leads c =
    let r = c.args.self.now in
    let n = r.here.names in
    let is = c.requires.valid.innermost in
    let cause = rw (c.key_behind-key.ensures, c.as_slice.ensures.value) at (sym c.key_cause.ensures ∙ c.in-Some.is) in
    Refuses-Err c.in-Some.why _ (rw cause at (put_key-state r.table (take n r.path.items) (drop n r.path.items) r.here (reverse r.outer.items) r.awaits is.depth is.way))

pub returns : goal.returns
returns c =
    let r = c.args.self.now in
    let n = r.here.names in
    let is = c.requires.valid.innermost in
    let cause = rw (c.key_behind-key.ensures, c.as_slice.ensures.value) at (sym c.key_cause.ensures ∙ c.in_default.is) in
    record {
      leads = rw cause at (put_key-state r.table (take n r.path.items) (drop n r.path.items) r.here (reverse r.outer.items) r.awaits is.depth is.way);
      valid = key-open r.table (take n r.path.items) (drop n r.path.items) r.here (reverse r.outer.items) r.awaits c.requires.valid c.requires.some cause;
      text = refl;
    }
