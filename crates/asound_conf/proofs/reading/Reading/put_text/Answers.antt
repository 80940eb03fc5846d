use Rattle.asound_conf.specs.Prelude.{arith, drop, take, true, take-take, reverse, parts_in, span_in}
use Rattle.asound_conf.specs.Key.{without_marks}
use Rattle.asound_conf.proofs.Readers.{drop-front, key-clear, names-least, put_text-state, text-open}
use Rattle.asound_conf.proofs.reading.Reading.put_text.Goals as goal

pub key_behind-key-requires : goal.key_behind-key-requires
key_behind-key-requires c =
    let r = c.args.self.now in
    rw c.as_slice.ensures.value (names-least r.table r.path.items r.here c.requires.valid.innermost)

pub put-answer-requires : goal.put-answer-requires
put-answer-requires c =
    let r = c.args.self.now in
    let n = r.here.names in
    record {
      some = rw (c.key_behind-key.ensures, c.as_slice.ensures.value) c.requires.some;
      inside = c.requires.valid.innermost.inside;
      «open» = rw (c.key_behind-key.ensures, c.as_slice.ensures.value) (key-clear r.table (take n r.path.items) (drop n r.path.items) r.here (reverse r.outer.items) r.awaits c.requires.valid c.requires.some);
    }

pub returns-in-Ok : goal.returns-in-Ok
returns-in-Ok c =
    let r = c.args.self.now in
    let n = r.here.names in
    let parts = r.path.items in
    let outer = reverse r.outer.items in
    let is = c.requires.valid in
    let put = c.put-answer.ensures in
    let same = take-take n n parts (omega arith) in
    let puts = rw (c.key_behind-key.ensures, c.as_slice.ensures.value) at (put.placed (without_marks (parts_in r.table.text (take n parts))) is.innermost.way) in
    let leads = put_text-state c.put-answer.result r.table c.put-answer.new.table (take n parts) (drop n parts) r.here outer r.awaits (span_in r.table.text c.args.text) is.innermost.depth put.text puts in
    record {
      leads = rw (c.truncate.ensures.items, same, drop-front n parts) (rw c.in-Ok.is at leads);
      valid = rw (c.truncate.ensures.items, same, drop-front n parts) (text-open r.table c.put-answer.new.table (take n parts) (drop n parts) r.here outer r.awaits true is put.text put.longer put.kept);
      text = c.put-answer.ensures.text;
    }
