use Rattle.lab_input.specs.Prelude.{arith, length, List, subst, sym, ℕ, ◌*◌, ◌++◌, ◌+◌, ◌<◌, ◌≡◌, ◌≤◌, length-append, Continues, plug_of, most_bytes}
use Rattle.lab_input.specs.Prelude.{IsConverted}
use Rattle.lab_input.proofs.Plugging.{IsConverted-next, IsFed-converted, IsFed-few, IsFed-long}
use Rattle.lab_input.proofs.plug.PlugReader.convert.Goals as goal

pub overflow_cast-self : goal.overflow_cast-self
overflow_cast-self c =
    omega (arith, c.len.ensures, length-append c.requires.fed.fed c.args.self.now.body.items, IsFed-few c.args.self.now _ _ _ c.requires.seen c.requires.fed)

pub overflow_add-self : goal.overflow_add-self
overflow_add-self c =
    omega (arith, c.len.ensures, c.requires.fed.taken, length-append c.requires.fed.fed c.args.self.now.body.items, IsFed-few c.args.self.now _ _ _ c.requires.seen c.requires.fed)

pub returns-then-converted_len-gt-SAMPLES_MOST-clause-refused : goal.returns-then-converted_len-gt-SAMPLES_MOST-clause-refused
returns-then-converted_len-gt-SAMPLES_MOST-clause-refused c seen rest so_far =
    let r = c.args.self.now in
    let stage = c.in_ok-plug.plug in
    let is : IsConverted r.shape r.reader stage so_far.fed r.samples.items =
    IsFed-converted r c.args.head.channels c.args.head.rate c.args.head.bits seen c.take.result stage c.args.head.some_rate c.take.ensures.value c.in_ok-plug.ensures.kept c.in_ok-plug.ensures.begins so_far in
    let count : length (so_far.fed ++ r.body.items) ≡ r.taken + c.len.result = omega (arith, length-append so_far.fed r.body.items, so_far.taken, c.len.ensures) in
    let long : most_bytes < 2 * length (plug_of stage.conversion (so_far.fed ++ r.body.items)) =
    omega (arith, c.converted_len.ensures.value (so_far.fed ++ r.body.items) count, c.if-converted_len-gt-SAMPLES_MOST.true) in
    IsFed-long r c.args.head.channels c.args.head.rate c.args.head.bits seen rest stage so_far is c.converted_len.ensures.bound.table long

pub returns-in-Ok-clause-more : goal.returns-in-Ok-clause-more
returns-in-Ok-clause-more c seen so_far =
    let r = c.args.self.now in
    let stage = c.in_ok-plug.plug in
    let is : IsConverted r.shape r.reader stage so_far.fed r.samples.items =
    IsFed-converted r c.args.head.channels c.args.head.rate c.args.head.bits seen c.take.result stage c.args.head.some_rate c.take.ensures.value c.in_ok-plug.ensures.kept c.in_ok-plug.ensures.begins so_far in
    let count : length (so_far.fed ++ r.body.items) ≡ r.taken + c.len.result = omega (arith, length-append so_far.fed r.body.items, so_far.taken, c.len.ensures) in
    let short : 2 * length (plug_of stage.conversion (so_far.fed ++ r.body.items)) ≤ most_bytes =
    omega (arith, c.converted_len.ensures.value (so_far.fed ++ r.body.items) count, c.if-converted_len-gt-SAMPLES_MOST.false) in
    record {
      fed = so_far.fed ++ r.body.items;
      same = so_far.same;
      no_error = so_far.no_error;
      taken = sym count;
      shape = so_far.shape;
      so_far = IsConverted-next r.shape r.reader stage c.feed.new.self so_far.fed r.body.items r.samples.items c.feed.new.out.items is
          (subst (λ (b : List ℕ). Continues stage c.feed.new.self b r.samples.items c.feed.new.out.items) c.deref.ensures.value c.in-Ok.ensures.ok) short;
    }
