use Rattle.lab_input.specs.Prelude.{ap, append-nil, List, sym, ℕ, ◌++◌, ◌∙◌, ◌≡◌, raw_to_come, with_bytes}
use Rattle.lab_input.proofs.Plugging.{IsFed-next, none_begun, with_bytes-fed, IsSoFar-fed}
use Rattle.lab_input.proofs.plug.PlugReader.feed.Goals as goal

pub convert-requires : goal.convert-requires
convert-requires c = record {
  seen = c.requires.seen ++ c.args.piece.now;
  fed = IsFed-next c.args.self.now _ c.feed.new.body c.requires.seen c.args.piece.now c.clear.new.self.items _ _ _ c.requires.converting c.clear.ensures.items
      (c.in_ok-feed.ensures.same (λ is. cc)) c.in_ok-feed.ensures.no_error (c.in-Some.ensures.to_come c.in_ok-feed.ensures.no_error) (c.in-Some.ensures.ends c.in_ok-feed.ensures.no_error);
}

pub returns-in-Some-clause-more : goal.returns-in-Some-clause-more
returns-in-Some-clause-more c seen so_far =
    c.convert.ensures.more (seen ++ c.args.piece.now)
    (IsFed-next c.args.self.now _ c.feed.new.body seen c.args.piece.now c.clear.new.self.items _ _ _ so_far c.clear.ensures.items
    (c.in_ok-feed.ensures.same (λ is. cc)) c.in_ok-feed.ensures.no_error (c.in-Some.ensures.to_come c.in_ok-feed.ensures.no_error) (c.in-Some.ensures.ends c.in_ok-feed.ensures.no_error))

pub returns-in-Some-clause-refused : goal.returns-in-Some-clause-refused
returns-in-Some-clause-refused c seen rest so_far =
    c.convert.ensures.refused (seen ++ c.args.piece.now) rest
    (IsFed-next c.args.self.now _ c.feed.new.body seen c.args.piece.now c.clear.new.self.items _ _ _ so_far c.clear.ensures.items
    (c.in_ok-feed.ensures.same (λ is. cc)) c.in_ok-feed.ensures.no_error (c.in-Some.ensures.to_come c.in_ok-feed.ensures.no_error) (c.in-Some.ensures.ends c.in_ok-feed.ensures.no_error))

pub returns-in-None-clause-more : goal.returns-in-None-clause-more
returns-in-None-clause-more c seen so_far =
    let old = c.args.self.now in
    let same = c.in_ok-feed.ensures.same (λ is. cc) in
    let nothing : c.feed.new.body.items ≡ c.clear.new.self.items = c.in_ok-feed.ensures.begins (none_begun _ _ c.in-None.ensures.begun (λ there. cc)) in
    record {
      fed = so_far.fed;
      same = λ more.
          ap (λ (x : List ℕ). with_bytes x (raw_to_come c.feed.new.self more)) (sym (ap (λ (b : List ℕ). so_far.fed ++ b) (nothing ∙ c.clear.ensures.items) ∙ append-nil so_far.fed))
          ∙ with_bytes-fed old.reader c.feed.new.self seen c.args.piece.now so_far.fed c.clear.new.self.items c.feed.new.body.items so_far.same c.clear.ensures.items same more;
      no_error = c.in_ok-feed.ensures.no_error;
      taken = so_far.taken;
      shape = so_far.shape;
      so_far = IsSoFar-fed old.shape old.reader c.feed.new.self old.plug c.args.piece.now c.clear.new.self.items c.feed.new.body.items so_far.fed old.samples.items same so_far.so_far;
    }
