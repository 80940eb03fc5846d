use Rattle.examples.specs.Prelude.{arith, drop, length, List, Ok, subst, sym, ◌%◌, ◌≡◌, ℤ, wav_file, bytes_of_pieces}
use Rattle.std.proofs.lemmas.List.{drop_all, drop_more}
use Rattle.examples.proofs.Reading.{Reads-refused, ends_whole, refused_next}
use Rattle.examples.proofs.wav_in_pieces.read_pieces.Goals as goal

pub returns-in_err-feed : goal.returns-in_err-feed
returns-in_err-feed c =
    let l = c.loop-piece in
    record {
      exact = Reads-refused c.from_residual.result c.in_err-feed.field-0.0 _ c.from_residual.ensures.1
          (λ other. refused_next l.reader c.feed.new.self l.samples.items c.feed.new.samples.items (drop l.piece-index c.args.pieces.now) _ _ _ _
          (drop_more c.args.pieces.now l.piece-index _ c.loop-piece-test.true) l.invariant.same
          (c.in_err-feed.ensures.same (λ is. other (let same = is in cc))) c.in_err-feed.ensures.after);
    }

pub invariant_of-result : goal.invariant_of-result
invariant_of-result c =
    let l = c.loop-piece in
    let head = c.in_ok-head.head in
    let file : wav_file (bytes_of_pieces c.args.pieces.now) ≡ Ok (record { channels = head.channels; rate = head.rate; samples = l.samples.items }) =
    ends_whole l.reader l.samples.items (drop l.piece-index c.args.pieces.now) head.channels head.rate _
    (drop_all l.piece-index c.args.pieces.now (omega (arith, c.loop-piece-test.false))) l.invariant.same c.in_ok-head.ensures.ok in
    record {
      some_channel = head.some_channel;
      few_channels = head.few_channels;
      some_rate = head.some_rate;
      whole = subst (λ (zs : List ℤ). length zs % head.channels ≡ 0) (sym c.from_vec.ensures) (c.in_ok-head.ensures.frames (bytes_of_pieces c.args.pieces.now) _ file);
    }
