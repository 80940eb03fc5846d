use Rattle.std.proofs.Common.{◌≡◌, ◌++◌, ◌+◌, ◌/◌, ◌∙◌, ap, arith, length, take, List, ℤ}
use Rattle.wav_io.proofs.Rooms.{placed_behind, resized}
use Rattle.wav_io.proofs.reader.push_samples.Goals as goal

pub returns-clause-ok : goal.returns-clause-ok
returns-clause-ok c =
    let xs = c.deref_mut.result.now in
    let old = c.args.samples.now.items in
    let b = c.len-before.result in
    let all = c.deref_mut.ensures.value ∙ c.in_ok-resize.ensures.items in
    let is : take b xs ≡ old = resized (b + length c.args.bytes.now / 2) b old xs _ all (omega arith) (omega arith) in
    placed_behind c.resize.new.self.len b xs c.decode.new.samples _ _ (omega (arith, c.deref_mut.ensures.len, c.in_ok-resize.ensures.len)) (omega (arith, c.deref_mut.ensures.len, c.in_ok-resize.ensures.len)) ∙ ap (λ (zs : List ℤ). zs ++ c.decode.new.samples) is ∙ ap (λ (zs : List ℤ). old ++ zs) c.decode.ensures
