use Rattle.std.proofs.Common.{◌≡◌, ◌++◌, ◌+◌, ◌*◌, ◌∙◌, ap, arith, length, take, List, ℕ}
use Rattle.wav_io.proofs.Rooms.{placed_behind, resized}
use Rattle.wav_io.proofs.writing.append_samples.Goals as goal

pub returns-clause-ok : goal.returns-clause-ok
returns-clause-ok c =
    let xs = c.deref_mut.result.now in
    let old = c.args.bytes.now.items in
    let b = c.len-before.result in
    let all = c.deref_mut.ensures.value ∙ c.in_ok-resize.ensures.items in
    let is : take b xs ≡ old = resized (b + 2 * length c.args.samples.now) b old xs _ all (omega arith) (omega arith) in
    placed_behind c.resize.new.self.len b xs c.encode.new.bytes _ _ (omega (arith, c.deref_mut.ensures.len, c.in_ok-resize.ensures.len)) (omega (arith, c.deref_mut.ensures.len, c.in_ok-resize.ensures.len)) ∙ ap (λ (zs : List ℕ). zs ++ c.encode.new.bytes) is ∙ ap (λ (zs : List ℕ). old ++ zs) c.encode.ensures.put
