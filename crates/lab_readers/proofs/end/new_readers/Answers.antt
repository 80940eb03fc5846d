use Rattle.lab_readers.specs.Prelude.{ap, arith, length, List, subst, sym, ℕ, [], ◌+◌, ◌∷◌, ◌≡◌, length-append, LabReader, IsNeverOpen, AreNew, AreNew-append}
use Rattle.lab_readers.proofs.end.new_readers.Goals as goal

pub loop-number-preserved : goal.loop-number-preserved
loop-number-preserved c =
    let readers : List LabReader = c.loop-number.readers.items in let reader : LabReader = c.new.result in
    let count : length readers ≡ c.loop-number.number = c.loop-number.invariant.count in
    let at : c.loop-number.number ≡ 0 + length readers = omega (arith, count) in
    let items = c.in_ok-push.ensures.items in
    record {
      new = subst (λ (rs : List LabReader). AreNew 0 rs) (sym {A = List LabReader} items)
          (AreNew-append 0 readers reader c.loop-number.invariant.new (subst (λ (n : ℕ). IsNeverOpen n reader) at c.new.ensures));
      count = omega (arith, ap length items, length-append readers (reader ∷ []), count);
    }
