use Rattle.lab_card.specs.Prelude.{ap, append_assoc, arith, List, map, Some, sym, ℕ, ℤ, [], ◌++◌, ◌∙◌, ◌≡◌, map-range_with_len_more, range_with_len, ◌∷◌}
use Rattle.lab_card.specs.Prelude.{captured_at}
use Rattle.std.proofs.lemmas.Grind.{common_steps}
use Rattle.lab_card.proofs.capture.push_frame.Goals as goal

pub loop-channel-preserved : goal.loop-channel-preserved
loop-channel-preserved c =
    let f : ℕ → ℤ = captured_at (Some c.args.wav.now) c.args.frame in
    let was = c.loop-channel.invariant in
    let old : List ℤ = c.args.captured.now.items in
    let front : List ℤ = map f (range_with_len 0 c.loop-channel.channel) in
    let pushed : c.push.new.self.items ≡ c.loop-channel.captured.items ++ c.sample_in.result ∷ [] = grind (arith, common_steps) in
    let size = c.push.ensures in
    record {
      items = pushed
          ∙ (ap (λ (x : ℤ). c.loop-channel.captured.items ++ x ∷ []) c.sample_in.ensures
          ∙ (ap (λ (xs : List ℤ). xs ++ f c.loop-channel.channel ∷ []) was.items
          ∙ (append_assoc old front (f c.loop-channel.channel ∷ [])
          ∙ ap (λ (xs : List ℤ). old ++ xs) (sym (map-range_with_len_more f 0 c.loop-channel.channel c.loop-channel.channel (omega arith))))));
      len = grind (arith, common_steps);
      room = omega (arith, was.room, size.capacity);
    }
