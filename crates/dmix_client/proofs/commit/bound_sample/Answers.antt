use Rattle.dmix_client.specs.Prelude.{ap, arith, length, List, rules, sym, ℕ, ◌∙◌, ◌≡◌, slice_index, AreBindings, rising}
use Rattle.dmix_client.proofs.Frames.{rising-single}
use Rattle.dmix_client.proofs.commit.bound_sample.Goals.{then-channels-eq1, else-channels-eq1}
use Rattle.dmix_client.proofs.commit.bound_sample.Goals as goal

-- the first and only channel
single : (bindings : List ℕ) (client place : ℕ) → AreBindings bindings → length bindings ≡ 1 → place ≡ 0 → client ≡ 0
    → client ≡ slice_index (rising bindings) place
single bindings client place are one at is = is ∙ (sym (rising-single bindings are one) ∙ ap (slice_index (rising bindings)) (sym at))

pub returns : goal.returns
returns c =
    let list = c.args.bindings.now in
    let client_is : c.if-channels-eq1.client ≡ slice_index (rising list) c.args.place = elim c.if-channels-eq1.branch [
      | then-channels-eq1 w ↦ single list _ _ c.card_channel.ensures.bound (omega (arith, c.requires.channels, w.if-channels-eq1))
          (omega (arith, c.requires.place, c.requires.channels, w.if-channels-eq1)) w.client-is
      | else-channels-eq1 w ↦ w.client-is ∙ w.rising-client.ensures.value
    ] in
    record {
      channel = c.card_channel.ensures.value ∙ ap (slice_index list) client_is;
      sample = rw client_is (search rules);
    }
