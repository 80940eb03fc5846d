use Rattle.asound_conf.specs.Prelude.{ap, List, Some, sym, take, ℕ, ◌∙◌, ◌≡◌, option_map, count_of_names, numbered_values, entries_in}
use Rattle.asound_conf.proofs.NumberedValues.{bindings_in-take}
use Rattle.asound_conf.proofs.channels.group_bindings.Goals as goal

pub returns : goal.returns
returns c =
    let values = numbered_values (entries_in c.args.group) (count_of_names (entries_in c.args.group)) in
    let kept = take c.in_ok-list.count c.in_ok-list.list in
    let same : Some kept ≡ option_map (λ list. take 9 list) values = sym (ap (option_map (λ (v : List ℕ × ℕ). take v.1 v.0)) c.in_ok-list.ensures.ok_part) ∙ c.values_of.ensures.values in
    c.bind.ensures ∙ bindings_in-take values kept c.args.channels same
