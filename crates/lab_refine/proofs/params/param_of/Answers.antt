use Rattle.lab_refine.specs.Prelude.{refl, rules, tests, ◌∙◌, ◌≡◌, None, Option, option_map, Some}
use Rattle.std.proofs.lemmas.Iterator.{YieldsList-from_slice}
use Rattle.std.proofs.lemmas.Iterator.Consumers.{YieldsList-from_copied}
use Rattle.std.proofs.lemmas.Iterator.Search.{find_from_yields_List}
use Rattle.lab_refine.specs.Params.{all_params, has_name}
use Rattle.lab_refine.proofs.params.param_of.Goals as goal

-- what is found, as it is
same : {A : Type 0} (o : Option A) → o ≡ option_map (λ x. x) o
same None = refl
same (Some x) = refl

pub returns : goal.returns
unfolding all_params
returns c =
    same c.find.result
    ∙ find_from_yields_List (has_name c.args.word.now) _ _ c.find.result c.find.ensures.ran
    (YieldsList-from_copied (YieldsList-from_slice all_params cc)) (λ x b q k. search (rules, tests))
