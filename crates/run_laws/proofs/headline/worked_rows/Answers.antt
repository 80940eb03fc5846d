use Rattle.run_laws.specs.Prelude.{refl, rising}
use Rattle.run_laws.proofs.headline.worked_rows.Goals as goal

pub returns-clause-first : goal.returns-clause-first
unfolding rising
returns-clause-first c = refl

pub returns-clause-second : goal.returns-clause-second
unfolding rising
returns-clause-second c = refl

pub returns-clause-part : goal.returns-clause-part
unfolding rising
returns-clause-part c = refl

pub returns-clause-behind : goal.returns-clause-behind
unfolding rising
returns-clause-behind c = refl

pub returns-clause-runs : goal.returns-clause-runs
returns-clause-runs c = refl

pub returns-clause-joined : goal.returns-clause-joined
returns-clause-joined c = refl
