use Rattle.run_laws.proofs.Exactly.{unstopped-own}
use Rattle.run_laws.proofs.headline.actors_do_their_own.Goals as goal

pub returns : goal.returns
returns c script wavs session capture outcome script_is is =
    unstopped-own script wavs session capture outcome (λ is_theirs. c.runs_are_of_scripts.ensures.lines script is_theirs script_is) is
    (c.one_run.ensures session capture script.body) (c.actors_are_alone.ensures session capture script.body)
