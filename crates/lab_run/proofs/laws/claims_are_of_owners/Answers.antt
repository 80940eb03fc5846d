use Rattle.lab_run.proofs.laws.claims_are_of_owners.Goals as goal
use Rattle.lab_run.proofs.ClaimLaws.{claim-owners}

pub returns : goal.returns
returns c claims channels position = claim-owners claims channels position
