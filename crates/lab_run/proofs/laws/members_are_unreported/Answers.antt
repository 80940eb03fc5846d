use Rattle.lab_run.proofs.MemberLaws.{members-lay_alike, members-unreported}
use Rattle.lab_run.proofs.laws.members_are_unreported.Goals as goal

pub returns : goal.returns
returns c = record { reports = members-unreported; entries = members-lay_alike }
