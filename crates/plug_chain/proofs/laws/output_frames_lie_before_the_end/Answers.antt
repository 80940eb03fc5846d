use Rattle.plug_chain.proofs.Places.{output_count-all, output_count-lies}
use Rattle.plug_chain.proofs.laws.output_frames_lie_before_the_end.Goals as goal

pub returns-clause-there : goal.returns-clause-there
returns-clause-there c = output_count-lies

pub returns-clause-all : goal.returns-clause-all
returns-clause-all c = output_count-all
