use Rattle.ds_refinement.proofs.Tallied.{begins, touches, instruction_counted, ranges}
use Rattle.ds_refinement.proofs.tallies.the_counts_hold.Goals as goal

pub returns-clause-begins : goal.returns-clause-begins
returns-clause-begins c = begins

pub returns-clause-touches : goal.returns-clause-touches
returns-clause-touches c = touches

pub returns-clause-ranges : goal.returns-clause-ranges
returns-clause-ranges c = ranges

pub returns-clause-instruction : goal.returns-clause-instruction
returns-clause-instruction c = instruction_counted
