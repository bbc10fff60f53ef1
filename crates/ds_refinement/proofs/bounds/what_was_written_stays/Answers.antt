use Rattle.ds_refinement.proofs.Keeping.{begins, steps, writes, wired, found}
use Rattle.ds_refinement.proofs.bounds.what_was_written_stays.Goals as goal

pub returns-clause-begins : goal.returns-clause-begins
returns-clause-begins c = begins

pub returns-clause-steps : goal.returns-clause-steps
returns-clause-steps c = steps

pub returns-clause-writes : goal.returns-clause-writes
returns-clause-writes c = writes

pub returns-clause-wired : goal.returns-clause-wired
returns-clause-wired c = wired

pub returns-clause-found : goal.returns-clause-found
returns-clause-found c = found
