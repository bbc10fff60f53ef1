use Rattle.ds_refinement.proofs.UnitCourses.{begins, goes_on, short}
use Rattle.ds_refinement.proofs.bounds.a_unit_is_tallied.Goals as goal

pub returns-clause-begins : goal.returns-clause-begins
returns-clause-begins c = begins

pub returns-clause-goes_on : goal.returns-clause-goes_on
returns-clause-goes_on c = goes_on

pub returns-clause-short : goal.returns-clause-short
returns-clause-short c = short
