use Rattle.ds_refinement.proofs.CourseWords.{tables, copies}
use Rattle.ds_refinement.proofs.courses.a_service_goes_on.Goals as goal

pub returns-clause-tables : goal.returns-clause-tables
returns-clause-tables c = tables

pub returns-clause-copies : goal.returns-clause-copies
returns-clause-copies c = copies
