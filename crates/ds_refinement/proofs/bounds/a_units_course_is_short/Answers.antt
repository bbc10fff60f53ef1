use Rattle.ds_refinement.proofs.UnitCourses.{begins, after, short}
use Rattle.ds_refinement.proofs.bounds.a_units_course_is_short.Goals as goal

pub returns : goal.returns
returns c = λ n a d b more. short d (after n a d (begins a b) more)
