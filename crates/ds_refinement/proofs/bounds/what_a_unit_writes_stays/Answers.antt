use Rattle.ds_refinement.proofs.UnitCourses.{stays, grows, others, falls}
use Rattle.ds_refinement.proofs.bounds.what_a_unit_writes_stays.Goals as goal

pub returns-clause-stays : goal.returns-clause-stays
returns-clause-stays c = stays

pub returns-clause-grows : goal.returns-clause-grows
returns-clause-grows c = grows

pub returns-clause-others : goal.returns-clause-others
returns-clause-others c = others

pub returns-clause-falls : goal.returns-clause-falls
returns-clause-falls c = falls
