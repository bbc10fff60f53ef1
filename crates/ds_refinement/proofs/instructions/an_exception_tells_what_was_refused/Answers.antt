use Rattle.ds_refinement.proofs.Stages.{exception_leaves}
use Rattle.ds_refinement.proofs.instructions.an_exception_tells_what_was_refused.Goals as goal

pub returns : goal.returns
returns c = exception_leaves
