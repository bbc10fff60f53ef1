use Rattle.ds_refinement.proofs.Costs.{costs}
use Rattle.ds_refinement.proofs.bounds.a_unit_is_short.Goals as goal

pub returns : goal.returns
returns c = costs
