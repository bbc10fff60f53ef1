use Rattle.ds_refinement.proofs.Ending.{call_ends}
use Rattle.ds_refinement.proofs.services.a_call_ends_its_unit.Goals as goal

pub returns : goal.returns
returns c = call_ends
