use Rattle.ds_refinement.proofs.Ending.{service}
use Rattle.ds_refinement.proofs.services.a_service_ends_its_unit.Goals as goal

pub returns : goal.returns
returns c = service
