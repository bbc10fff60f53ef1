use Rattle.ds_grants.proofs.Handing.{handed_out}
use Rattle.ds_grants.proofs.represented.a_number_is_handed_out.Goals as goal

pub returns : goal.returns
returns c = handed_out
