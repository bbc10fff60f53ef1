use Rattle.ds_grants.proofs.Parents.{alike_represented}
use Rattle.ds_grants.proofs.represented.parents_leave_what_is_represented.Goals as goal

pub returns : goal.returns
returns c = alike_represented
