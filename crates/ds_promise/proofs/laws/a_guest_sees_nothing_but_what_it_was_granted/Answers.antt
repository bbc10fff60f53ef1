use Rattle.ds_promise.proofs.Seen.{one_action, stay_alike}
use Rattle.ds_promise.proofs.SeenUnits.{unit_alike, half_alike}
use Rattle.ds_promise.proofs.laws.a_guest_sees_nothing_but_what_it_was_granted.Goals as goal

pub returns-clause-action : goal.returns-clause-action
returns-clause-action c = one_action

pub returns-clause-alike : goal.returns-clause-alike
returns-clause-alike c = stay_alike

pub returns-clause-unit : goal.returns-clause-unit
returns-clause-unit c = unit_alike

pub returns-clause-half : goal.returns-clause-half
returns-clause-half c = half_alike
