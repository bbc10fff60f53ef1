use Rattle.ds_refinement.proofs.Tallied.{failure_stands}
use Rattle.ds_refinement.proofs.turns.a_failure_is_not_seen.Goals as goal

pub returns : goal.returns
returns c = λ h. record { stays = failure_stands h }
