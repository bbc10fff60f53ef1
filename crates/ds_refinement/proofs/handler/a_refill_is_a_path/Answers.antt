use Rattle.ds_refinement.proofs.FirstWord.{refill_user, refill_outside}
use Rattle.ds_refinement.proofs.Nine.{refill_path, refill_within}
use Rattle.ds_refinement.proofs.handler.a_refill_is_a_path.Goals as goal

pub returns-clause-path : goal.returns-clause-path
returns-clause-path c = refill_path

pub returns-clause-within : goal.returns-clause-within
returns-clause-within c = refill_within

pub returns-clause-user : goal.returns-clause-user
returns-clause-user c = refill_user

pub returns-clause-outside : goal.returns-clause-outside
returns-clause-outside c = refill_outside
