use Rattle.ds_source_reasons.proofs.Reach.{branch_reached, jump_reached}
use Rattle.ds_source_reasons.proofs.law.a_target_is_reached_at_multiples_of_four.Goals as goal

pub returns-clause-branch : goal.returns-clause-branch
returns-clause-branch c = branch_reached

pub returns-clause-jump : goal.returns-clause-jump
returns-clause-jump c = jump_reached
