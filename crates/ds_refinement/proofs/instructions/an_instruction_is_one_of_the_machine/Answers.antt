use Rattle.ds_refinement.proofs.Stages.{step_follows}
use Rattle.ds_refinement.proofs.instructions.an_instruction_is_one_of_the_machine.Goals as goal

pub returns : goal.returns
returns c = step_follows
