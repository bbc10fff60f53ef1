use Rattle.ds_refinement.proofs.Joined.{instruction_real, word_real}
use Rattle.ds_refinement.proofs.paths.an_instruction_is_real.Goals as goal

pub returns-clause-user : goal.returns-clause-user
returns-clause-user c = instruction_real

pub returns-clause-word : goal.returns-clause-word
returns-clause-word c = word_real
