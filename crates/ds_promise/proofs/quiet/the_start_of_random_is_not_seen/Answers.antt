use Rattle.ds_promise.proofs.Inputs.{first_registers, one_first, one_text_of_inputs}
use Rattle.ds_promise.proofs.quiet.the_start_of_random_is_not_seen.Goals as goal

pub returns-clause-registers : goal.returns-clause-registers
returns-clause-registers c = first_registers

pub returns-clause-first : goal.returns-clause-first
returns-clause-first c = one_first

pub returns-clause-text : goal.returns-clause-text
returns-clause-text c = one_text_of_inputs
