use Rattle.ds_refinement.proofs.Words.{word_goes_on}
use Rattle.ds_refinement.proofs.handler.a_word_of_the_handler_is_a_part_of_the_unit.Goals as goal

pub returns : goal.returns
returns c = word_goes_on
