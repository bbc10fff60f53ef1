use Rattle.ds_refinement.proofs.Frames.{word_of_page, state_stored, size_stored}
use Rattle.ds_refinement.proofs.pages.a_word_of_a_page_lies_in_its_frame.Goals as goal

pub returns-clause-read : goal.returns-clause-read
returns-clause-read c = word_of_page

pub returns-clause-stored : goal.returns-clause-stored
returns-clause-stored c = state_stored

pub returns-clause-size : goal.returns-clause-size
returns-clause-size c = size_stored
