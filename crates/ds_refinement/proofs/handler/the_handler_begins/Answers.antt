use Rattle.ds_refinement.proofs.FirstWord.{first_kernel, first_next, first_slot, first_late, first_words}
use Rattle.ds_refinement.proofs.handler.the_handler_begins.Goals as goal

pub returns-clause-kernel : goal.returns-clause-kernel
returns-clause-kernel c = first_kernel

pub returns-clause-next : goal.returns-clause-next
returns-clause-next c = first_next

pub returns-clause-slot : goal.returns-clause-slot
returns-clause-slot c = first_slot

pub returns-clause-late : goal.returns-clause-late
returns-clause-late c = first_late

pub returns-clause-words : goal.returns-clause-words
returns-clause-words c = first_words
