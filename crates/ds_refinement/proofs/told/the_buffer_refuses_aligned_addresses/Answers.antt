use Rattle.ds_refinement.proofs.Refusals.{least_code, most_code, code_aligned, byte_answers}
use Rattle.ds_refinement.proofs.told.the_buffer_refuses_aligned_addresses.Goals as goal

pub returns-clause-least : goal.returns-clause-least
returns-clause-least c = least_code

pub returns-clause-most : goal.returns-clause-most
returns-clause-most c = most_code

pub returns-clause-aligned : goal.returns-clause-aligned
returns-clause-aligned c = code_aligned

pub returns-clause-byte : goal.returns-clause-byte
returns-clause-byte c = byte_answers
