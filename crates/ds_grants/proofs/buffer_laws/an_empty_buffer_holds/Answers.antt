use Rattle.ds_grants.proofs.Fills.{empty_buffer}
use Rattle.ds_grants.proofs.buffer_laws.an_empty_buffer_holds.Goals as goal

pub returns : goal.returns
returns c = empty_buffer
