use Rattle.ds_grants.proofs.Fills.{filled_buffer, missed_buffer, find_filled}
use Rattle.ds_grants.proofs.buffer_laws.a_filled_buffer_holds.Goals as goal

pub returns-clause-holds : goal.returns-clause-holds
returns-clause-holds c = filled_buffer

pub returns-clause-missed : goal.returns-clause-missed
returns-clause-missed c = missed_buffer

pub returns-clause-found : goal.returns-clause-found
returns-clause-found c = find_filled
