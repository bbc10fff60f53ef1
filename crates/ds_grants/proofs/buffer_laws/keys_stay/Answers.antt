use Rattle.ds_grants.proofs.EntriesAnew.{keys_reworded, keys_again}
use Rattle.ds_grants.proofs.buffer_laws.keys_stay.Goals as goal

pub returns-clause-one : goal.returns-clause-one
returns-clause-one c = keys_reworded

pub returns-clause-many : goal.returns-clause-many
returns-clause-many c = keys_again
