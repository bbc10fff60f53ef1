use Rattle.ds_grants.proofs.Kept.{high_stored, high_kept}
use Rattle.ds_grants.proofs.represented.pages_leave_tables_as_they_are.Goals as goal

pub returns-clause-stored : goal.returns-clause-stored
returns-clause-stored c = high_stored

pub returns-clause-kept : goal.returns-clause-kept
returns-clause-kept c = high_kept
