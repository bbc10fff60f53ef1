use Rattle.ds_grants.proofs.Kept.{low_put, low_removed}
use Rattle.ds_grants.proofs.represented.tables_leave_pages_as_they_are.Goals as goal

pub returns-clause-put : goal.returns-clause-put
returns-clause-put c = low_put

pub returns-clause-removed : goal.returns-clause-removed
returns-clause-removed c = low_removed
