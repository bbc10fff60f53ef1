use Rattle.std.proofs.Common.{rules}
use Rattle.ds_grants.proofs.Chains.{at_err}
use Rattle.ds_grants.proofs.grants.Grants.may_drop.Goals as goal

pub returns-in_err-granted_page-clause-err : goal.returns-in_err-granted_page-clause-err
returns-in_err-granted_page-clause-err c =
    at_err c.from_residual.result c.in_err-granted_page.field-0.0 _ (search rules)
    (λ memory. rw (c.if-by_command.false) (c.in_err-granted_page.ensures.err memory _))
