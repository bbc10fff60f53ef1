use Rattle.std.proofs.Common.{◌≡◌, ◌∙◌, nat_lt, subst}
use Rattle.ds_grants.specs.State.{GrantsState, is_live}
use Rattle.ds_grants.specs.Inner.Counts.{holders_of}
use Rattle.ds_grants.specs.contracts.grants.Grants.{the_view}
use Rattle.ds_grants.proofs.Living.{unnamed_live}
use Rattle.ds_grants.proofs.grants.Grants.is_live.Goals as goal

pub returns-else-page-self : goal.returns-else-page-self
returns-else-page-self c =
    let counted : c.holders.result ≡ holders_of c.self.inside.table c.args.page = c.holders.ensures ∙ c.self.invariant.0 c.args.page in
    subst (λ (s : GrantsState). nat_lt 0 c.holders.result ≡ is_live s c.args.page) c.self.view_is
    (unnamed_live (the_view c.self.inside) c.args.page c.holders.result counted c.if-page-self.false)
