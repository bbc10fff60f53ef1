use Rattle.std.proofs.Common.{rules, ◌≡◌, ◌≤◌, length, true, subst, sym, refl, Some}
use Rattle.ds_policy.specs.Grants.{is_some_right}
use Rattle.ds_policy.specs.Pages.{entry_at}
use Rattle.ds_grants.specs.State.{GrantsState}
use Rattle.ds_grants.specs.Inner.Free.{HasPage}
use Rattle.ds_grants.specs.contracts.grants.Grants.{the_view}
use Rattle.ds_grants.proofs.Sizes.{good_row, has_page}
use Rattle.ds_grants.proofs.grants.Grants.granted_page.Goals as goal

pub entry_near-requires-clause-row : goal.entry_near-requires-clause-row
entry_near-requires-clause-row c =
    let high : c.args.process ≤ length c.self.inside.table = subst (λ (s : GrantsState). c.args.process ≤ length s.table) (sym c.self.view_is) c.requires.high in
    good_row c.self.inside.table c.args.process c.requires.low high c.self.invariant.1.rows

pub returns-in-Some-clause-names : goal.returns-in-Some-clause-names
returns-in-Some-clause-names c =
    let high : c.args.process ≤ length c.self.inside.table = subst (λ (s : GrantsState). c.args.process ≤ length s.table) (sym c.self.view_is) c.requires.high in
    let is : entry_at c.self.inside.table c.args.process c.args.addr ≡ Some c.in-Some.grant = search rules in
    let right : is_some_right c.in-Some.grant.right ≡ true = search rules in
    subst (λ (s : GrantsState). HasPage s c.in-Some.grant) c.self.view_is
    (has_page (the_view c.self.inside) c.self.inside.holders c.args.process c.args.addr c.in-Some.grant c.requires.low high refl c.self.invariant.0 c.self.invariant.1 c.self.invariant.2 is right)
