use Rattle.std.proofs.Common.{◌≤◌, length, subst, sym}
use Rattle.ds_grants.specs.State.{GrantsState}
use Rattle.ds_grants.proofs.Sizes.{good_row}
use Rattle.ds_grants.proofs.grants.Grants.may_be_dropped.Goals as goal

pub entry_near-requires-clause-row : goal.entry_near-requires-clause-row
entry_near-requires-clause-row c =
    let low = c.lives.ensures.low c.if-not-lives.false in
    let high : c.args.process ≤ length c.self.inside.table = subst (λ (s : GrantsState). c.args.process ≤ length s.table) (sym c.self.view_is) (c.lives.ensures.high c.if-not-lives.false) in
    good_row c.self.inside.table c.args.process low high c.self.invariant.1.rows
