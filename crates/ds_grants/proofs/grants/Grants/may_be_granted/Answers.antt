use Rattle.std.proofs.Common.{rules, ◌≡◌, ◌≤◌, ℕ, length, true, false, None, refl, sym, subst}
use Rattle.ds_policy.specs.Pages.{entry_at}
use Rattle.ds_policy.specs.Grants.{has_right}
use Rattle.ds_grants.specs.State.{GrantsState, is_live}
use Rattle.ds_grants.specs.Inner.Copies.{IsMarked}
use Rattle.ds_grants.specs.contracts.grants.Grants.{the_view}
use Rattle.ds_grants.proofs.Laying.{live_below, live_marked}
use Rattle.ds_grants.specs.Inner.Counts.{page_of}
use Rattle.ds_grants.proofs.Chains.{room_err, room_ok, at_ok}
use Rattle.ds_grants.proofs.Sizes.{no_page}
use Rattle.ds_grants.proofs.grants.Grants.may_be_granted.Goals as goal

pub returns-clause-err : goal.returns-clause-err
returns-clause-err c = room_err c.args.self.now c.args.process c.args.addr (search rules) (search rules) (search rules) c.has_room.result c.has_room.ensures.err

pub returns-clause-ok : goal.returns-clause-ok
returns-clause-ok c = room_ok c.args.self.now c.args.process c.args.addr (search rules) (search rules) (search rules) c.has_room.result c.has_room.ensures.ok

pub returns-clause-free : goal.returns-clause-free
returns-clause-free c =
    let lives = c.if-not-lives.ensures in
    let low = lives.low (search rules) in
    let high : c.args.process ≤ length c.self.inside.table = subst (λ (s : GrantsState). c.args.process ≤ length s.table) (sym c.self.view_is) (lives.high (search rules)) in
    let none : has_right (entry_at c.self.inside.table c.args.process c.args.addr) ≡ false = search rules in
    at_ok c.has_room.result
    (subst (λ (s : GrantsState). page_of (entry_at s.table c.args.process c.args.addr) ≡ None) c.self.view_is
    (no_page c.self.inside.table c.args.process c.args.addr low high c.self.invariant.1.rows none))

pub returns-clause-marked : goal.returns-clause-marked
returns-clause-marked c = at_ok c.has_room.result
    (subst (λ (s : GrantsState). (page : ℕ) → is_live s page ≡ true → IsMarked s page) c.self.view_is
    (live_marked (the_view c.self.inside) (live_below (the_view c.self.inside) c.self.inside.holders c.self.invariant.0 refl c.self.invariant.1.named) c.self.invariant.2))
