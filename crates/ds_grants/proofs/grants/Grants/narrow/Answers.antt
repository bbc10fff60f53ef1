use Rattle.std.proofs.Common.{rules, ◌∙◌, ◌<◌, Ok, ℕ, Option, IfSome, is_some, sym, ap, subst}
use Rattle.ds_policy.specs.Grants.{PageState}
use Rattle.ds_grants.specs.State.{GrantsState, page_state}
use Rattle.ds_grants.specs.Inner.Copies.{IsMarked}
use Rattle.ds_grants.proofs.Chains.{refused_by, narrowed_as}
use Rattle.ds_grants.proofs.Living.{low_pages, narrowed_state}
use Rattle.ds_grants.proofs.grants.Grants.narrow.Goals as goal

pub returns-in_err-grant-clause-does : goal.returns-in_err-grant-clause-does
returns-in_err-grant-clause-does g c = refused_by (page_state c.args.self.now c.args.memory.now) c.from_residual.result c.in_err-grant.field-0.0 _ (search rules) (c.in_err-grant.ensures.err c.args.memory.now _)

pub put-requires-clause-whole : goal.put-requires-clause-whole
put-requires-clause-whole g c = ap is_some c.in_ok-grant.ensures.names.named

pub put-requires-clause-page : goal.put-requires-clause-page
put-requires-clause-page g c = subst (λ (o : Option ℕ). IfSome o (λ q. q < c.args.self.now.frames)) (sym c.in_ok-grant.ensures.names.named) c.in_ok-grant.ensures.names.within

pub put-requires-clause-marked : goal.put-requires-clause-marked
put-requires-clause-marked g c = subst (λ (o : Option ℕ). IfSome o (λ q. IsMarked c.args.self.now q)) (sym c.in_ok-grant.ensures.names.named) c.in_ok-grant.ensures.names.marked

pub returns-clause-does : goal.returns-clause-does
returns-clause-does g c =
    let within = c.in_ok-grant.ensures.within in
    c.in_ok-grant.ensures.ok c.args.memory.now _
    ∙ ap (λ (s : PageState). Ok s) (narrowed_as (page_state c.args.self.now c.args.memory.now) c.args.process c.args.addr c.in_ok-grant.grant c.in_ok-grant.ensures.there
    ∙ sym (low_pages c.put.new.self c.args.memory.now c.put.new.memory c.put.ensures.low ∙ ap (λ (s : GrantsState). page_state s c.args.memory.now) c.put.ensures.value ∙ narrowed_state c.args.self.now c.args.process c.args.addr c.in_ok-grant.grant c.args.memory.now within.0 within.1 c.in_ok-grant.ensures.there))
