use Rattle.std.proofs.Common.{rules, ◌∙◌, Ok, Some, refl, sym, ap}
use Rattle.ds_policy.specs.Grants.{PageState}
use Rattle.ds_grants.specs.State.{GrantsState, page_state}
use Rattle.ds_grants.proofs.Chains.{refused_by}
use Rattle.ds_grants.proofs.Living.{low_pages, shared_state, one_lives, named_lives}
use Rattle.ds_grants.proofs.grants.Grants.grant.Goals as goal

pub returns-in_err-may_be_granted-clause-does : goal.returns-in_err-may_be_granted-clause-does
returns-in_err-may_be_granted-clause-does g c =
    refused_by (page_state c.args.self.now c.args.memory.now) c.from_residual.result c.in_err-may_be_granted.field-0.0 _ (search rules)
    (c.in_err-may_be_granted.ensures.err c.args.memory.now c.args.page c.args.right c.args.give c.args.rule)

pub put-requires-clause-marked : goal.put-requires-clause-marked
put-requires-clause-marked g c = c.in_ok-may_be_granted.ensures.marked c.args.page (named_lives c.args.self.now c.args.page c.requires.named)

pub returns-clause-does : goal.returns-clause-does
returns-clause-does g c =
    let within = c.in_ok-may_be_granted.ensures.within in
    c.in_ok-may_be_granted.ensures.ok c.args.memory.now c.args.page c.args.right c.args.give c.args.rule
    ∙ ap (λ (s : PageState). Ok s) (sym (low_pages c.put.new.self c.args.memory.now c.put.new.memory c.put.ensures.low
    ∙ ap (λ (s : GrantsState). page_state s c.args.memory.now) c.put.ensures.value
    ∙ shared_state c.args.self.now c.args.process c.args.addr _ c.args.memory.now within.0 within.1 c.in_ok-may_be_granted.ensures.free
    (one_lives c.args.self.now (Some c.args.page) c.args.page refl (named_lives c.args.self.now c.args.page c.requires.named))))
