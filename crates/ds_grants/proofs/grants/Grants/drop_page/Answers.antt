use Rattle.std.proofs.Common.{rules, ◌∙◌, Ok, sym, ap}
use Rattle.ds_policy.specs.Grants.{PageState}
use Rattle.ds_grants.specs.State.{GrantsState, page_state}
use Rattle.ds_grants.proofs.Chains.{refused_by}
use Rattle.ds_grants.proofs.Living.{low_pages, removed_state}
use Rattle.ds_grants.proofs.grants.Grants.drop_page.Goals as goal

pub returns-in_err-may_drop-clause-does : goal.returns-in_err-may_drop-clause-does
returns-in_err-may_drop-clause-does g c = refused_by (page_state c.args.self.now c.args.memory.now) c.from_residual.result c.in_err-may_drop.field-0.0 _ (search rules) (c.in_err-may_drop.ensures.err c.args.memory.now)

pub returns-clause-does : goal.returns-clause-does
returns-clause-does g c =
    let within = c.in_ok-may_drop.ensures.within in
    c.in_ok-may_drop.ensures.ok c.args.memory.now
    ∙ ap (λ (s : PageState). Ok s) (sym (low_pages c.remove.new.self c.args.memory.now c.remove.new.memory c.remove.ensures.low ∙ ap (λ (s : GrantsState). page_state s c.args.memory.now) c.remove.ensures.value ∙ removed_state c.args.self.now c.args.process c.args.addr c.args.memory.now within.0 within.1))
