use Rattle.std.proofs.Common.{rules, ◌∙◌, Ok, sym, ap}
use Rattle.ds_policy.specs.Grants.{PageState}
use Rattle.ds_grants.specs.State.{GrantsState, page_state}
use Rattle.ds_grants.proofs.Chains.{refused_by}
use Rattle.ds_grants.proofs.Living.{low_pages}
use Rattle.ds_grants.proofs.FamilyStates.{forbidden_state}
use Rattle.ds_grants.proofs.grants.Grants.revoke.Goals as goal

pub returns-in_err-granted_to-clause-does : goal.returns-in_err-granted_to-clause-does
returns-in_err-granted_to-clause-does g c = refused_by (page_state c.args.self.now c.args.memory.now) c.from_residual.result c.in_err-granted_to.field-0.0 _ (search rules) (c.in_err-granted_to.ensures.err c.args.memory.now _)

pub returns-clause-does : goal.returns-clause-does
returns-clause-does g c =
    c.in_ok-granted_to.ensures.ok c.args.memory.now _
    ∙ ap (λ (s : PageState). Ok s) (sym (low_pages c.forbid.new.self c.args.memory.now c.forbid.new.memory c.forbid.ensures.low ∙ ap (λ (s : GrantsState). page_state s c.args.memory.now) c.forbid.ensures.value ∙ forbidden_state c.args.self.now c.args.process c.args.addr c.args.rule c.args.memory.now))
