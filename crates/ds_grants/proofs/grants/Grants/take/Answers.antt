use Rattle.std.proofs.Common.{rules, ◌∙◌, Ok, refl, sym, ap}
use Rattle.ds_policy.specs.Grants.{PageState}
use Rattle.ds_grants.specs.State.{GrantsState, page_state}
use Rattle.ds_grants.proofs.Chains.{refused_by, not_given, was_given}
use Rattle.ds_grants.proofs.Living.{low_pages}
use Rattle.ds_grants.proofs.FamilyStates.{cut_state}
use Rattle.ds_grants.proofs.grants.Grants.take.Goals as goal

pub returns-in_err-grant-clause-does : goal.returns-in_err-grant-clause-does
returns-in_err-grant-clause-does g c = refused_by (page_state c.args.self.now c.args.memory.now) c.from_residual.result c.in_err-grant.field-0.0 _ (search rules) (c.in_err-grant.ensures.err c.args.memory.now _)

pub returns-then-grant-caller-clause-does : goal.returns-then-grant-caller-clause-does
returns-then-grant-caller-clause-does g c = (
  c.in_ok-grant.ensures.ok c.args.memory.now _
      ∙ not_given (page_state c.args.self.now c.args.memory.now) c.args.caller c.args.process c.args.addr c.in_ok-grant.grant _ c.in_ok-grant.ensures.there (search rules),
  refl,
)

pub returns-clause-does : goal.returns-clause-does
returns-clause-does g c =
    c.in_ok-grant.ensures.ok c.args.memory.now _
    ∙ was_given (page_state c.args.self.now c.args.memory.now) c.args.caller c.args.process c.args.addr c.in_ok-grant.grant _ c.in_ok-grant.ensures.there (search rules)
    ∙ ap (λ (s : PageState). Ok s) (sym (low_pages c.cut.new.self c.args.memory.now c.cut.new.memory c.cut.ensures.low ∙ ap (λ (s : GrantsState). page_state s c.args.memory.now) c.cut.ensures.value ∙ cut_state c.args.self.now c.args.process c.args.addr c.args.memory.now))
