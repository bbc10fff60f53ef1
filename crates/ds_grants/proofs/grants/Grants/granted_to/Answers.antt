use Rattle.std.proofs.Common.{◌∙◌, sym}
use Rattle.ds_policy.specs.Grants.{◌or_else◌, not_page, no_right}
use Rattle.ds_grants.specs.State.{page_state}
use Rattle.ds_grants.specs.Inner.State.{lives_in}
use Rattle.ds_grants.proofs.Chains.{lives_err}
use Rattle.ds_grants.proofs.grants.Grants.granted_to.Goals as goal

pub returns-clause-err : goal.returns-clause-err
returns-clause-err c =
    lives_err c.granted_page.result (lives_in c.args.self.now c.args.process) (λ memory next. not_page c.args.addr or_else no_right (page_state c.args.self.now memory) c.args.process c.args.addr or_else next)
    (sym c.lives.ensures.value ∙ c.if-not-lives.false) c.granted_page.ensures.err
