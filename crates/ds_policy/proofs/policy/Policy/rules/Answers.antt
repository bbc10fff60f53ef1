use Rattle.std.proofs.Common.{subst}
use Rattle.ds_policy.specs.Value.{PolicyValue}
use Rattle.ds_policy.specs.PolicyFacts.{HasFewRules}
use Rattle.ds_policy.proofs.policy.Policy.rules.Goals as goal

pub returns-clause-few : goal.returns-clause-few
returns-clause-few c = subst (λ (s : PolicyValue). HasFewRules s.rules) c.self.view_is c.self.invariant.1.rules.few
