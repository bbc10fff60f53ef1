use Rattle.std.proofs.Common.{rules, ◌≡◌, ◌∙◌, ◌≤◌, sym, ap, subst, arith, [], ◌-◌, Ok, Err}
use Rattle.std.proofs.lemmas.List.{get_or_default}
use Rattle.toml.specs.View.{view}
use Rattle.ds_word.specs.ResultBinding.{◌>>=◌}
use Rattle.ds_policy.specs.PolicyParts.{rule_of, beside, new_rule}
use Rattle.ds_policy.specs.Inner.OwnRules.{own_rules}
use Rattle.ds_policy.specs.declared.policy.PolicyRule.{PolicyRule}
use Rattle.ds_policy.proofs.Binds.{ok_weaker}
use Rattle.ds_policy.proofs.OwnRules.{beside_own}
use Rattle.ds_policy.proofs.reading.rules.new_rule.Goals as goal

pub returns-in_err-rule-clause-exact : goal.returns-in_err-rule-clause-exact
unfolding new_rule
returns-in_err-rule-clause-exact c = λ before by.
    let missing : c.from_residual.result ≡ Err c.in_err-rule.field-0.0 = search rules in
    missing ∙ sym (ap (λ r. r >>= beside before) (sym c.rule_of.ensures.exact ∙ c.in_err-rule.was))

pub returns-clause-exact : goal.returns-clause-exact
unfolding new_rule
returns-clause-exact c = λ before by.
    let is : rule_of c.args.version c.args.processes c.args.pages.now (view c.args.value.now) ≡ Ok c.in_ok-rule.rule = sym c.rule_of.ensures.exact ∙ c.in_ok-rule.was in
    let within = c.in_ok-rule.ensures.within in
    let at = by c.in_ok-rule.rule.process within.0 (omega (arith, within, c.requires.each)) in
    let own : c.rules.result.now ≡ own_rules c.in_ok-rule.rule.process before = c.rules.ensures ∙ (c.index-owns-rule.is ∙ (get_or_default c.args.owns.now (c.in_ok-rule.rule.process - 1) c.index-owns-rule.result [] (omega (arith, within, c.requires.each)) ∙ at)) in
    c.beside.ensures.exact
    ∙ ap (λ xs. beside xs c.in_ok-rule.rule) own
    ∙ beside_own before c.in_ok-rule.rule
    ∙ sym (ap (λ r. r >>= beside before) is)

pub returns-clause-within : goal.returns-clause-within
returns-clause-within c =
    ok_weaker c.beside.result (λ (r : PolicyRule). r ≡ c.in_ok-rule.rule) (λ (r : PolicyRule). (1 ≤ r.process) × (r.process ≤ c.args.processes))
    (λ r same. subst (λ (s : PolicyRule). (1 ≤ s.process) × (s.process ≤ c.args.processes)) (sym same) c.in_ok-rule.ensures.within) c.beside.ensures.same
