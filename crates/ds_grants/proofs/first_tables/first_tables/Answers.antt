use Rattle.std.proofs.Common.{◌≡◌, ◌∙◌, ◌≤◌, ℕ, List, length, replicate, [], sym, ap, subst, arith, cond, refl, inl, inr}
use Rattle.std.specs.Prelude.{nat_lt}
use Rattle.std.proofs.lemmas.Bool.{cases_Bool}
use Rattle.std.proofs.lemmas.Bool.Decides.{nat_tests}
use Rattle.std.proofs.lemmas.List.{take_all}
use Rattle.ds_policy.specs.declared.policy.PolicyRule.{PolicyRule}
use Rattle.ds_policy.specs.FirstTable.{with_rules}
use Rattle.ds_policy.specs.Pages.{Table, entry_at}
use Rattle.ds_grants.specs.Represented.{TablesHaveWords}
use Rattle.ds_grants.proofs.FirstGrants.{rules_within}
use Rattle.ds_grants.proofs.Lying.{by_table}
use Rattle.ds_grants.proofs.RuleWords.{over, place_over, rule_written, nothing_written, written_as}
use Rattle.ds_grants.proofs.first_tables.first_tables.Goals as goal

pub loop-rule-init : goal.loop-rule-init
loop-rule-init c = record {
  words = λ empty.
      rw c.new-tables.ensures.value
      (nothing_written c.args.processes (cond (nat_lt c.args.processes 100) c.args.processes 100) c.args.memory.now (as_many c.args.processes c.requires.processes) c.requires.processes empty);
  elsewhere = λ f outside. refl;
}
  where
    as_many : (n : ℕ) → n ≤ 100 → cond (nat_lt n 100) n 100 ≡ n
    as_many n few = elim (cases_Bool (nat_lt n 100)) [
      | inl below ↦ rw below refl
      | inr past ↦ rw past (let not_below : 100 ≤ n = grind (arith, nat_tests) in omega (arith, few, not_below))
    ]

pub loop-rule-preserved : goal.loop-rule-preserved
loop-rule-preserved c = record {
  words = λ empty.
      written_as (c.write_rule.ensures.memory (over []) (place_over [] _ (c.requires.good c.loop-rule.rule-index _ c.loop-rule-test.true).page)) c.write_rule.ensures.tables
      (rule_written c.args.processes c.loop-rule.rule-index c.args.rules.now _ c.loop-rule.memory c.loop-rule.tables c.loop-rule-test.true c.requires.good c.requires.regions
      (let size = c.write_rule.ensures.size in omega (arith, size)) (c.loop-rule.invariant.words empty));
  elsewhere = λ f outside. c.write_rule.ensures.elsewhere f outside ∙ c.loop-rule.invariant.elsewhere f outside;
}

pub returns-clause-words : goal.returns-clause-words
returns-clause-words c = λ empty g is in-order.
    let past : length c.args.rules.now ≤ c.loop-rule.rule-index = c.loop-rule-test.false in
    by_table c.loop-rule.memory c.loop-rule.tables (over (with_rules (replicate c.args.processes []) 1 c.args.rules.now)) g is
    (λ p a grant at. in-order p a grant at ∙ sym (place_over (with_rules (replicate c.args.processes []) 1 c.args.rules.now) grant.page (rules_within c.args.processes 1024 c.args.rules.now c.requires.good p a grant (ap (λ (t : Table). entry_at t p a) (sym is) ∙ at))))
    (subst (λ (rs : List PolicyRule). TablesHaveWords c.loop-rule.memory c.loop-rule.tables (over (with_rules (replicate c.args.processes []) 1 rs))) (take_all c.loop-rule.rule-index c.args.rules.now past) (c.loop-rule.invariant.words empty))
