use Rattle.std.proofs.Common.{◌≡◌, ◌∙◌, sym, subst, length, arith, vec_len}
use Rattle.ds_policy.specs.declared.cause.PolicyReason.TheVariants as reason
use Rattle.ds_policy.specs.PolicyParts.{new_rule}
use Rattle.ds_policy.specs.Inner.OwnRules.{AreByProcess}
use Rattle.ds_policy.proofs.Steps.{each_more, each_refused, each_end}
use Rattle.ds_policy.proofs.reading.rules.rules_in.Goals as goal

pub returns-in-Err : goal.returns-in-Err
returns-in-Err c =
    let same_len : vec_len c.loop-value.rules ≡ length c.loop-value.rules.items = omega (arith, c.loop-value.rules.ok.0) in
    rw (c.len.ensures, same_len) (sym c.loop-value.invariant.same
    ∙ each_refused (new_rule c.args.version c.args.processes c.args.pages.now) (λ n cause. reason.Rule n cause) c.loop-value.rules.items c.args.values.now c.loop-value.value-index c.value-item.result c.in-Err.cause (omega arith) c.value-item.is (sym (c.new_rule.ensures.exact c.loop-value.rules.items (subst (λ os. AreByProcess os c.loop-value.rules.items) (sym c.deref.ensures.value) c.loop-value.invariant.by)) ∙ c.in-Err.is))

pub loop-value-preserved : goal.loop-value-preserved
loop-value-preserved c =
    let step = each_more (new_rule c.args.version c.args.processes c.args.pages.now) (λ n cause. reason.Rule n cause) c.loop-value.rules.items c.args.values.now c.loop-value.value-index c.value-item.result c.in-Ok.rule (omega arith) c.value-item.is (sym (c.new_rule.ensures.exact c.loop-value.rules.items (subst (λ os. AreByProcess os c.loop-value.rules.items) (sym c.deref.ensures.value) c.loop-value.invariant.by)) ∙ c.in-Ok.is) in
    record {
      same = rw c.in_ok-push-in-Ok.ensures.items (sym step ∙ c.loop-value.invariant.same);
      counted = omega (arith, c.in_ok-push-in-Ok.ensures.len);
      each = c.add_to.ensures.same ∙ c.loop-value.invariant.each;
      by = rw c.in_ok-push-in-Ok.ensures.items (c.in_ok-add_to-in-Ok.ensures.added c.loop-value.rules.items c.loop-value.invariant.by);
    }

pub returns : goal.returns
returns c =
    sym c.loop-value.invariant.same
    ∙ each_end (new_rule c.args.version c.args.processes c.args.pages.now) (λ n cause. reason.Rule n cause) c.loop-value.rules.items c.args.values.now c.loop-value.value-index (omega arith)
