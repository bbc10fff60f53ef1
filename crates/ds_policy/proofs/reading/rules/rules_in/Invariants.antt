use Rattle.std.proofs.Common.{◌≡◌, ◌≤◌, [], drop, length}
use Rattle.toml.specs.View.{items_view}
use Rattle.ds_policy.specs.declared.cause.PolicyReason.TheVariants as reason
use Rattle.ds_policy.specs.PolicyParts.{new_rule}
use Rattle.ds_policy.specs.PolicyText.{each_of}
use Rattle.ds_policy.specs.Inner.OwnRules.{AreByProcess}
use Rattle.ds_policy.proofs.reading.rules.rules_in.Given as goal

abbrev pub invariant-loop-value : goal.invariant-loop-value
invariant-loop-value l = record {
  same : each_of (new_rule l.version l.processes l.pages) (λ n cause. reason.Rule n cause) l.rules.items (items_view (drop l.value-index l.values)) ≡ each_of (new_rule l.version l.processes l.pages) (λ n cause. reason.Rule n cause) [] (items_view l.values);
  counted : length l.rules.items ≤ l.value-index;
  each : length l.owns.items ≡ l.processes;
  by : AreByProcess l.owns.items l.rules.items;
}
