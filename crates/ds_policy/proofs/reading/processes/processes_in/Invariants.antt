use Rattle.std.proofs.Common.{◌≡◌, ◌≤◌, length, [], drop}
use Rattle.toml.specs.View.{items_view}
use Rattle.ds_policy.specs.declared.cause.PolicyReason.TheVariants as reason
use Rattle.ds_policy.specs.PolicyParts.{policy_process_of}
use Rattle.ds_policy.specs.PolicyText.{each_of}
use Rattle.ds_policy.proofs.reading.processes.processes_in.Given as goal

abbrev pub invariant-loop-value : goal.invariant-loop-value
invariant-loop-value l = record {
  same : each_of (λ before d. policy_process_of d) (λ n cause. reason.Process n cause) l.processes.items (items_view (drop l.value-index l.values)) ≡ each_of (λ before d. policy_process_of d) (λ n cause. reason.Process n cause) [] (items_view l.values);
  counted : length l.processes.items ≤ l.value-index;
}
