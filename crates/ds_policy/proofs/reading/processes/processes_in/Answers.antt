use Rattle.std.proofs.Common.{◌≡◌, ◌∙◌, sym, length, vec_len, arith}
use Rattle.ds_policy.specs.declared.cause.PolicyReason.TheVariants as reason
use Rattle.ds_policy.specs.PolicyParts.{policy_process_of}
use Rattle.ds_policy.proofs.Steps.{each_more, each_refused, each_end}
use Rattle.ds_policy.proofs.reading.processes.processes_in.Goals as goal

pub returns-in-Err-clause-exact : goal.returns-in-Err-clause-exact
returns-in-Err-clause-exact c =
    let same_len : vec_len c.loop-value.processes ≡ length c.loop-value.processes.items = omega (arith, c.loop-value.processes.ok.0) in
    rw (c.len.ensures, same_len) (sym c.loop-value.invariant.same
    ∙ each_refused (λ before d. policy_process_of d) (λ n cause. reason.Process n cause) c.loop-value.processes.items c.args.values.now c.loop-value.value-index c.value-item.result c.in-Err.cause (omega arith) c.value-item.is (sym c.policy_process_of.ensures ∙ c.in-Err.is))

pub loop-value-preserved : goal.loop-value-preserved
loop-value-preserved c =
    let step = each_more (λ before d. policy_process_of d) (λ n cause. reason.Process n cause) c.loop-value.processes.items c.args.values.now c.loop-value.value-index c.value-item.result c.in-Ok.process (omega arith) c.value-item.is (sym c.policy_process_of.ensures ∙ c.in-Ok.is) in
    record {
      same = rw c.in_ok-push-in-Ok.ensures.items (sym step ∙ c.loop-value.invariant.same);
      counted = omega (arith, c.in_ok-push-in-Ok.ensures.len);
    }

pub returns-clause-exact : goal.returns-clause-exact
returns-clause-exact c =
    sym c.loop-value.invariant.same
    ∙ each_end (λ before d. policy_process_of d) (λ n cause. reason.Process n cause) c.loop-value.processes.items c.args.values.now c.loop-value.value-index (omega arith)
