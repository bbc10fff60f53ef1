use Rattle.std.proofs.Common.{rules, ◌≡◌, ◌∙◌, ap, Ok}
use Rattle.toml.specs.View.{table_view}
use Rattle.ds_policy.specs.PolicyText.{says}
use Rattle.ds_policy.specs.PolicyParts.{sources_of}
use Rattle.ds_policy.proofs.PolicyRead.{says_good}
use Rattle.ds_policy.proofs.policy.Policy.of_table.Goals as goal

pub invariant_of-result : goal.invariant_of-result
unfolding says
invariant_of-result c =
    let said : says (table_view c.args.table.now) ≡ Ok (record { frames = c.in_ok-frames.frames; rate = c.in_ok-rate.rate; processes = c.in_ok-processes.processes.items; pages = c.in_ok-pages.pages.items; rules = c.in_ok-rules.rules.items }) = search rules in
    (c.in_ok-sources.ensures ∙ ap sources_of c.deref-2.ensures.value, says_good (table_view c.args.table.now) _ said)
