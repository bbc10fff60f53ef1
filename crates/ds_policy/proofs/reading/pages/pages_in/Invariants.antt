use Rattle.std.proofs.Common.{◌≡◌, ◌≤◌, length, [], drop}
use Rattle.toml.specs.View.{items_view}
use Rattle.ds_policy.specs.declared.cause.PolicyReason.TheVariants as reason
use Rattle.ds_policy.specs.PolicyParts.{new_page}
use Rattle.ds_policy.specs.PolicyText.{each_of}
use Rattle.ds_policy.specs.Inner.Names.{AreNamed}
use Rattle.ds_policy.proofs.reading.pages.pages_in.Given as goal

abbrev pub invariant-loop-value : goal.invariant-loop-value
invariant-loop-value l = record {
  same : each_of new_page (λ n cause. reason.Page n cause) l.pages.items (items_view (drop l.value-index l.values)) ≡ each_of new_page (λ n cause. reason.Page n cause) [] (items_view l.values);
  counted : length l.pages.items ≤ l.value-index;
  held : AreNamed l.names l.pages.items;
}
