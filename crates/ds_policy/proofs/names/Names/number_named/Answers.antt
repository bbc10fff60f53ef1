use Rattle.std.proofs.Common.{◌∙◌}
use Rattle.ds_policy.proofs.names.Names.number_named.Goals as goal

pub returns : goal.returns
returns c = c.copied.ensures ∙ c.get.ensures.value
