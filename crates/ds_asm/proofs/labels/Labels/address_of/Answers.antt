use Rattle.std.proofs.Common.{◌∙◌}
use Rattle.ds_asm.proofs.labels.Labels.address_of.Goals as goal

pub returns : goal.returns
returns c = c.copied.ensures ∙ c.get.ensures.value
