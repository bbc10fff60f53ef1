use Rattle.std.proofs.Common.{◌∙◌}
use Rattle.ds_listing.proofs.Labels.{labels_alike}
use Rattle.ds_listing.proofs.operand.has_label.Goals as goal

pub returns : goal.returns
returns c = c.any_label.ensures ∙ labels_alike c.args.operands.now
