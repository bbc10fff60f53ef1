use Rattle.std.proofs.Common.{◌∙◌}
use Rattle.ds_trace.proofs.Scanning.{any_seen}
use Rattle.ds_trace.proofs.logs.is_among.Goals as goal

pub returns : goal.returns
returns c = c.any_is.ensures ∙ any_seen c.args.rule.now c.args.rules.now
