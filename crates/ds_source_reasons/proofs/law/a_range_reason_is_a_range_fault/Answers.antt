use Rattle.ds_source_reasons.proofs.Exact.{range_exact}
use Rattle.ds_source_reasons.proofs.law.a_range_reason_is_a_range_fault.Goals as goal

pub returns : goal.returns
returns c = range_exact c.args.place c.args.line.now
