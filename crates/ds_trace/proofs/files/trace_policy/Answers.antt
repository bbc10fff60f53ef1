use Rattle.ds_trace.proofs.Asking.{asked_same}
use Rattle.ds_trace.proofs.Inputs.{by_any}
use Rattle.ds_trace.proofs.files.trace_policy.Goals as goal

pub returns-clause-ok : goal.returns-clause-ok
returns-clause-ok g c = by_any c.args.view.now _ _ _ _ c.args.n c.in-Ok.ensures.ok

pub returns-in-Err-clause-once : goal.returns-in-Err-clause-once
returns-in-Err-clause-once g c = asked_same (Unit {0}) c.trace_station.result c.in-Err.fault _ _ c.in-Err.is c.trace_station.ensures.once
