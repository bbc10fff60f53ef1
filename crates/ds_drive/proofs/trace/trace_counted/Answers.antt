use Rattle.ds_drive.proofs.TraceLemmas.{counted_summary, has_traced, late_traced}
use Rattle.ds_drive.proofs.trace.trace_counted.Goals as goal

pub returns-clause-ok : goal.returns-clause-ok
returns-clause-ok g c =
    let b = c.in-Ok.ensures.ok in
    has_traced c.args.request.now c.in-Ok-finish.outcome (g.O.Output.contents c.args.out.now) _ _ c.in-Ok.summed.station.held c.in-Ok.summed.text.items _ _
    (b.0, b.1, b.2.trace) (counted_summary c.args.request.now b.2.trace.ends.reached.choices c.in-Ok.summed.station.held b.0 c.in-Ok.summed.text.items c.requires.counted b.2.told) c.in-Ok.ensures.real c.in-Ok-finish.ensures.ok

pub returns-in-Err-finish-clause-err : goal.returns-in-Err-finish-clause-err
returns-in-Err-finish-clause-err g c =
    let b = c.in-Ok.ensures.ok in
    late_traced c.args.request.now (g.O.Output.contents c.args.out.now) _ _ c.in-Ok.summed.station.held c.in-Err-finish.ensures.err c.in-Err-finish.fault _ c.in-Err-finish.ensures.late c.in-Err-finish.ensures.more (b.0, b.1, b.2.trace)
