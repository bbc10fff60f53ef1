use Rattle.ds_drive.proofs.Ending.{counted_summary, has_ended, late_ended, more_asked, written_summed}
use Rattle.ds_drive.proofs.ran.run_counted.Goals as goal

pub returns-clause-ok : goal.returns-clause-ok
returns-clause-ok g c =
    let b = c.in-Ok.ensures.ok in
    has_ended c.args.request.now c.in-Ok-finish.outcome (g.O.Output.contents c.args.out.now) _ _ c.in-Ok.summed.station.held c.in-Ok.summed.text.items _ _ c.requires.unbound
    (written_summed b) (counted_summary c.args.request.now b.2.ends.reached.choices c.in-Ok.summed.station.held b.0 c.in-Ok.summed.text.items c.requires.unbound c.requires.counted b.2.told)
    c.in-Ok.ensures.real c.in-Ok.ensures.followed c.in-Ok-finish.ensures.ok

pub returns-in-Err-finish-clause-err : goal.returns-in-Err-finish-clause-err
returns-in-Err-finish-clause-err g c =
    late_ended c.args.request.now (g.O.Output.contents c.args.out.now) _ _ c.in-Ok.summed.station.held c.in-Err-finish.ensures.err c.in-Err-finish.fault _ c.in-Err-finish.ensures.late (more_asked c.args.request.now c.in-Err-finish.ensures.more)
    (written_summed c.in-Ok.ensures.ok)
