use Rattle.ds_station.specs.declared.fault.Fault.TheVariants as fault
use Rattle.ds_drive.proofs.Ending.{bound_asked, has_come, late_bounded, part_nothing}
use Rattle.ds_drive.proofs.ran.run_bounded.Goals as goal

pub returns-clause-ok : goal.returns-clause-ok
returns-clause-ok g c =
    has_come c.args.request.now c.in-Ok-finish.outcome (g.O.Output.contents c.args.out.now) _ _ c.in-Ok.bounded.station.held c.in-Ok-summary_of.summary.items c.args.most c.requires.bound c.in-Ok-summary_of.ensures.ok _ _
    c.in-Ok.bounded.extent c.in-Ok.ensures.ok c.in-Ok.ensures.real c.in-Ok-finish.ensures.ok

-- A fault came after the run.

pub returns-in-Err-summary_of-clause-err : goal.returns-in-Err-summary_of-clause-err
returns-in-Err-summary_of-clause-err g c =
    late_bounded c.args.request.now (g.O.Output.contents c.args.out.now) _ _ c.in-Ok.bounded.station.held (λ m k. part_nothing _ _) c.in-Ok.bounded.extent c.args.most fault.Memory _ tt (bound_asked c.args.request.now c.args.most c.requires.bound) c.in-Ok.ensures.ok

pub returns-in-Err-finish-clause-err : goal.returns-in-Err-finish-clause-err
returns-in-Err-finish-clause-err g c =
    late_bounded c.args.request.now (g.O.Output.contents c.args.out.now) _ _ c.in-Ok.bounded.station.held c.in-Err-finish.ensures.err c.in-Ok.bounded.extent c.args.most c.in-Err-finish.fault _ c.in-Err-finish.ensures.late
    (bound_asked c.args.request.now c.args.most c.requires.bound) c.in-Ok.ensures.ok
