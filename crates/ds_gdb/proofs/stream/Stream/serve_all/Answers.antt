use Rattle.ds_gdb.proofs.Served.{serving_begins, serving_goes_on, serving_is_cut}
use Rattle.ds_gdb.proofs.stream.Stream.serve_all.Goals as goal

pub loop-init : goal.loop-init
loop-init g c = serving_begins g.T.Target.answers _ _ _

pub returns-in-Ok-Some-clause-ok : goal.returns-in-Ok-Some-clause-ok
returns-in-Ok-Some-clause-ok g c = serving_goes_on g.T.Target.answers _ _ _ _ _ _ _ _ _ c.loop.invariant c.in-Ok-Some.ensures.ok

pub returns-in-Err-clause-err : goal.returns-in-Err-clause-err
returns-in-Err-clause-err g c = serving_is_cut g.T.Target.answers _ _ _ _ _ _ _ _ c.loop.invariant c.in-Err.ensures.err

pub loop-preserved : goal.loop-preserved
loop-preserved g c = serving_goes_on g.T.Target.answers _ _ _ _ _ _ _ _ _ c.loop.invariant c.in-Ok-None.ensures.ok
