use Rattle.ds_check.proofs.LimitTexts.{of_process_more}
use Rattle.ds_check.proofs.limits.push_processes.Goals as goal

pub loop-index-preserved : goal.loop-index-preserved
loop-index-preserved c = of_process_more c.args.rules.now c.loop-index.index _ _ _ c.loop-index.invariant c.in_ok-push_process.ensures
