use Rattle.std.proofs.Common.{◌∙◌, ◌+◌, ◌++◌, ◌∷◌, [], ap, List, ℕ, arith}
use Rattle.ds_procs.specs.Inner.Queue.{without}
use Rattle.ds_monitor.proofs.Beginning.{without_later, numbers_more}
use Rattle.ds_monitor.proofs.first.all_ready.Goals as goal

pub loop-process-preserved : goal.loop-process-preserved
loop-process-preserved c =
    let p = c.loop-process.process in
    c.to_end.ensures
    ∙ (ap (λ (xs : List ℕ). xs ++ (p + 1) ∷ []) (ap (λ (xs : List ℕ). without xs (p + 1)) c.loop-process.invariant ∙ without_later p 1 (p + 1) (omega arith))
    ∙ numbers_more p 1)
