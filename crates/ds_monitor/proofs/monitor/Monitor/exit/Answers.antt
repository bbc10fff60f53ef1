use Rattle.std.proofs.Common.{sym, subst}
use Rattle.ds_refinement.specs.Pairs.{HasNoNewPairs}
use Rattle.ds_refinement.proofs.NoNewPairs.{same_pairs}
use Rattle.ds_monitor.proofs.monitor.Monitor.exit.Goals as goal

pub returns-clause-pairs : goal.returns-clause-pairs
returns-clause-pairs g c =
    let old = g.L.Lookaside.entries c.args.tlb.now in
    subst (HasNoNewPairs old) (sym c.end_process.ensures.entries) (same_pairs old)
