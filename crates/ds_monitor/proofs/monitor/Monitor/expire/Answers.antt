use Rattle.std.proofs.Common.{sym, subst}
use Rattle.ds_policy.specs.Ends.{has_expired}
use Rattle.ds_grants.specs.Inner.Changes.{all_places}
use Rattle.ds_refinement.specs.Pairs.{HasNoNewPairs}
use Rattle.ds_refinement.proofs.NoNewPairs.{all_forgotten_pairs}
use Rattle.ds_monitor.proofs.monitor.Monitor.expire.Goals as goal

pub returns-then-self-clause-pairs : goal.returns-then-self-clause-pairs
returns-then-self-clause-pairs g c =
    let old = g.L.Lookaside.entries c.args.tlb.now in
    let now = c.args.self.now in
    subst (HasNoNewPairs old) (sym c.expire.ensures.entries) (all_forgotten_pairs old now.spaces (all_places (has_expired now.time) 1 now.grants.table))
