-- What a unit can meet costs little.
use Rattle.std.proofs.Common.{◌≤◌, arith}
use Rattle.ds_grants.proofs.OwnFrames.{truth_small}
use Rattle.ds_refinement.specs.Cost.{Met, cost}

pub costs : (met : Met) → cost met ≤ 59
costs met =
    let a = truth_small met.early in let b = truth_small met.fetch in let c = truth_small met.fetch_table in let d = truth_small met.slot in
    let e = truth_small met.slot_table in let f = truth_small met.access in let g = truth_small met.access_table in let h = truth_small met.copied in
    omega arith
