use Rattle.std.proofs.Common.{◌≡◌, false, replicate}
use Rattle.ds_grants.proofs.first.none_ended.Given as goal

abbrev pub invariant-loop : goal.invariant-loop
invariant-loop l = l.ended.items ≡ replicate l.counter false
