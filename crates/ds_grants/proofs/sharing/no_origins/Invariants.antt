use Rattle.std.proofs.Common.{◌≡◌, length}
use Rattle.ds_grants.proofs.sharing.no_origins.Given as goal

abbrev pub invariant-loop : goal.invariant-loop
invariant-loop l = length l.origins.items ≡ l.counter
