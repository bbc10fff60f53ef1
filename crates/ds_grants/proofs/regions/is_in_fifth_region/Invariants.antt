use Rattle.std.proofs.Common.{◌≡◌, ◌==◌, true}
use Rattle.std.specs.List.{list_any}
use Rattle.ds_grants.proofs.RegionsSeen.{HasSeen}
use Rattle.ds_grants.proofs.regions.is_in_fifth_region.Given as goal

abbrev pub invariant-loop-entry : goal.invariant-loop-entry
invariant-loop-entry l = record {
  seen : HasSeen l.addr l.entries l.entry-index l.regions.items;
  last : list_any (λ r. r == l.last) l.regions.items ≡ true;
}
