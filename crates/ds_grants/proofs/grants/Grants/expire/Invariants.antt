use Rattle.std.proofs.Common.{◌≡◌, length, map}
use Rattle.ds_policy.specs.Ends.{has_expired, expired_entry}
use Rattle.ds_grants.specs.Inner.Changes.{all_places, all_forgotten}
use Rattle.ds_grants.specs.Inner.Represented.{IsLow, Keeps}
use Rattle.ds_grants.proofs.ChildRows.{part_done, places_from}
use Rattle.ds_grants.proofs.ChildSteps.{with_table}
use Rattle.ds_grants.proofs.grants.Grants.expire.Given as goal

abbrev pub invariant-loop-index : goal.invariant-loop-index
invariant-loop-index g l = record {
  value : with_table l.self (part_done (map (expired_entry l.now)) l.index l.self.table) ≡ with_table l.fn.self (map (map (expired_entry l.now)) l.fn.self.table);
  size : length l.self.table ≡ length l.fn.self.table;
  low : IsLow l.fn.memory l.memory;
  entries : all_forgotten (g.L.Lookaside.entries l.tlb) l.spaces (places_from (has_expired l.now) l.index 1 l.self.table) ≡ all_forgotten (g.L.Lookaside.entries l.fn.tlb) l.spaces (all_places (has_expired l.now) 1 l.fn.self.table);
  keeps : Keeps (g.L.Lookaside.entries l.fn.tlb) l.fn.memory l.fn.tables l.spaces l.fn.self (g.L.Lookaside.entries l.tlb) l.memory l.tables l.spaces l.self;
  random : g.L.Lookaside.random_place l.tlb ≡ g.L.Lookaside.random_place l.fn.tlb;
}
