use Rattle.std.proofs.Common.{◌≡◌, ◌≤◌, length, map}
use Rattle.ds_policy.specs.Pages.{entries_of}
use Rattle.ds_policy.specs.Ends.{has_expired, expired_entry}
use Rattle.ds_grants.specs.Inner.Changes.{places_in, all_forgotten}
use Rattle.ds_grants.specs.Inner.Represented.{IsLow, Keeps}
use Rattle.ds_grants.proofs.ChildSteps.{with_row}
use Rattle.ds_grants.proofs.grants.Grants.expire_of.Given as goal

abbrev pub invariant-loop-entry : goal.invariant-loop-entry
invariant-loop-entry g l = record {
  value : with_row l.self l.holder (map (expired_entry l.now) (entries_of l.self.table l.holder)) ≡ with_row l.fn.self l.holder (map (expired_entry l.now) (entries_of l.fn.self.table l.holder));
  high : l.holder ≤ length l.self.table;
  low : IsLow l.fn.memory l.memory;
  entries : all_forgotten (g.L.Lookaside.entries l.tlb) l.spaces (places_in (has_expired l.now) l.holder (entries_of l.self.table l.holder)) ≡ all_forgotten (g.L.Lookaside.entries l.fn.tlb) l.spaces (places_in (has_expired l.now) l.holder (entries_of l.fn.self.table l.holder));
  keeps : Keeps (g.L.Lookaside.entries l.fn.tlb) l.fn.memory l.fn.tables l.spaces l.fn.self (g.L.Lookaside.entries l.tlb) l.memory l.tables l.spaces l.self;
  random : g.L.Lookaside.random_place l.tlb ≡ g.L.Lookaside.random_place l.fn.tlb;
}

abbrev pub decreases-loop-entry : goal.decreases-loop-entry
decreases-loop-entry g l = length (places_in (has_expired l.now) l.holder (entries_of l.self.table l.holder))
