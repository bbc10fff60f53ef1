use Rattle.std.proofs.Common.{◌≡◌, ◌<◌, ℕ, get_or, length}
use Rattle.ds_tlb.specs.Entries.{empty_entry}
use Rattle.ds_tlb.proofs.entry.empty_entries.Given as goal

abbrev pub invariant-loop-slot : goal.invariant-loop-slot
invariant-loop-slot g l = record {
  size : length l.entries ≡ g.row.N;
  emptied : (k : ℕ) → k < l.slot → get_or l.entries k (empty_entry 0) ≡ empty_entry k;
}
