use Rattle.std.proofs.Common.{◌≡◌, ◌<◌, ℕ, get_or}
use Rattle.ds_tlb.specs.Entries.{empty_entry}
use Rattle.ds_asid.proofs.numbers.empty.Given as goal

abbrev pub invariant-loop-slot : goal.invariant-loop-slot
invariant-loop-slot g l = record {
  random : g.L.Lookaside.random_place l.tlb ≡ g.L.Lookaside.random_place l.fn.tlb;
  emptied : (k : ℕ) → k < l.slot → get_or (g.L.Lookaside.entries l.tlb) k (empty_entry 0) ≡ empty_entry k;
}
