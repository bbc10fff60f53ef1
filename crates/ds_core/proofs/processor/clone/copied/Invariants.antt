use Rattle.std.proofs.Common.{◌≡◌, ◌<◌, ℕ, get_or}
use Rattle.ds_tlb.specs.declared.entry.Entry.{Entry}
use Rattle.ds_core.proofs.processor.clone.copied.Given as goal

-- the slots so far have the same entries
abbrev pub invariant-loop-slot : goal.invariant-loop-slot
invariant-loop-slot g l = record {
  random : g.L.Lookaside.random_place l.copy ≡ g.L.Lookaside.random_place l.tlb;
  same : (k : ℕ) (d : Entry) → k < l.slot → get_or (g.L.Lookaside.entries l.copy) k d ≡ get_or (g.L.Lookaside.entries l.tlb) k d;
}
