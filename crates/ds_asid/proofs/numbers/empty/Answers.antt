use Rattle.std.proofs.Common.{arith}
use Rattle.std.proofs.lemmas.List.FromFn.{fill_by_all}
use Rattle.ds_tlb.specs.Entries.{empty_entry}
use Rattle.ds_asid.proofs.numbers.empty.Goals as goal

pub returns-clause-entries : goal.returns-clause-entries
returns-clause-entries g c = fill_by_all empty_entry (g.L.Lookaside.entries c.loop-slot.tlb) g.L.Lookaside.SLOTS (empty_entry 0) (g.met.L.Lookaside.size c.loop-slot.tlb) (λ k inside. c.loop-slot.invariant.emptied k (omega arith))
