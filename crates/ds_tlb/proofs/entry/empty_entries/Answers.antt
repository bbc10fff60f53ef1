use Rattle.std.proofs.Common.{◌<◌, length, arith}
use Rattle.std.proofs.lemmas.Grind.{common_steps}
use Rattle.std.proofs.lemmas.List.{length-replicate}
use Rattle.std.proofs.lemmas.List.Edits.{fill_by_more}
use Rattle.std.proofs.lemmas.List.FromFn.{fill_by_all}
use Rattle.ds_tlb.specs.Entries.{empty_entry}
use Rattle.ds_tlb.proofs.entry.empty_entries.Goals as goal

pub loop-slot-init : goal.loop-slot-init
loop-slot-init g c = record { size = length-replicate g.row.N c.empty-entries.result; emptied = λ k below. absurd (omega arith) }

pub loop-slot-preserved : goal.loop-slot-preserved
loop-slot-preserved g c =
    let at = c.loop-slot.slot in
    let inside : at < length c.loop-slot.entries = omega arith in
    record {
      size = grind (arith, common_steps);
      emptied = rw c.empty.ensures (fill_by_more empty_entry c.loop-slot.entries at (empty_entry 0) inside c.loop-slot.invariant.emptied);
    }

pub returns : goal.returns
returns g c = fill_by_all empty_entry c.loop-slot.entries g.row.N (empty_entry 0) c.loop-slot.invariant.size (λ k inside. c.loop-slot.invariant.emptied k (omega arith))
