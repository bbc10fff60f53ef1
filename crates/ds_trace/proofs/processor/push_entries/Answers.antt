use Rattle.std.specs.String.{string_bytes}
use Rattle.ds_trace.proofs.Processing.{entry_more}
use Rattle.ds_trace.proofs.processor.push_entries.Goals as goal

pub loop-slot-preserved : goal.loop-slot-preserved
loop-slot-preserved g c =
    entry_more c.args.station.now.held.core.entries c.loop-slot.slot c.entry.result (string_bytes c.loop-slot.line) _ _ c.entry.ensures c.in_ok-push_entry.ensures c.loop-slot.invariant
