use Rattle.std.proofs.Common.{◌≡◌, ◌-◌, ◌++◌}
use Rattle.ds_debug.specs.Watches.{seen_from, seen_of}
use Rattle.ds_debug.proofs.watches.push_seen.Given as goal

-- the bytes so far, and those that are left
abbrev pub invariant-loop-index : goal.invariant-loop-index
invariant-loop-index g l =
    l.seen.items ++ seen_from l.station.held l.watchpoint l.index (l.watchpoint.length - l.index) ≡ l.fn.seen.items ++ seen_of l.station.held l.watchpoint
