use Rattle.std.proofs.Common.{◌≡◌, ◌-◌, ◌++◌}
use Rattle.ds_bare_debug.specs.Watches.{watched_from, watched_of}
use Rattle.ds_bare_debug.proofs.watches.push_seen.Given as goal

-- the bytes so far, and those that are left
abbrev pub invariant-loop-index : goal.invariant-loop-index
invariant-loop-index l = l.seen.items ++ watched_from l.machine l.watchpoint.address l.index (l.watchpoint.length - l.index) ≡ l.fn.seen.items ++ watched_of l.machine l.watchpoint
