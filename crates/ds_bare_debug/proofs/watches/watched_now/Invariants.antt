use Rattle.std.proofs.Common.{◌≡◌, take}
use Rattle.std.specs.Prelude.{flat_map}
use Rattle.ds_bare_debug.specs.Watches.{watched_of}
use Rattle.ds_bare_debug.proofs.watches.watched_now.Given as goal

-- the bytes so far
abbrev pub invariant-loop-watchpoint : goal.invariant-loop-watchpoint
invariant-loop-watchpoint l = l.seen.items ≡ flat_map (watched_of l.machine) (take l.watchpoint-index l.watchpoints)
