use Rattle.std.proofs.Common.{◌≡◌, take}
use Rattle.std.specs.Prelude.{flat_map}
use Rattle.ds_debug.specs.Watches.{seen_of}
use Rattle.ds_debug.proofs.watches.all_seen.Given as goal

-- the bytes so far
abbrev pub invariant-loop-watchpoint : goal.invariant-loop-watchpoint
invariant-loop-watchpoint g l = l.seen.items ≡ flat_map (seen_of l.station.held) (take l.watchpoint-index l.watchpoints)
