use Rattle.std.proofs.Common.{◌≡◌, take, None}
use Rattle.ds_debug.specs.Goals.{first_changed}
use Rattle.ds_debug.proofs.goals.first_changed.Given as goal

-- none of those so far has changed
abbrev pub invariant-loop-byte : goal.invariant-loop-byte
invariant-loop-byte g l = first_changed (record { actions = l.actions; breakpoints = l.breakpoints }) l.station.held (take l.byte-index l.seen) ≡ None
