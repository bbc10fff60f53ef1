use Rattle.std.proofs.Common.{◌≡◌, take, None}
use Rattle.ds_bare_debug.specs.Watches.{first_differing}
use Rattle.ds_bare_debug.proofs.watches.first_differing.Given as goal

-- none of those so far has changed
abbrev pub invariant-loop-byte : goal.invariant-loop-byte
invariant-loop-byte l = first_differing l.machine (take l.byte-index l.seen) ≡ None
