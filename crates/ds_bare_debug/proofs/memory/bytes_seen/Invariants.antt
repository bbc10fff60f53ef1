use Rattle.std.proofs.Common.{◌≡◌, ◌-◌, ◌++◌}
use Rattle.ds_bare_debug.specs.Looks.{bytes_seen}
use Rattle.ds_bare_debug.proofs.memory.bytes_seen.Given as goal

-- the bytes so far, and those that are left
abbrev pub invariant-loop : goal.invariant-loop
invariant-loop l = l.bytes.items ++ bytes_seen l.machine l.place (l.count - l.counter) ≡ bytes_seen l.machine l.address l.count
