use Rattle.std.proofs.Common.{◌≡◌, ◌-◌, ◌++◌}
use Rattle.ds_gdb.specs.Each.{each}
use Rattle.ds_gdb.specs.Description.{lettered_line}
use Rattle.ds_gdb.proofs.description.push_all.Given as goal

-- what is written, and the registers that are left
abbrev pub invariant-loop-index : goal.invariant-loop-index
invariant-loop-index l =
    l.text.items ++ each (lettered_line l.letter l.first) l.index (32 - l.index)
    ≡ l.fn.text.items ++ each (lettered_line l.letter l.first) 0 32
