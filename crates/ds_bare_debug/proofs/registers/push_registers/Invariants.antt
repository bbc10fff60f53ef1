use Rattle.std.proofs.Common.{◌≡◌, ◌-◌, ◌++◌}
use Rattle.ds_gdb.specs.Each.{each}
use Rattle.ds_bare_debug.specs.Looks.{register_text, registers_text}
use Rattle.ds_bare_debug.proofs.registers.push_registers.Given as goal

-- what is written, and the registers that are left
abbrev pub invariant-loop-number : goal.invariant-loop-number
invariant-loop-number l = l.text.items ++ each (register_text l.machine) l.number (38 - l.number) ≡ l.fn.text.items ++ registers_text l.machine
