-- The registers of a process as gdb is told of them.
use Rattle.std.specs.Prelude.{ℕ}
use Rattle.ds_pagemap.specs.Machine.{State, process_of}
use Rattle.ds_debug.specs.declared.registers.Registers.{Registers}

-- those of a process in a machine state
abbrev pub registers_in : State → ℕ → Registers
registers_in m p = record { general = (process_of m p).registers.general; hi = (process_of m p).registers.hi; lo = (process_of m p).registers.lo; pc = (process_of m p).pc }
