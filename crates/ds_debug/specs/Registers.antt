-- The registers of a process as gdb is told of them.
use Rattle.std.specs.Prelude.{ℕ, ◌==◌, ◌||◌, nat_lt, if◌then◌else◌, List, slice_index, Option, Some, None}
use Rattle.ds_refinement.specs.Held.{Held}
use Rattle.ds_station.specs.Reads.{address_held, general_held, hi_held, lo_held}
use Rattle.ds_gdb.specs.Each.{each}
use Rattle.ds_gdb.specs.Digits.{word_or_none}
use Rattle.ds_debug.specs.declared.registers.Registers.{Registers}

-- those that a station shows
abbrev pub registers_held : Held → ℕ → Registers
registers_held h p = record { general = general_held h p; hi = hi_held h p; lo = lo_held h p; pc = address_held h p }

-- a register by gdb's number; registers 26 and 27, and those of the coprocessors, are not told
abbrev pub gdb_register : Registers → ℕ → Option ℕ
gdb_register r n =
    if (n == 26) || (n == 27) then None
    else if nat_lt n 32 then Some (slice_index r.general n)
    else if n == 33 then Some r.lo
    else if n == 34 then Some r.hi
    else if n == 37 then Some r.pc
    else None

-- a register by its number
abbrev pub register_text : Registers → ℕ → List ℕ
register_text r n = word_or_none (gdb_register r n)

-- the 38 of the processor and its system coprocessor
abbrev pub registers_text : Registers → List ℕ
registers_text r = each (register_text r) 0 38
