-- What each word of the refill handler makes of the processor, and a whole refill.
use Rattle.std.specs.Prelude.{ℕ, slice_set, Option, Some}
use Rattle.ds_isa.specs.declared.instr.Late.{Late}
use Rattle.ds_isa.specs.Registers.{Registers}

-- A whole refill.

-- registers with 26 and 27 lent to the handler
abbrev pub lent : Registers → ℕ → ℕ → Option Late → Registers
lent r x y late = record r { general = slice_set (slice_set r.general 26 x) 27 y; late = late }

-- a load of register n that is late
abbrev pub late_of : ℕ → ℕ → Option Late
late_of n old = Some (record { register = n; old = old })
