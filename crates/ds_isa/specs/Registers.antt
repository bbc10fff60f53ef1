-- The registers of a process, and a load that is late.
use Rattle.std.specs.Prelude.{ℕ, ◌%◌, ◌==◌, if◌then◌else◌, List, replicate, slice_index, slice_set, Option, Some, None}
use Rattle.ds_isa.specs.declared.instr.Late.{Late}

-- the 32 general registers, HI and LO
pub record Registers : Type 0 where
  pub general : List ℕ
  pub hi : ℕ
  pub lo : ℕ
  -- the register whose load is late: the next instruction still reads its old value
  pub late : Option Late

-- all registers 0, and no load late
abbrev pub zero_registers : Registers
zero_registers = record { general = replicate 32 0; hi = 0; lo = 0; late = None }

-- what register n reads, where it holds now: its old value if its load is late
abbrev pub late_or : Option Late → ℕ → ℕ → ℕ
late_or None n now = now
late_or (Some l) n now = if l.register == n then l.old else now

-- what an operand reads
abbrev pub read : Registers → ℕ → ℕ
read r n = late_or r.late (n % 32) (slice_index r.general (n % 32))

-- no load is late
abbrev pub settled : Registers → Registers
settled r = record r { late = None }

-- the register written; register 0 keeps 0
abbrev pub written : Registers → ℕ → ℕ → Registers
written r n v = record r { general = if n % 32 == 0 then r.general else slice_set r.general (n % 32) v; late = None }

-- the register loaded, with its value from before still to be read by the next instruction
abbrev pub loaded : Registers → ℕ → ℕ → Registers
loaded r n v =
    if n % 32 == 0 then settled r
    else record r { general = slice_set r.general (n % 32) v; late = Some (record { register = n % 32; old = slice_index r.general (n % 32) }) }
