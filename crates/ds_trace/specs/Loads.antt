-- The address from which a load loads.
use Rattle.std.specs.Prelude.{ℕ, ◌==◌, Bool, false, if◌then◌else◌, List, Option, Some, None}
use Rattle.ds_isa.specs.declared.instr.Instr.{Instr}
use Rattle.ds_isa.specs.declared.instr.Instr.TheVariants as instr
use Rattle.ds_isa.specs.Uses.{uses}
use Rattle.ds_isa.specs.Instruction.{instruction_of}
use Rattle.ds_trace.specs.declared.stores.Reach.{Reach}
use Rattle.ds_trace.specs.Stores.{stored_at}

-- the base and the offset of a load
abbrev pub load_reach : Instr → Option Reach
load_reach (instr.Lb rt rs i) = Some (record { base = rs; offset = i })
load_reach (instr.Lh rt rs i) = Some (record { base = rs; offset = i })
load_reach (instr.Lwl rt rs i) = Some (record { base = rs; offset = i })
load_reach (instr.Lw rt rs i) = Some (record { base = rs; offset = i })
load_reach (instr.Lbu rt rs i) = Some (record { base = rs; offset = i })
load_reach (instr.Lhu rt rs i) = Some (record { base = rs; offset = i })
load_reach (instr.Lwr rt rs i) = Some (record { base = rs; offset = i })
load_reach other = None

-- the address of the word from which an instruction loads, by what the registers hold before it; none where a touch may change its base
abbrev pub loaded_at : List ℕ → Option ℕ → Option ℕ
loaded_at general None = None
loaded_at general (Some w) = stored_at general (load_reach (instruction_of w))

-- whether a branch links this register
abbrev pub is_linked : Option ℕ → ℕ → Bool
is_linked None n = false
is_linked (Some link) n = link == n

-- a base that a branch before it does not link
abbrev pub unlinked : Option ℕ → Option Reach → Option Reach
unlinked link None = None
unlinked link (Some r) = if is_linked link r.base then None else Some r

-- the same of the instruction in a slot, by what the registers hold before its branch; none where the branch links its base
abbrev pub slot_loaded_at : List ℕ → Option ℕ → Option ℕ → Option ℕ
slot_loaded_at general None slot = None
slot_loaded_at general (Some w) None = None
slot_loaded_at general (Some w) (Some s) = stored_at general (unlinked (uses (instruction_of w)).links (load_reach (instruction_of s)))
