-- The values of the registers that an instruction reads, as far as they tell why it was denied.
use Rattle.std.specs.Prelude.{ℕ, ◌%◌, ◌==◌, Bool, false, codes, decimal, if◌then◌else◌, List, [], ◌++◌, slice_index, Option, Some, None}
use Rattle.ds_isa.specs.declared.instr.Instr.{Instr}
use Rattle.ds_isa.specs.declared.instr.Instr.TheVariants as instr
use Rattle.ds_isa.specs.declared.instr.Late.{Late}
use Rattle.ds_isa.specs.Registers.{late_or}
use Rattle.ds_text.specs.Digits.{hex8}
use Rattle.ds_log.specs.declared.line.Denied.{Denied}
use Rattle.ds_log.specs.declared.line.Denied.TheVariants as denied
use Rattle.ds_log_reasons.specs.declared.values.Operands.{Operands}
use Rattle.ds_log_reasons.specs.declared.values.Operands.TheVariants as takes

-- what an instruction takes its address from, or what it adds or subtracts
abbrev pub operands_of : Instr → Operands
operands_of (instr.Lb rt rs i) = takes.One rs
operands_of (instr.Lh rt rs i) = takes.One rs
operands_of (instr.Lwl rt rs i) = takes.One rs
operands_of (instr.Lw rt rs i) = takes.One rs
operands_of (instr.Lbu rt rs i) = takes.One rs
operands_of (instr.Lhu rt rs i) = takes.One rs
operands_of (instr.Lwr rt rs i) = takes.One rs
operands_of (instr.Sb rt rs i) = takes.One rs
operands_of (instr.Sh rt rs i) = takes.One rs
operands_of (instr.Swl rt rs i) = takes.One rs
operands_of (instr.Sw rt rs i) = takes.One rs
operands_of (instr.Swr rt rs i) = takes.One rs
operands_of (instr.Add rd rs rt) = takes.Two rs rt
operands_of (instr.Sub rd rs rt) = takes.Two rs rt
operands_of (instr.Addi rt rs i) = takes.One rs
operands_of other = takes.Nothing

-- where it was denied so: a call that was refused takes the registers of a give
abbrev pub operands_for : Denied → Instr → Operands
operands_for denied.Give i = takes.Call
operands_for other i = operands_of i

-- what a register holds
abbrev pub held : List ℕ → ℕ → ℕ
held general register = slice_index general (register % 32)

-- what an operand reads: its value from before its load, if that is late
abbrev pub read_before : List ℕ → Option Late → ℕ → ℕ
read_before general late register = late_or late (register % 32) (held general register)

-- the load of a register is late
abbrev pub is_late : Option Late → ℕ → Bool
is_late None register = false
is_late (Some l) register = l.register == register % 32

-- that a value is from before a load, where it is
abbrev pub before_load_text : Bool → List ℕ
before_load_text late = if late then codes " (from before its load)" else []

-- a register with what it reads, after what comes before it
unfoldable pub value_text : List ℕ → List ℕ → Option Late → ℕ → List ℕ
value_text before general late register =
    before ++ decimal register ++ codes " " ++ hex8 (read_before general late register) ++ before_load_text (is_late late register)

-- what an instruction reads of these registers, of which the load of one may be late; a call finishes that load first
unfoldable pub values_text : List ℕ → Option Late → Operands → List ℕ
values_text general late (takes.One r) = value_text (codes ", with $") general late r
values_text general late (takes.Two a b) = value_text (codes ", with $") general late a ++ value_text (codes " and $") general late b
values_text general late takes.Call =
    value_text (codes ", with $") general None 4 ++ value_text (codes ", $") general None 5
    ++ value_text (codes ", $") general None 6 ++ value_text (codes " and $") general None 7
values_text general late takes.Nothing = []
