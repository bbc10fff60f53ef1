-- What is worth a look about the instructions of a source.
use Rattle.std.specs.Prelude.{ℕ, ◌==◌, ◌&&◌, ◌||◌, Bool, true, false, if◌then◌else◌, List, [], ◌∷◌, ◌++◌, Option, None, Some, is_some}
use Rattle.ds_isa.specs.declared.instr.Instr.{Instr}
use Rattle.ds_isa.specs.declared.instr.Instr.TheVariants as instr
use Rattle.ds_isa.specs.Access.{access_size}
use Rattle.ds_isa.specs.Uses.{uses}
use Rattle.ds_isa.specs.Instruction.{instruction_of}
use Rattle.ds_isa.specs.Shapes.{is_branch}
use Rattle.ds_listing.specs.Listing.{ListedLine}
use Rattle.ds_listing.specs.Sources.{word_of_bytes}
use Rattle.ds_check.specs.declared.notes.instruction.CodeNote.{CodeNote}
use Rattle.ds_check.specs.declared.notes.instruction.CodeNote.TheVariants.{BranchInSlot, LoadDelay, KernelRegister}
use Rattle.ds_check.specs.declared.notes.instruction.WordPlace.{WordPlace}
use Rattle.ds_check.specs.declared.notes.instruction.PlacedNote.{PlacedNote}

-- the note, where it holds
abbrev pub noted : Bool → WordPlace → CodeNote → List PlacedNote
noted b at note = if b then (record { at = at; note = note }) ∷ [] else []

-- registers 26 and 27, which are the kernel's
abbrev pub is_kernel_register : ℕ → Bool
is_kernel_register n = (n == 26) || (n == 27)

-- it is the register of this number
abbrev pub is_register : Option ℕ → ℕ → Bool
is_register None n = false
is_register (Some register) n = register == n

-- a register other than 0, which is never written
abbrev pub other_than_0 : Option ℕ → Option ℕ
other_than_0 None = None
other_than_0 (Some n) = if n == 0 then None else Some n

-- the second register, where it is another than the first
abbrev pub differing : Option ℕ → Option ℕ → Option ℕ
differing first None = None
differing first (Some n) = if is_register first n then None else Some n

-- the register that a load leaves for the instruction after next; of the instructions with an access
-- the loads alone write one
abbrev pub register_loading : Option Instr → Option ℕ
register_loading None = None
register_loading (Some i) = if is_some (access_size i) then other_than_0 (uses i).writes else None

-- the loads that merge a part of a word into their register, of which they read the newest value
abbrev pub merges : Instr → Bool
merges (instr.Lwl rt rs i) = true
merges (instr.Lwr rt rs i) = true
merges other = false

-- the register that is read too early where it is the operand rt
abbrev pub late_operand : Option ℕ → Instr → Option ℕ
late_operand register i = if merges i then None else register

-- the instruction before is a branch or a jump: this one stands in its slot
abbrev pub follows_branch : Option Instr → Bool
follows_branch None = false
follows_branch (Some i) = is_branch (uses i).shape

-- the notes on an operand
abbrev pub operand_notes : WordPlace → Option ℕ → Option ℕ → List PlacedNote
operand_notes at register None = []
operand_notes at register (Some n) = noted (is_register register n) at (LoadDelay n) ++ noted (is_kernel_register n) at (KernelRegister n)

-- the notes on an instruction, after the one that is done right before it; a register that it names
-- twice has its notes once
abbrev pub instruction_notes : WordPlace → Option Instr → Instr → List PlacedNote
instruction_notes at before i =
    noted (follows_branch before && is_branch (uses i).shape) at BranchInSlot
    ++ (operand_notes at (register_loading before) (uses i).reads.rs
    ++ operand_notes at (late_operand (register_loading before) i) (differing (uses i).reads.rs (uses i).reads.rt))

-- the instruction that four bytes are; other bytes are data
abbrev pub instruction_in : List ℕ → Option Instr
instruction_in (a ∷ b ∷ c ∷ d ∷ []) = Some (instruction_of (word_of_bytes a b c d))
instruction_in bytes = None

-- the instruction before is a jump: what stands after this one is not done after it
abbrev pub jumps : Option Instr → Bool
jumps (Some (instr.J target)) = true
jumps (Some (instr.Jal target)) = true
jumps (Some (instr.Jr rs)) = true
jumps (Some (instr.Jalr rd rs)) = true
jumps other = false

-- the instruction that is done right before those of the next line; a line without bytes changes nothing
abbrev pub last_done : Option Instr → List ℕ → Option Instr
last_done before [] = before
last_done before (b ∷ bytes) = if jumps before then None else instruction_in (b ∷ bytes)

-- the notes on a line with these bytes
abbrev pub line_notes : WordPlace → Option Instr → List ℕ → List PlacedNote
line_notes at before bytes = of_instruction (instruction_in bytes)
  where
    of_instruction : Option Instr → List PlacedNote
    of_instruction None = []
    of_instruction (Some i) = instruction_notes at before i

-- the notes on lines, of which the first comes after an instruction
abbrev pub notes_after : Option Instr → List ListedLine → List PlacedNote
notes_after before [] = []
notes_after before (row ∷ rows) = line_notes (record { line = row.number; offset = row.place }) before row.bytes ++ notes_after (last_done before row.bytes) rows
