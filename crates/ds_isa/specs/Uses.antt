-- The registers that each instruction uses, and the shape of what it does.
use Rattle.std.specs.Prelude.{ℕ, Option, Some, None}
use Rattle.ds_isa.specs.declared.instr.Instr.{Instr}
use Rattle.ds_isa.specs.declared.instr.Instr.TheVariants as instr
use Rattle.ds_isa.specs.declared.instr.Size.{Size}
use Rattle.ds_isa.specs.declared.instr.Size.TheVariants.{Byte, Half, Word, Part}
use Rattle.ds_isa.specs.declared.uses.Shape.{Shape}
use Rattle.ds_isa.specs.declared.uses.Shape.TheVariants as shape
use Rattle.ds_isa.specs.declared.uses.Uses.{Uses}

-- uses without a link: what is read in rs and rt, what is written, and the shape of the effect
abbrev pub uses_as : Shape → Option ℕ → Option ℕ → Option ℕ → Uses
uses_as form s t written = record { reads = record { rs = s; rt = t }; writes = written; links = None; shape = form }

-- the uses of what goes straight on: what is read in rs and rt, and what is written
abbrev pub straight : Option ℕ → Option ℕ → Option ℕ → Uses
straight s t written = uses_as shape.Straight s t written

-- the uses of a load of a size: what is read in rs and rt, and what is written
abbrev pub loading : Size → Option ℕ → Option ℕ → Option ℕ → Uses
loading size s t written = uses_as (shape.Load size) s t written

-- the uses of a store of a size: what is read in rs and rt
abbrev pub storing : Size → Option ℕ → Option ℕ → Uses
storing size s t = uses_as (shape.Store size) s t None

-- the uses of a call, a breakpoint or a word that is no instruction, which are none
abbrev pub trapping : Uses
trapping = uses_as shape.Trap None None None

-- the uses of a word of a coprocessor: what is read in rt, and what is written
abbrev pub of_system : Option ℕ → Option ℕ → Uses
of_system t written = uses_as shape.System None t written

-- the uses of a branch or jump: what is read in rs and rt, and the register that is linked
abbrev pub branching : Option ℕ → Option ℕ → Option ℕ → Uses
branching s t link = record { reads = record { rs = s; rt = t }; writes = link; links = link; shape = shape.Branch }

-- the registers that an instruction uses, and the shape of what it does
abbrev pub uses : Instr → Uses
uses (instr.Sll rd rt shamt) = straight None (Some rt) (Some rd)
uses (instr.Srl rd rt shamt) = straight None (Some rt) (Some rd)
uses (instr.Sra rd rt shamt) = straight None (Some rt) (Some rd)
uses (instr.Sllv rd rt rs) = straight (Some rs) (Some rt) (Some rd)
uses (instr.Srlv rd rt rs) = straight (Some rs) (Some rt) (Some rd)
uses (instr.Srav rd rt rs) = straight (Some rs) (Some rt) (Some rd)
uses (instr.Jr rs) = branching (Some rs) None None
uses (instr.Jalr rd rs) = branching (Some rs) None (Some rd)
uses (instr.Syscall code) = trapping
uses (instr.Break code) = trapping
uses (instr.Mfhi rd) = straight None None (Some rd)
uses (instr.Mthi rs) = straight (Some rs) None None
uses (instr.Mflo rd) = straight None None (Some rd)
uses (instr.Mtlo rs) = straight (Some rs) None None
uses (instr.Mult rs rt) = straight (Some rs) (Some rt) None
uses (instr.Multu rs rt) = straight (Some rs) (Some rt) None
uses (instr.Div rs rt) = straight (Some rs) (Some rt) None
uses (instr.Divu rs rt) = straight (Some rs) (Some rt) None
uses (instr.Add rd rs rt) = straight (Some rs) (Some rt) (Some rd)
uses (instr.Addu rd rs rt) = straight (Some rs) (Some rt) (Some rd)
uses (instr.Sub rd rs rt) = straight (Some rs) (Some rt) (Some rd)
uses (instr.Subu rd rs rt) = straight (Some rs) (Some rt) (Some rd)
uses (instr.And rd rs rt) = straight (Some rs) (Some rt) (Some rd)
uses (instr.Or rd rs rt) = straight (Some rs) (Some rt) (Some rd)
uses (instr.Xor rd rs rt) = straight (Some rs) (Some rt) (Some rd)
uses (instr.Nor rd rs rt) = straight (Some rs) (Some rt) (Some rd)
uses (instr.Slt rd rs rt) = straight (Some rs) (Some rt) (Some rd)
uses (instr.Sltu rd rs rt) = straight (Some rs) (Some rt) (Some rd)
uses (instr.Bltz rs i) = branching (Some rs) None None
uses (instr.Bgez rs i) = branching (Some rs) None None
uses (instr.Bltzal rs i) = branching (Some rs) None (Some 31)
uses (instr.Bgezal rs i) = branching (Some rs) None (Some 31)
uses (instr.J target) = branching None None None
uses (instr.Jal target) = branching None None (Some 31)
uses (instr.Beq rs rt i) = branching (Some rs) (Some rt) None
uses (instr.Bne rs rt i) = branching (Some rs) (Some rt) None
uses (instr.Blez rs i) = branching (Some rs) None None
uses (instr.Bgtz rs i) = branching (Some rs) None None
uses (instr.Addi rt rs i) = straight (Some rs) None (Some rt)
uses (instr.Addiu rt rs i) = straight (Some rs) None (Some rt)
uses (instr.Slti rt rs i) = straight (Some rs) None (Some rt)
uses (instr.Sltiu rt rs i) = straight (Some rs) None (Some rt)
uses (instr.Andi rt rs i) = straight (Some rs) None (Some rt)
uses (instr.Ori rt rs i) = straight (Some rs) None (Some rt)
uses (instr.Xori rt rs i) = straight (Some rs) None (Some rt)
uses (instr.Lui rt i) = straight None None (Some rt)
uses (instr.Lb rt rs i) = loading Byte (Some rs) None (Some rt)
uses (instr.Lh rt rs i) = loading Half (Some rs) None (Some rt)
uses (instr.Lwl rt rs i) = loading Part (Some rs) (Some rt) (Some rt)
uses (instr.Lw rt rs i) = loading Word (Some rs) None (Some rt)
uses (instr.Lbu rt rs i) = loading Byte (Some rs) None (Some rt)
uses (instr.Lhu rt rs i) = loading Half (Some rs) None (Some rt)
uses (instr.Lwr rt rs i) = loading Part (Some rs) (Some rt) (Some rt)
uses (instr.Sb rt rs i) = storing Byte (Some rs) (Some rt)
uses (instr.Sh rt rs i) = storing Half (Some rs) (Some rt)
uses (instr.Swl rt rs i) = storing Part (Some rs) (Some rt)
uses (instr.Sw rt rs i) = storing Word (Some rs) (Some rt)
uses (instr.Swr rt rs i) = storing Part (Some rs) (Some rt)
uses (instr.Mfc0 rt rd) = of_system None (Some rt)
uses (instr.Mtc0 rt rd) = of_system (Some rt) None
uses instr.Tlbr = of_system None None
uses instr.Tlbwi = of_system None None
uses instr.Tlbwr = of_system None None
uses instr.Tlbp = of_system None None
uses instr.Rfe = of_system None None
uses (instr.Cop unit w) = of_system None None
uses (instr.Reserved w) = trapping
