-- What is done at a place of a page, by the kind of its operation.
use Rattle.std.specs.Prelude.{ℕ, ◌+◌, Bool, true, false, ◌||◌, if◌then◌else◌}
use Rattle.ds_pages.specs.declared.operation.OperationKind.{OperationKind}
use Rattle.ds_pages.specs.declared.operation.OperationKind.TheVariants as kind
use Rattle.ds_pages.specs.declared.does.Does.{Does}
use Rattle.ds_pages.specs.declared.does.Does.TheVariants as does

-- what is done by an operation of a kind alone
abbrev pub single : OperationKind → Does
single kind.Nothing = does.Nothing
single kind.Sll = does.Sll
single kind.Srl = does.Srl
single kind.Sra = does.Sra
single kind.Sllv = does.Sllv
single kind.Srlv = does.Srlv
single kind.Srav = does.Srav
single kind.Mfhi = does.Mfhi
single kind.Mthi = does.Mthi
single kind.Mflo = does.Mflo
single kind.Mtlo = does.Mtlo
single kind.Mult = does.Mult
single kind.Multu = does.Multu
single kind.Div = does.Div
single kind.Divu = does.Divu
single kind.Add = does.Add
single kind.Addu = does.Addu
single kind.Sub = does.Sub
single kind.Subu = does.Subu
single kind.And = does.And
single kind.Or = does.Or
single kind.Xor = does.Xor
single kind.Nor = does.Nor
single kind.Slt = does.Slt
single kind.Sltu = does.Sltu
single kind.Addi = does.Addi
single kind.Addiu = does.Addiu
single kind.Slti = does.Slti
single kind.Sltiu = does.Sltiu
single kind.Andi = does.Andi
single kind.Ori = does.Ori
single kind.Xori = does.Xori
single kind.Lui = does.Lui
single kind.Bltz = does.Bltz
single kind.Bgez = does.Bgez
single kind.Bltzal = does.Bltzal
single kind.Bgezal = does.Bgezal
single kind.Beq = does.Beq
single kind.Bne = does.Bne
single kind.Blez = does.Blez
single kind.Bgtz = does.Bgtz
single kind.J = does.J
single kind.Jal = does.Jal
single kind.Jr = does.Jr
single kind.Jalr = does.Jalr
single kind.Lb = does.Lb
single kind.Lh = does.Lh
single kind.Lw = does.Lw
single kind.Lbu = does.Lbu
single kind.Lhu = does.Lhu
single kind.Sb = does.Sb
single kind.Sh = does.Sh
single kind.Sw = does.Sw
single kind.Syscall = does.Call
single kind.Other = does.Left

-- whether the word was decoded since it came there
abbrev pub is_known : Does → Bool
is_known does.Unknown = false
is_known _ = true

-- whether a block ends in front of it
abbrev pub is_end : Does → Bool
is_end does.Unknown = true
is_end does.Left = true
is_end does.Call = true
is_end _ = false

-- whether it is a branch
abbrev pub is_branch : Does → Bool
is_branch does.Bltz = true
is_branch does.Bgez = true
is_branch does.Bltzal = true
is_branch does.Bgezal = true
is_branch does.Beq = true
is_branch does.Bne = true
is_branch does.Blez = true
is_branch does.Bgtz = true
is_branch _ = false

-- whether it is a jump
abbrev pub is_jump : Does → Bool
is_jump does.J = true
is_jump does.Jal = true
is_jump does.Jr = true
is_jump does.Jalr = true
is_jump _ = false

-- whether it is a load
abbrev pub is_load : Does → Bool
is_load does.Lb = true
is_load does.Lh = true
is_load does.Lw = true
is_load does.Lbu = true
is_load does.Lhu = true
is_load _ = false

-- whether the operation behind it is its slot
abbrev pub has_slot : Does → Bool
has_slot d = is_branch d || is_jump d

-- the steps to the end of the block, where there are so many from the next place on
abbrev pub steps : Does → ℕ → ℕ
steps d next = if is_end d then 0 else (if has_slot d then 2 else 1 + next)
