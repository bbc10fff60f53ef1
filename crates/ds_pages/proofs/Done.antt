-- What follows for whatever is done at a place.
use Rattle.std.proofs.Common.{◌≡◌, ◌≢◌, ℕ, ◌+◌, ◌<◌, ◌≤◌, Bool, true, false, not, ◌&&◌, ◌||◌, refl, arith, ap, ◌∙◌, sym}
use Rattle.std.specs.Prelude.{if◌then◌else◌}
use Rattle.ds_pages.specs.declared.operation.OperationKind.{OperationKind}
use Rattle.ds_pages.specs.declared.operation.OperationKind.TheVariants as kind
use Rattle.ds_pages.specs.declared.does.Does.{Does}
use Rattle.ds_pages.specs.declared.does.Does.TheVariants as does
use Rattle.ds_pages.specs.Inner.Does.{single, steps, is_known, is_end, is_branch, is_load, has_slot}

-- an operation of any kind is known
pub single_known : (k : OperationKind) → is_known (single k) ≡ true
single_known kind.Nothing = refl
single_known kind.Sll = refl
single_known kind.Srl = refl
single_known kind.Sra = refl
single_known kind.Sllv = refl
single_known kind.Srlv = refl
single_known kind.Srav = refl
single_known kind.Mfhi = refl
single_known kind.Mthi = refl
single_known kind.Mflo = refl
single_known kind.Mtlo = refl
single_known kind.Mult = refl
single_known kind.Multu = refl
single_known kind.Div = refl
single_known kind.Divu = refl
single_known kind.Add = refl
single_known kind.Addu = refl
single_known kind.Sub = refl
single_known kind.Subu = refl
single_known kind.And = refl
single_known kind.Or = refl
single_known kind.Xor = refl
single_known kind.Nor = refl
single_known kind.Slt = refl
single_known kind.Sltu = refl
single_known kind.Addi = refl
single_known kind.Addiu = refl
single_known kind.Slti = refl
single_known kind.Sltiu = refl
single_known kind.Andi = refl
single_known kind.Ori = refl
single_known kind.Xori = refl
single_known kind.Lui = refl
single_known kind.Bltz = refl
single_known kind.Bgez = refl
single_known kind.Bltzal = refl
single_known kind.Bgezal = refl
single_known kind.Beq = refl
single_known kind.Bne = refl
single_known kind.Blez = refl
single_known kind.Bgtz = refl
single_known kind.J = refl
single_known kind.Jal = refl
single_known kind.Jr = refl
single_known kind.Jalr = refl
single_known kind.Lb = refl
single_known kind.Lh = refl
single_known kind.Lw = refl
single_known kind.Lbu = refl
single_known kind.Lhu = refl
single_known kind.Sb = refl
single_known kind.Sh = refl
single_known kind.Sw = refl
single_known kind.Syscall = refl
single_known kind.Other = refl

-- whatever is left of it
pub done_known : (left : Bool) (k : OperationKind) → is_known (if left then does.Left else single k) ≡ true
done_known true k = refl
done_known false k = single_known k

branch_stays_by : (other stays b : Bool) (d : Does) → is_branch d ≡ b →
    is_branch (if (other || (b && not stays)) then does.Left else d) ≡ true → stays ≡ true
branch_stays_by true stays b d e h = absurd cc
branch_stays_by false true b d e h = refl
branch_stays_by false false true d e h = absurd cc
branch_stays_by false false false d e h = absurd (cc)

-- a branch that is not left leads to a word of its page
pub branch_stays : (other stays : Bool) (d : Does) → is_branch (if (other || (is_branch d && not stays)) then does.Left else d) ≡ true → stays ≡ true
branch_stays other stays d h = branch_stays_by other stays (is_branch d) d refl h

slot_inside_by : (late inside away b : Bool) (d : Does) → has_slot d ≡ b →
    has_slot (if ((late || (b && not inside)) || away) then does.Left else d) ≡ true → inside ≡ true
slot_inside_by true inside away b d e h = absurd cc
slot_inside_by false true away b d e h = refl
slot_inside_by false false away true d e h = absurd cc
slot_inside_by false false true false d e h = absurd cc
slot_inside_by false false false false d e h = absurd cc

-- a branch or a jump that is not left has its slot in its page
pub slot_inside : (late inside away : Bool) (d : Does) → has_slot (if ((late || (has_slot d && not inside)) || away) then does.Left else d) ≡ true → inside ≡ true
slot_inside late inside away d h = slot_inside_by late inside away (has_slot d) d refl h

steps_short_by : (e s : Bool) (m i : ℕ) → m + (i + 1) ≤ 1024 → i < 1024 → (s ≡ true → i < 1023) →
    (if e then 0 else (if s then 2 else 1 + m)) + i ≤ 1024
steps_short_by true s m i p q r = omega arith
steps_short_by false true m i p q r = omega (arith, r refl)
steps_short_by false false m i p q r = omega arith

-- a block ends in its page
pub steps_short : (d : Does) (m i : ℕ) → m + (i + 1) ≤ 1024 → i < 1024 → (has_slot d ≡ true → i < 1023) → steps d m + i ≤ 1024
steps_short d m i p q r = steps_short_by (is_end d) (has_slot d) m i p q r

-- a load is known
pub load_known : (d : Does) → is_load d ≡ true → is_known d ≡ true
load_known does.Unknown h = absurd cc
load_known does.Left h = refl
load_known does.Call h = refl
load_known does.Nothing h = refl
load_known does.Sll h = refl
load_known does.Srl h = refl
load_known does.Sra h = refl
load_known does.Sllv h = refl
load_known does.Srlv h = refl
load_known does.Srav h = refl
load_known does.Mfhi h = refl
load_known does.Mthi h = refl
load_known does.Mflo h = refl
load_known does.Mtlo h = refl
load_known does.Mult h = refl
load_known does.Multu h = refl
load_known does.Div h = refl
load_known does.Divu h = refl
load_known does.Add h = refl
load_known does.Addu h = refl
load_known does.Sub h = refl
load_known does.Subu h = refl
load_known does.And h = refl
load_known does.Or h = refl
load_known does.Xor h = refl
load_known does.Nor h = refl
load_known does.Slt h = refl
load_known does.Sltu h = refl
load_known does.Addi h = refl
load_known does.Addiu h = refl
load_known does.Slti h = refl
load_known does.Sltiu h = refl
load_known does.Andi h = refl
load_known does.Ori h = refl
load_known does.Xori h = refl
load_known does.Lui h = refl
load_known does.Bltz h = refl
load_known does.Bgez h = refl
load_known does.Bltzal h = refl
load_known does.Bgezal h = refl
load_known does.Beq h = refl
load_known does.Bne h = refl
load_known does.Blez h = refl
load_known does.Bgtz h = refl
load_known does.J h = refl
load_known does.Jal h = refl
load_known does.Jr h = refl
load_known does.Jalr h = refl
load_known does.Lb h = refl
load_known does.Lh h = refl
load_known does.Lw h = refl
load_known does.Lbu h = refl
load_known does.Lhu h = refl
load_known does.Sb h = refl
load_known does.Sh h = refl
load_known does.Sw h = refl

-- so is a branch
pub branch_known : (d : Does) → is_branch d ≡ true → is_known d ≡ true
branch_known does.Unknown h = absurd cc
branch_known does.Left h = refl
branch_known does.Call h = refl
branch_known does.Nothing h = refl
branch_known does.Sll h = refl
branch_known does.Srl h = refl
branch_known does.Sra h = refl
branch_known does.Sllv h = refl
branch_known does.Srlv h = refl
branch_known does.Srav h = refl
branch_known does.Mfhi h = refl
branch_known does.Mthi h = refl
branch_known does.Mflo h = refl
branch_known does.Mtlo h = refl
branch_known does.Mult h = refl
branch_known does.Multu h = refl
branch_known does.Div h = refl
branch_known does.Divu h = refl
branch_known does.Add h = refl
branch_known does.Addu h = refl
branch_known does.Sub h = refl
branch_known does.Subu h = refl
branch_known does.And h = refl
branch_known does.Or h = refl
branch_known does.Xor h = refl
branch_known does.Nor h = refl
branch_known does.Slt h = refl
branch_known does.Sltu h = refl
branch_known does.Addi h = refl
branch_known does.Addiu h = refl
branch_known does.Slti h = refl
branch_known does.Sltiu h = refl
branch_known does.Andi h = refl
branch_known does.Ori h = refl
branch_known does.Xori h = refl
branch_known does.Lui h = refl
branch_known does.Bltz h = refl
branch_known does.Bgez h = refl
branch_known does.Bltzal h = refl
branch_known does.Bgezal h = refl
branch_known does.Beq h = refl
branch_known does.Bne h = refl
branch_known does.Blez h = refl
branch_known does.Bgtz h = refl
branch_known does.J h = refl
branch_known does.Jal h = refl
branch_known does.Jr h = refl
branch_known does.Jalr h = refl
branch_known does.Lb h = refl
branch_known does.Lh h = refl
branch_known does.Lw h = refl
branch_known does.Lbu h = refl
branch_known does.Lhu h = refl
branch_known does.Sb h = refl
branch_known does.Sh h = refl
branch_known does.Sw h = refl

-- the kind of what is done
abbrev pub kind_of : Does → OperationKind
kind_of does.Unknown = kind.Other
kind_of does.Left = kind.Other
kind_of does.Call = kind.Syscall
kind_of does.Nothing = kind.Nothing
kind_of does.Sll = kind.Sll
kind_of does.Srl = kind.Srl
kind_of does.Sra = kind.Sra
kind_of does.Sllv = kind.Sllv
kind_of does.Srlv = kind.Srlv
kind_of does.Srav = kind.Srav
kind_of does.Mfhi = kind.Mfhi
kind_of does.Mthi = kind.Mthi
kind_of does.Mflo = kind.Mflo
kind_of does.Mtlo = kind.Mtlo
kind_of does.Mult = kind.Mult
kind_of does.Multu = kind.Multu
kind_of does.Div = kind.Div
kind_of does.Divu = kind.Divu
kind_of does.Add = kind.Add
kind_of does.Addu = kind.Addu
kind_of does.Sub = kind.Sub
kind_of does.Subu = kind.Subu
kind_of does.And = kind.And
kind_of does.Or = kind.Or
kind_of does.Xor = kind.Xor
kind_of does.Nor = kind.Nor
kind_of does.Slt = kind.Slt
kind_of does.Sltu = kind.Sltu
kind_of does.Addi = kind.Addi
kind_of does.Addiu = kind.Addiu
kind_of does.Slti = kind.Slti
kind_of does.Sltiu = kind.Sltiu
kind_of does.Andi = kind.Andi
kind_of does.Ori = kind.Ori
kind_of does.Xori = kind.Xori
kind_of does.Lui = kind.Lui
kind_of does.Bltz = kind.Bltz
kind_of does.Bgez = kind.Bgez
kind_of does.Bltzal = kind.Bltzal
kind_of does.Bgezal = kind.Bgezal
kind_of does.Beq = kind.Beq
kind_of does.Bne = kind.Bne
kind_of does.Blez = kind.Blez
kind_of does.Bgtz = kind.Bgtz
kind_of does.J = kind.J
kind_of does.Jal = kind.Jal
kind_of does.Jr = kind.Jr
kind_of does.Jalr = kind.Jalr
kind_of does.Lb = kind.Lb
kind_of does.Lh = kind.Lh
kind_of does.Lw = kind.Lw
kind_of does.Lbu = kind.Lbu
kind_of does.Lhu = kind.Lhu
kind_of does.Sb = kind.Sb
kind_of does.Sh = kind.Sh
kind_of does.Sw = kind.Sw

pub kind_of_single : (k : OperationKind) → kind_of (single k) ≡ k
kind_of_single kind.Nothing = refl
kind_of_single kind.Sll = refl
kind_of_single kind.Srl = refl
kind_of_single kind.Sra = refl
kind_of_single kind.Sllv = refl
kind_of_single kind.Srlv = refl
kind_of_single kind.Srav = refl
kind_of_single kind.Mfhi = refl
kind_of_single kind.Mthi = refl
kind_of_single kind.Mflo = refl
kind_of_single kind.Mtlo = refl
kind_of_single kind.Mult = refl
kind_of_single kind.Multu = refl
kind_of_single kind.Div = refl
kind_of_single kind.Divu = refl
kind_of_single kind.Add = refl
kind_of_single kind.Addu = refl
kind_of_single kind.Sub = refl
kind_of_single kind.Subu = refl
kind_of_single kind.And = refl
kind_of_single kind.Or = refl
kind_of_single kind.Xor = refl
kind_of_single kind.Nor = refl
kind_of_single kind.Slt = refl
kind_of_single kind.Sltu = refl
kind_of_single kind.Addi = refl
kind_of_single kind.Addiu = refl
kind_of_single kind.Slti = refl
kind_of_single kind.Sltiu = refl
kind_of_single kind.Andi = refl
kind_of_single kind.Ori = refl
kind_of_single kind.Xori = refl
kind_of_single kind.Lui = refl
kind_of_single kind.Bltz = refl
kind_of_single kind.Bgez = refl
kind_of_single kind.Bltzal = refl
kind_of_single kind.Bgezal = refl
kind_of_single kind.Beq = refl
kind_of_single kind.Bne = refl
kind_of_single kind.Blez = refl
kind_of_single kind.Bgtz = refl
kind_of_single kind.J = refl
kind_of_single kind.Jal = refl
kind_of_single kind.Jr = refl
kind_of_single kind.Jalr = refl
kind_of_single kind.Lb = refl
kind_of_single kind.Lh = refl
kind_of_single kind.Lw = refl
kind_of_single kind.Lbu = refl
kind_of_single kind.Lhu = refl
kind_of_single kind.Sb = refl
kind_of_single kind.Sh = refl
kind_of_single kind.Sw = refl
kind_of_single kind.Syscall = refl
kind_of_single kind.Other = refl

kind_named_by : (left : Bool) (k l : OperationKind) → single k ≡ (if left then does.Left else single l) → k ≢ kind.Other → l ≡ k
kind_named_by true k l e some = absurd (some (sym (kind_of_single k) ∙ ap kind_of e))
kind_named_by false k l e some = sym (kind_of_single l) ∙ (sym (ap kind_of e) ∙ kind_of_single k)

-- what is done alone names the kind
pub kind_named : (left : Bool) (k l : OperationKind) → single k ≡ (if left then does.Left else single l) → k ≢ kind.Other → l ≡ k
kind_named left k l e some = kind_named_by left k l e some

load_free_by : (same slot away b : Bool) (d : Does) → is_load d ≡ b → is_load (if (((b && same) || slot) || away) then does.Left else d) ≡ true → same ≡ false
load_free_by false slot away b d e h = refl
load_free_by true slot away true d e h = absurd cc
load_free_by true true away false d e h = absurd cc
load_free_by true false true false d e h = absurd cc
load_free_by true false false false d e h = absurd cc

-- a load that is not left is of another register than those that the next operation reads
pub load_free : (same slot away : Bool) (d : Does) → is_load (if (((is_load d && same) || slot) || away) then does.Left else d) ≡ true → same ≡ false
load_free same slot away d h = load_free_by same slot away (is_load d) d refl h
