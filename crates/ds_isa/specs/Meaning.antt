-- What each instruction does (Kane and Heinrich, appendix A), apart from where its bytes come from.
use Rattle.std.specs.Prelude.{ℕ, ◌+◌, ◌-◌, ◌*◌, ◌/◌, ◌%◌, ◌^◌, Bool, not, ◌||◌, nat_lt, ◌==◌, if◌then◌else◌, slice_index, Option, Some, None, bit_and, bit_or, bit_xor}
use Rattle.ds_word.specs.Word.{word, bits, sign_extended, is_negative, minus, signed_lt, truth}
use Rattle.ds_word.specs.Arithmetic.{shifted_arithmetic, signed_sum, signed_difference}
use Rattle.ds_word.specs.Merge.{merged_left, merged_right, with_bits, stored_left, stored_right}
use Rattle.ds_word.specs.Product.{halves, product_signed, quotient_signed, quotient_unsigned}
use Rattle.ds_isa.specs.declared.instr.Size.{Size}
use Rattle.ds_isa.specs.declared.instr.Size.TheVariants as size
use Rattle.ds_isa.specs.declared.instr.Instr.{Instr}
use Rattle.ds_isa.specs.declared.instr.Instr.TheVariants as instr
use Rattle.ds_isa.specs.Registers.{Registers, read, settled, written, loaded}

-- what an instruction does, or asks for
pub data Effect : Type 0 where
  Goes : (after : Registers) → Effect
  -- a branch or jump, after whose slot the machine goes on at the target
  Branches : (after : Registers) (target : ℕ) → Effect
  -- for each aligned word in memory the registers after it
  Loads : (size : Size) (address : ℕ) (after : ℕ → Registers) → Effect
  -- for each aligned word in memory the word after it
  Stores : (size : Size) (address : ℕ) (after : ℕ → ℕ) → Effect
  Faults : (code : ℕ) → Effect
  Calls : Effect
  -- an instruction of the system coprocessor
  Privileged : Effect

-- the exception code of an overflow
abbrev pub overflow : ℕ
overflow = 12

-- a register written, or a trap where a word does not hold the value
abbrev pub written_or_trap : Registers → ℕ → Option ℕ → Effect
written_or_trap r n None = Faults overflow
written_or_trap r n (Some v) = Goes (written r n v)

-- HI and LO
abbrev pub with_hi_lo : Registers → ℕ × ℕ → Effect
with_hi_lo r v = Goes (record r { hi = v.0; lo = v.1; late = None })

-- the address after a branch and its slot
abbrev pub past_slot : ℕ → ℕ
past_slot pc = word (pc + 8)

-- the target of a taken branch, else the place after the slot
abbrev pub branch_target : Bool → ℕ → ℕ → ℕ
branch_target taken pc i = if taken then word (pc + 4 + 4 * sign_extended 16 i) else past_slot pc

-- the target of a jump, in the region of 2^28 bytes of its slot
abbrev pub jump_target : ℕ → ℕ → ℕ
jump_target pc target = word (pc + 4) / 2 ^ 28 * 2 ^ 28 + 4 * (target % 2 ^ 26)

-- a branch that may be taken
abbrev pub branches : Registers → Bool → ℕ → ℕ → Effect
branches r taken pc i = Branches (settled r) (branch_target taken pc i)

-- the same, with the place after the slot in register 31
abbrev pub links_and_branches : Registers → Bool → ℕ → ℕ → Effect
links_and_branches r taken pc i = Branches (written r 31 (past_slot pc)) (branch_target taken pc i)

-- the address of a load or a store
abbrev pub access_address : Registers → ℕ → ℕ → ℕ
access_address r rs i = word (read r rs + sign_extended 16 i)

-- a load of register rt at an address, by what it makes of the aligned word and the byte of it that is addressed
abbrev pub loads : Size → Registers → ℕ → ℕ → (ℕ → ℕ → ℕ) → Effect
loads size r rt address value = Loads size address (λ w. loaded r rt (value w (address % 4)))

-- a store at an address, by what it makes of the aligned word and the byte of it that is addressed
abbrev pub stores : Size → ℕ → (ℕ → ℕ → ℕ) → Effect
stores size address value = Stores size address (λ w. value w (address % 4))

-- what is in a register, be it late or not: what a part of a word is merged into
abbrev pub newest : Registers → ℕ → ℕ
newest r n = slice_index r.general (n % 32)

-- the instruction at pc
abbrev pub meaning : Instr → ℕ → Registers → Effect
meaning (instr.Sll rd rt shamt) pc r = Goes (written r rd (word (read r rt * 2 ^ (shamt % 32))))
meaning (instr.Srl rd rt shamt) pc r = Goes (written r rd (read r rt / 2 ^ (shamt % 32)))
meaning (instr.Sra rd rt shamt) pc r = Goes (written r rd (shifted_arithmetic (read r rt) (shamt % 32)))
meaning (instr.Sllv rd rt rs) pc r = Goes (written r rd (word (read r rt * 2 ^ (read r rs % 32))))
meaning (instr.Srlv rd rt rs) pc r = Goes (written r rd (read r rt / 2 ^ (read r rs % 32)))
meaning (instr.Srav rd rt rs) pc r = Goes (written r rd (shifted_arithmetic (read r rt) (read r rs % 32)))
meaning (instr.Jr rs) pc r = Branches (settled r) (read r rs)
meaning (instr.Jalr rd rs) pc r = Branches (written r rd (past_slot pc)) (read r rs)
meaning (instr.Syscall code) pc r = Calls
meaning (instr.Break code) pc r = Faults 9
meaning (instr.Mfhi rd) pc r = Goes (written r rd r.hi)
meaning (instr.Mthi rs) pc r = with_hi_lo r (read r rs, r.lo)
meaning (instr.Mflo rd) pc r = Goes (written r rd r.lo)
meaning (instr.Mtlo rs) pc r = with_hi_lo r (r.hi, read r rs)
meaning (instr.Mult rs rt) pc r = with_hi_lo r (halves (product_signed (read r rs) (read r rt)))
meaning (instr.Multu rs rt) pc r = with_hi_lo r (halves (read r rs * read r rt))
meaning (instr.Div rs rt) pc r = with_hi_lo r (quotient_signed (read r rs) (read r rt))
meaning (instr.Divu rs rt) pc r = with_hi_lo r (quotient_unsigned (read r rs) (read r rt))
meaning (instr.Add rd rs rt) pc r = written_or_trap r rd (signed_sum (read r rs) (read r rt))
meaning (instr.Addu rd rs rt) pc r = Goes (written r rd (word (read r rs + read r rt)))
meaning (instr.Sub rd rs rt) pc r = written_or_trap r rd (signed_difference (read r rs) (read r rt))
meaning (instr.Subu rd rs rt) pc r = Goes (written r rd (minus (read r rs) (read r rt)))
meaning (instr.And rd rs rt) pc r = Goes (written r rd (bit_and (read r rs) (read r rt)))
meaning (instr.Or rd rs rt) pc r = Goes (written r rd (bit_or (read r rs) (read r rt)))
meaning (instr.Xor rd rs rt) pc r = Goes (written r rd (bit_xor (read r rs) (read r rt)))
meaning (instr.Nor rd rs rt) pc r = Goes (written r rd (2 ^ 32 - 1 - bit_or (read r rs) (read r rt)))
meaning (instr.Slt rd rs rt) pc r = Goes (written r rd (truth (signed_lt (read r rs) (read r rt))))
meaning (instr.Sltu rd rs rt) pc r = Goes (written r rd (truth (nat_lt (read r rs) (read r rt))))
meaning (instr.Bltz rs i) pc r = branches r (is_negative (read r rs)) pc i
meaning (instr.Bgez rs i) pc r = branches r (not (is_negative (read r rs))) pc i
meaning (instr.Bltzal rs i) pc r = links_and_branches r (is_negative (read r rs)) pc i
meaning (instr.Bgezal rs i) pc r = links_and_branches r (not (is_negative (read r rs))) pc i
meaning (instr.J target) pc r = Branches (settled r) (jump_target pc target)
meaning (instr.Jal target) pc r = Branches (written r 31 (past_slot pc)) (jump_target pc target)
meaning (instr.Beq rs rt i) pc r = branches r (read r rs == read r rt) pc i
meaning (instr.Bne rs rt i) pc r = branches r (not (read r rs == read r rt)) pc i
meaning (instr.Blez rs i) pc r = branches r (is_negative (read r rs) || (read r rs == 0)) pc i
meaning (instr.Bgtz rs i) pc r = branches r (not (is_negative (read r rs) || (read r rs == 0))) pc i
meaning (instr.Addi rt rs i) pc r = written_or_trap r rt (signed_sum (read r rs) (sign_extended 16 i))
meaning (instr.Addiu rt rs i) pc r = Goes (written r rt (word (read r rs + sign_extended 16 i)))
meaning (instr.Slti rt rs i) pc r = Goes (written r rt (truth (signed_lt (read r rs) (sign_extended 16 i))))
meaning (instr.Sltiu rt rs i) pc r = Goes (written r rt (truth (nat_lt (read r rs) (sign_extended 16 i))))
meaning (instr.Andi rt rs i) pc r = Goes (written r rt (bit_and (read r rs) i))
meaning (instr.Ori rt rs i) pc r = Goes (written r rt (bit_or (read r rs) i))
meaning (instr.Xori rt rs i) pc r = Goes (written r rt (bit_xor (read r rs) i))
meaning (instr.Lui rt i) pc r = Goes (written r rt (i * 2 ^ 16))
meaning (instr.Lb rt rs i) pc r = loads size.Byte r rt (access_address r rs i) (λ w b. sign_extended 8 (bits w (8 * b) 8))
meaning (instr.Lh rt rs i) pc r = loads size.Half r rt (access_address r rs i) (λ w b. sign_extended 16 (bits w (8 * b) 16))
meaning (instr.Lwl rt rs i) pc r = loads size.Part r rt (access_address r rs i) (λ w b. merged_left w b (newest r rt))
meaning (instr.Lw rt rs i) pc r = loads size.Word r rt (access_address r rs i) (λ w b. w)
meaning (instr.Lbu rt rs i) pc r = loads size.Byte r rt (access_address r rs i) (λ w b. bits w (8 * b) 8)
meaning (instr.Lhu rt rs i) pc r = loads size.Half r rt (access_address r rs i) (λ w b. bits w (8 * b) 16)
meaning (instr.Lwr rt rs i) pc r = loads size.Part r rt (access_address r rs i) (λ w b. merged_right w b (newest r rt))
meaning (instr.Sb rt rs i) pc r = stores size.Byte (access_address r rs i) (λ w b. with_bits w (8 * b) 8 (read r rt))
meaning (instr.Sh rt rs i) pc r = stores size.Half (access_address r rs i) (λ w b. with_bits w (8 * b) 16 (read r rt))
meaning (instr.Swl rt rs i) pc r = stores size.Part (access_address r rs i) (λ w b. stored_left w b (read r rt))
meaning (instr.Sw rt rs i) pc r = stores size.Word (access_address r rs i) (λ w b. read r rt)
meaning (instr.Swr rt rs i) pc r = stores size.Part (access_address r rs i) (λ w b. stored_right w b (read r rt))
meaning (instr.Mfc0 rt rd) pc r = Privileged
meaning (instr.Mtc0 rt rd) pc r = Privileged
meaning instr.Tlbr pc r = Privileged
meaning instr.Tlbwi pc r = Privileged
meaning instr.Tlbwr pc r = Privileged
meaning instr.Tlbp pc r = Privileged
meaning instr.Rfe pc r = Privileged
meaning (instr.Cop unit w) pc r = Privileged
meaning (instr.Reserved w) pc r = Faults 10
