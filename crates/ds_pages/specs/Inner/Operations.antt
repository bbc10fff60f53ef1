-- What an operation does, and when it does what an instruction means.
use Rattle.std.specs.Prelude.{◌≡◌, ◌≢◌, ℕ, ◌+◌, ◌*◌, ◌/◌, ◌%◌, ◌^◌, ◌-◌, Bool, not, ◌||◌, nat_lt, ◌==◌, if◌then◌else◌, bit_and, bit_or, bit_xor}
use Rattle.ds_word.specs.Word.{word, bits, sign_extended, is_negative, minus, signed_lt, truth}
use Rattle.ds_word.specs.Arithmetic.{shifted_arithmetic, signed_sum, signed_difference}
use Rattle.ds_word.specs.Product.{halves, product_signed, quotient_signed, quotient_unsigned}
use Rattle.ds_word.specs.Merge.{with_bits}
use Rattle.ds_isa.specs.declared.instr.Size.TheVariants as size
use Rattle.ds_isa.specs.declared.instr.Instr.{Instr}
use Rattle.ds_isa.specs.Registers.{Registers, read, settled, written}
use Rattle.ds_isa.specs.Meaning.{Effect, Goes, Branches, Faults, Calls, meaning, written_or_trap, with_hi_lo, past_slot, loads, stores}
use Rattle.ds_pages.specs.declared.operation.OperationKind.{OperationKind}
use Rattle.ds_pages.specs.declared.operation.OperationKind.TheVariants as kind
use Rattle.ds_pages.specs.declared.operation.Operation.{Operation}

-- the target of a taken branch at its distance, else the place after its slot
abbrev pub target_by : Bool → ℕ → ℕ → ℕ
target_by taken pc distance = if taken then word (pc + distance) else past_slot pc

-- a branch that may be taken
abbrev pub branches_by : Registers → Bool → ℕ → ℕ → Effect
branches_by r taken pc distance = Branches (settled r) (target_by taken pc distance)

-- the same, with the place after the slot in a register
abbrev pub links_by : Registers → ℕ → Bool → ℕ → ℕ → Effect
links_by r d taken pc distance = Branches (written r d (past_slot pc)) (target_by taken pc distance)

-- a place in the region of 2^28 bytes of the slot
abbrev pub in_region : ℕ → ℕ → ℕ
in_region pc place = word (word (pc + 4) / 2 ^ 28 * 2 ^ 28 + place)

-- the address of a load or a store
abbrev pub address_by : Registers → ℕ → ℕ → ℕ
address_by r s i = word (read r s + i)

-- what is done by an operation of a kind at pc, which writes d, reads s and t, and has the immediate i
abbrev pub does_by : OperationKind → ℕ → ℕ → ℕ → ℕ → ℕ → Registers → Effect
does_by kind.Nothing d s t i pc r = Goes (settled r)
does_by kind.Sll d s t i pc r = Goes (written r d (word (read r s * 2 ^ (i % 32))))
does_by kind.Srl d s t i pc r = Goes (written r d (read r s / 2 ^ (i % 32)))
does_by kind.Sra d s t i pc r = Goes (written r d (shifted_arithmetic (read r s) (i % 32)))
does_by kind.Sllv d s t i pc r = Goes (written r d (word (read r s * 2 ^ (read r t % 32))))
does_by kind.Srlv d s t i pc r = Goes (written r d (read r s / 2 ^ (read r t % 32)))
does_by kind.Srav d s t i pc r = Goes (written r d (shifted_arithmetic (read r s) (read r t % 32)))
does_by kind.Mfhi d s t i pc r = Goes (written r d r.hi)
does_by kind.Mthi d s t i pc r = with_hi_lo r (read r s, r.lo)
does_by kind.Mflo d s t i pc r = Goes (written r d r.lo)
does_by kind.Mtlo d s t i pc r = with_hi_lo r (r.hi, read r s)
does_by kind.Mult d s t i pc r = with_hi_lo r (halves (product_signed (read r s) (read r t)))
does_by kind.Multu d s t i pc r = with_hi_lo r (halves (read r s * read r t))
does_by kind.Div d s t i pc r = with_hi_lo r (quotient_signed (read r s) (read r t))
does_by kind.Divu d s t i pc r = with_hi_lo r (quotient_unsigned (read r s) (read r t))
does_by kind.Add d s t i pc r = written_or_trap r d (signed_sum (read r s) (read r t))
does_by kind.Addu d s t i pc r = Goes (written r d (word (read r s + read r t)))
does_by kind.Sub d s t i pc r = written_or_trap r d (signed_difference (read r s) (read r t))
does_by kind.Subu d s t i pc r = Goes (written r d (minus (read r s) (read r t)))
does_by kind.And d s t i pc r = Goes (written r d (bit_and (read r s) (read r t)))
does_by kind.Or d s t i pc r = Goes (written r d (bit_or (read r s) (read r t)))
does_by kind.Xor d s t i pc r = Goes (written r d (bit_xor (read r s) (read r t)))
does_by kind.Nor d s t i pc r = Goes (written r d (2 ^ 32 - 1 - bit_or (read r s) (read r t)))
does_by kind.Slt d s t i pc r = Goes (written r d (truth (signed_lt (read r s) (read r t))))
does_by kind.Sltu d s t i pc r = Goes (written r d (truth (nat_lt (read r s) (read r t))))
does_by kind.Addi d s t i pc r = written_or_trap r d (signed_sum (read r s) i)
does_by kind.Addiu d s t i pc r = Goes (written r d (word (read r s + i)))
does_by kind.Slti d s t i pc r = Goes (written r d (truth (signed_lt (read r s) i)))
does_by kind.Sltiu d s t i pc r = Goes (written r d (truth (nat_lt (read r s) i)))
does_by kind.Andi d s t i pc r = Goes (written r d (bit_and (read r s) i))
does_by kind.Ori d s t i pc r = Goes (written r d (bit_or (read r s) i))
does_by kind.Xori d s t i pc r = Goes (written r d (bit_xor (read r s) i))
does_by kind.Lui d s t i pc r = Goes (written r d i)
does_by kind.Bltz d s t i pc r = branches_by r (is_negative (read r s)) pc i
does_by kind.Bgez d s t i pc r = branches_by r (not (is_negative (read r s))) pc i
does_by kind.Bltzal d s t i pc r = links_by r d (is_negative (read r s)) pc i
does_by kind.Bgezal d s t i pc r = links_by r d (not (is_negative (read r s))) pc i
does_by kind.Beq d s t i pc r = branches_by r (read r s == read r t) pc i
does_by kind.Bne d s t i pc r = branches_by r (not (read r s == read r t)) pc i
does_by kind.Blez d s t i pc r = branches_by r (is_negative (read r s) || (read r s == 0)) pc i
does_by kind.Bgtz d s t i pc r = branches_by r (not (is_negative (read r s) || (read r s == 0))) pc i
does_by kind.J d s t i pc r = Branches (settled r) (in_region pc i)
does_by kind.Jal d s t i pc r = Branches (written r d (past_slot pc)) (in_region pc i)
does_by kind.Jr d s t i pc r = Branches (settled r) (read r s)
does_by kind.Jalr d s t i pc r = Branches (written r d (past_slot pc)) (read r s)
does_by kind.Lb d s t i pc r = loads size.Byte r d (address_by r s i) (λ w b. sign_extended 8 (bits w (8 * b) 8))
does_by kind.Lh d s t i pc r = loads size.Half r d (address_by r s i) (λ w b. sign_extended 16 (bits w (8 * b) 16))
does_by kind.Lw d s t i pc r = loads size.Word r d (address_by r s i) (λ w b. w)
does_by kind.Lbu d s t i pc r = loads size.Byte r d (address_by r s i) (λ w b. bits w (8 * b) 8)
does_by kind.Lhu d s t i pc r = loads size.Half r d (address_by r s i) (λ w b. bits w (8 * b) 16)
does_by kind.Sb d s t i pc r = stores size.Byte (address_by r s i) (λ w b. with_bits w (8 * b) 8 (read r t))
does_by kind.Sh d s t i pc r = stores size.Half (address_by r s i) (λ w b. with_bits w (8 * b) 16 (read r t))
does_by kind.Sw d s t i pc r = stores size.Word (address_by r s i) (λ w b. read r t)
does_by kind.Syscall d s t i pc r = Calls
does_by kind.Other d s t i pc r = Faults 10

-- what an operation does at pc
abbrev pub does : Operation → ℕ → Registers → Effect
does o pc r = does_by o.kind o.to.number o.first.number o.second.number o.immediate pc r

-- an operation does what the instruction means, wherever it stands, unless it is none
abbrev pub MeansAs : Operation → Instr → Type 0
MeansAs o i = o.kind ≢ kind.Other → (pc : ℕ) (r : Registers) → does o pc r ≡ meaning i pc r
