-- The table of instructions (Kane and Heinrich, appendix A): what it says of a word, of an
-- instruction and of a source text.
use Rattle.std.specs.Prelude.{ℕ, ◌+◌, ◌*◌, ◌^◌, Bool, false, not, ◌&&◌, ◌||◌, nat_le, ◌==◌, if◌then◌else◌, List, [], ◌∷◌, codes}
use Rattle.std.specs.List.{list_all, sum_by, flat_map}
use Rattle.ds_isa.specs.declared.instr.Instr.{Instr}
use Rattle.ds_isa.specs.declared.instr.Instr.TheVariants as instr
use Rattle.ds_word.specs.Word.{bits}
use Rattle.ds_isa.specs.Fields.{Field, op, rs, rt, rd, shamt, funct, imm, target, code, is_operation, middle, below_rd, in_word, Fixed, fix, zeros_in, Operand, Register, LinkRegister, SystemRegister, Number, Code, Signed, Branch, Jump, Indexed, places, filled}

-- an instruction's row; a column that depends on the fields of a word takes a reader of them
pub record Row : Type 0 where
  -- its name in a source text
  pub name : List ℕ
  -- the fields that tell it apart, and those that must be zero
  pub fixed : List Fixed
  -- the forms of the row that are reserved all the same
  pub reserved : (Field → ℕ) → Bool
  -- its operands, as a source text has them
  pub operands : List Operand
  pub instruction : (Field → ℕ) → Instr

-- whether a word has what a row fixes, and is none of its reserved forms
abbrev pub fits : Row → ℕ → Bool
fits row w = list_all (λ f. in_word w f.field == f.value) row.fixed && not (row.reserved (in_word w))

-- a row with reserved forms
abbrev pub row_unless : ((Field → ℕ) → Bool) → List ℕ → List Fixed → List Operand → ((Field → ℕ) → Instr) → Row
row_unless reserved name fixed operands instruction =
    record { name = name; fixed = fixed; reserved = reserved; operands = operands; instruction = instruction }

-- a row without reserved forms
abbrev pub row : List ℕ → List Fixed → List Operand → ((Field → ℕ) → Instr) → Row
row = row_unless (λ at. false)

-- operation 0, told apart by the function, with fields that must be zero
abbrev pub special : ℕ → List Field → List Fixed
special n zeros = fix op 0 ∷ fix funct n ∷ zeros_in zeros

-- another operation, with fields that must be zero
abbrev pub major : ℕ → List Field → List Fixed
major n zeros = fix op n ∷ zeros_in zeros

-- operation 1, told apart by the number in rt
abbrev pub by_sign : ℕ → List Fixed
by_sign n = fix op 1 ∷ fix rt n ∷ []

-- rd from rt, shifted by a number
abbrev pub shift : List ℕ → ℕ → (ℕ → ℕ → ℕ → Instr) → Row
shift name n make = row name (special n (rs ∷ [])) (Register rd ∷ Register rt ∷ Number shamt ∷ []) (λ at. make (at rd) (at rt) (at shamt))

-- rd from rt, shifted by a register
abbrev pub shift_by : List ℕ → ℕ → (ℕ → ℕ → ℕ → Instr) → Row
shift_by name n make = row name (special n (shamt ∷ [])) (Register rd ∷ Register rt ∷ Register rs ∷ []) (λ at. make (at rd) (at rt) (at rs))

-- HI and LO from rs and rt
abbrev pub product : List ℕ → ℕ → (ℕ → ℕ → Instr) → Row
product name n make = row name (special n (rd ∷ shamt ∷ [])) (Register rs ∷ Register rt ∷ []) (λ at. make (at rs) (at rt))

-- rd from rs and rt
abbrev pub three_registers : List ℕ → ℕ → (ℕ → ℕ → ℕ → Instr) → Row
three_registers name n make = row name (special n (shamt ∷ [])) (Register rd ∷ Register rs ∷ Register rt ∷ []) (λ at. make (at rd) (at rs) (at rt))

-- a branch by what rs holds, told apart by fixed fields
abbrev pub branch : List ℕ → List Fixed → (ℕ → ℕ → Instr) → Row
branch name fixed make = row name fixed (Register rs ∷ Branch imm ∷ []) (λ at. make (at rs) (at imm))

-- rt from rs and the immediate
abbrev pub immediate : List ℕ → ℕ → Operand → (ℕ → ℕ → ℕ → Instr) → Row
immediate name n operand make = row name (major n []) (Register rt ∷ Register rs ∷ operand ∷ []) (λ at. make (at rt) (at rs) (at imm))

-- a load of rt from the place at rs plus the immediate, or a store to it
abbrev pub indexed : List ℕ → ℕ → (ℕ → ℕ → ℕ → Instr) → Row
indexed name n make = row name (major n []) (Register rt ∷ Indexed rs imm ∷ []) (λ at. make (at rt) (at rs) (at imm))

-- an operation of the system coprocessor without operands
abbrev pub system : List ℕ → ℕ → Instr → Row
system name n it = row name (fix op 16 ∷ fix is_operation 1 ∷ fix middle 0 ∷ fix funct n ∷ []) [] (λ at. it)

-- the rows, in the order of their operations and functions
abbrev pub rows : List Row
rows =
    shift (codes "sll") 0 (λ d t n. instr.Sll d t n) ∷
    shift (codes "srl") 2 (λ d t n. instr.Srl d t n) ∷
    shift (codes "sra") 3 (λ d t n. instr.Sra d t n) ∷
    shift_by (codes "sllv") 4 (λ d t s. instr.Sllv d t s) ∷
    shift_by (codes "srlv") 6 (λ d t s. instr.Srlv d t s) ∷
    shift_by (codes "srav") 7 (λ d t s. instr.Srav d t s) ∷
    row (codes "jr") (special 8 (rt ∷ rd ∷ shamt ∷ [])) (Register rs ∷ []) (λ at. instr.Jr (at rs)) ∷
    row_unless (λ at. at rd == at rs) (codes "jalr") (special 9 (rt ∷ shamt ∷ [])) (LinkRegister rd ∷ Register rs ∷ []) (λ at. instr.Jalr (at rd) (at rs)) ∷
    row (codes "syscall") (special 12 []) (Code code ∷ []) (λ at. instr.Syscall (at code)) ∷
    row (codes "break") (special 13 []) (Code code ∷ []) (λ at. instr.Break (at code)) ∷
    row (codes "mfhi") (special 16 (rs ∷ rt ∷ shamt ∷ [])) (Register rd ∷ []) (λ at. instr.Mfhi (at rd)) ∷
    row (codes "mthi") (special 17 (rt ∷ rd ∷ shamt ∷ [])) (Register rs ∷ []) (λ at. instr.Mthi (at rs)) ∷
    row (codes "mflo") (special 18 (rs ∷ rt ∷ shamt ∷ [])) (Register rd ∷ []) (λ at. instr.Mflo (at rd)) ∷
    row (codes "mtlo") (special 19 (rt ∷ rd ∷ shamt ∷ [])) (Register rs ∷ []) (λ at. instr.Mtlo (at rs)) ∷
    product (codes "mult") 24 (λ s t. instr.Mult s t) ∷
    product (codes "multu") 25 (λ s t. instr.Multu s t) ∷
    product (codes "div") 26 (λ s t. instr.Div s t) ∷
    product (codes "divu") 27 (λ s t. instr.Divu s t) ∷
    three_registers (codes "add") 32 (λ d s t. instr.Add d s t) ∷
    three_registers (codes "addu") 33 (λ d s t. instr.Addu d s t) ∷
    three_registers (codes "sub") 34 (λ d s t. instr.Sub d s t) ∷
    three_registers (codes "subu") 35 (λ d s t. instr.Subu d s t) ∷
    three_registers (codes "and") 36 (λ d s t. instr.And d s t) ∷
    three_registers (codes "or") 37 (λ d s t. instr.Or d s t) ∷
    three_registers (codes "xor") 38 (λ d s t. instr.Xor d s t) ∷
    three_registers (codes "nor") 39 (λ d s t. instr.Nor d s t) ∷
    three_registers (codes "slt") 42 (λ d s t. instr.Slt d s t) ∷
    three_registers (codes "sltu") 43 (λ d s t. instr.Sltu d s t) ∷
    branch (codes "bltz") (by_sign 0) (λ s i. instr.Bltz s i) ∷
    branch (codes "bgez") (by_sign 1) (λ s i. instr.Bgez s i) ∷
    row_unless (λ at. at rs == 31) (codes "bltzal") (by_sign 16) (Register rs ∷ Branch imm ∷ []) (λ at. instr.Bltzal (at rs) (at imm)) ∷
    row_unless (λ at. at rs == 31) (codes "bgezal") (by_sign 17) (Register rs ∷ Branch imm ∷ []) (λ at. instr.Bgezal (at rs) (at imm)) ∷
    row (codes "j") (major 2 []) (Jump target ∷ []) (λ at. instr.J (at target)) ∷
    row (codes "jal") (major 3 []) (Jump target ∷ []) (λ at. instr.Jal (at target)) ∷
    row (codes "beq") (major 4 []) (Register rs ∷ Register rt ∷ Branch imm ∷ []) (λ at. instr.Beq (at rs) (at rt) (at imm)) ∷
    row (codes "bne") (major 5 []) (Register rs ∷ Register rt ∷ Branch imm ∷ []) (λ at. instr.Bne (at rs) (at rt) (at imm)) ∷
    branch (codes "blez") (major 6 (rt ∷ [])) (λ s i. instr.Blez s i) ∷
    branch (codes "bgtz") (major 7 (rt ∷ [])) (λ s i. instr.Bgtz s i) ∷
    immediate (codes "addi") 8 (Signed imm) (λ t s i. instr.Addi t s i) ∷
    immediate (codes "addiu") 9 (Signed imm) (λ t s i. instr.Addiu t s i) ∷
    immediate (codes "slti") 10 (Signed imm) (λ t s i. instr.Slti t s i) ∷
    immediate (codes "sltiu") 11 (Signed imm) (λ t s i. instr.Sltiu t s i) ∷
    immediate (codes "andi") 12 (Number imm) (λ t s i. instr.Andi t s i) ∷
    immediate (codes "ori") 13 (Number imm) (λ t s i. instr.Ori t s i) ∷
    immediate (codes "xori") 14 (Number imm) (λ t s i. instr.Xori t s i) ∷
    row (codes "lui") (major 15 (rs ∷ [])) (Register rt ∷ Number imm ∷ []) (λ at. instr.Lui (at rt) (at imm)) ∷
    indexed (codes "lb") 32 (λ t s i. instr.Lb t s i) ∷
    indexed (codes "lh") 33 (λ t s i. instr.Lh t s i) ∷
    indexed (codes "lwl") 34 (λ t s i. instr.Lwl t s i) ∷
    indexed (codes "lw") 35 (λ t s i. instr.Lw t s i) ∷
    indexed (codes "lbu") 36 (λ t s i. instr.Lbu t s i) ∷
    indexed (codes "lhu") 37 (λ t s i. instr.Lhu t s i) ∷
    indexed (codes "lwr") 38 (λ t s i. instr.Lwr t s i) ∷
    indexed (codes "sb") 40 (λ t s i. instr.Sb t s i) ∷
    indexed (codes "sh") 41 (λ t s i. instr.Sh t s i) ∷
    indexed (codes "swl") 42 (λ t s i. instr.Swl t s i) ∷
    indexed (codes "sw") 43 (λ t s i. instr.Sw t s i) ∷
    indexed (codes "swr") 46 (λ t s i. instr.Swr t s i) ∷
    row (codes "mfc0") (fix op 16 ∷ fix rs 0 ∷ fix below_rd 0 ∷ []) (Register rt ∷ SystemRegister rd ∷ []) (λ at. instr.Mfc0 (at rt) (at rd)) ∷
    row (codes "mtc0") (fix op 16 ∷ fix rs 4 ∷ fix below_rd 0 ∷ []) (Register rt ∷ SystemRegister rd ∷ []) (λ at. instr.Mtc0 (at rt) (at rd)) ∷
    system (codes "tlbr") 1 instr.Tlbr ∷
    system (codes "tlbwi") 2 instr.Tlbwi ∷
    system (codes "tlbwr") 6 instr.Tlbwr ∷
    system (codes "tlbp") 8 instr.Tlbp ∷
    system (codes "rfe") 16 instr.Rfe ∷
    []

-- the operations of the coprocessors
abbrev pub is_coprocessor : ℕ → Bool
is_coprocessor n = (nat_le 16 n && nat_le n 19) || (nat_le 49 n && nat_le n 51) || (nat_le 57 n && nat_le n 59)

-- the instruction of a word that fits no row
abbrev pub of_no_row : ℕ → Instr
of_no_row w = if is_coprocessor (in_word w op) then instr.Cop (bits w 26 2) w else instr.Reserved w

-- what a column says of a word: that of the first row that the word fits, else what it says of no row
abbrev pub by_rows : {A : Type 0} → (Row → (Field → ℕ) → A) → (ℕ → A) → List Row → ℕ → A
by_rows column otherwise [] w = otherwise w
by_rows column otherwise (row ∷ more) w = if fits row w then column row (in_word w) else by_rows column otherwise more w

-- the instruction that a word is
abbrev pub instruction_of : ℕ → Instr
instruction_of w = by_rows (λ row. row.instruction) of_no_row rows w

-- the fields that a row's operands fill, in the order of a source text
abbrev pub fields_of : Row → List Field
fields_of row = flat_map places row.operands

-- the word of a row, with its operands' values in their order
abbrev pub word_of : Row → List ℕ → ℕ
word_of row values = sum_by (λ f. f.value * 2 ^ f.field.lo) row.fixed + filled (fields_of row) values
