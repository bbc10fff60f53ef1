-- The word of an instruction, as its row has it.
use Rattle.std.specs.Prelude.{ℕ, codes, bytes_eq, List, [], ◌∷◌, Option, Some, None}
use Rattle.std.specs.List.{find}
use Rattle.ds_isa.specs.declared.instr.Instr.{Instr}
use Rattle.ds_isa.specs.declared.instr.Instr.TheVariants as instr
use Rattle.ds_isa.specs.Instruction.{Row, rows, word_of}

-- what the table has of an instruction
pub data Entry : Type 0 where
  -- its row, and the values of its operands in their order
  InRow : (row : Row) (values : List ℕ) → Entry
  -- a word of a coprocessor that has no row
  OfCoprocessor : (word : ℕ) → Entry
  -- a word that is no instruction
  OfNone : (word : ℕ) → Entry

-- the entry of a row that was looked for
abbrev pub entry_in : Option Row → List ℕ → Entry
entry_in None values = OfNone 0
entry_in (Some row) values = InRow row values

-- the entry of the row of a name
abbrev pub named : List ℕ → List ℕ → Entry
named name values = entry_in (find (λ row. bytes_eq row.name name) rows) values

-- an instruction's entry in the table
abbrev pub entry : Instr → Entry
entry (instr.Sll rd rt shamt) = named (codes "sll") (rd ∷ rt ∷ shamt ∷ [])
entry (instr.Srl rd rt shamt) = named (codes "srl") (rd ∷ rt ∷ shamt ∷ [])
entry (instr.Sra rd rt shamt) = named (codes "sra") (rd ∷ rt ∷ shamt ∷ [])
entry (instr.Sllv rd rt rs) = named (codes "sllv") (rd ∷ rt ∷ rs ∷ [])
entry (instr.Srlv rd rt rs) = named (codes "srlv") (rd ∷ rt ∷ rs ∷ [])
entry (instr.Srav rd rt rs) = named (codes "srav") (rd ∷ rt ∷ rs ∷ [])
entry (instr.Jr rs) = named (codes "jr") (rs ∷ [])
entry (instr.Jalr rd rs) = named (codes "jalr") (rd ∷ rs ∷ [])
entry (instr.Syscall code) = named (codes "syscall") (code ∷ [])
entry (instr.Break code) = named (codes "break") (code ∷ [])
entry (instr.Mfhi rd) = named (codes "mfhi") (rd ∷ [])
entry (instr.Mthi rs) = named (codes "mthi") (rs ∷ [])
entry (instr.Mflo rd) = named (codes "mflo") (rd ∷ [])
entry (instr.Mtlo rs) = named (codes "mtlo") (rs ∷ [])
entry (instr.Mult rs rt) = named (codes "mult") (rs ∷ rt ∷ [])
entry (instr.Multu rs rt) = named (codes "multu") (rs ∷ rt ∷ [])
entry (instr.Div rs rt) = named (codes "div") (rs ∷ rt ∷ [])
entry (instr.Divu rs rt) = named (codes "divu") (rs ∷ rt ∷ [])
entry (instr.Add rd rs rt) = named (codes "add") (rd ∷ rs ∷ rt ∷ [])
entry (instr.Addu rd rs rt) = named (codes "addu") (rd ∷ rs ∷ rt ∷ [])
entry (instr.Sub rd rs rt) = named (codes "sub") (rd ∷ rs ∷ rt ∷ [])
entry (instr.Subu rd rs rt) = named (codes "subu") (rd ∷ rs ∷ rt ∷ [])
entry (instr.And rd rs rt) = named (codes "and") (rd ∷ rs ∷ rt ∷ [])
entry (instr.Or rd rs rt) = named (codes "or") (rd ∷ rs ∷ rt ∷ [])
entry (instr.Xor rd rs rt) = named (codes "xor") (rd ∷ rs ∷ rt ∷ [])
entry (instr.Nor rd rs rt) = named (codes "nor") (rd ∷ rs ∷ rt ∷ [])
entry (instr.Slt rd rs rt) = named (codes "slt") (rd ∷ rs ∷ rt ∷ [])
entry (instr.Sltu rd rs rt) = named (codes "sltu") (rd ∷ rs ∷ rt ∷ [])
entry (instr.Bltz rs i) = named (codes "bltz") (rs ∷ i ∷ [])
entry (instr.Bgez rs i) = named (codes "bgez") (rs ∷ i ∷ [])
entry (instr.Bltzal rs i) = named (codes "bltzal") (rs ∷ i ∷ [])
entry (instr.Bgezal rs i) = named (codes "bgezal") (rs ∷ i ∷ [])
entry (instr.J target) = named (codes "j") (target ∷ [])
entry (instr.Jal target) = named (codes "jal") (target ∷ [])
entry (instr.Beq rs rt i) = named (codes "beq") (rs ∷ rt ∷ i ∷ [])
entry (instr.Bne rs rt i) = named (codes "bne") (rs ∷ rt ∷ i ∷ [])
entry (instr.Blez rs i) = named (codes "blez") (rs ∷ i ∷ [])
entry (instr.Bgtz rs i) = named (codes "bgtz") (rs ∷ i ∷ [])
entry (instr.Addi rt rs i) = named (codes "addi") (rt ∷ rs ∷ i ∷ [])
entry (instr.Addiu rt rs i) = named (codes "addiu") (rt ∷ rs ∷ i ∷ [])
entry (instr.Slti rt rs i) = named (codes "slti") (rt ∷ rs ∷ i ∷ [])
entry (instr.Sltiu rt rs i) = named (codes "sltiu") (rt ∷ rs ∷ i ∷ [])
entry (instr.Andi rt rs i) = named (codes "andi") (rt ∷ rs ∷ i ∷ [])
entry (instr.Ori rt rs i) = named (codes "ori") (rt ∷ rs ∷ i ∷ [])
entry (instr.Xori rt rs i) = named (codes "xori") (rt ∷ rs ∷ i ∷ [])
entry (instr.Lui rt i) = named (codes "lui") (rt ∷ i ∷ [])
entry (instr.Lb rt rs i) = named (codes "lb") (rt ∷ rs ∷ i ∷ [])
entry (instr.Lh rt rs i) = named (codes "lh") (rt ∷ rs ∷ i ∷ [])
entry (instr.Lwl rt rs i) = named (codes "lwl") (rt ∷ rs ∷ i ∷ [])
entry (instr.Lw rt rs i) = named (codes "lw") (rt ∷ rs ∷ i ∷ [])
entry (instr.Lbu rt rs i) = named (codes "lbu") (rt ∷ rs ∷ i ∷ [])
entry (instr.Lhu rt rs i) = named (codes "lhu") (rt ∷ rs ∷ i ∷ [])
entry (instr.Lwr rt rs i) = named (codes "lwr") (rt ∷ rs ∷ i ∷ [])
entry (instr.Sb rt rs i) = named (codes "sb") (rt ∷ rs ∷ i ∷ [])
entry (instr.Sh rt rs i) = named (codes "sh") (rt ∷ rs ∷ i ∷ [])
entry (instr.Swl rt rs i) = named (codes "swl") (rt ∷ rs ∷ i ∷ [])
entry (instr.Sw rt rs i) = named (codes "sw") (rt ∷ rs ∷ i ∷ [])
entry (instr.Swr rt rs i) = named (codes "swr") (rt ∷ rs ∷ i ∷ [])
entry (instr.Mfc0 rt rd) = named (codes "mfc0") (rt ∷ rd ∷ [])
entry (instr.Mtc0 rt rd) = named (codes "mtc0") (rt ∷ rd ∷ [])
entry instr.Tlbr = named (codes "tlbr") []
entry instr.Tlbwi = named (codes "tlbwi") []
entry instr.Tlbwr = named (codes "tlbwr") []
entry instr.Tlbp = named (codes "tlbp") []
entry instr.Rfe = named (codes "rfe") []
entry (instr.Cop unit w) = OfCoprocessor w
entry (instr.Reserved w) = OfNone w

-- the word of an entry
abbrev pub word_in : Entry → ℕ
word_in (InRow row values) = word_of row values
word_in (OfCoprocessor w) = w
word_in (OfNone w) = w

-- the word of an instruction; of operands that are too large their low bits
abbrev pub encoded : Instr → ℕ
encoded i = word_in (entry i)
