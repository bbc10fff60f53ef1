-- The text of a word, as the assembler reads it.
use Rattle.std.specs.Prelude.{codes, decimal, ℕ, ◌+◌, ◌-◌, ◌*◌, ◌%◌, Bool, true, false, ◌==◌, nat_le, nat_lt, if◌then◌else◌, List, [], ◌∷◌, ◌++◌, Option, Some, None}
use Rattle.std.specs.List.{flat_map, list_any}
use Rattle.ds_text.specs.Digits.{hex4, hex8}
use Rattle.ds_isa.specs.Fields.{Field, in_word, Operand, Register, LinkRegister, SystemRegister, Number, Code, Signed, Branch, Jump, Indexed}
use Rattle.ds_isa.specs.Instruction.{by_rows, rows}

-- a register, by its number
abbrev pub register_read_text : ℕ → List ℕ
register_read_text n = 36 ∷ decimal n

-- a half that is a number in two's complement
abbrev pub signed_text : ℕ → List ℕ
signed_text n = if nat_lt n 32768 then decimal n else 45 ∷ decimal (65536 - n)

-- a number from 0 up; a half in hexadecimal
abbrev pub unsigned_text : ℕ → ℕ → List ℕ
unsigned_text width n = if width == 16 then codes "0x" ++ hex4 n else decimal n

-- a branch's target, by so many bytes from the branch itself
abbrev pub distance_text : ℕ → List ℕ
distance_text m = if nat_le m 32768 then codes ".+" ++ decimal (4 * m) else codes ".-" ++ decimal (4 * (65536 - m))

-- an operand, by the values of the fields of its word and the texts of registers; a register of the system coprocessor has its number only
abbrev pub operand_by : (ℕ → List ℕ) → (Field → ℕ) → Operand → List ℕ
operand_by register at (Register f) = register (at f)
operand_by register at (LinkRegister f) = register (at f)
operand_by register at (SystemRegister f) = register_read_text (at f)
operand_by register at (Number f) = unsigned_text f.width (at f)
operand_by register at (Code f) = decimal (at f)
operand_by register at (Signed f) = signed_text (at f)
operand_by register at (Branch f) = distance_text ((at f + 1) % 65536)
operand_by register at (Jump f) = codes "0x" ++ hex8 (4 * at f)
operand_by register at (Indexed base offset) = signed_text (at offset) ++ (40 ∷ register (at base) ++ 41 ∷ [])

-- operands, each after a comma
abbrev pub others_by : (ℕ → List ℕ) → (Field → ℕ) → List Operand → List ℕ
others_by register at os = flat_map (λ o. 44 ∷ operand_by register at o) os

-- operands after a blank, with commas between them
abbrev pub operands_by : (ℕ → List ℕ) → (Field → ℕ) → List Operand → List ℕ
operands_by register at [] = []
operands_by register at (o ∷ os) = 32 ∷ operand_by register at o ++ others_by register at os

-- whether the only operand is a code that is 0, which is left out
abbrev pub is_left_out : (Field → ℕ) → List Operand → Bool
is_left_out at (Code f ∷ []) = at f == 0
is_left_out at _ = false

-- how an instruction is written: its name and its operands
pub record Form : Type 0 where
  pub name : List ℕ
  pub operands : List Operand

-- an instruction with its operands
abbrev pub instruction_by : (ℕ → List ℕ) → (Field → ℕ) → Form → List ℕ
instruction_by register at f = f.name ++ (if is_left_out at f.operands then [] else operands_by register at f.operands)

-- a word by its number alone
abbrev pub word_text : ℕ → List ℕ
word_text w = codes ".word 0x" ++ hex8 w

-- a label, which a word alone does not have
unfoldable pub is_label : Operand → Bool
is_label (Branch f) = true
is_label (Jump f) = true
is_label _ = false

-- whether a label is among operands
abbrev pub has_label : List Operand → Bool
has_label os = list_any is_label os

-- an instruction; where it goes to a label its word, with the instruction as a comment
abbrev pub form_by : (ℕ → List ℕ) → ℕ → Form → List ℕ
form_by register w f =
    if has_label f.operands then word_text w ++ (codes " # " ++ instruction_by register (in_word w) f) else instruction_by register (in_word w) f

-- the form of the row that a word fits
unfoldable pub form_of : ℕ → Option Form
form_of w = by_rows (λ row at. Some (record { name = row.name; operands = row.operands })) (λ w. None) rows w

-- the text of a word by its form, or by its number where it has none
abbrev pub word_by : (ℕ → List ℕ) → ℕ → Option Form → List ℕ
word_by register w None = word_text w
word_by register w (Some f) = form_by register w f

-- the text of a word, with registers by their numbers
unfoldable pub text_of : ℕ → List ℕ
text_of w = if w == 0 then codes "nop" else word_by register_read_text w (form_of w)
