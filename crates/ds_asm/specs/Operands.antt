-- From the text of operands to what an instruction has in their places.
use Rattle.std.specs.Prelude.{ℕ, ◌+◌, ◌-◌, ◌*◌, ◌%◌, ◌^◌, Bool, true, false, not, ◌&&◌, ◌==◌, nat_lt, if◌then◌else◌, List, [], ◌∷◌, length, take, slice_index, Option, Some, None, option_map, option_and_then, ok_or, is_some, Result, Ok, Err}
use Rattle.std.specs.List.{position_or_len}
use Rattle.std.specs.Option.{option_or}
use Rattle.ds_word.specs.ResultBinding.{◌>>=◌}
use Rattle.ds_word.specs.Word.{word}
use Rattle.ds_isa.specs.Fields.{Field, rd, Operand, Register, LinkRegister, SystemRegister, Number, Code, Signed, Branch, Jump, Indexed}
use Rattle.ds_asm.specs.declared.number.Number as code
use Rattle.ds_asm.specs.declared.number.Bounds.{Bounds}
use Rattle.ds_asm.specs.declared.syntax.SyntaxCause.{SyntaxCause}
use Rattle.ds_asm.specs.declared.syntax.SyntaxCause.TheVariants as cause
use Rattle.ds_asm.specs.declared.syntax.Wanted.{Wanted}
use Rattle.ds_asm.specs.declared.syntax.Wanted.TheVariants as wanted
use Rattle.ds_asm.specs.Characters.{is_name, first_word, trimmed, until, text_after}
use Rattle.ds_asm.specs.Numbers.{out_of_range, written_number, as_word}
use Rattle.ds_asm.specs.Registers.{register_of, system_register_of}

-- the label that an instruction goes to, if it does
pub data TargetLabel : Type 0 where
  Nowhere : TargetLabel
  BranchTo : (name : List ℕ) → TargetLabel
  JumpTo : (name : List ℕ) → TargetLabel

-- what the text of an instruction says: its word with 0 in the place of a label, the bounds of its
-- first number that is out of range, and its label
pub record Instruction : Type 0 where
  pub word : ℕ
  pub out_of_range : Option Bounds
  pub target : TargetLabel

-- an instruction without operands
abbrev pub without_operands : ℕ → Instruction
without_operands w = record { word = w; out_of_range = None; target = Nowhere }

-- with a value added in a field, cut to the field's width
abbrev pub with_value : Field → ℕ → Instruction → Instruction
with_value f v i = record i { word = word (i.word + v % 2 ^ f.width * 2 ^ f.lo) }

-- with a number in a field, which is to be from -least to most
abbrev pub with_number : Field → ℕ → ℕ → code.Number → Instruction → Instruction
with_number f least most n i = record (with_value f (as_word n) i) { out_of_range = option_or i.out_of_range (out_of_range least most n) }

-- with the label that it goes to
abbrev pub with_target : TargetLabel → Instruction → Instruction
with_target t i = record i { target = t }

-- with the number of a register in a field, if there is one
abbrev pub with_register : Field → Option ℕ → Instruction → Option Instruction
with_register f r i = option_map (λ n. with_value f n i) r

-- with a number from 0 up to the greatest that a field holds
abbrev pub with_unsigned : Field → List ℕ → Instruction → Option Instruction
with_unsigned f text i = option_map (λ n. with_number f 0 (2 ^ f.width - 1) n i) (written_number text)

-- with a number that a field holds in two's complement
abbrev pub with_signed : Field → List ℕ → Instruction → Option Instruction
with_signed f text i = option_map (λ n. with_number f (2 ^ (f.width - 1)) (2 ^ (f.width - 1) - 1) n i) (written_number text)

-- with a label as the target
abbrev pub with_label_operand : (List ℕ → TargetLabel) → List ℕ → Instruction → Option Instruction
with_label_operand make text i = if is_name text then Some (with_target (make text) i) else None

-- what stands before the parenthesis at the end, without blanks
abbrev pub before_close : List ℕ → Option (List ℕ)
before_close text = if slice_index text (length text - 1) == 41 then Some (trimmed (take (length text - 1) text)) else None

-- what stands in the parentheses at the end of an address
abbrev pub base_of : List ℕ → Option (List ℕ)
base_of text = option_and_then before_close (text_after 40 text)

-- an offset, and in parentheses after it the register of the base
unfoldable pub with_indexed : Field → Field → List ℕ → Instruction → Option Instruction
with_indexed base offset text i = option_and_then (λ r. with_signed offset (trimmed (until 40 text)) (with_value base r i)) (option_and_then register_of (base_of text))

-- with what the text of one operand says
unfoldable pub with_operand : Operand → List ℕ → Instruction → Option Instruction
with_operand (Register f) text i = with_register f (register_of text) i
with_operand (LinkRegister f) text i = with_register f (register_of text) i
with_operand (SystemRegister f) text i = with_register f (system_register_of text) i
with_operand (Number f) text i = with_unsigned f text i
with_operand (Code f) text i = with_unsigned f text i
with_operand (Signed f) text i = with_signed f text i
with_operand (Branch f) text i = with_label_operand BranchTo text i
with_operand (Jump f) text i = with_label_operand JumpTo text i
with_operand (Indexed base offset) text i = with_indexed base offset text i

-- whether an operand is a code, which may be left out
abbrev pub is_code : Operand → Bool
is_code (Code f) = true
is_code _ = false

-- whether an operand is a link register, which may be left out
abbrev pub is_link : Operand → Bool
is_link (LinkRegister f) = true
is_link _ = false

-- whether a comma stands in a text
abbrev pub has_comma : List ℕ → Bool
has_comma text = nat_lt (position_or_len (λ b. b == 44) text) (length text)

-- with what stands before the first comma; what stands after it is left
abbrev pub with_first : Operand → List ℕ → Instruction → Option (Option (List ℕ) × Instruction)
with_first o text i = option_map (λ next. (text_after 44 text, next)) (with_operand o (trimmed (until 44 text)) i)

-- what has to stand in an operand's place
abbrev pub wanted_by : Operand → Wanted
wanted_by (Register f) = wanted.Register
wanted_by (LinkRegister f) = wanted.Register
wanted_by (SystemRegister f) = wanted.SystemRegister
wanted_by (Number f) = wanted.Number
wanted_by (Code f) = wanted.Number
wanted_by (Signed f) = wanted.Number
wanted_by (Branch f) = wanted.Label
wanted_by (Jump f) = wanted.Label
wanted_by (Indexed base offset) = wanted.Address

-- why a text is not what is wanted as operand k, where it is known whether its first word is
abbrev pub misfit : ℕ → Wanted → Bool → SyntaxCause
misfit k w fits = if fits then cause.TextAfter k else cause.Operand w k

-- the same of a text in the place of an operand
abbrev pub operand_misfit : ℕ → Operand → List ℕ → SyntaxCause
operand_misfit k o text = misfit k (wanted_by o) (is_some (with_operand o (first_word text) (without_operands 0)))

-- with all operands of what is left of a statement's text, if anything is, or why not; the first has
-- number k. A code may be left out, and a link register, where only one operand is left
unfoldable pub with_operands : ℕ → List Operand → Option (List ℕ) → Instruction → Result Instruction SyntaxCause
with_operands k [] None i = Ok i
with_operands k [] (Some text) i = Err cause.TooMany
with_operands k (o ∷ os) None i = if is_code o then with_operands k os None i else Err (operand_misfit k o [])
with_operands k (o ∷ os) (Some text) i =
    if is_link o && not (has_comma text) then with_operands k os (Some text) (with_value rd 31 i)
    else ok_or (with_first o text i) (operand_misfit k o (trimmed (until 44 text))) >>= (λ p. with_operands (k + 1) os p.0 p.1)
