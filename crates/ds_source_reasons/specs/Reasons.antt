-- Why a line of a source can't be read.
use Rattle.std.specs.Prelude.{ℕ, zero, suc, ◌+◌, ◌-◌, Bool, not, ◌&&◌, ◌||◌, ◌==◌, nat_le, bytes_eq, if◌then◌else◌, List, [], ◌∷◌, length, take, count_by, Option, Some, None, option_map, is_none, unwrap_or}
use Rattle.std.specs.List.{find, list_any}
use Rattle.std.specs.Result.{result_err}
use Rattle.ds_isa.specs.Fields.{Operand}
use Rattle.ds_asm.specs.Characters.{is_blank, is_letter, is_digit, is_name, without_back_blanks, trimmed, first_word, after_word, until, text_after}
use Rattle.ds_asm.specs.Forms.{Written, form_named, begins_with}
use Rattle.ds_asm.specs.Operands.{base_of, is_code, is_link}
use Rattle.ds_asm.specs.Lines.{directive_named, line_of}
use Rattle.ds_asm.specs.declared.line.Directive.{Directive}
use Rattle.ds_asm.specs.declared.syntax.SyntaxCause.{SyntaxCause}
use Rattle.ds_asm.specs.declared.syntax.SyntaxCause.TheVariants as cause
use Rattle.ds_asm.specs.declared.syntax.Wanted.{Wanted}
use Rattle.ds_asm.specs.declared.syntax.Wanted.TheVariants as wanted
use Rattle.ds_asm.specs.Registers.{register_of}
use Rattle.ds_source_reasons.specs.declared.macros.TheConstants.{MACROS}

-- the reasons, with what stands in the line
pub data Reason : Type 0 where
  ByteOrderMark : Reason
  NoSuchDirective : (name : List ℕ) → Reason
  Macro : (name : List ℕ) → Reason
  NoSuchByte : (byte : ℕ) → Reason
  CarriageReturn : Reason
  SpacedColon : (name : List ℕ) → Reason
  NotALabel : (name : List ℕ) → Reason
  SecondColon : Reason
  UpperCase : (name : List ℕ) → Reason
  NoSuchMnemonic : (name : List ℕ) → Reason
  Operands : (least most found : ℕ) → Reason
  OneNumber : (found : ℕ) → Reason
  TextAfter : (text : List ℕ) → Reason
  NoSuchRegister : (name : List ℕ) → Reason
  WrongOperand : (number : ℕ) (wanted : Wanted) (found : List ℕ) → Reason

-- Operands.

-- what stands where a general register has to stand
abbrev pub register_in : Wanted → List ℕ → Option (List ℕ)
register_in wanted.Register text = Some text
register_in wanted.Address text = base_of text
register_in _ text = None

-- whether a text begins as a register and is none
abbrev pub is_no_register : List ℕ → Bool
is_no_register name = begins_with 36 name && is_none (register_of name)

-- why an operand is not what has to stand in its place, by its register, where it has one
abbrev pub misfit_by : Option (List ℕ) → Reason → Reason
misfit_by None why = why
misfit_by (Some name) why = if is_no_register name then NoSuchRegister name else why

-- the operand after so many others of a text, which commas part
abbrev pub operand_after : ℕ → List ℕ → List ℕ
operand_after zero text = trimmed (until 44 text)
operand_after (suc k) text = operand_after k (unwrap_or (text_after 44 text) [])

-- how many operands a text has, which commas part
abbrev pub operand_count : List ℕ → ℕ
operand_count [] = 0
operand_count (c ∷ cs) = count_by (λ b. b == 44) (c ∷ cs) + 1

-- how many operands a statement has at least
abbrev pub least_of : List Operand → ℕ
least_of os = count_by (λ o. not (is_code o || is_link o)) os

-- the reason, unless it is the number of operands of a form that has any
abbrev pub counted_by : List Operand → ℕ → Reason → Reason
counted_by os found why = if (length os == 0) || (nat_le (least_of os) found && nat_le found (length os)) then why else Operands (least_of os) (length os) found

-- the same of a statement: a directive has one operand
abbrev pub reason_or_count : Option Directive → Option Written → ℕ → Reason → Reason
reason_or_count (Some d) form found why = if found == 1 then why else OneNumber found
reason_or_count None (Some f) found why = counted_by f.operands found why
reason_or_count None None found why = why

-- Statements.

-- whether a text has a letter in upper case
abbrev pub has_upper_case : List ℕ → Bool
has_upper_case text = list_any (λ c. nat_le 65 c && nat_le c 90) text

-- why a word is no mnemonic
abbrev pub no_mnemonic : List ℕ → Reason
no_mnemonic name = if has_upper_case name then UpperCase name else NoSuchMnemonic name

-- why a statement can't be read, by its first word and what stands after it
unfoldable pub statement_reason : SyntaxCause → List ℕ → List ℕ → Reason
statement_reason cause.TooMany name text = TextAfter text
statement_reason (cause.TextAfter k) name text = TextAfter (after_word (operand_after (k - 1) text))
statement_reason (cause.Operand w k) name text = misfit_by (register_in w (operand_after (k - 1) text)) (WrongOperand k w (operand_after (k - 1) text))
statement_reason _ name text = no_mnemonic name

-- Lines.

-- why what stands before a colon is no label
abbrev pub no_label : List ℕ → Reason
no_label name = if is_name (without_back_blanks name) then SpacedColon (without_back_blanks name) else NotALabel name

-- whether a text has this byte
abbrev pub has_byte : ℕ → List ℕ → Bool
has_byte c text = list_any (λ b. b == c) text

-- what stands after a name and its colon, or else the text
abbrev pub after_label : List ℕ → Option (List ℕ) → List ℕ
after_label text None = text
after_label text (Some rest) = if is_name (until 58 text) then trimmed rest else text

-- what stands after the label, where there is one
abbrev pub statement_text : List ℕ → List ℕ
statement_text text = after_label text (text_after 58 text)

-- whether a word is a macro of other assemblers
unfoldable pub is_macro : List ℕ → Bool
is_macro name = list_any (λ m. bytes_eq m.now name) MACROS

-- whether a label or a statement may hold a byte: letters, digits, blanks, and $ ( ) , - . :
abbrev pub is_written : ℕ → Bool
is_written c = is_letter c || is_digit c || is_blank c || c == 36 || c == 40 || c == 41 || c == 44 || c == 45 || c == 46 || c == 58

-- the first byte that no label and no statement may hold
abbrev pub byte_reason : List ℕ → Option Reason
byte_reason text = option_map (λ c. NoSuchByte c) (find (λ c. not (is_written c)) text)

-- why a label or a statement can't be read
abbrev pub cause_reason : SyntaxCause → List ℕ → List ℕ → Reason
cause_reason cause.NotALabel text s = no_label (until 58 text)
cause_reason why text s =
    if has_byte 58 s then SecondColon
    else reason_or_count (directive_named (first_word s)) (form_named (first_word s)) (operand_count (after_word s)) (statement_reason why (first_word s) (after_word s))

-- why what a line says can't be read, with the text of its statement: the first reason of these
abbrev pub first_reason : SyntaxCause → List ℕ → List ℕ → Reason
first_reason why text s =
    if bytes_eq (take 3 text) (0xEF ∷ 0xBB ∷ 0xBF ∷ []) then ByteOrderMark
    else if begins_with 46 (first_word s) && is_none (directive_named (first_word s)) then NoSuchDirective (first_word s)
    else if is_macro (first_word s) then Macro (first_word s)
    else unwrap_or (byte_reason text) (if has_byte 13 text then CarriageReturn else cause_reason why text s)

-- why what a line says up to its comment can't be read, by the cause that the assembler answers
abbrev pub said_reason : List ℕ → SyntaxCause → Reason
said_reason text why = first_reason why text (statement_text text)

-- why a line can't be read, where the assembler answers a cause
unfoldable pub reason_of : List ℕ → Option Reason
reason_of line = option_map (said_reason (trimmed (until 35 line))) (result_err (line_of line))
