-- Why a statement that can be read may not stand where it stands.
use Rattle.std.specs.Prelude.{ℕ, ◌-◌, not, ◌==◌, List, length, drop, Option, Some, None, option_map, unwrap_or, Result, Ok, Err}
use Rattle.std.specs.List.{suffix_len}
use Rattle.ds_asm.specs.Characters.{first_word, after_word, trimmed, until}
use Rattle.ds_asm.specs.declared.cause.Cause.{Cause}
use Rattle.ds_asm.specs.declared.cause.Cause.TheVariants as cause
use Rattle.ds_asm.specs.declared.syntax.SyntaxCause.{SyntaxCause}
use Rattle.ds_asm.specs.Operands as operands
use Rattle.ds_asm.specs.Lines.{Statement, Encoded, WordNumber, WordLabel, Byte, Space, Line, line_of}
use Rattle.ds_asm.specs.Assembly.{cause_at}
use Rattle.ds_source_reasons.specs.Reasons.{statement_text}

-- the reasons, with what stands in the line
pub data RangeReason : Type 0 where
  OutOfRange : (found : List ℕ) (least most : ℕ) → RangeReason
  NotAligned : (place : ℕ) → RangeReason
  Reserved : (name : List ℕ) → RangeReason
  Target : (label : List ℕ) → RangeReason

-- what stands after the last comma of a text, or the whole text
abbrev pub last_operand : List ℕ → List ℕ
last_operand text = drop (length text - suffix_len (λ c. not (c == 44)) text) text

-- the number in the text of operands: a form with a number has it as its last operand, before the register of an address
abbrev pub number_text : List ℕ → List ℕ
number_text text = trimmed (until 40 (last_operand text))

-- the label of a target
abbrev pub label_of : operands.TargetLabel → Option (List ℕ)
label_of operands.Nowhere = None
label_of (operands.BranchTo name) = Some name
label_of (operands.JumpTo name) = Some name

-- the label that a statement goes to
abbrev pub label_gone_to : Option Statement → Option (List ℕ)
label_gone_to None = None
label_gone_to (Some (Encoded i)) = label_of i.target
label_gone_to (Some (WordNumber n)) = None
label_gone_to (Some (WordLabel name)) = None
label_gone_to (Some (Byte n)) = None
label_gone_to (Some (Space n)) = None

-- the label that a line's statement goes to
abbrev pub target_in : Result Line SyntaxCause → Option (List ℕ)
target_in (Err why) = None
target_in (Ok line) = label_gone_to line.statement

-- the reason of a line whose target can't be reached
abbrev pub target_reason_of : List ℕ → Option RangeReason
target_reason_of line = option_map (λ label. Target label) (target_in (line_of line))

-- Causes.

-- the text of a line's statement
abbrev pub said_statement : List ℕ → List ℕ
said_statement line = statement_text (trimmed (until 35 line))

-- the reason of a line at a place of the image, by the cause for which its statement is refused
abbrev pub range_by : ℕ → List ℕ → Cause → Option RangeReason
range_by at line (cause.OutOfRange b) = Some (OutOfRange (number_text (after_word (said_statement line))) b.least b.most)
range_by at line cause.NotAligned = Some (NotAligned at)
range_by at line cause.Reserved = Some (Reserved (first_word (said_statement line)))
range_by at line cause.OutOfReach = target_reason_of line
range_by at line _ = None

-- the cause for which the assembler refuses a line's statement at a place of the image
abbrev pub statement_cause : ℕ → Option Statement → Option Cause
statement_cause at None = None
statement_cause at (Some s) = cause_at at s

-- the same of a line, where it can be read
abbrev pub cause_in : ℕ → Result Line SyntaxCause → Option Cause
cause_in at (Err why) = None
cause_in at (Ok line) = statement_cause at line.statement

-- the cause of a line that is refused as out of range at a place: that against its statement, or else against its target
abbrev pub range_cause : ℕ → List ℕ → Cause
range_cause at line = unwrap_or (cause_in at (line_of line)) cause.OutOfReach
