-- What a line says: a label, a statement, both or nothing.
use Rattle.std.specs.Prelude.{codes, ℕ, bytes_eq, if◌then◌else◌, List, [], ◌∷◌, Option, Some, None, option_map, ok_or, is_some, Result, Ok, Err}
use Rattle.ds_word.specs.ResultBinding.{◌>>=◌}
use Rattle.ds_asm.specs.declared.line.Directive.{Directive}
use Rattle.ds_asm.specs.declared.line.Directive.TheVariants as directive
use Rattle.ds_asm.specs.declared.number.Number.{Number}
use Rattle.ds_asm.specs.declared.syntax.SyntaxCause.{SyntaxCause}
use Rattle.ds_asm.specs.declared.syntax.SyntaxCause.TheVariants.{NotALabel, NoSuchName}
use Rattle.ds_asm.specs.declared.syntax.Wanted.{Wanted}
use Rattle.ds_asm.specs.declared.syntax.Wanted.TheVariants as wanted
use Rattle.ds_asm.specs.Characters.{is_name, first_word, after_word, trimmed, until, text_after}
use Rattle.ds_asm.specs.Numbers.{written_number}
use Rattle.ds_asm.specs.Forms.{form_named}
use Rattle.ds_asm.specs.Operands.{Instruction, without_operands, misfit, with_operands}

-- an instruction, a word by its number or its label, a byte, or a number of zero bytes
pub data Statement : Type 0 where
  Encoded : (instruction : Instruction) → Statement
  WordNumber : (number : Number) → Statement
  WordLabel : (name : List ℕ) → Statement
  Byte : (number : Number) → Statement
  Space : (number : Number) → Statement

-- a text, unless it is empty
abbrev pub unless_empty : List ℕ → Option (List ℕ)
unless_empty [] = None
unless_empty (c ∷ cs) = Some (c ∷ cs)

-- an instruction of its form's name, with the operands that stand after it
abbrev pub instruction_named : List ℕ → List ℕ → Result Instruction SyntaxCause
instruction_named name text = ok_or (form_named name) NoSuchName >>= (λ f. with_operands 1 f.operands (unless_empty text) (without_operands f.word))

-- the directive of a name
abbrev pub directive_named : List ℕ → Option Directive
directive_named name =
    if bytes_eq name (codes ".word") then Some directive.Word
    else if bytes_eq name (codes ".byte") then Some directive.Byte
    else if bytes_eq name (codes ".space") then Some directive.Space
    else None

-- what has to stand after a directive
abbrev pub wanted_after : Directive → Wanted
wanted_after directive.Word = wanted.NumberOrLabel
wanted_after directive.Byte = wanted.Number
wanted_after directive.Space = wanted.Number

-- the statement of a directive, by the number that the text after it is; a word may have a label
abbrev pub number_statement : Directive → Option Number → List ℕ → Option Statement
number_statement directive.Word (Some n) text = Some (WordNumber n)
number_statement directive.Word None text = if is_name text then Some (WordLabel text) else None
number_statement directive.Byte n text = option_map (λ n. Byte n) n
number_statement directive.Space n text = option_map (λ n. Space n) n

-- the statement of a directive with this text after it
abbrev pub directed : Directive → List ℕ → Option Statement
directed d text = number_statement d (written_number text) text

-- the statement of a directive, or else of an instruction of this name, and of what stands after it
abbrev pub statement_by : Option Directive → List ℕ → List ℕ → Result Statement SyntaxCause
statement_by (Some d) name text = ok_or (directed d text) (misfit 1 (wanted_after d) (is_some (directed d (first_word text))))
statement_by None name text = instruction_named name text >>= (λ i. Ok (Encoded i))

-- the statement of a first word and of what stands after it
unfoldable pub statement_named : List ℕ → List ℕ → Result Statement SyntaxCause
statement_named name text = statement_by (directive_named name) name text

-- the statement that a text is, or why it is none
abbrev pub statement_of : List ℕ → Result Statement SyntaxCause
statement_of text = statement_named (first_word text) (after_word text)

-- the statement of a text; an empty text has none, and is no fault
abbrev pub statement_in : List ℕ → Result (Option Statement) SyntaxCause
statement_in [] = Ok None
statement_in (c ∷ cs) = statement_of (c ∷ cs) >>= (λ s. Ok (Some s))

-- the label and the statement of a line, each if it has one
pub record Line : Type 0 where
  pub label : Option (List ℕ)
  pub statement : Option Statement

-- a line of a label and the text of a statement
abbrev pub with_statement : Option (List ℕ) → List ℕ → Result Line SyntaxCause
with_statement label text = statement_in text >>= (λ s. Ok (record { label = label; statement = s }))

-- what stands before a colon is a label
abbrev pub with_label : List ℕ → Option (List ℕ) → Result Line SyntaxCause
with_label text None = with_statement None text
with_label text (Some rest) = if is_name (until 58 text) then with_statement (Some (until 58 text)) (trimmed rest) else Err NotALabel

-- the label and the statement of a text, which a colon parts
abbrev pub line_parts : List ℕ → Result Line SyntaxCause
line_parts text = with_label text (text_after 58 text)

-- what a line says, up to its comment, or why nothing is read from it
unfoldable pub line_of : List ℕ → Result Line SyntaxCause
line_of line = line_parts (trimmed (until 35 line))
