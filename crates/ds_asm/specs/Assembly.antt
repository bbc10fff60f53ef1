-- What a source says: the bytes of its statements one after the other, or its first fault.
use Rattle.std.specs.Prelude.{ℕ, ◌+◌, ◌-◌, ◌/◌, ◌%◌, ◌^◌, Bool, true, false, not, ◌&&◌, ◌==◌, nat_le, nat_lt, bytes_eq, if◌then◌else◌, List, [], ◌∷◌, ◌++◌, length, replicate, Option, Some, None, ok_or, is_some, Result, Ok, Err}
use Rattle.std.specs.List.{slice_split}
use Rattle.std.specs.Result.{result_map_both}
use Rattle.ds_word.specs.Bytes.{bytes_of_word}
use Rattle.ds_word.specs.ResultBinding.{◌>>=◌}
use Rattle.ds_isa.specs.declared.instr.Instr.{Instr}
use Rattle.ds_isa.specs.declared.instr.Instr.TheVariants as instr
use Rattle.ds_isa.specs.Fields.{imm, target}
use Rattle.ds_isa.specs.Instruction.{instruction_of}
use Rattle.ds_asm.specs.declared.cause.Cause.{Cause}
use Rattle.ds_asm.specs.declared.cause.Cause.TheVariants.{Syntax, DoubleLabel, OutOfRange, NotAligned, Reserved, TooLong, UnknownLabel, OutOfReach}
use Rattle.ds_asm.specs.declared.fault.SourceFault.{SourceFault}
use Rattle.ds_asm.specs.declared.fault.SourceFault.TheVariants as fault
use Rattle.ds_asm.specs.declared.number.Bounds.{Bounds}
use Rattle.ds_asm.specs.declared.syntax.SyntaxCause.{SyntaxCause}
use Rattle.ds_asm.specs.Numbers.{out_of_range, as_word}
use Rattle.ds_asm.specs.Operands.{Instruction, TargetLabel, Nowhere, BranchTo, JumpTo, with_value}
use Rattle.ds_asm.specs.Lines.{Statement, Encoded, WordNumber, WordLabel, Byte, Space, Line, line_of}

-- the refusal of line n for a cause
abbrev pub fault_at : ℕ → Cause → SourceFault
fault_at n (Syntax cause) = fault.Syntax n
fault_at n DoubleLabel = fault.DoubleLabel n
fault_at n (OutOfRange b) = fault.Range n
fault_at n NotAligned = fault.Range n
fault_at n Reserved = fault.Range n
fault_at n TooLong = fault.TooLong n
fault_at n UnknownLabel = fault.UnknownLabel n
fault_at n OutOfReach = fault.Range n

-- what came of line n, with its refusal in the place of its cause
abbrev pub at_line : {A : Type 0} → ℕ → Result A Cause → Result A SourceFault
at_line n r = result_map_both (λ x. x) (fault_at n) r

-- the pieces without an empty last one, which is no line
abbrev pub without_empty_last : List (List ℕ) → List (List ℕ)
without_empty_last [] = []
without_empty_last ([] ∷ []) = []
without_empty_last ((b ∷ bs) ∷ []) = (b ∷ bs) ∷ []
without_empty_last (piece ∷ next ∷ rest) = piece ∷ without_empty_last (next ∷ rest)

-- the lines of a text, each ended by a line feed, which may be missing after the last
abbrev pub lines_of : List ℕ → List (List ℕ)
lines_of text = without_empty_last (slice_split (λ b. b == 10) text)

-- where the image begins
abbrev pub origin : ℕ
origin = 4194304

-- how many bytes an image has at most
abbrev pub most_bytes : ℕ
most_bytes = 65536

-- Labels with their addresses, the newest first.
abbrev pub Labels : Type 0
Labels = List (List ℕ × ℕ)

-- the address of a name, if it is a label
abbrev pub label_address : Labels → List ℕ → Option ℕ
label_address [] name = None
label_address (l ∷ labels) name = if bytes_eq l.0 name then Some l.1 else label_address labels name

-- The first pass: where labels stand, and whether everything fits.
abbrev pub is_reserved : Instr → Bool
is_reserved (instr.Reserved w) = true
is_reserved _ = false

-- a word that is no instruction
unfoldable pub is_reserved_word : ℕ → Bool
is_reserved_word w = is_reserved (instruction_of w)

-- how many bytes a statement has
abbrev pub statement_size : Statement → ℕ
statement_size (Encoded i) = 4
statement_size (WordNumber n) = 4
statement_size (WordLabel name) = 4
statement_size (Byte n) = 1
statement_size (Space n) = n.magnitude

-- words stand at multiples of four
abbrev pub is_word_aligned : ℕ → Statement → Bool
is_word_aligned at (Byte n) = true
is_word_aligned at (Space n) = true
is_word_aligned at _ = at % 4 == 0

-- whether a statement is an instruction with registers that it may not have
abbrev pub has_reserved : Statement → Bool
has_reserved (Encoded i) = is_reserved_word i.word
has_reserved _ = false

-- the bounds of a statement's first number that is out of range
abbrev pub bounds_in : Statement → Option Bounds
bounds_in (Encoded i) = i.out_of_range
bounds_in (WordNumber n) = out_of_range 2147483648 4294967295 n
bounds_in (WordLabel name) = None
bounds_in (Byte n) = out_of_range 128 255 n
bounds_in (Space n) = out_of_range 0 most_bytes n

-- the first cause that holds: bounds that a number is not within, a word at a wrong place, reserved registers
abbrev pub first_cause : Option Bounds → Bool → Bool → Option Cause
first_cause (Some b) aligned reserved = Some (OutOfRange b)
first_cause None false reserved = Some NotAligned
first_cause None true reserved = if reserved then Some Reserved else None

-- why a statement may not stand at a place of the image, if it may not
abbrev pub cause_at : ℕ → Statement → Option Cause
cause_at at s = first_cause (bounds_in s) (is_word_aligned at s) (has_reserved s)

-- the labels so far, and the size of the image so far
pub record Layout : Type 0 where
  pub labels : Labels
  pub size : ℕ

-- no labels and no bytes
abbrev pub empty_layout : Layout
empty_layout = record { labels = []; size = 0 }

-- the labels with one that stands at a place of the image
abbrev pub labelled : ℕ → Option (List ℕ) → Labels → Result Labels Cause
labelled at None labels = Ok labels
labelled at (Some name) labels = if is_some (label_address labels name) then Err DoubleLabel else Ok ((name, origin + at) ∷ labels)

-- this size of the image, unless it is too much, or there is a cause against its last statement
abbrev pub sized_by : ℕ → Option Cause → Result ℕ Cause
sized_by size (Some cause) = Err cause
sized_by size None = if nat_lt most_bytes size then Err TooLong else Ok size

-- the size of the image with a statement
abbrev pub sized : ℕ → Option Statement → Result ℕ Cause
sized at None = Ok at
sized at (Some s) = sized_by (at + statement_size s) (cause_at at s)

-- the layout with what a line says, which is none where it has no meaning
abbrev pub laid_line : Result Line SyntaxCause → Layout → Result Layout Cause
laid_line (Err cause) l = Err (Syntax cause)
laid_line (Ok line) l = labelled l.size line.label l.labels >>= (λ labels. sized l.size line.statement >>= (λ size. Ok (record { labels = labels; size = size })))

-- with lines of which the first is line n
abbrev pub laid_lines : ℕ → Layout → List (List ℕ) → Result Layout SourceFault
laid_lines n l [] = Ok l
laid_lines n l (line ∷ lines) = at_line n (laid_line (line_of line) l) >>= (λ more. laid_lines (n + 1) more lines)

-- The second pass: bytes.

-- how many words lie between a slot and an address, in 16 bits of two's complement, if they suffice
abbrev pub branch_field : ℕ → ℕ → Option ℕ
branch_field slot address =
    if not (address % 4 == 0) then None
    else if nat_le slot address then (if nat_lt ((address - slot) / 4) (2 ^ 15) then Some ((address - slot) / 4) else None)
    else if nat_le ((slot - address) / 4) (2 ^ 15) then Some (2 ^ 16 - (slot - address) / 4) else None

-- the number of an address's word in the 256 MiB of the slot, if it stands there
abbrev pub jump_field : ℕ → ℕ → Option ℕ
jump_field slot address = if (address % 4 == 0) && (address / 2 ^ 28 == slot / 2 ^ 28) then Some (address / 4 % 2 ^ 26) else None

-- the address of a label, which has to stand somewhere
abbrev pub known : Option ℕ → Result ℕ Cause
known address = ok_or address UnknownLabel

-- the word of an instruction whose slot has an address; find gives those of labels
abbrev pub resolved : (List ℕ → Option ℕ) → ℕ → Instruction → TargetLabel → Result ℕ Cause
resolved find slot i Nowhere = Ok i.word
resolved find slot i (BranchTo name) = known (find name) >>= (λ a. ok_or (branch_field slot a) OutOfReach >>= (λ f. Ok (with_value imm f i).word))
resolved find slot i (JumpTo name) = known (find name) >>= (λ a. ok_or (jump_field slot a) OutOfReach >>= (λ f. Ok (with_value target f i).word))

-- the bytes of a word, if there is one
abbrev pub word_bytes : Result ℕ Cause → Result (List ℕ) Cause
word_bytes w = w >>= (λ v. Ok (bytes_of_word v))

-- the bytes of a statement at a place of the image
abbrev pub statement_bytes : (List ℕ → Option ℕ) → ℕ → Statement → Result (List ℕ) Cause
statement_bytes find at (Encoded i) = word_bytes (resolved find (origin + at + 4) i i.target)
statement_bytes find at (WordNumber x) = Ok (bytes_of_word (as_word x))
statement_bytes find at (WordLabel name) = word_bytes (known (find name))
statement_bytes find at (Byte x) = Ok ((as_word x % 2 ^ 8) ∷ [])
statement_bytes find at (Space x) = Ok (replicate x.magnitude 0)

-- the bytes of a statement; where there is no statement there are no bytes
abbrev pub optional_bytes : (List ℕ → Option ℕ) → ℕ → Option Statement → Result (List ℕ) Cause
optional_bytes find at None = Ok []
optional_bytes find at (Some s) = statement_bytes find at s

-- the bytes of a line; a malformed line has none either, and the first pass has refused it
abbrev pub line_bytes : (List ℕ → Option ℕ) → ℕ → Result Line SyntaxCause → Result (List ℕ) Cause
line_bytes find at (Err cause) = Ok []
line_bytes find at (Ok line) = optional_bytes find at line.statement

-- the bytes with those of lines of which the first is line n
abbrev pub bytes_from : ℕ → (List ℕ → Option ℕ) → List ℕ → List (List ℕ) → Result (List ℕ) SourceFault
bytes_from n find bytes [] = Ok bytes
bytes_from n find bytes (line ∷ lines) = at_line n (line_bytes find (length bytes) (line_of line)) >>= (λ more. bytes_from (n + 1) find (bytes ++ more) lines)

-- what a source says
abbrev pub assembled : List ℕ → Result (List ℕ) SourceFault
assembled text = laid_lines 1 empty_layout (lines_of text) >>= (λ layout. bytes_from 1 (label_address layout.labels) [] (lines_of text))
