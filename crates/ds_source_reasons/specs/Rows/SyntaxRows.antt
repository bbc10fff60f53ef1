-- Worked lines that can't be read, each with its reason.
use Rattle.std.specs.Prelude.{codes, refl, ◌≡◌, ℕ, List, [], ◌∷◌, ◌++◌, map, Option, Some, None}
use Rattle.ds_asm.specs.declared.syntax.Wanted.TheVariants as wanted
use Rattle.ds_source_reasons.specs.Rows.OnLines.{reasons_on_literals}
use Rattle.ds_source_reasons.specs.Reasons.{Reason, ByteOrderMark, NoSuchDirective, Macro, NoSuchByte, CarriageReturn, SpacedColon, NotALabel, SecondColon, UpperCase, NoSuchMnemonic, Operands, OneNumber, TextAfter, NoSuchRegister, WrongOperand, reason_of}

-- a line, and its reason if it has one
abbrev LineRow : Type 0
LineRow = List ℕ × Option Reason

-- what the lines of rows have for reasons
abbrev reasons_in : List LineRow → List (Option Reason)
reasons_in rows = map (λ r. reason_of r.0) rows

-- what rows say of their lines
abbrev said_in : List LineRow → List (Option Reason)
said_in rows = map (λ r. r.1) rows

-- lines that are read
abbrev good_lines : List LineRow
good_lines =
    ([], None)
    ∷ (codes "  # a comment; with (any) bytes: \"x\"", None)
    ∷ (codes "loop: lw $a0, 0($t0) # a load", None)
    ∷ (codes "jalr $t9", None)
    ∷ (codes "syscall", None)
    ∷ (codes "mfc0 $26,$4", None)
    ∷ (codes ".word loop", None)
    ∷ (codes "addiu $1, $0, 40000", None)
    ∷ []

pub good_lines_have_no_reason : reasons_in good_lines ≡ said_in good_lines
unfolding reasons_on_literals
good_lines_have_no_reason = refl

-- words that are no mnemonics
abbrev word_lines : List LineRow
word_lines =
    (codes "li $v0, 1", Some (Macro (codes "li")))
    ∷ (codes "start: la $t0, x", Some (Macro (codes "la")))
    ∷ (codes "move $t0, $t1", Some (Macro (codes "move")))
    ∷ (codes "b loop", Some (Macro (codes "b")))
    ∷ (codes "beqz $t0, loop", Some (Macro (codes "beqz")))
    ∷ (codes ".align 2", Some (NoSuchDirective (codes ".align")))
    ∷ (codes ".asciiz \"Hi: there\"", Some (NoSuchDirective (codes ".asciiz")))
    ∷ (codes ".data", Some (NoSuchDirective (codes ".data")))
    ∷ (codes "main: .globl main", Some (NoSuchDirective (codes ".globl")))
    ∷ (codes "ADDIU $v0, $zero, 1", Some (UpperCase (codes "ADDIU")))
    ∷ (codes "addui $v0, $zero, 1", Some (NoSuchMnemonic (codes "addui")))
    ∷ (codes "loop", Some (NoSuchMnemonic (codes "loop")))
    ∷ (codes "addiu$v0,$zero,1", Some (NoSuchMnemonic (codes "addiu$v0,$zero,1")))
    ∷ []

pub words_that_are_no_mnemonics : reasons_in word_lines ≡ said_in word_lines
unfolding reasons_on_literals
words_that_are_no_mnemonics = refl

-- bytes and marks that no statement holds, and labels
abbrev byte_lines : List LineRow
byte_lines =
    (0xEF ∷ 0xBB ∷ 0xBF ∷ codes "nop", Some ByteOrderMark)
    ∷ (codes "nop ; a comment", Some (NoSuchByte 59))
    ∷ (codes "nop // a comment", Some (NoSuchByte 47))
    ∷ (codes ".byte 'A'", Some (NoSuchByte 39))
    ∷ (codes ".word x+4", Some (NoSuchByte 43))
    ∷ (codes "addiu $t0, $t0, %lo(x)", Some (NoSuchByte 37))
    ∷ (0xC3 ∷ 0xA9 ∷ codes ": nop", Some (NoSuchByte 0xC3))
    ∷ (codes "nop" ++ (13 ∷ codes "nop"), Some CarriageReturn)
    ∷ (codes "loop : nop", Some (SpacedColon (codes "loop")))
    ∷ (codes "2: nop", Some (NotALabel (codes "2")))
    ∷ (codes "a.b: nop", Some (NotALabel (codes "a.b")))
    ∷ (codes "x: y: nop", Some SecondColon)
    ∷ []

pub bytes_and_labels : reasons_in byte_lines ≡ said_in byte_lines
unfolding reasons_on_literals
bytes_and_labels = refl

-- operands
abbrev operand_lines : List LineRow
operand_lines =
    (codes "addiu $v0, 1", Some (Operands 3 3 2))
    ∷ (codes "addu $1 $2 $3", Some (Operands 3 3 1))
    ∷ (codes "jr", Some (Operands 1 1 0))
    ∷ (codes "syscall 1, 2", Some (Operands 0 1 2))
    ∷ (codes "jalr $1, $2, $3", Some (Operands 1 2 3))
    ∷ (codes ".byte 1, 2", Some (OneNumber 2))
    ∷ (codes ".word 1, 2, 3", Some (OneNumber 3))
    ∷ (codes ".space", Some (OneNumber 0))
    ∷ (codes "nop nop", Some (TextAfter (codes "nop")))
    ∷ (codes "j loop nop", Some (TextAfter (codes "nop")))
    ∷ (codes "addu $1, $2, $3 $4", Some (TextAfter (codes "$4")))
    ∷ (codes "addu $v0, $v2, $v0", Some (NoSuchRegister (codes "$v2")))
    ∷ (codes "lw $t0, 0($pc)", Some (NoSuchRegister (codes "$pc")))
    ∷ (codes "addu $01, $2, $3", Some (NoSuchRegister (codes "$01")))
    ∷ (codes "addu v0, $v0, $v0", Some (WrongOperand 1 wanted.Register (codes "v0")))
    ∷ (codes "addu $v0, $v0, 1", Some (WrongOperand 3 wanted.Register (codes "1")))
    ∷ (codes "jalr 5", Some (WrongOperand 1 wanted.Register (codes "5")))
    ∷ (codes "addiu $v0, $v0, $v1", Some (WrongOperand 3 wanted.Number (codes "$v1")))
    ∷ (codes "addiu $v0, $v0, 0X10", Some (WrongOperand 3 wanted.Number (codes "0X10")))
    ∷ (codes "addiu $v0, , 1", Some (WrongOperand 2 wanted.Register []))
    ∷ (codes "beq $t0, $t1, 8", Some (WrongOperand 3 wanted.Label (codes "8")))
    ∷ (codes "j 0x400000", Some (WrongOperand 1 wanted.Label (codes "0x400000")))
    ∷ (codes "lw $t0, $t1", Some (WrongOperand 2 wanted.Address (codes "$t1")))
    ∷ (codes "lw $t0, ($t1)", Some (WrongOperand 2 wanted.Address (codes "($t1)")))
    ∷ (codes "sw $t0, x", Some (WrongOperand 2 wanted.Address (codes "x")))
    ∷ (codes "mfc0 $t0, $status", Some (WrongOperand 2 wanted.SystemRegister (codes "$status")))
    ∷ (codes ".word 1.5", Some (WrongOperand 1 wanted.NumberOrLabel (codes "1.5")))
    ∷ (codes ".byte A", Some (WrongOperand 1 wanted.Number (codes "A")))
    ∷ []

pub operands_that_are_wrong : reasons_in operand_lines ≡ said_in operand_lines
unfolding reasons_on_literals
operands_that_are_wrong = refl
