-- Worked sources.
use Rattle.std.specs.Prelude.{codes, refl, ◌≡◌, ℕ, List, [], ◌∷◌, Ok, Err}
use Rattle.ds_word.specs.Inner.Bytes.{bytes_of_words}
use Rattle.ds_asm.specs.declared.fault.SourceFault.TheVariants.{Syntax, UnknownLabel, DoubleLabel, Range, TooLong}
use Rattle.ds_asm.specs.Assembly.{assembled}
use Rattle.ds_asm.specs.Inner.OnLiterals.{asm_on_literals}

-- The nine words of the refill handler (Kane and Heinrich, chapter 6), whose texts are these.
abbrev refill_text : List ℕ
refill_text =
    codes "mfc0 $26,$4\nmfc0 $27,$14\nlw $26,0($26)\nnop\nmtc0 $26,$2\naddu $26,$0,$0\ntlbwr\njr $27\nrfe\n"

-- the words that they make
abbrev refill_words : List ℕ
refill_words = 0x401A2000 ∷ 0x401B7000 ∷ 0x8F5A0000 ∷ 0x00000000 ∷ 0x409A1000 ∷ 0x0000D021 ∷ 0x42000006 ∷ 0x03600008 ∷ 0x42000010 ∷ []

the_refill_handler : assembled refill_text ≡ Ok (bytes_of_words refill_words)
unfolding asm_on_literals
the_refill_handler = refl

labels_registers_and_places : assembled (codes "x: addu $a0,$sp,$ra # hi\n beq $0, $0 ,x\n nop\n lw $1, -4 ( $2 )\n")
    ≡ Ok (0x21 ∷ 0x20 ∷ 0xbf ∷ 0x03 ∷ 0xfe ∷ 0xff ∷ 0x00 ∷ 0x10 ∷ 0 ∷ 0 ∷ 0 ∷ 0 ∷ 0xfc ∷ 0xff ∷ 0x41 ∷ 0x8c ∷ [])
unfolding asm_on_literals
labels_registers_and_places = refl

an_operand_that_is_missing : assembled (codes "lw $1") ≡ Err (Syntax 1)
unfolding asm_on_literals
an_operand_that_is_missing = refl

a_label_that_stands_twice : assembled (codes "x: nop\nx: nop") ≡ Err (DoubleLabel 2)
unfolding asm_on_literals
a_label_that_stands_twice = refl

a_label_that_stands_nowhere : assembled (codes "beq $0,$0,y") ≡ Err (UnknownLabel 1)
unfolding asm_on_literals
a_label_that_stands_nowhere = refl

a_number_out_of_range : assembled (codes "addiu $1,$0,40000") ≡ Err (Range 1)
unfolding asm_on_literals
a_number_out_of_range = refl

one_statement_too_many : assembled (codes ".space 65536\nnop") ≡ Err (TooLong 2)
unfolding asm_on_literals
one_statement_too_many = refl

no_bytes : assembled [] ≡ Ok []
unfolding asm_on_literals
no_bytes = refl

-- Of two faults that of the first pass comes first, whatever their lines.
the_first_pass_is_first : assembled (codes "beq $0,$0,y\naddiu $1,$0,40000") ≡ Err (Range 2)
unfolding asm_on_literals
the_first_pass_is_first = refl

and_in_the_other_order : assembled (codes "addiu $1,$0,40000\nbeq $0,$0,y") ≡ Err (Range 1)
unfolding asm_on_literals
and_in_the_other_order = refl

blank_lines_and_comments_say_nothing : assembled (codes "# nothing\n\n.word 0x8d28FfaB") ≡ Ok (0xab ∷ 0xff ∷ 0x28 ∷ 0x8d ∷ [])
unfolding asm_on_literals
blank_lines_and_comments_say_nothing = refl

a_ninth_digit : assembled (codes ".word 0x000000012") ≡ Err (Syntax 1)
unfolding asm_on_literals
a_ninth_digit = refl
