-- Worked texts of words.
use Rattle.std.specs.Prelude.{codes, refl, ◌≡◌, ℕ, List, [], ◌∷◌}
use Rattle.std.specs.Fmt.{digits}
use Rattle.ds_listing.specs.Texts.{is_label, form_of, text_of}
use Rattle.ds_listing.specs.Inner.Texts.{source_of}
use Rattle.ds_text.specs.Digits.{hex4, hex8}
use Rattle.ds_listing.specs.Inner.Sources.{source_of_bytes, source_of_file}

-- The nine words of the refill handler (Kane and Heinrich, chapter 6).
abbrev refill_words : List ℕ
refill_words = 0x401A2000 ∷ 0x401B7000 ∷ 0x8F5A0000 ∷ 0x00000000 ∷ 0x409A1000 ∷ 0x0000D021 ∷ 0x42000006 ∷ 0x03600008 ∷ 0x42000010 ∷ []

the_refill_handler : source_of refill_words ≡ codes "mfc0 $26,$4\nmfc0 $27,$14\nlw $26,0($26)\nnop\nmtc0 $26,$2\naddu $26,$0,$0\ntlbwr\njr $27\nrfe\n"
unfolding text_of form_of hex4 hex8 is_label digits
the_refill_handler = refl

-- numbers with a sign, halves in hexadecimal, and a code that is left out where it is 0
operands_of_each_kind : source_of (0x8C41FFFC ∷ 0x27BD8000 ∷ 0x35281234 ∷ 0x000417C3 ∷ 0x00C0F809 ∷ 0x0000000C ∷ 0x0048D14C ∷ [])
    ≡ codes "lw $1,-4($2)\naddiu $29,$29,-32768\nori $8,$9,0x1234\nsra $2,$4,31\njalr $31,$6\nsyscall\nsyscall 74565\n"
unfolding text_of form_of hex4 hex8 is_label digits
operands_of_each_kind = refl

-- a branch and a jump, with what they are in a comment; a word of coprocessor 2, and one that is no instruction
words_by_their_numbers : source_of (0x1000FFFF ∷ 0x07F00002 ∷ 0x0C100004 ∷ 0x48042800 ∷ 0x00A02809 ∷ [])
    ≡ codes ".word 0x1000FFFF # beq $0,$0,.+0\n.word 0x07F00002\n.word 0x0C100004 # jal 0x00400010\n.word 0x48042800\n.word 0x00A02809\n"
unfolding text_of form_of hex4 hex8 is_label digits
words_by_their_numbers = refl

distances : source_of (0x04118000 ∷ 0x14007FFF ∷ 0x1820FFFE ∷ [])
    ≡ codes ".word 0x04118000 # bgezal $0,.-131068\n.word 0x14007FFF # bne $0,$0,.+131072\n.word 0x1820FFFE # blez $1,.-4\n"
unfolding text_of form_of hex4 hex8 is_label digits
distances = refl

-- bytes that are left after the words
bytes_left : source_of_bytes (0x41 ∷ 0x00 ∷ 0x04 ∷ 0x24 ∷ 0x0C ∷ 0x00 ∷ 0x00 ∷ 0x00 ∷ 0xFF ∷ 0x0A ∷ [])
    ≡ codes "addiu $4,$0,65\nsyscall\n.byte 0xFF\n.byte 0x0A\n"
unfolding text_of form_of hex4 hex8 is_label digits
bytes_left = refl

words_alone : source_of_bytes (0xFF ∷ 0xFF ∷ 0xFF ∷ 0xFF ∷ []) ≡ codes ".word 0xFFFFFFFF\n"
unfolding text_of form_of hex4 hex8 is_label digits
words_alone = refl

-- a file that begins as an ELF file does; and one that has three of the four bytes
an_elf_file : source_of_file (0x7F ∷ 0x45 ∷ 0x4C ∷ 0x46 ∷ 0x0C ∷ 0x00 ∷ 0x00 ∷ 0x00 ∷ 0xFF ∷ [])
    ≡ codes "# this file begins as an ELF file does\n.word 0x464C457F\nsyscall\n.byte 0xFF\n"
unfolding text_of form_of hex4 hex8 is_label digits
an_elf_file = refl

no_elf_file : source_of_file (0x7F ∷ 0x45 ∷ 0x4C ∷ []) ≡ codes ".byte 0x7F\n.byte 0x45\n.byte 0x4C\n"
no_elf_file = refl
