-- Worked rows: words of known instructions, and what known instructions do.
use Rattle.std.specs.Prelude.{ℕ, ◌≡◌, [], ◌∷◌, Option, Some, None, slice_set, codes, map, refl}
use Rattle.ds_isa.specs.declared.instr.Instr.TheVariants as instr
use Rattle.ds_isa.specs.declared.instr.Size.TheVariants as size
use Rattle.ds_isa.specs.Instruction.{instruction_of, rows}
use Rattle.ds_isa.specs.Uses.{storing, loading, branching, uses}
use Rattle.ds_isa.specs.Inner.Encoding.{encoded}
use Rattle.ds_isa.specs.Registers.{Registers, zero_registers, read, settled, written, loaded}
use Rattle.ds_isa.specs.Meaning.{Effect, meaning, Goes, Branches, Loads, Stores, Faults, Calls, Privileged}

-- lw $2,4($4)
pub load_word : instruction_of 0x8C82_0004 ≡ instr.Lw 2 4 4
load_word = refl

-- addiu $2,$0,5
pub load_five : instruction_of 0x2402_0005 ≡ instr.Addiu 2 0 5
load_five = refl

-- jalr $5,$5 is no instruction
pub link_into_its_own_target : instruction_of 0x00A0_2809 ≡ instr.Reserved 0x00A0_2809
link_into_its_own_target = refl

-- addiu $4,$0,65
pub load_a_letter : instruction_of 0x2404_0041 ≡ instr.Addiu 4 0 65
load_a_letter = refl

-- addiu $2,$0,1
pub load_one : instruction_of 0x2402_0001 ≡ instr.Addiu 2 0 1
load_one = refl

-- syscall
pub call : instruction_of 0x0000_000C ≡ instr.Syscall 0
call = refl

-- lw $8,0($9)
pub load_without_offset : instruction_of 0x8D28_0000 ≡ instr.Lw 8 9 0
load_without_offset = refl

-- lui $8,0x41
pub load_page : instruction_of 0x3C08_0041 ≡ instr.Lui 8 0x41
load_page = refl

-- sw $8,0($8)
pub store_word : instruction_of 0xAD08_0000 ≡ instr.Sw 8 8 0
store_word = refl

-- lui $8,0x1234
pub load_upper : instruction_of 0x3C08_1234 ≡ instr.Lui 8 0x1234
load_upper = refl

-- sw $0,4($8)
pub store_zero : instruction_of 0xAD00_0004 ≡ instr.Sw 0 8 4
store_zero = refl

-- addu $a0,$sp,$ra
pub sum_of_two : instruction_of 0x03BF_2021 ≡ instr.Addu 4 29 31
sum_of_two = refl

-- the word of addu $a0,$sp,$ra
pub word_of_a_sum : encoded (instr.Addu 4 29 31) ≡ 0x03BF_2021
word_of_a_sum = refl

-- the word of syscall 0x12345
pub word_of_a_call : encoded (instr.Syscall 0x12345) ≡ 0x0048_D14C
word_of_a_call = refl

-- sw $31,-32768($29) reads both and writes none
pub uses_of_a_store : uses (instruction_of 0xAFBF_8000) ≡ storing size.Word (Some 29) (Some 31)
uses_of_a_store = refl

-- jalr $5,$6 links in register 5
pub uses_of_a_call : uses (instruction_of 0x00C0_2809) ≡ branching (Some 6) None (Some 5)
uses_of_a_call = refl

-- lwl $2,4($3) merges into register 2, and so reads it
pub uses_of_a_part : uses (instruction_of 0x8862_0004) ≡ loading size.Part (Some 3) (Some 2) (Some 2)
uses_of_a_part = refl

-- mfc2 $4,$5, a word of coprocessor 2
pub of_coprocessor_2 : instruction_of 0x4804_2800 ≡ instr.Cop 2 0x4804_2800
of_coprocessor_2 = refl

-- swc1 $31,-4($31), a word of coprocessor 1
pub of_coprocessor_1 : instruction_of 0xE7FF_FFFC ≡ instr.Cop 1 0xE7FF_FFFC
of_coprocessor_1 = refl

-- tlbwr
pub write_at_random : instruction_of 0x4200_0006 ≡ instr.Tlbwr
write_at_random = refl

-- the same with a bit between the top of rs and the function
pub operation_with_a_bit : instruction_of 0x4200_0046 ≡ instr.Cop 0 0x4200_0046
operation_with_a_bit = refl

-- a load of coprocessor 0
pub load_of_coprocessor_0 : instruction_of 0xC000_0000 ≡ instr.Reserved 0xC000_0000
load_of_coprocessor_0 = refl

-- bgezal $31,.+12
pub link_of_what_it_links : instruction_of 0x07F1_0002 ≡ instr.Reserved 0x07F1_0002
link_of_what_it_links = refl

-- the names, in the order of the rows
pub names :
    map (λ row. row.name) rows ≡
    codes "sll" ∷ codes "srl" ∷ codes "sra" ∷ codes "sllv" ∷ codes "srlv" ∷ codes "srav" ∷
    codes "jr" ∷ codes "jalr" ∷ codes "syscall" ∷ codes "break" ∷ codes "mfhi" ∷ codes "mthi" ∷
    codes "mflo" ∷ codes "mtlo" ∷ codes "mult" ∷ codes "multu" ∷ codes "div" ∷ codes "divu" ∷
    codes "add" ∷ codes "addu" ∷ codes "sub" ∷ codes "subu" ∷ codes "and" ∷ codes "or" ∷
    codes "xor" ∷ codes "nor" ∷ codes "slt" ∷ codes "sltu" ∷ codes "bltz" ∷ codes "bgez" ∷
    codes "bltzal" ∷ codes "bgezal" ∷ codes "j" ∷ codes "jal" ∷ codes "beq" ∷ codes "bne" ∷
    codes "blez" ∷ codes "bgtz" ∷ codes "addi" ∷ codes "addiu" ∷ codes "slti" ∷ codes "sltiu" ∷
    codes "andi" ∷ codes "ori" ∷ codes "xori" ∷ codes "lui" ∷ codes "lb" ∷ codes "lh" ∷
    codes "lwl" ∷ codes "lw" ∷ codes "lbu" ∷ codes "lhu" ∷ codes "lwr" ∷ codes "sb" ∷
    codes "sh" ∷ codes "swl" ∷ codes "sw" ∷ codes "swr" ∷ codes "mfc0" ∷ codes "mtc0" ∷
    codes "tlbr" ∷ codes "tlbwi" ∷ codes "tlbwr" ∷ codes "tlbp" ∷ codes "rfe" ∷ []
names = refl

-- register 8 at 0x0041_0000 and register 9 at 66
abbrev pub before : Registers
before = written (written zero_registers 8 0x0041_0000) 9 66

-- lw $9,0($8) asks for the word at 0x0041_0000
pub load_asks : meaning (instruction_of 0x8D09_0000) 0x0040_0000 before ≡ Loads size.Word 0x0041_0000 (λ w. loaded before 9 w)
load_asks = refl

-- the registers after it, where memory has 65
abbrev pub late : Registers
late = loaded before 9 65

-- addu $4,$9,$0 after it reads the old 66 of register 9
pub next_reads_old : meaning (instruction_of 0x0120_2021) 0x0040_0004 late ≡ Goes (written late 4 66)
next_reads_old = refl

-- and what follows that reads the new 65
pub then_reads_new : read (written late 4 66) 9 ≡ 65
then_reads_new = refl

-- addiu $9,$0,1 after it wins: register 9 is 1
pub next_write_wins : meaning (instruction_of 0x2409_0001) 0x0040_0004 late ≡ Goes (record late { general = slice_set late.general 9 1; late = None })
next_write_wins = refl

-- a second load of register 9 counts the first as its old value
pub second_load_keeps_first : read (loaded late 9 67) 9 ≡ 65
second_load_keeps_first = refl

-- a load into register 0 leaves 0 there and nothing late
pub load_into_zero : loaded before 0 65 ≡ settled before
load_into_zero = refl

-- addiu $29,$29,-32768 wraps
pub sum_wraps : meaning (instruction_of 0x27BD_8000) 0x0040_0000 before ≡ Goes (written before 29 0xFFFF_8000)
sum_wraps = refl

-- sll $1,$9,31 drops the bits that leave the word
pub shift_drops : meaning (instruction_of 0x0009_0FC0) 0x0040_0000 (written zero_registers 9 3) ≡ Goes (written (written zero_registers 9 3) 1 0x8000_0000)
shift_drops = refl

-- sw $9,-4($8) asks for the word below, and puts 66 there
pub store_asks : meaning (instruction_of 0xAD09_FFFC) 0x0040_0000 before ≡ Stores size.Word 0x0040_FFFC (λ w. 66)
store_asks = refl

-- j 0x00400000
pub jump_in_its_region : meaning (instruction_of 0x0810_0000) 0x0040_0010 before ≡ Branches (settled before) 0x0040_0000
jump_in_its_region = refl

-- j in the last word of a region of 2^28 bytes: its slot is in the next, and so is its target
pub jump_at_the_end_of_a_region : meaning (instruction_of 0x0800_0001) 0x0FFF_FFFC before ≡ Branches (settled before) 0x1000_0004
jump_at_the_end_of_a_region = refl

-- jal 0x00400010
pub call_links : meaning (instruction_of 0x0C10_0004) 0x0040_0000 before ≡ Branches (written before 31 0x0040_0008) 0x0040_0010
call_links = refl

-- jalr $31,$8 to an address off four
pub jump_off_four : meaning (instruction_of 0x0100_F809) 0x0040_0004 (written before 8 0x0040_0002) ≡ Branches (written (written before 8 0x0040_0002) 31 0x0040_000C) 0x0040_0002
jump_off_four = refl

-- beq $0,$0,. comes back to itself
pub branch_to_itself : meaning (instruction_of 0x1000_FFFF) 0x0040_0008 before ≡ Branches (settled before) 0x0040_0008
branch_to_itself = refl

-- bne $0,$0,. goes on after its slot
pub branch_not_taken : meaning (instruction_of 0x1400_FFFF) 0x0040_0008 before ≡ Branches (settled before) 0x0040_0010
branch_not_taken = refl

-- bgez $0,.-131068 wraps
pub branch_wraps : meaning (instruction_of 0x0401_8000) 0 before ≡ Branches (settled before) 0xFFFE_0004
branch_wraps = refl

-- bltzal $0,.+12 is not taken, and links all the same
pub link_without_branch : meaning (instruction_of 0x0410_0002) 0x0040_0000 before ≡ Branches (written before 31 0x0040_0008) 0x0040_0008
link_without_branch = refl

-- registers 4 and 5
abbrev pub two : ℕ → ℕ → Registers
two x y = written (written zero_registers 4 x) 5 y

-- mult $4,$5 of the lowest number and 2
pub product_of_the_lowest : meaning (instruction_of 0x0085_0018) 0 (two 0x8000_0000 2) ≡ Goes (record (two 0x8000_0000 2) { hi = 0xFFFF_FFFF; lo = 0 })
product_of_the_lowest = refl

-- multu $4,$5
pub unsigned_product : meaning (instruction_of 0x0085_0019) 0 (two 0x8000_0000 2) ≡ Goes (record (two 0x8000_0000 2) { hi = 1; lo = 0 })
unsigned_product = refl

-- div $4,$5 of -7 and 2
pub quotient_cut_toward_zero : meaning (instruction_of 0x0085_001A) 0 (two 0xFFFF_FFF9 2) ≡ Goes (record (two 0xFFFF_FFF9 2) { hi = 0xFFFF_FFFF; lo = 0xFFFF_FFFD })
quotient_cut_toward_zero = refl

-- divu $4,$5 by 0
pub quotient_by_zero : meaning (instruction_of 0x0085_001B) 0 (two 5 0) ≡ Goes (record (two 5 0) { hi = 5; lo = 0 })
quotient_by_zero = refl

-- div $4,$5 of the lowest number and -1
pub lowest_by_minus_one : meaning (instruction_of 0x0085_001A) 0 (two 0x8000_0000 0xFFFF_FFFF) ≡ Goes (record (two 0x8000_0000 0xFFFF_FFFF) { hi = 0; lo = 0x8000_0000 })
lowest_by_minus_one = refl

-- add $2,$4,$5 above the greatest number
pub sum_overflows : meaning (instruction_of 0x0085_1020) 0 (two 0x7FFF_FFFF 1) ≡ Faults 12
sum_overflows = refl

-- sub $2,$4,$5 below the lowest number
pub difference_overflows : meaning (instruction_of 0x0085_1022) 0 (two 0x8000_0000 1) ≡ Faults 12
difference_overflows = refl

-- add $2,$4,$5 of -1 and 1
pub sum_across_zero : meaning (instruction_of 0x0085_1020) 0 (two 0xFFFF_FFFF 1) ≡ Goes (written (two 0xFFFF_FFFF 1) 2 0)
sum_across_zero = refl

-- slt $2,$4,$5 of -1 and 1
pub signed_order : meaning (instruction_of 0x0085_102A) 0 (two 0xFFFF_FFFF 1) ≡ Goes (written (two 0xFFFF_FFFF 1) 2 1)
signed_order = refl

-- sltu $2,$4,$5 of the greatest word and 1
pub unsigned_order : meaning (instruction_of 0x0085_102B) 0 (two 0xFFFF_FFFF 1) ≡ Goes (written (two 0xFFFF_FFFF 1) 2 0)
unsigned_order = refl

-- sra $2,$4,4 copies the sign
pub shift_copies_the_sign : meaning (instruction_of 0x0004_1103) 0 (two 0x8000_0010 0) ≡ Goes (written (two 0x8000_0010 0) 2 0xF800_0001)
shift_copies_the_sign = refl

-- the registers after a load of a word, if an effect is one
abbrev pub loaded_from : ℕ → Effect → Option Registers
loaded_from w e = elim e [ Goes _ ↦ None | Branches _ _ ↦ None | Loads _ _ after ↦ Some (after w) | Stores _ _ _ ↦ None | Faults _ ↦ None | Calls ↦ None | Privileged ↦ None ]

-- the word that a store makes of a word, if an effect is one
abbrev pub stored_over : ℕ → Effect → Option ℕ
stored_over w e = elim e [ Goes _ ↦ None | Branches _ _ ↦ None | Loads _ _ _ ↦ None | Stores _ _ after ↦ Some (after w) | Faults _ ↦ None | Calls ↦ None | Privileged ↦ None ]

-- register 9 with a word whose bytes differ, to be merged at the second byte of the word at 0x0041_0000
abbrev pub merging : Registers
merging = written before 9 0xAABB_CCDD

-- lwl $9,1($8)
pub merges_left : loaded_from 0x4433_2211 (meaning (instruction_of 0x8909_0001) 0 merging) ≡ Some (loaded merging 9 0x2211_CCDD)
merges_left = refl

-- lwr $9,1($8)
pub merges_right : loaded_from 0x4433_2211 (meaning (instruction_of 0x9909_0001) 0 merging) ≡ Some (loaded merging 9 0xAA44_3322)
merges_right = refl

-- swl $9,1($8)
pub stores_left : stored_over 0x4433_2211 (meaning (instruction_of 0xA909_0001) 0 merging) ≡ Some 0x4433_AABB
stores_left = refl

-- swr $9,1($8)
pub stores_right : stored_over 0x4433_2211 (meaning (instruction_of 0xB909_0001) 0 merging) ≡ Some 0xBBCC_DD11
stores_right = refl

-- lwl after a load of its register merges with what was loaded
pub merges_with_the_late : loaded_from 0x4433_2211 (meaning (instruction_of 0x8909_0001) 0 late) ≡ Some (loaded late 9 0x2211_0041)
merges_with_the_late = refl

-- lh $9,2($8) carries the sign
pub half_carries_its_sign : loaded_from 0x8001_2211 (meaning (instruction_of 0x8509_0002) 0 before) ≡ Some (loaded before 9 0xFFFF_8001)
half_carries_its_sign = refl

-- sb $9,1($8) changes one byte
pub byte_is_stored : stored_over 0x4433_2211 (meaning (instruction_of 0xA109_0001) 0 before) ≡ Some 0x4433_4211
byte_is_stored = refl

-- break
pub breakpoint_faults : meaning (instruction_of 0x0000_000D) 0x0040_0000 before ≡ Faults 9
breakpoint_faults = refl

-- mfc2 $4,$5
pub coprocessor_is_asked : meaning (instruction_of 0x4804_2800) 0x0040_0000 before ≡ Privileged
coprocessor_is_asked = refl

-- syscall
pub call_calls : meaning (instruction_of 0x0000_000C) 0x0040_0000 before ≡ Calls
call_calls = refl

-- a reserved word
pub reserved_faults : meaning (instruction_of 0x00A0_2809) 0x0040_0000 before ≡ Faults 10
reserved_faults = refl
