-- Worked notes on sources.
use Rattle.std.specs.Prelude.{codes, flat_map, refl, ◌≡◌, ℕ, List, [], ◌∷◌, ◌++◌, None, Result, Ok}
use Prim.Native.String.{String}
use Rattle.ds_word.specs.ResultBinding.{◌>>=◌}
use Rattle.ds_asm.specs.declared.fault.SourceFault.{SourceFault}
use Rattle.ds_asm.specs.Assembly.{assembled}
use Rattle.ds_asm.specs.Inner.OnLiterals.{asm_on_literals}
use Rattle.ds_listing.specs.Listing.{rows_of}
use Rattle.ds_check.specs.declared.notes.instruction.CodeNote.{CodeNote}
use Rattle.ds_check.specs.declared.notes.instruction.CodeNote.TheVariants.{BranchInSlot, LoadDelay, KernelRegister}
use Rattle.ds_check.specs.declared.notes.instruction.PlacedNote.{PlacedNote}
use Rattle.ds_check.specs.CodeNotes.{notes_after}

-- the notes on the source of these lines
abbrev noted : List String → Result (List PlacedNote) SourceFault
noted lines = notes_of (flat_map (λ line. codes line ++ 10 ∷ []) lines)
  where
    notes_of : List ℕ → Result (List PlacedNote) SourceFault
    notes_of text = assembled text >>= (λ image. Ok (notes_after None (rows_of text image)))

-- a note on a line, whose word stands after so many bytes
abbrev on : ℕ → ℕ → CodeNote → PlacedNote
on line offset note = record { at = record { line = line; offset = offset }; note = note }

-- Loads that are late.

pub a_load_is_read_by_the_next : noted ("lw $8,0($9)" ∷ "addu $4,$8,$0" ∷ []) ≡ Ok (on 2 4 (LoadDelay 8) ∷ [])
unfolding asm_on_literals
a_load_is_read_by_the_next = refl

pub a_nop_stands_between : noted ("lw $8,0($9)" ∷ "nop" ∷ "addu $4,$8,$0" ∷ []) ≡ Ok []
unfolding asm_on_literals
a_nop_stands_between = refl

pub another_register_is_read : noted ("lw $8,0($9)" ∷ "addu $4,$9,$10" ∷ []) ≡ Ok []
unfolding asm_on_literals
another_register_is_read = refl

pub register_0_is_never_late : noted ("lw $0,0($9)" ∷ "addu $4,$0,$0" ∷ []) ≡ Ok []
unfolding asm_on_literals
register_0_is_never_late = refl

pub a_register_that_is_read_twice_has_one_note : noted ("lw $8,0($9)" ∷ "addu $4,$8,$8" ∷ []) ≡ Ok (on 2 4 (LoadDelay 8) ∷ [])
unfolding asm_on_literals
a_register_that_is_read_twice_has_one_note = refl

pub a_load_is_stored_by_the_next : noted ("lbu $9,0($8)" ∷ "sw $9,4($8)" ∷ []) ≡ Ok (on 2 4 (LoadDelay 9) ∷ [])
unfolding asm_on_literals
a_load_is_stored_by_the_next = refl

-- a merge reads what was loaded last, but its address is read too early
pub a_merge_after_a_merge : noted ("lwr $8,1($9)" ∷ "lwl $8,4($9)" ∷ []) ≡ Ok []
unfolding asm_on_literals
a_merge_after_a_merge = refl

pub a_merge_from_a_late_address : noted ("lw $9,0($8)" ∷ "lwl $9,0($9)" ∷ []) ≡ Ok (on 2 4 (LoadDelay 9) ∷ [])
unfolding asm_on_literals
a_merge_from_a_late_address = refl

pub lines_without_bytes_are_passed_over : noted ("lw $8,0($9)" ∷ "" ∷ "# a comment" ∷ "here:" ∷ "sw $8,0($4)" ∷ []) ≡ Ok (on 5 4 (LoadDelay 8) ∷ [])
unfolding asm_on_literals
lines_without_bytes_are_passed_over = refl

pub data_stand_between : noted ("lw $8,0($9)" ∷ ".space 8" ∷ "addu $4,$8,$0" ∷ []) ≡ Ok []
unfolding asm_on_literals
data_stand_between = refl

-- the word of lw $8,0($9)
pub a_word_is_read_as_an_instruction : noted (".word 0x8D280000" ∷ "addu $4,$8,$0" ∷ []) ≡ Ok (on 2 4 (LoadDelay 8) ∷ [])
unfolding asm_on_literals
a_word_is_read_as_an_instruction = refl

pub a_call_reads_no_register : noted ("lw $4,0($9)" ∷ "syscall" ∷ []) ≡ Ok []
unfolding asm_on_literals
a_call_reads_no_register = refl

-- Loads in a slot: after a jump's the next line is not done.

pub a_load_in_the_slot_of_a_jump : noted ("jr $31" ∷ "lw $8,0($9)" ∷ "addu $4,$8,$0" ∷ []) ≡ Ok []
unfolding asm_on_literals
a_load_in_the_slot_of_a_jump = refl

pub a_load_in_the_slot_of_a_branch : noted ("beq $1,$2,on" ∷ "lw $8,0($9)" ∷ "on: addu $4,$8,$0" ∷ []) ≡ Ok (on 3 8 (LoadDelay 8) ∷ [])
unfolding asm_on_literals
a_load_in_the_slot_of_a_branch = refl

-- Registers 26 and 27.

pub registers_26_and_27_are_read : noted ("addu $4,$26,$27" ∷ []) ≡ Ok (on 1 0 (KernelRegister 26) ∷ on 1 0 (KernelRegister 27) ∷ [])
unfolding asm_on_literals
registers_26_and_27_are_read = refl

pub register_26_is_written : noted ("addu $26,$25,$28" ∷ []) ≡ Ok []
unfolding asm_on_literals
register_26_is_written = refl

pub register_27_is_read_while_it_is_loaded : noted ("lw $27,0($9)" ∷ "sw $27,4($9)" ∷ []) ≡ Ok (on 2 4 (LoadDelay 27) ∷ on 2 4 (KernelRegister 27) ∷ [])
unfolding asm_on_literals
register_27_is_read_while_it_is_loaded = refl

-- Branches in slots.

pub a_jump_in_the_slot_of_a_branch : noted ("here: beq $1,$2,here" ∷ "j here" ∷ "nop" ∷ []) ≡ Ok (on 2 4 BranchInSlot ∷ [])
unfolding asm_on_literals
a_jump_in_the_slot_of_a_branch = refl

pub a_branch_after_a_slot : noted ("here: j here" ∷ "nop" ∷ "beq $1,$2,here" ∷ "nop" ∷ []) ≡ Ok []
unfolding asm_on_literals
a_branch_after_a_slot = refl
