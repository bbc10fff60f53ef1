-- Guests that are quiet, and guests that are not: each row is a theorem about the definitions alone.
use Rattle.std.specs.Prelude.{◌≡◌, refl, Bool, true, false, List, [], ◌∷◌, replicate}
use Prim.Native.String.{String}
use Rattle.ds_policy.specs.declared.grant.Right.TheVariants.{Write}
use Rattle.ds_pagemap.specs.Machine.{State}
use Rattle.ds_pagemap.specs.Run.{goes_on, after}
use Rattle.ds_pagemap.specs.Rows.{run_on_literals, policy, data_at, first, plain}
use Rattle.ds_promise.specs.Quiet.{quiet_halves}

-- of a run for 100 ticks that never touches: whether it goes on after 20 half turns, and whether these are quiet
abbrev pub shown : State → Bool × Bool
shown m = (goes_on 100 (after 100 (replicate 20 false) m), quiet_halves 100 20 m)

-- one process with this source
abbrev pub guest : List String → State
guest lines = first plain lines []

-- the same, with a page of data that it may write at 0x00410000
abbrev pub writer : List String → State
writer lines = first (policy 0x00400000 (data_at 0x00410000 Write ∷ [])) lines []

pub a_letter_is_written : shown (guest ("addiu $4,$0,65" ∷ "addiu $2,$0,1" ∷ "syscall" ∷ "addiu $2,$0,0" ∷ "syscall" ∷ [])) ≡ (false, true)
unfolding run_on_literals
a_letter_is_written = refl

-- Registers 26 and 27.

pub register_26_is_read : shown (guest ("addu $4,$26,$0" ∷ "syscall" ∷ [])) ≡ (false, false)
unfolding run_on_literals
register_26_is_read = refl

pub register_26_is_written : shown (guest ("addiu $26,$0,5" ∷ "syscall" ∷ [])) ≡ (false, true)
unfolding run_on_literals
register_26_is_written = refl

pub register_27_is_stored : shown (writer ("lui $8,0x41" ∷ "sw $27,0($8)" ∷ "syscall" ∷ [])) ≡ (false, false)
unfolding run_on_literals
register_27_is_stored = refl

pub register_8_is_stored : shown (writer ("lui $8,0x41" ∷ "sw $8,0($8)" ∷ "syscall" ∷ [])) ≡ (false, true)
unfolding run_on_literals
register_8_is_stored = refl

-- the store is denied, and has read its operands
pub register_27_is_stored_in_vain : quiet_halves 100 4 (guest ("lui $8,0x41" ∷ "sw $27,0($8)" ∷ [])) ≡ false
unfolding run_on_literals
register_27_is_stored_in_vain = refl

pub register_27_is_read_in_a_slot : shown (guest ("beq $0,$0,on" ∷ "addu $4,$27,$0" ∷ "on: syscall" ∷ [])) ≡ (false, false)
unfolding run_on_literals
register_27_is_read_in_a_slot = refl

pub a_part_is_merged_into_register_26 : shown (guest ("lui $9,0x40" ∷ "lwl $26,0($9)" ∷ "syscall" ∷ [])) ≡ (false, false)
unfolding run_on_literals
a_part_is_merged_into_register_26 = refl

pub a_word_is_loaded_into_register_26 : shown (guest ("lui $9,0x40" ∷ "lw $26,0($9)" ∷ "syscall" ∷ [])) ≡ (false, true)
unfolding run_on_literals
a_word_is_loaded_into_register_26 = refl

-- Loads that are late.

pub a_load_is_followed_by_its_reader : shown (guest ("lui $9,0x40" ∷ "lw $8,0($9)" ∷ "addu $4,$8,$0" ∷ "syscall" ∷ [])) ≡ (false, false)
unfolding run_on_literals
a_load_is_followed_by_its_reader = refl

pub a_load_is_read_an_instruction_later : shown (guest ("lui $9,0x40" ∷ "lw $8,0($9)" ∷ "nop" ∷ "addu $4,$8,$0" ∷ "syscall" ∷ [])) ≡ (false, true)
unfolding run_on_literals
a_load_is_read_an_instruction_later = refl

pub a_load_is_followed_by_a_store_of_it : shown (writer ("lui $8,0x41" ∷ "lw $9,0($8)" ∷ "sw $9,0($8)" ∷ "syscall" ∷ [])) ≡ (false, false)
unfolding run_on_literals
a_load_is_followed_by_a_store_of_it = refl

pub a_load_is_followed_by_a_load_from_there : quiet_halves 100 6 (guest ("lui $9,0x40" ∷ "lw $9,0($9)" ∷ "lb $10,0($9)" ∷ [])) ≡ false
unfolding run_on_literals
a_load_is_followed_by_a_load_from_there = refl

-- the merge reads what was loaded last
pub a_left_part_is_merged_after_a_right_part : shown (guest ("lui $9,0x40" ∷ "lwr $8,1($9)" ∷ "lwl $8,4($9)" ∷ "syscall" ∷ [])) ≡ (false, true)
unfolding run_on_literals
a_left_part_is_merged_after_a_right_part = refl

-- a call reads none of the registers of its process
pub a_load_is_late_at_a_call : shown (guest ("lui $9,0x40" ∷ "lw $4,0($9)" ∷ "syscall" ∷ [])) ≡ (false, true)
unfolding run_on_literals
a_load_is_late_at_a_call = refl
