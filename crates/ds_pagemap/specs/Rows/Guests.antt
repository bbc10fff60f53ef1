-- Guests with branches, jumps, faults, products and parts of words worked out: each row is a theorem
-- about the definitions alone.
use Rattle.std.specs.Prelude.{◌≡◌, refl, codes, ℕ, zero, suc, ◌+◌, Bool, true, false, List, [], ◌∷◌, slice_index, Some, None}
use Prim.Native.String.{String}
use Rattle.ds_policy.specs.declared.grant.Right.TheVariants.{Read, Write}
use Rattle.ds_policy.specs.declared.access.Rule.TheVariants.{Number, K, A, I}
use Rattle.ds_policy.specs.declared.command.Command.TheVariants as command
use Rattle.ds_policy.specs.declared.policy.PolicyRule.{PolicyRule}
use Rattle.ds_policy.specs.Value.{PolicyValue}
use Rattle.ds_procs.specs.declared.process.Standing.TheVariants.{Parked}
use Rattle.ds_log.specs.declared.line.Line.TheVariants.{Denial}
use Rattle.ds_log.specs.declared.line.Denied.TheVariants as denied
use Rattle.ds_pagemap.specs.Machine.{Process, process_of}
use Rattle.ds_pagemap.specs.Run.{after}
use Rattle.ds_pagemap.specs.Rows.{run_on_literals, policy, data_at, first, shown, on_line_0, plain, at}

-- Branches.

pub a_taken_branch_goes_to_its_target_after_its_slot : (touch : Bool) → shown 100 12 touch (first plain ("addiu $4,$0,65" ∷ "beq $0,$0,on" ∷ "addiu $4,$4,1" ∷ "addiu $4,$4,2" ∷ "addiu $4,$4,4" ∷ "on: addiu $2,$0,1" ∷ "syscall" ∷ "addiu $2,$0,0" ∷ "syscall" ∷ []) []) ≡ (false, on_line_0 (codes "B"), [], 7)
unfolding run_on_literals
a_taken_branch_goes_to_its_target_after_its_slot true = refl
a_taken_branch_goes_to_its_target_after_its_slot false = refl

pub a_branch_that_is_not_taken_goes_on_after_its_slot : (touch : Bool) → shown 100 16 touch (first plain ("addiu $4,$0,65" ∷ "bne $0,$0,on" ∷ "addiu $4,$4,1" ∷ "addiu $4,$4,2" ∷ "addiu $4,$4,4" ∷ "on: addiu $2,$0,1" ∷ "syscall" ∷ "addiu $2,$0,0" ∷ "syscall" ∷ []) []) ≡ (false, on_line_0 (codes "H"), [], 9)
unfolding run_on_literals
a_branch_that_is_not_taken_goes_on_after_its_slot true = refl
a_branch_that_is_not_taken_goes_on_after_its_slot false = refl

pub a_routine_comes_back_after_the_slot_of_its_caller : (touch : Bool) → shown 100 14 touch (first plain ("jal on" ∷ "addiu $4,$0,65" ∷ "addiu $4,$4,2" ∷ "addiu $2,$0,1" ∷ "syscall" ∷ "addiu $2,$0,0" ∷ "syscall" ∷ "on: jr $31" ∷ "addiu $4,$4,4" ∷ []) []) ≡ (false, on_line_0 (codes "G"), [], 9)
unfolding run_on_literals
a_routine_comes_back_after_the_slot_of_its_caller true = refl
a_routine_comes_back_after_the_slot_of_its_caller false = refl

-- Slots.

-- the page is granted after the denial
pub a_denied_slot_is_done_again_with_its_branch : (touch : Bool) → shown 10 10 touch (first plain ("beq $0,$0,on" ∷ "lw $8,0($0)" ∷ "on: addiu $2,$0,0" ∷ "syscall" ∷ []) (at 1 1 (command.Grant 1 0x00000000 1 Read false) ∷ at 1 2 (command.Resume 1) ∷ [])) ≡ (false, on_line_0 [], Denial 0 1 0x00400004 denied.Load 0x00000000 (Number 0) 2 ∷ [], 5)
unfolding run_on_literals
a_denied_slot_is_done_again_with_its_branch true = refl
a_denied_slot_is_done_again_with_its_branch false = refl

pub a_call_in_a_slot_faults : (touch : Bool) → shown 10 20 touch (first plain ("loop: beq $0,$0,loop" ∷ "syscall" ∷ []) []) ≡ (false, on_line_0 [], Denial 0 1 0x00400004 denied.Exec 0x00400004 I 8 ∷ [], 10)
unfolding run_on_literals
a_call_in_a_slot_faults true = refl
a_call_in_a_slot_faults false = refl

pub a_branch_in_a_slot_faults : (touch : Bool) → shown 10 20 touch (first plain ("loop: beq $0,$0,loop" ∷ "beq $0,$0,loop" ∷ []) []) ≡ (false, on_line_0 [], Denial 0 1 0x00400004 denied.Exec 0x00400004 I 10 ∷ [], 10)
unfolding run_on_literals
a_branch_in_a_slot_faults true = refl
a_branch_in_a_slot_faults false = refl

pub a_breakpoint_in_a_slot_faults : (touch : Bool) → shown 10 20 touch (first plain ("loop: beq $0,$0,loop" ∷ "break" ∷ []) []) ≡ (false, on_line_0 [], Denial 0 1 0x00400004 denied.Exec 0x00400004 I 9 ∷ [], 10)
unfolding run_on_literals
a_breakpoint_in_a_slot_faults true = refl
a_breakpoint_in_a_slot_faults false = refl

pub a_jump_links_after_its_slot : (touch : Bool) → shown 100 12 touch (first plain ("jal on" ∷ "nop" ∷ "on: addu $4,$31,$0" ∷ "addiu $2,$0,1" ∷ "syscall" ∷ "addiu $2,$0,0" ∷ "syscall" ∷ []) []) ≡ (false, on_line_0 (8 ∷ []), [], 7)
unfolding run_on_literals
a_jump_links_after_its_slot true = refl
a_jump_links_after_its_slot false = refl

-- the process is parked at the jump, whose link is written
abbrev parked_in_a_slot : Process
parked_in_a_slot = process_of (after 1 (false ∷ []) (first plain ("jal on" ∷ "lw $8,0($0)" ∷ "on:" ∷ []) [])) 1

pub a_denied_slot_parks_at_its_jump : parked_in_a_slot.pc ≡ 0x00400000
unfolding run_on_literals
a_denied_slot_parks_at_its_jump = refl

pub a_denied_slot_parks : parked_in_a_slot.standing ≡ Parked
unfolding run_on_literals
a_denied_slot_parks = refl

pub a_denied_slot_leaves_the_link : slice_index parked_in_a_slot.registers.general 31 ≡ 0x00400008
unfolding run_on_literals
a_denied_slot_leaves_the_link = refl

-- 66 is stored, 65 is in $9
pub a_load_in_a_slot_is_late_at_the_target : shown 100 22 false (first (policy 0x00400000 (data_at 0x00410000 Write ∷ [])) ("lui $8,0x41" ∷ "addiu $9,$0,66" ∷ "sw $9,0($8)" ∷ "addiu $9,$0,65" ∷ "beq $0,$0,on" ∷ "lw $9,0($8)" ∷ "on: addu $4,$9,$0" ∷ "addiu $2,$0,1" ∷ "syscall" ∷ "addiu $2,$0,0" ∷ "syscall" ∷ []) []) ≡ (false, on_line_0 (codes "A"), [], 11)
unfolding run_on_literals
a_load_in_a_slot_is_late_at_the_target = refl

-- the same, touched
pub a_touch_finishes_a_load_of_a_slot : shown 100 22 true (first (policy 0x00400000 (data_at 0x00410000 Write ∷ [])) ("lui $8,0x41" ∷ "addiu $9,$0,66" ∷ "sw $9,0($8)" ∷ "addiu $9,$0,65" ∷ "beq $0,$0,on" ∷ "lw $9,0($8)" ∷ "on: addu $4,$9,$0" ∷ "addiu $2,$0,1" ∷ "syscall" ∷ "addiu $2,$0,0" ∷ "syscall" ∷ []) []) ≡ (false, on_line_0 (codes "B"), [], 11)
unfolding run_on_literals
a_touch_finishes_a_load_of_a_slot = refl

-- Jumps.

pub a_jump_off_4_bytes_is_denied_at_its_target : (touch : Bool) → shown 10 20 touch (first plain ("lui $8,0x40" ∷ "ori $8,$8,2" ∷ "jr $8" ∷ "nop" ∷ []) []) ≡ (false, on_line_0 [], Denial 4 1 0x00400002 denied.Fetch 0x00400002 A 4 ∷ [], 10)
unfolding run_on_literals
a_jump_off_4_bytes_is_denied_at_its_target true = refl
a_jump_off_4_bytes_is_denied_at_its_target false = refl

pub a_jump_to_a_kernel_address_is_denied : (touch : Bool) → shown 10 20 touch (first plain ("lui $8,0x8000" ∷ "jr $8" ∷ "nop" ∷ []) []) ≡ (false, on_line_0 [], Denial 3 1 0x80000000 denied.Fetch 0x80000000 K 4 ∷ [], 10)
unfolding run_on_literals
a_jump_to_a_kernel_address_is_denied true = refl
a_jump_to_a_kernel_address_is_denied false = refl

pub a_jump_to_the_general_vector_is_denied : (touch : Bool) → shown 10 20 touch (first plain ("lui $8,0x8000" ∷ "ori $8,$8,0x80" ∷ "jr $8" ∷ "nop" ∷ []) []) ≡ (false, on_line_0 [], Denial 4 1 0x80000080 denied.Fetch 0x80000080 K 4 ∷ [], 10)
unfolding run_on_literals
a_jump_to_the_general_vector_is_denied true = refl
a_jump_to_the_general_vector_is_denied false = refl

-- Faults.

pub a_breakpoint_faults : (touch : Bool) → shown 10 20 touch (first plain ("break" ∷ []) []) ≡ (false, on_line_0 [], Denial 0 1 0x00400000 denied.Exec 0x00400000 I 9 ∷ [], 10)
unfolding run_on_literals
a_breakpoint_faults true = refl
a_breakpoint_faults false = refl

-- a word of operation 48
pub a_word_of_a_reserved_operation_faults : (touch : Bool) → shown 10 20 touch (first plain (".word 0xC0000000" ∷ []) []) ≡ (false, on_line_0 [], Denial 0 1 0x00400000 denied.Exec 0x00400000 I 10 ∷ [], 10)
unfolding run_on_literals
a_word_of_a_reserved_operation_faults true = refl
a_word_of_a_reserved_operation_faults false = refl

-- a word of operation 49
pub a_load_of_a_coprocessor_faults : (touch : Bool) → shown 10 20 touch (first plain (".word 0xC4000000" ∷ []) []) ≡ (false, on_line_0 [], Denial 0 1 0x00400000 denied.Exec 0x00400000 I 11 ∷ [], 10)
unfolding run_on_literals
a_load_of_a_coprocessor_faults true = refl
a_load_of_a_coprocessor_faults false = refl

pub a_return_from_exception_faults : (touch : Bool) → shown 10 20 touch (first plain ("rfe" ∷ []) []) ≡ (false, on_line_0 [], Denial 0 1 0x00400000 denied.Exec 0x00400000 I 11 ∷ [], 10)
unfolding run_on_literals
a_return_from_exception_faults true = refl
a_return_from_exception_faults false = refl

pub an_overflow_faults : (touch : Bool) → shown 10 20 touch (first plain ("lui $8,0x7FFF" ∷ "ori $8,$8,0xFFFF" ∷ "addi $8,$8,1" ∷ []) []) ≡ (false, on_line_0 [], Denial 2 1 0x00400008 denied.Exec 0x00400008 I 12 ∷ [], 10)
unfolding run_on_literals
an_overflow_faults true = refl
an_overflow_faults false = refl

-- Products, quotients and parts of words, as the bytes that are put.

-- HI and then LO put byte by byte, the lowest first; exit
abbrev puts_hi_and_lo : List String
puts_hi_and_lo = "mfhi $16" ∷ "addu $4,$16,$0" ∷ "addiu $2,$0,1" ∷ "syscall" ∷ "srl $4,$16,8" ∷ "addiu $2,$0,1" ∷ "syscall" ∷ "srl $4,$16,16" ∷ "addiu $2,$0,1" ∷ "syscall" ∷ "srl $4,$16,24" ∷ "addiu $2,$0,1" ∷ "syscall" ∷ "mflo $16" ∷ "addu $4,$16,$0" ∷ "addiu $2,$0,1" ∷ "syscall" ∷ "srl $4,$16,8" ∷ "addiu $2,$0,1" ∷ "syscall" ∷ "srl $4,$16,16" ∷ "addiu $2,$0,1" ∷ "syscall" ∷ "srl $4,$16,24" ∷ "addiu $2,$0,1" ∷ "syscall" ∷ "addiu $2,$0,0" ∷ "syscall" ∷ []

-- two words in $8 and $9, something made of them, and HI and LO put
abbrev made_of_two : String → String → String → String → String → List String
made_of_two upper lower upper_too lower_too word = upper ∷ lower ∷ upper_too ∷ lower_too ∷ word ∷ puts_hi_and_lo

-- 80000000 times 2, signed
pub a_signed_product : shown 100 70 false (first plain (made_of_two "lui $8,0x8000" "ori $8,$8,0" "lui $9,0" "ori $9,$9,2" "mult $8,$9") []) ≡ (false, on_line_0 (255 ∷ 255 ∷ 255 ∷ 255 ∷ 0 ∷ 0 ∷ 0 ∷ 0 ∷ []), [], 33)
unfolding run_on_literals
a_signed_product = refl

-- 80000000 times 2, unsigned
pub an_unsigned_product : shown 100 70 false (first plain (made_of_two "lui $8,0x8000" "ori $8,$8,0" "lui $9,0" "ori $9,$9,2" "multu $8,$9") []) ≡ (false, on_line_0 (1 ∷ 0 ∷ 0 ∷ 0 ∷ 0 ∷ 0 ∷ 0 ∷ 0 ∷ []), [], 33)
unfolding run_on_literals
an_unsigned_product = refl

-- -7 by 2
pub a_signed_quotient_goes_to_zero : shown 100 70 false (first plain (made_of_two "lui $8,0xFFFF" "ori $8,$8,0xFFF9" "lui $9,0" "ori $9,$9,2" "div $8,$9") []) ≡ (false, on_line_0 (255 ∷ 255 ∷ 255 ∷ 255 ∷ 253 ∷ 255 ∷ 255 ∷ 255 ∷ []), [], 33)
unfolding run_on_literals
a_signed_quotient_goes_to_zero = refl

-- 80000000 by -1
pub a_signed_quotient_that_overflows : shown 100 70 false (first plain (made_of_two "lui $8,0x8000" "ori $8,$8,0" "lui $9,0xFFFF" "ori $9,$9,0xFFFF" "div $8,$9") []) ≡ (false, on_line_0 (0 ∷ 0 ∷ 0 ∷ 0 ∷ 0 ∷ 0 ∷ 0 ∷ 128 ∷ []), [], 33)
unfolding run_on_literals
a_signed_quotient_that_overflows = refl

-- 5 by 0
pub a_quotient_by_zero : shown 100 70 false (first plain (made_of_two "lui $8,0" "ori $8,$8,5" "lui $9,0" "ori $9,$9,0" "divu $8,$9") []) ≡ (false, on_line_0 (5 ∷ 0 ∷ 0 ∷ 0 ∷ 0 ∷ 0 ∷ 0 ∷ 0 ∷ []), [], 33)
unfolding run_on_literals
a_quotient_by_zero = refl

-- 44332211 in memory, AABBCCDD in $16: lwl, lwr, swl and swr at byte 1, each put
pub parts_of_a_word_are_merged : shown 200 150 false (first (policy 0x00400000 (data_at 0x00410000 Write ∷ [])) ("lui $8,0x41" ∷ "lui $9,0x4433" ∷ "ori $9,$9,0x2211" ∷ "sw $9,0($8)" ∷ "lui $16,0xAABB" ∷ "ori $16,$16,0xCCDD" ∷ "lwl $16,1($8)" ∷ "nop" ∷ "addu $4,$16,$0" ∷ "addiu $2,$0,1" ∷ "syscall" ∷ "srl $4,$16,8" ∷ "addiu $2,$0,1" ∷ "syscall" ∷ "srl $4,$16,16" ∷ "addiu $2,$0,1" ∷ "syscall" ∷ "srl $4,$16,24" ∷ "addiu $2,$0,1" ∷ "syscall" ∷ "lui $16,0xAABB" ∷ "ori $16,$16,0xCCDD" ∷ "lwr $16,1($8)" ∷ "nop" ∷ "addu $4,$16,$0" ∷ "addiu $2,$0,1" ∷ "syscall" ∷ "srl $4,$16,8" ∷ "addiu $2,$0,1" ∷ "syscall" ∷ "srl $4,$16,16" ∷ "addiu $2,$0,1" ∷ "syscall" ∷ "srl $4,$16,24" ∷ "addiu $2,$0,1" ∷ "syscall" ∷ "lui $16,0xAABB" ∷ "ori $16,$16,0xCCDD" ∷ "swl $16,1($8)" ∷ "lw $16,0($8)" ∷ "nop" ∷ "addu $4,$16,$0" ∷ "addiu $2,$0,1" ∷ "syscall" ∷ "srl $4,$16,8" ∷ "addiu $2,$0,1" ∷ "syscall" ∷ "srl $4,$16,16" ∷ "addiu $2,$0,1" ∷ "syscall" ∷ "srl $4,$16,24" ∷ "addiu $2,$0,1" ∷ "syscall" ∷ "sw $9,0($8)" ∷ "lui $16,0xAABB" ∷ "ori $16,$16,0xCCDD" ∷ "swr $16,1($8)" ∷ "lw $16,0($8)" ∷ "nop" ∷ "addu $4,$16,$0" ∷ "addiu $2,$0,1" ∷ "syscall" ∷ "srl $4,$16,8" ∷ "addiu $2,$0,1" ∷ "syscall" ∷ "srl $4,$16,16" ∷ "addiu $2,$0,1" ∷ "syscall" ∷ "srl $4,$16,24" ∷ "addiu $2,$0,1" ∷ "syscall" ∷ "addiu $2,$0,0" ∷ "syscall" ∷ []) []) ≡ (false, on_line_0 (221 ∷ 204 ∷ 17 ∷ 34 ∷ 34 ∷ 51 ∷ 68 ∷ 170 ∷ 187 ∷ 170 ∷ 51 ∷ 68 ∷ 17 ∷ 221 ∷ 204 ∷ 187 ∷ []), [], 73)
unfolding run_on_literals
parts_of_a_word_are_merged = refl

-- Many pages.

-- so many pages from an address on, all of them the page of data
abbrev data_from : ℕ → ℕ → List PolicyRule
data_from address zero = []
data_from address (suc n) = data_at address Read ∷ data_from (address + 4096) n

pub a_loop_over_60_pages_ends_touched_or_not : (touch : Bool) → shown 1000 490 touch (first (policy 0x00400000 (data_at 0x00000000 Read ∷ data_from 0x00410000 60)) ("lui $8,0x41" ∷ "lui $9,0x44" ∷ "ori $9,$9,0xC000" ∷ "loop: addu $26,$8,$0" ∷ "lw $1,0($26)" ∷ "addiu $8,$8,0x1000" ∷ "bne $8,$9,loop" ∷ "nop" ∷ "addiu $2,$0,0" ∷ "syscall" ∷ []) []) ≡ (false, on_line_0 [], [], 305)
unfolding run_on_literals
a_loop_over_60_pages_ends_touched_or_not true = refl
a_loop_over_60_pages_ends_touched_or_not false = refl

-- a process whose branch stands at the end of a page and the slot on the next
abbrev over_two_pages : PolicyValue
over_two_pages = record {
  frames = 16;
  rate = 0;
  processes = record { start = 0x00400FF8; line = 0 } ∷ [];
  pages = record { name = codes "code"; source = Some (record { name = codes "one.s"; part = 0 }) } ∷ record { name = codes "more"; source = Some (record { name = codes "one.s"; part = 1 }) } ∷ record { name = codes "data"; source = None } ∷ [];
  rules = record { process = 1; address = 0x00400000; right = Read; page = Some 0; give = false; until = None } ∷ record { process = 1; address = 0x00401000; right = Read; page = Some 1; give = false; until = None } ∷ record { process = 1; address = 0x00410000; right = Read; page = Some 2; give = false; until = None } ∷ [];
}

pub a_slot_may_stand_on_the_next_page : (touch : Bool) → shown 10 8 touch (first over_two_pages (".space 4088" ∷ "lui $8,0x41" ∷ "beq $0,$0,on" ∷ "lw $9,0($8)" ∷ "on: addiu $2,$0,0" ∷ "syscall" ∷ []) []) ≡ (false, on_line_0 [], [], 5)
unfolding run_on_literals
a_slot_may_stand_on_the_next_page true = refl
a_slot_may_stand_on_the_next_page false = refl
