-- Runs worked out: each row is a theorem about the definitions alone.
pub mod EndRows
pub mod Guests
pub mod LawRows
pub mod ShareRows
use Rattle.std.specs.Prelude.{⊤, ◌≡◌, refl, codes, ℕ, Bool, true, false, ◌++◌, List, [], ◌∷◌, replicate, flat_map, Some, None, Result, Ok, Err}
use Prim.Native.String.{String}
use Rattle.ds_policy.specs.declared.grant.Right.{Right}
use Rattle.ds_policy.specs.declared.grant.Right.TheVariants.{Read, Write}
use Rattle.ds_policy.specs.declared.access.Rule.TheVariants.{Number, K, A, I}
use Rattle.ds_policy.specs.declared.policy.PolicyRule.{PolicyRule}
use Rattle.ds_policy.specs.declared.command.Command.{Command}
use Rattle.ds_policy.specs.declared.command.Command.TheVariants as command
use Rattle.ds_policy.specs.declared.command.TimedCommand.{TimedCommand}
use Rattle.ds_policy.specs.declared.command.Character.{Character}
use Rattle.ds_policy.specs.Value.{PolicyValue}
use Rattle.ds_word.specs.Digits.{digits_from}
use Rattle.ds_policy.specs.InputLines.{timed_event_of}
use Rattle.ds_policy.specs.InputText.{with_line as with_input_line, with_lines}
use Rattle.ds_asm.specs.Images.{page_of_image}
use Rattle.ds_asm.specs.declared.fault.SourceFault.{SourceFault}
use Rattle.ds_asm.specs.declared.fault.SourceFault.TheVariants.{Syntax, UnknownLabel, DoubleLabel, Range, TooLong}
use Rattle.ds_asm.specs.Assembly.{assembled}
use Rattle.ds_asm.specs.Inner.OnLiterals.{asm_on_literals}
use Rattle.ds_log.specs.declared.line.Line.{Line}
use Rattle.ds_log.specs.declared.line.Line.TheVariants.{Denial, Refused}
use Rattle.ds_log.specs.declared.line.Denied.TheVariants as denied
use Rattle.ds_pagemap.specs.Machine.{State}
use Rattle.ds_pagemap.specs.Unit.{instruction, unit}
use Rattle.ds_pagemap.specs.Boundary.{boundary, all_queued}
use Rattle.ds_pagemap.specs.Run.{half_turn, after, goes_on}
use Rattle.ds_pagemap.specs.Inputs.{Sources, Refusal, Limit, NoSource, InSource, InputFault, BadRandom, images_from, inputs_under}
use Rattle.ds_pagemap.specs.First.{first_state}

-- lines as a text
abbrev pub source : List String → List ℕ
source lines = flat_map (λ line. codes line ++ 10 ∷ []) lines

-- Runs.

-- What an answer unfolds to compute a run on a literal.
unfoldable pub run_on_literals : ⊤
unfolding half_turn unit boundary instruction after asm_on_literals
run_on_literals = tt

-- the image, empty where a source has none
abbrev pub image_or_none : Result (List ℕ) SourceFault → List ℕ
image_or_none (Ok image) = image
image_or_none (Err fault) = []

-- one process, a page of code that it may read at 0x00400000, and a zero page of data; further rules
abbrev pub policy : ℕ → List PolicyRule → PolicyValue
policy start further = record {
  frames = 16;
  rate = 0;
  processes = record { start = start; line = 0 } ∷ [];
  pages = record { name = codes "code"; source = Some (record { name = codes "one.s"; part = 0 }) } ∷ record { name = codes "data"; source = None } ∷ [];
  rules = record { process = 1; address = 0x00400000; right = Read; page = Some 0; give = false; until = None } ∷ further;
}

-- a rule over the page of data
abbrev pub data_at : ℕ → Right → PolicyRule
data_at address right = record { process = 1; address = address; right = right; page = Some 1; give = false; until = None }

-- the first state of that policy, a source and timed commands
abbrev pub first : PolicyValue → List String → List TimedCommand → State
first p lines commands = first_state p (image_or_none (assembled (source lines)) ∷ []) (record { commands = commands; characters = [] })

-- of a run for n: whether it goes on after so many half turns, all touched or none, and the consoles, the log and the time
abbrev pub shown : ℕ → ℕ → Bool → State → Bool × List (List ℕ) × List Line × ℕ
shown n halves touch m = seen (after n (replicate halves touch) m)
  where
    seen : State → Bool × List (List ℕ) × List Line × ℕ
    seen t = (goes_on n t, t.consoles, t.log, t.time)

-- these bytes on console 0, and none on the others
abbrev pub on_line_0 : List ℕ → List (List ℕ)
on_line_0 bytes = bytes ∷ [] ∷ [] ∷ [] ∷ []

-- the policy with no further rule, at the usual start
abbrev pub plain : PolicyValue
plain = policy 0x00400000 []

-- what the operator asks for at a time, as command k
abbrev pub at : ℕ → ℕ → Command → TimedCommand
at time k c = record { time = time; number = k; command = c }

pub a_process_writes_a_character_and_ends : (touch : Bool) → shown 100 10 touch (first plain ("addiu $4,$0,65" ∷ "addiu $2,$0,1" ∷ "syscall" ∷ "addiu $2,$0,0" ∷ "syscall" ∷ []) []) ≡ (false, on_line_0 (codes "A"), [], 5)
unfolding run_on_literals
a_process_writes_a_character_and_ends true = refl
a_process_writes_a_character_and_ends false = refl

-- the same for no tick
pub a_run_for_no_time_does_nothing : shown 0 2 false (first plain ("addiu $4,$0,65" ∷ "addiu $2,$0,1" ∷ "syscall" ∷ "addiu $2,$0,0" ∷ "syscall" ∷ []) []) ≡ (false, on_line_0 [], [], 0)
unfolding run_on_literals
a_run_for_no_time_does_nothing = refl

pub a_load_with_no_entry_is_denied : (touch : Bool) → shown 10 20 touch (first plain ("lw $8,0($9)" ∷ []) []) ≡ (false, on_line_0 [], Denial 0 1 0x00400000 denied.Load 0x00000000 (Number 0) 2 ∷ [], 10)
unfolding run_on_literals
a_load_with_no_entry_is_denied true = refl
a_load_with_no_entry_is_denied false = refl

pub a_store_over_read_is_denied_with_modification : (touch : Bool) → shown 10 20 touch (first (policy 0x00400000 (data_at 0x00410000 Read ∷ [])) ("lui $8,0x41" ∷ "sw $8,0($8)" ∷ []) []) ≡ (false, on_line_0 [], Denial 1 1 0x00400004 denied.Store 0x00410000 (Number 2) 1 ∷ [], 10)
unfolding run_on_literals
a_store_over_read_is_denied_with_modification true = refl
a_store_over_read_is_denied_with_modification false = refl

pub a_store_with_no_entry_is_denied_by_rule_0 : (touch : Bool) → shown 10 20 touch (first plain ("lui $8,0x1234" ∷ "sw $0,4($8)" ∷ []) []) ≡ (false, on_line_0 [], Denial 1 1 0x00400004 denied.Store 0x12340004 (Number 0) 3 ∷ [], 10)
unfolding run_on_literals
a_store_with_no_entry_is_denied_by_rule_0 true = refl
a_store_with_no_entry_is_denied_by_rule_0 false = refl

pub a_load_of_a_kernel_address_is_denied : (touch : Bool) → shown 10 20 touch (first plain ("lui $8,0x8000" ∷ "lw $9,0($8)" ∷ []) []) ≡ (false, on_line_0 [], Denial 1 1 0x00400004 denied.Load 0x80000000 K 4 ∷ [], 10)
unfolding run_on_literals
a_load_of_a_kernel_address_is_denied true = refl
a_load_of_a_kernel_address_is_denied false = refl

pub a_load_off_4_bytes_is_denied_by_alignment : (touch : Bool) → shown 10 20 touch (first plain ("lui $8,0x8000" ∷ "lw $9,2($8)" ∷ []) []) ≡ (false, on_line_0 [], Denial 1 1 0x00400004 denied.Load 0x80000002 A 4 ∷ [], 10)
unfolding run_on_literals
a_load_off_4_bytes_is_denied_by_alignment true = refl
a_load_off_4_bytes_is_denied_by_alignment false = refl

pub a_store_off_4_bytes_is_denied_by_alignment : (touch : Bool) → shown 10 20 touch (first plain ("sw $8,1($0)" ∷ []) []) ≡ (false, on_line_0 [], Denial 0 1 0x00400000 denied.Store 0x00000001 A 5 ∷ [], 10)
unfolding run_on_literals
a_store_off_4_bytes_is_denied_by_alignment true = refl
a_store_off_4_bytes_is_denied_by_alignment false = refl

-- an empty source, and a start at the last word of the user's addresses
pub a_process_that_runs_into_kernel_addresses_is_denied : (touch : Bool) → shown 10 20 touch (first (policy 0x7FFFFFFC (data_at 0x7FFFF000 Read ∷ [])) ([]) []) ≡ (false, on_line_0 [], Denial 1 1 0x80000000 denied.Fetch 0x80000000 K 4 ∷ [], 10)
unfolding run_on_literals
a_process_that_runs_into_kernel_addresses_is_denied true = refl
a_process_that_runs_into_kernel_addresses_is_denied false = refl

-- the word of jalr $5,$5
pub a_word_that_is_no_instruction_faults : (touch : Bool) → shown 10 20 touch (first plain (".word 0x00A02809" ∷ []) []) ≡ (false, on_line_0 [], Denial 0 1 0x00400000 denied.Exec 0x00400000 I 10 ∷ [], 10)
unfolding run_on_literals
a_word_that_is_no_instruction_faults true = refl
a_word_that_is_no_instruction_faults false = refl

-- the page is narrowed, then revoked
pub a_narrowed_and_a_revoked_entry_deny_with_their_rules : (touch : Bool) → shown 10 20 touch (first (policy 0x00400000 (data_at 0x00410000 Write ∷ [])) ("lui $8,0x41" ∷ "sw $0,0($8)" ∷ "sw $0,0($8)" ∷ []) (at 2 1 (command.Narrow 1 0x00410000) ∷ at 3 2 (command.Revoke 1 0x00410000) ∷ at 3 3 (command.Resume 1) ∷ [])) ≡ (false, on_line_0 [], Denial 2 1 0x00400008 denied.Store 0x00410000 (Number 2) 1 ∷ Denial 3 1 0x00400008 denied.Store 0x00410000 (Number 1002) 3 ∷ [], 10)
unfolding run_on_literals
a_narrowed_and_a_revoked_entry_deny_with_their_rules true = refl
a_narrowed_and_a_revoked_entry_deny_with_their_rules false = refl

-- the same with a load
pub a_revoked_entry_denies_a_load : (touch : Bool) → shown 10 20 touch (first (policy 0x00400000 (data_at 0x00410000 Write ∷ [])) ("lui $8,0x41" ∷ "lw $9,0($8)" ∷ "lw $9,0($8)" ∷ []) (at 2 1 (command.Revoke 1 0x00410000) ∷ [])) ≡ (false, on_line_0 [], Denial 2 1 0x00400008 denied.Load 0x00410000 (Number 1001) 2 ∷ [], 10)
unfolding run_on_literals
a_revoked_entry_denies_a_load true = refl
a_revoked_entry_denies_a_load false = refl

-- the page is granted after the denial
pub a_parked_process_goes_on_where_it_was_denied : (touch : Bool) → shown 10 8 touch (first plain ("lw $8,0($0)" ∷ "addiu $2,$0,0" ∷ "syscall" ∷ []) (at 1 1 (command.Grant 1 0x00000000 1 Read false) ∷ at 1 2 (command.Resume 1) ∷ [])) ≡ (false, on_line_0 [], Denial 0 1 0x00400000 denied.Load 0x00000000 (Number 0) 2 ∷ [], 4)
unfolding run_on_literals
a_parked_process_goes_on_where_it_was_denied true = refl
a_parked_process_goes_on_where_it_was_denied false = refl

pub a_ready_process_is_not_resumed : (touch : Bool) → shown 100 10 touch (first plain ("addiu $4,$0,65" ∷ "addiu $2,$0,1" ∷ "syscall" ∷ "addiu $2,$0,0" ∷ "syscall" ∷ []) (at 1 1 (command.Resume 1) ∷ [])) ≡ (false, on_line_0 (codes "A"), Refused 1 1 15 ∷ [], 5)
unfolding run_on_literals
a_ready_process_is_not_resumed true = refl
a_ready_process_is_not_resumed false = refl

pub a_command_at_the_last_boundary_is_still_done : (touch : Bool) → shown 100 10 touch (first plain ("addiu $4,$0,65" ∷ "addiu $2,$0,1" ∷ "syscall" ∷ "addiu $2,$0,0" ∷ "syscall" ∷ []) (at 5 1 (command.Resume 1) ∷ [])) ≡ (false, on_line_0 (codes "A"), Refused 5 1 12 ∷ [], 5)
unfolding run_on_literals
a_command_at_the_last_boundary_is_still_done true = refl
a_command_at_the_last_boundary_is_still_done false = refl

pub a_process_that_is_not_there_is_not_stopped : (touch : Bool) → shown 100 10 touch (first plain ("addiu $4,$0,65" ∷ "addiu $2,$0,1" ∷ "syscall" ∷ "addiu $2,$0,0" ∷ "syscall" ∷ []) (at 1 1 (command.Stop 2) ∷ [])) ≡ (false, on_line_0 (codes "A"), Refused 1 1 12 ∷ [], 5)
unfolding run_on_literals
a_process_that_is_not_there_is_not_stopped true = refl
a_process_that_is_not_there_is_not_stopped false = refl

pub a_parked_process_is_stopped : (touch : Bool) → shown 10 6 touch (first plain ("lw $8,0($9)" ∷ []) (at 3 1 (command.Stop 1) ∷ [])) ≡ (false, on_line_0 [], Denial 0 1 0x00400000 denied.Load 0x00000000 (Number 0) 2 ∷ [], 3)
unfolding run_on_literals
a_parked_process_is_stopped true = refl
a_parked_process_is_stopped false = refl

pub a_grant_is_refused_off_4096_bytes_and_for_a_fifth_region : (touch : Bool) → shown 100 10 touch (first plain ("addiu $4,$0,65" ∷ "addiu $2,$0,1" ∷ "syscall" ∷ "addiu $2,$0,0" ∷ "syscall" ∷ []) (at 1 1 (command.Grant 1 0x00410001 1 Read false) ∷ at 1 2 (command.Grant 1 0x00800000 1 Read false) ∷ at 1 3 (command.Grant 1 0x00C00000 1 Read false) ∷ at 1 4 (command.Grant 1 0x01000000 1 Read false) ∷ at 1 5 (command.Grant 1 0x01400000 1 Read false) ∷ [])) ≡ (false, on_line_0 (codes "A"), Refused 1 1 13 ∷ Refused 1 5 11 ∷ [], 5)
unfolding run_on_literals
a_grant_is_refused_off_4096_bytes_and_for_a_fifth_region true = refl
a_grant_is_refused_off_4096_bytes_and_for_a_fifth_region false = refl

-- call 100, and the low byte of its answer put
pub an_unknown_call_answers_all_ones : (touch : Bool) → shown 100 14 touch (first plain ("addiu $2,$0,100" ∷ "syscall" ∷ "addu $4,$2,$0" ∷ "addiu $2,$0,1" ∷ "syscall" ∷ "addiu $2,$0,0" ∷ "syscall" ∷ []) []) ≡ (false, on_line_0 (255 ∷ []), [], 7)
unfolding run_on_literals
an_unknown_call_answers_all_ones true = refl
an_unknown_call_answers_all_ones false = refl

pub a_store_shows_at_each_address_of_its_page : (touch : Bool) → shown 100 18 touch (first (policy 0x00400000 (data_at 0x00410000 Write ∷ data_at 0x00420000 Read ∷ [])) ("lui $8,0x41" ∷ "lui $9,0x42" ∷ "addiu $10,$0,66" ∷ "sw $10,0($8)" ∷ "lw $4,0($9)" ∷ "addiu $2,$0,1" ∷ "syscall" ∷ "addiu $2,$0,0" ∷ "syscall" ∷ []) []) ≡ (false, on_line_0 (codes "B"), [], 9)
unfolding run_on_literals
a_store_shows_at_each_address_of_its_page true = refl
a_store_shows_at_each_address_of_its_page false = refl

-- 66 is stored, 65 is in $9
pub a_late_load_shows_its_old_value_to_the_next_instruction : shown 100 20 false (first (policy 0x00400000 (data_at 0x00410000 Write ∷ [])) ("lui $8,0x41" ∷ "addiu $9,$0,66" ∷ "sw $9,0($8)" ∷ "addiu $9,$0,65" ∷ "lw $9,0($8)" ∷ "addu $4,$9,$0" ∷ "addiu $2,$0,1" ∷ "syscall" ∷ "addiu $2,$0,0" ∷ "syscall" ∷ []) []) ≡ (false, on_line_0 (codes "A"), [], 10)
unfolding run_on_literals
a_late_load_shows_its_old_value_to_the_next_instruction = refl

-- the same, touched
pub a_touch_finishes_a_late_load : shown 100 20 true (first (policy 0x00400000 (data_at 0x00410000 Write ∷ [])) ("lui $8,0x41" ∷ "addiu $9,$0,66" ∷ "sw $9,0($8)" ∷ "addiu $9,$0,65" ∷ "lw $9,0($8)" ∷ "addu $4,$9,$0" ∷ "addiu $2,$0,1" ∷ "syscall" ∷ "addiu $2,$0,0" ∷ "syscall" ∷ []) []) ≡ (false, on_line_0 (codes "B"), [], 10)
unfolding run_on_literals
a_touch_finishes_a_late_load = refl

-- 66 is stored
pub a_write_wins_over_a_late_load : (touch : Bool) → shown 100 20 touch (first (policy 0x00400000 (data_at 0x00410000 Write ∷ [])) ("lui $8,0x41" ∷ "addiu $9,$0,66" ∷ "sw $9,0($8)" ∷ "lw $9,0($8)" ∷ "addiu $9,$0,1" ∷ "ori $4,$9,0x40" ∷ "addiu $2,$0,1" ∷ "syscall" ∷ "addiu $2,$0,0" ∷ "syscall" ∷ []) []) ≡ (false, on_line_0 (codes "A"), [], 10)
unfolding run_on_literals
a_write_wins_over_a_late_load true = refl
a_write_wins_over_a_late_load false = refl

pub register_27_begins_as_zero : shown 100 12 false (first plain ("nop" ∷ "addu $4,$27,$0" ∷ "addiu $2,$0,1" ∷ "syscall" ∷ "addiu $2,$0,0" ∷ "syscall" ∷ []) []) ≡ (false, on_line_0 (0 ∷ []), [], 6)
unfolding run_on_literals
register_27_begins_as_zero = refl

-- the same, touched
pub a_touch_puts_the_address_into_register_27 : shown 100 12 true (first plain ("nop" ∷ "addu $4,$27,$0" ∷ "addiu $2,$0,1" ∷ "syscall" ∷ "addiu $2,$0,0" ∷ "syscall" ∷ []) []) ≡ (false, on_line_0 (4 ∷ []), [], 6)
unfolding run_on_literals
a_touch_puts_the_address_into_register_27 = refl

pub register_26_keeps_what_was_written : shown 100 12 false (first plain ("addiu $26,$0,9" ∷ "addu $4,$26,$0" ∷ "addiu $2,$0,1" ∷ "syscall" ∷ "addiu $2,$0,0" ∷ "syscall" ∷ []) []) ≡ (false, on_line_0 (9 ∷ []), [], 6)
unfolding run_on_literals
register_26_keeps_what_was_written = refl

-- the same, touched
pub a_touch_clears_register_26 : shown 100 12 true (first plain ("addiu $26,$0,9" ∷ "addu $4,$26,$0" ∷ "addiu $2,$0,1" ∷ "syscall" ∷ "addiu $2,$0,0" ∷ "syscall" ∷ []) []) ≡ (false, on_line_0 (0 ∷ []), [], 6)
unfolding run_on_literals
a_touch_clears_register_26 = refl

-- Several processes.

-- two processes with a page of code each, and a rate
abbrev two : ℕ → PolicyValue
two rate = record {
  frames = 2;
  rate = rate;
  processes = record { start = 0x00400000; line = 0 } ∷ record { start = 0x00400000; line = 0 } ∷ [];
  pages = record { name = codes "a"; source = Some (record { name = codes "a.s"; part = 0 }) } ∷ record { name = codes "b"; source = Some (record { name = codes "b.s"; part = 0 }) } ∷ [];
  rules = record { process = 1; address = 0x00400000; right = Read; page = Some 0; give = false; until = None } ∷ record { process = 2; address = 0x00400000; right = Read; page = Some 1; give = false; until = None } ∷ [];
}

-- so many nop, and a character put; the character is a digit from 1
abbrev waits_and_puts : ℕ → String → List String
waits_and_puts n digit = replicate n "nop" ++ digit ∷ "addiu $2,$0,1" ∷ "syscall" ∷ "addiu $2,$0,0" ∷ "syscall" ∷ []

-- process 1 puts 1 after 35 words of nop, process 2 puts 2 at once
abbrev one_and_two : ℕ → State
one_and_two rate = first_state (two rate) (image_or_none (assembled (source (waits_and_puts 35 "addiu $4,$0,49"))) ∷ image_or_none (assembled (source (waits_and_puts 0 "addiu $4,$0,50"))) ∷ []) (record { commands = []; characters = [] })

pub processes_run_in_their_order : (touch : Bool) → shown 100 90 touch (one_and_two 0) ≡ (false, on_line_0 (codes "12"), [], 45)
unfolding run_on_literals
processes_run_in_their_order true = refl
processes_run_in_their_order false = refl

-- rate 3 is a period of 32 ticks
pub a_rate_lets_the_next_process_run : (touch : Bool) → shown 100 90 touch (one_and_two 3) ≡ (false, on_line_0 (codes "21"), [], 45)
unfolding run_on_literals
a_rate_lets_the_next_process_run true = refl
a_rate_lets_the_next_process_run false = refl

-- Characters.

-- the letter A n times for line 0, all at time 1
abbrev keys : ℕ → List Character
keys n = replicate n (record { time = 1; line = 0; byte = 65 })

-- what waits to be read after so many half turns of a process that does nothing
abbrev waiting : ℕ → List Character → List (List ℕ)
waiting halves characters = (after 100 (replicate halves false) (first_state plain ([] ∷ []) (record { commands = []; characters = characters }))).queues

pub at_most_64_characters_come_in_at_a_boundary : waiting 2 (keys 65) ≡ on_line_0 (replicate 64 65)
unfolding run_on_literals
at_most_64_characters_come_in_at_a_boundary = refl

pub no_character_comes_in_before_its_time : waiting 1 (keys 1) ≡ on_line_0 []
unfolding run_on_literals
no_character_comes_in_before_its_time = refl

pub a_queue_takes_256_characters : all_queued (on_line_0 (replicate 250 66)) (keys 10) ≡ on_line_0 (replicate 250 66 ++ replicate 6 65)
a_queue_takes_256_characters = refl

-- Pages.

pub a_part_past_the_end_is_zero : page_of_image (1 ∷ 2 ∷ []) 1 ≡ replicate 4096 0
a_part_past_the_end_is_zero = refl

pub a_part_is_filled_up_with_zeros : page_of_image (1 ∷ 2 ∷ []) 0 ≡ 1 ∷ 2 ∷ replicate 4094 0
a_part_is_filled_up_with_zeros = refl

pub a_part_is_a_page_of_the_image : page_of_image (replicate 4096 1 ++ replicate 4096 2 ++ replicate 4096 3) 1 ≡ replicate 4096 2
a_part_is_a_page_of_the_image = refl

-- Inputs.

-- a source without a fault, and one with a fault in its second line
abbrev good : String → List ℕ × List ℕ
good name = (codes name, codes "syscall")

-- a source of this name whose second line is wrong
abbrev bad : String → List ℕ × List ℕ
bad name = (codes name, source ("syscall" ∷ "lw $1" ∷ []))

-- inputs under the policy with one source, its start and further rules being of no matter
abbrev under : Sources → String → ℕ → ℕ → Result State Refusal
under sources input n random = inputs_under plain sources (codes input) n random

pub good_inputs_have_a_first_state : under (good "one.s" ∷ []) "" 100 63 ≡ Ok (first plain ("syscall" ∷ []) [])
unfolding inputs_under images_from asm_on_literals with_lines with_input_line
good_inputs_have_a_first_state = refl

pub a_source_is_missed_by_its_name : under (good "two.s" ∷ []) "" 100 63 ≡ Err (NoSource (codes "one.s"))
unfolding inputs_under images_from
a_source_is_missed_by_its_name = refl

pub of_two_sources_of_a_name_the_first_counts : under (bad "one.s" ∷ good "one.s" ∷ []) "" 100 63 ≡ Err (InSource (codes "one.s") (Syntax 2))
unfolding inputs_under images_from asm_on_literals
of_two_sources_of_a_name_the_first_counts = refl

pub a_label_that_stands_nowhere_is_told : under ((codes "one.s", codes "nop\nj y") ∷ []) "" 100 63 ≡ Err (InSource (codes "one.s") (UnknownLabel 2))
unfolding inputs_under images_from asm_on_literals
a_label_that_stands_nowhere_is_told = refl

pub a_label_that_stands_twice_is_told : under ((codes "one.s", codes "x: nop\nx: nop") ∷ []) "" 100 63 ≡ Err (InSource (codes "one.s") (DoubleLabel 2))
unfolding inputs_under images_from asm_on_literals
a_label_that_stands_twice_is_told = refl

pub a_number_out_of_range_is_told : under ((codes "one.s", codes "addiu $1,$0,40000") ∷ []) "" 100 63 ≡ Err (InSource (codes "one.s") (Range 1))
unfolding inputs_under images_from asm_on_literals
a_number_out_of_range_is_told = refl

pub one_statement_too_many_is_told : under ((codes "one.s", codes ".space 65536\nnop") ∷ []) "" 100 63 ≡ Err (InSource (codes "one.s") (TooLong 2))
unfolding inputs_under images_from asm_on_literals
one_statement_too_many_is_told = refl

pub a_source_that_no_page_names_is_not_read : under (bad "two.s" ∷ good "one.s" ∷ []) "" 100 63 ≡ Ok (first plain ("syscall" ∷ []) [])
unfolding inputs_under images_from asm_on_literals with_lines with_input_line
a_source_that_no_page_names_is_not_read = refl

pub a_source_is_refused_before_the_input : under (bad "one.s" ∷ []) "?" 1000000001 7 ≡ Err (InSource (codes "one.s") (Syntax 2))
unfolding inputs_under images_from asm_on_literals
a_source_is_refused_before_the_input = refl

pub the_input_is_refused_before_the_ticks : under (good "one.s" ∷ []) "?" 1000000001 7 ≡ Err (InputFault 1)
unfolding inputs_under images_from asm_on_literals digits_from with_lines with_input_line timed_event_of
the_input_is_refused_before_the_ticks = refl

pub the_ticks_are_refused_before_random : under (good "one.s" ∷ []) "" 1000000001 7 ≡ Err (Limit (codes "n"))
unfolding inputs_under images_from asm_on_literals with_lines with_input_line
the_ticks_are_refused_before_random = refl

pub random_starts_from_8 : under (good "one.s" ∷ []) "" 1000000000 7 ≡ Err BadRandom
unfolding inputs_under images_from asm_on_literals with_lines with_input_line
random_starts_from_8 = refl

pub random_starts_below_64 : under (good "one.s" ∷ []) "" 1000000000 64 ≡ Err BadRandom
unfolding inputs_under images_from asm_on_literals with_lines with_input_line
random_starts_below_64 = refl
