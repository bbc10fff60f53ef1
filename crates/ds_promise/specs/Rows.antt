-- The definitions worked out: each row is a theorem about the definitions alone.
pub mod QuietRows
use Rattle.std.proofs.Common.{inl, inr}
use Rattle.std.specs.Prelude.{◌≡◌, refl, ℕ, Bool, true, false, List, [], ◌∷◌, ◌++◌, replicate, Some, None}
use Rattle.ds_word.specs.Bytes.{word_at}
use Rattle.ds_isa.specs.Instruction.{instruction_of}
use Rattle.ds_isa.specs.Meaning.{meaning}
use Rattle.ds_isa.specs.declared.instr.Size.TheVariants.{Word}
use Rattle.ds_isa.specs.declared.instr.Kind.TheVariants.{Load, Store}
use Rattle.ds_policy.specs.declared.access.Verdict.TheVariants.{Allowed, Denied}
use Rattle.ds_policy.specs.Value.{PolicyValue}
use Rattle.ds_policy.specs.declared.grant.Right.TheVariants.{Read, Write}
use Rattle.ds_policy.specs.declared.access.Rule.TheVariants.{Number, I}
use Rattle.ds_policy.specs.declared.command.Command.TheVariants as command
use Rattle.ds_policy.specs.Pages.{decide, entry_at, bytes_of}
use Rattle.ds_procs.specs.declared.call.Call.TheVariants as call
use Rattle.ds_log.specs.declared.line.Line.TheVariants.{Denial, Refused}
use Rattle.ds_log.specs.declared.line.Denied.TheVariants as denied
use Rattle.ds_pagemap.specs.Machine.{State, process_of}
use Rattle.ds_pagemap.specs.Run.{half_turn, after}
use Rattle.ds_pagemap.specs.Rows.{run_on_literals, policy, data_at, first, plain, at}
use Rattle.ds_promise.specs.Stores.{live_page, UnitStores}
use Rattle.ds_promise.specs.Lines.{lines_along}
use Rattle.ds_promise.specs.Denied.{InstructionStops}
use Rattle.ds_promise.specs.Whole.{UnitCopies}
use Rattle.ds_promise.specs.Answers.{answer_of}

-- Lines.

pub a_denied_load_leaves_its_line : (touch : Bool) → lines_along 10 (replicate 20 touch) (first plain ("lw $8,0($9)" ∷ []) []) ≡ Denial 0 1 0x00400000 denied.Load 0x00000000 (Number 0) 2 ∷ []
unfolding run_on_literals
a_denied_load_leaves_its_line true = refl
a_denied_load_leaves_its_line false = refl

pub a_granted_store_leaves_none : (touch : Bool) → lines_along 100 (replicate 8 touch) (first (policy 0x00400000 (data_at 0x00410000 Write ∷ [])) ("lui $8,0x41" ∷ "sw $8,0($8)" ∷ "addiu $2,$0,0" ∷ "syscall" ∷ []) []) ≡ []
unfolding run_on_literals
a_granted_store_leaves_none true = refl
a_granted_store_leaves_none false = refl

-- a give of a page that was not granted, to a process that isn't there, and a command that is refused at the last boundary
pub a_refused_give_and_a_refused_command_leave_theirs : (touch : Bool) → lines_along 100 (replicate 8 touch) (first plain ("addiu $2,$0,6" ∷ "syscall" ∷ "addiu $2,$0,0" ∷ "syscall" ∷ []) (at 4 1 (command.Resume 1) ∷ [])) ≡ Denial 1 1 0x00400004 denied.Give 0x00000000 (Number 0) 8 ∷ Refused 4 1 12 ∷ []
unfolding run_on_literals
a_refused_give_and_a_refused_command_leave_theirs true = refl
a_refused_give_and_a_refused_command_leave_theirs false = refl

-- the line names the rule of the entry at the address, which register 4 has
pub a_refused_give_names_the_rule_of_its_entry : (touch : Bool) → lines_along 100 (replicate 6 touch) (first (policy 0x00400000 (data_at 0x00410000 Write ∷ [])) ("lui $4,0x41" ∷ "addiu $2,$0,6" ∷ "syscall" ∷ []) []) ≡ Denial 2 1 0x00400008 denied.Give 0x00410000 (Number 2) 8 ∷ []
unfolding run_on_literals
a_refused_give_names_the_rule_of_its_entry true = refl
a_refused_give_names_the_rule_of_its_entry false = refl

pub a_denied_slot_leaves_its_line : (touch : Bool) → lines_along 10 (replicate 6 touch) (first plain ("beq $0,$0,on" ∷ "lw $8,0($0)" ∷ "on: nop" ∷ []) []) ≡ Denial 0 1 0x00400004 denied.Load 0x00000000 (Number 0) 2 ∷ []
unfolding run_on_literals
a_denied_slot_leaves_its_line true = refl
a_denied_slot_leaves_its_line false = refl

pub a_call_in_a_slot_leaves_its_line : (touch : Bool) → lines_along 10 (replicate 6 touch) (first plain ("beq $0,$0,on" ∷ "syscall" ∷ "on: nop" ∷ []) []) ≡ Denial 0 1 0x00400004 denied.Exec 0x00400004 I 8 ∷ []
unfolding run_on_literals
a_call_in_a_slot_leaves_its_line true = refl
a_call_in_a_slot_leaves_its_line false = refl

-- What is denied.

-- a guest at a load where nothing is granted
abbrev denying : State
denying = first plain ("lw $8,0($9)" ∷ []) []

pub the_table_denies_the_load : InstructionStops denying 1 0x00400000 (record { kind = denied.Load; address = 0; rule = Number 0; code = 2 })
unfolding run_on_literals
the_table_denies_the_load = inr (meaning (instruction_of (word_at (bytes_of denying.memory.pages 0) 0)) 0x00400000 (process_of denying 1).registers, record { page = 0; offset = 0; fetched = refl; does = refl }, record { rule = Number 0; code = 2; answer = refl; is = refl })

-- Stores.

-- a guest that may write the page of data, at its store
abbrev pub storing : State
storing = after 100 (replicate 2 false) (first (policy 0x00400000 (data_at 0x00410000 Write ∷ [])) ("lui $8,0x41" ∷ "sw $8,4($8)" ∷ []) [])

-- the page of data after it
abbrev pub written : List ℕ
written = replicate 4 0 ++ (0 ∷ 0 ∷ 0x41 ∷ 0 ∷ []) ++ replicate 4088 0

pub the_page_is_zero_before : live_page storing.memory.pages 1 ≡ Some (replicate 4096 0)
unfolding run_on_literals
the_page_is_zero_before = refl

pub the_page_has_the_word_after_it : live_page (half_turn false storing).memory.pages 1 ≡ Some written
unfolding run_on_literals
the_page_has_the_word_after_it = refl

pub it_was_stored : UnitStores storing 1 (replicate 4096 0) written
unfolding run_on_literals
it_was_stored = record {
  process = 1;
  others = [];
  no_boundary = refl;
  runs = refl;
  stored = inl (record {
    size = Word;
    address = 0x00410004;
    value = λ w. 0x00410000;
    fetches = record { page = 0; offset = 4; fetched = refl; does = refl };
    allowed = refl;
    granted = record { grant = record { right = Write; page = Some 1; rule = 2; give = false; giver = 0; parent = None; until = None }; held = refl; right = refl; names = refl };
    word = refl;
  });
}

-- A shared page.

-- process 1 may write the page of data, and process 2 may read it elsewhere
abbrev shared : PolicyValue
shared = record (policy 0x00400000 (data_at 0x00410000 Write ∷ record { process = 2; address = 0x00420000; right = Read; page = Some 1; give = false; until = None } ∷ [])) {
  processes = record { start = 0x00400000; line = 0 } ∷ record { start = 0x00400000; line = 1 } ∷ [];
}

-- at the store of process 1
abbrev sharing : State
sharing = after 100 (replicate 2 false) (first shared ("lui $8,0x41" ∷ "sw $8,4($8)" ∷ []) [])

pub the_other_reads_that_page : decide sharing.memory.table 2 Load Word 0x00420004 ≡ Allowed 1 4
unfolding run_on_literals
the_other_reads_that_page = refl

pub the_other_may_not_write_it : decide sharing.memory.table 2 Store Word 0x00420004 ≡ Denied (Number 3) 1
unfolding run_on_literals
the_other_may_not_write_it = refl

pub its_page_is_changed_for_both : live_page (half_turn false sharing).memory.pages 1 ≡ Some written
unfolding run_on_literals
its_page_is_changed_for_both = refl

-- by the entry of the process that stored, which is its own
pub by_the_entry_of_the_one_that_stored : UnitStores sharing 1 (replicate 4096 0) written
unfolding run_on_literals
by_the_entry_of_the_one_that_stored = record {
  process = 1;
  others = 2 ∷ [];
  no_boundary = refl;
  runs = refl;
  stored = inl (record {
    size = Word;
    address = 0x00410004;
    value = λ w. 0x00410000;
    fetches = record { page = 0; offset = 4; fetched = refl; does = refl };
    allowed = refl;
    granted = record { grant = record { right = Write; page = Some 1; rule = 2; give = false; giver = 0; parent = None; until = None }; held = refl; right = refl; names = refl };
    word = refl;
  });
}

-- A copy.

-- process 1 may give its page of data, gives a copy of it to process 2, and stores on its own
abbrev copying : PolicyValue
copying = record (policy 0x00400000 (record { process = 1; address = 0x00410000; right = Write; page = Some 1; give = true; until = None } ∷ [])) {
  processes = record { start = 0x00400000; line = 0 } ∷ record { start = 0x00400000; line = 1 } ∷ [];
}

-- at the call
abbrev pub giving : State
giving = after 100 (replicate 12 false) (first copying ("lui $8,0x41" ∷ "lui $4,0x41" ∷ "addiu $5,$0,2" ∷ "lui $6,0x50" ∷ "addiu $7,$0,3" ∷ "addiu $2,$0,6" ∷ "syscall" ∷ "sw $8,4($8)" ∷ []) [])

-- after its boundary, at the store
abbrev given_away : State
given_away = after 100 (replicate 2 false) giving

pub the_copy_is_a_new_page : live_page giving.memory.pages 2 ≡ None
unfolding run_on_literals
the_copy_is_a_new_page = refl

pub the_copy_has_the_bytes : live_page given_away.memory.pages 2 ≡ Some (replicate 4096 0)
unfolding run_on_literals
the_copy_has_the_bytes = refl

pub the_receiver_may_write_the_copy : entry_at given_away.memory.table 2 0x00500000 ≡ Some (record { right = Write; page = Some 2; rule = 2; give = true; giver = 1; parent = None; until = None })
unfolding run_on_literals
the_receiver_may_write_the_copy = refl

pub a_store_changes_the_page : live_page (half_turn false given_away).memory.pages 1 ≡ Some written
unfolding run_on_literals
a_store_changes_the_page = refl

pub and_not_its_copy : live_page (half_turn false given_away).memory.pages 2 ≡ Some (replicate 4096 0)
unfolding run_on_literals
and_not_its_copy = refl

pub the_unit_copies : UnitCopies giving (replicate 4096 0)
unfolding run_on_literals
the_unit_copies = record {
  process = 1;
  others = 2 ∷ [];
  no_boundary = refl;
  runs = refl;
  calls = refl;
  address = 0x00410000;
  receiver = 2;
  to = 0x00500000;
  gives = refl;
  given = record { grant = record { right = Write; page = Some 1; rule = 2; give = true; giver = 0; parent = None; until = None }; held = refl; right = refl; page = 1; names = refl; holds = refl };
}

-- Answers.

pub a_process_is_told_its_own_number : answer_of sharing 2 call.Own ≡ Some 2
unfolding run_on_literals
a_process_is_told_its_own_number = refl

pub the_time_is_told : answer_of sharing 2 call.Time ≡ Some 1
unfolding run_on_literals
the_time_is_told = refl

pub no_character_is_all_ones : answer_of sharing 1 call.Get ≡ Some 0xFFFFFFFF
unfolding run_on_literals
no_character_is_all_ones = refl

pub an_exit_answers_nothing : answer_of sharing 1 call.Exit ≡ None
unfolding run_on_literals
an_exit_answers_nothing = refl

pub a_give_to_nobody_answers_12 : answer_of sharing 1 (call.Give 0x00410000 9 0x00430000 1) ≡ Some 12
unfolding run_on_literals
a_give_to_nobody_answers_12 = refl

pub a_give_without_leave_answers_15 : answer_of sharing 1 (call.Give 0x00410000 2 0x00430000 1) ≡ Some 15
unfolding run_on_literals
a_give_without_leave_answers_15 = refl

pub a_give_that_is_done_answers_0 : answer_of giving 1 (call.Give 0x00410000 2 0x00500000 3) ≡ Some 0
unfolding run_on_literals
a_give_that_is_done_answers_0 = refl

pub a_take_of_what_was_not_given_answers_19 : answer_of sharing 1 (call.Take 2 0x00420000) ≡ Some 19
unfolding run_on_literals
a_take_of_what_was_not_given_answers_19 = refl

pub a_drop_of_nothing_answers_14 : answer_of sharing 1 (call.Drop 0x00420000) ≡ Some 14
unfolding run_on_literals
a_drop_of_nothing_answers_14 = refl
