-- What a small station holds and what is made of it: each row is a theorem about the definitions alone.
use Rattle.std.specs.Prelude.{◌≡◌, refl, ℕ, ◌+◌, ◌^◌, true, false, List, [], ◌∷◌, map, replicate, slice_index, slice_set, Some, None}
use Rattle.ds_word.specs.Word.{word}
use Rattle.ds_isa.specs.declared.instr.Size.TheVariants.{Byte, Word}
use Rattle.ds_isa.specs.Registers.{Registers}
use Rattle.ds_tlb.specs.declared.entry.Entry.{Entry}
use Rattle.ds_cp0.specs.System.{at_start, asid_of}
use Rattle.ds_policy.specs.declared.access.Rule.TheVariants.{K}
use Rattle.ds_policy.specs.declared.access.Verdict.TheVariants.{Allowed}
use Rattle.ds_log.specs.declared.line.Denied.TheVariants as denied
use Rattle.ds_log.specs.declared.line.Line.TheVariants.{Denial}
use Rattle.ds_grants.specs.Inner.First.{no_grants}
use Rattle.ds_tables.specs.Places.{Places}
use Rattle.ds_dev.specs.Bus as bus
use Rattle.ds_core.specs.Core.{CoreState}
use Rattle.ds_pagemap.specs.Machine.{State, no_process}
use Rattle.ds_pagemap.specs.Unit.{fault}
use Rattle.ds_pagemap_laws.specs.Rows.{resting, loading, state_of}
use Rattle.ds_refinement.specs.declared.cause.Cause.TheVariants as cause
use Rattle.ds_refinement.specs.Told.{told, size_on}
use Rattle.ds_asid.specs.Spaces as spaces
use Rattle.ds_asid.specs.Spaces.{space_taken}
use Rattle.ds_asid.specs.Inner.Spaces.{given_up}
use Rattle.ds_refinement.specs.Held.{Held, Kept, no_memory, bare, vacated, space_of}
use Rattle.ds_refinement.specs.Units.{ends_in_stop, own_of, has_left_user, is_served}
use Rattle.ds_refinement.specs.Steps.{ticks_of}
use Rattle.ds_refinement.specs.Inner.Services.{with_turn, resume_address, seated_process, touched_registers, table_entry, with_table_page}
use Rattle.ds_refinement.specs.First.{first_system, first_bus}

-- two processes, both of which are ready, at time 5; the first has loaded 65 into register 8, where 7 stood
abbrev pub two : State
two = state_of (loading ∷ resting ∷ []) (1 ∷ 2 ∷ []) []

-- what is kept beside the processor, which has process 1
abbrev pub kept : Kept
kept = record { state = two; grants = no_grants 2 4 0; tables = replicate 2 (replicate 4 None); log = []; lines = 0; spaces = space_taken spaces.at_start 1; ticked = 5; ends = 2 ^ 63 }

-- page 00400000 in frame 402, which may not be written
abbrev pub page : Entry
page = record { vpn = 0x400; asid = 1; pfn = 402; n = false; d = false; v = true; g = false }

-- page 00401000 in frame 403
abbrev pub other : Entry
other = record page { vpn = 0x401; pfn = 403 }

-- the processor at an address, with a Status; it has those two pages, and Random tells the second slot; EPC is 00400008
abbrev pub core_at : ℕ → ℕ → CoreState
core_at pc status = record {
  registers = loading.registers;
  pc = pc;
  next = word (pc + 4);
  slot = false;
  system = record at_start { status = status; entry_hi = 0x40; epc = 0x00400008 };
  entries = page ∷ other ∷ [];
  random = 1;
}

-- a program in user mode
abbrev pub user : CoreState
user = core_at 0x00400010 0xC03

-- an exception of it
abbrev pub served : CoreState
served = core_at 0x80000080 0xC0C

-- What is kept.

pub process_1_has_an_address_space : space_of kept 1 ≡ 1
process_1_has_an_address_space = refl

pub process_2_has_none : space_of kept 2 ≡ 0
process_2_has_none = refl

pub process_2_takes_the_next : space_of (record kept { spaces = space_taken kept.spaces 2 }) 2 ≡ 2
process_2_takes_the_next = refl

pub process_1_keeps_its_own : space_of (record kept { spaces = space_taken kept.spaces 2 }) 1 ≡ 1
process_1_keeps_its_own = refl

pub who_gives_its_number_up_has_none : space_of (record kept { spaces = given_up kept.spaces 1 }) 1 ≡ 0
who_gives_its_number_up_has_none = refl

-- with a page that the policy names, and a line in the log
abbrev pub written : State
written = record two { memory = record no_memory { named = 1 }; log = Denial 5 1 0x00400000 denied.Load 0x80000001 K 4 ∷ [] }

pub no_line_of_the_log_is_kept : (bare written).log ≡ []
no_line_of_the_log_is_kept = refl

pub no_page_is_kept : (bare written).memory ≡ no_memory
no_page_is_kept = refl

pub no_load_is_kept_late : map (λ q. q.registers.late) (bare written).processes ≡ None ∷ None ∷ []
no_load_is_kept_late = refl

pub the_seat_of_who_runs_says_nothing : (vacated (2 ∷ 1 ∷ []) two).processes ≡ loading ∷ no_process ∷ []
the_seat_of_who_runs_says_nothing = refl

-- What was told.

pub code_8_is_a_call : told (record at_start { cause = 0x20 }) no_memory 1 ≡ cause.Call
code_8_is_a_call = refl

pub code_9_is_a_fault : told (record at_start { cause = 0x24 }) no_memory 1 ≡ cause.Fault 9
code_9_is_a_fault = refl

-- lb $8,0($9) and lw $8,0($9)
abbrev pub loads : List ℕ
loads = 0x00 ∷ 0x00 ∷ 0x28 ∷ 0x81 ∷ 0x00 ∷ 0x00 ∷ 0x28 ∷ 0x8D ∷ []

pub a_byte_is_asked_for : size_on (Some loads ∷ []) (Allowed 0 0) ≡ Byte
a_byte_is_asked_for = refl

pub a_word_is_asked_for : size_on (Some loads ∷ []) (Allowed 0 4) ≡ Word
a_word_is_asked_for = refl

-- Units that end.

pub a_slot_is_stopped_after_its_branch : own_of true 0x00400008 ≡ 0x0040000C
a_slot_is_stopped_after_its_branch = refl

-- a breakpoint at 00400008 stops process 1
abbrev pub stopped : State
stopped = ends_in_stop 1 0x00400008 0x00400008 (fault 0x00400008 9) two

pub the_stopped_unit_ends_at_6 : stopped.time ≡ 6
the_stopped_unit_ends_at_6 = refl

pub the_stopped_unit_began_at_5 : stopped.owed ≡ Some (record { began = 5; runner = Some 1 })
the_stopped_unit_began_at_5 = refl

pub process_2_is_ready_after_it : stopped.ready ≡ 2 ∷ []
process_2_is_ready_after_it = refl

pub a_unit_without_a_branch_takes_a_tick : ticks_of false ≡ 1
a_unit_without_a_branch_takes_a_tick = refl

-- process 1 has done a branch and its slot
abbrev pub done : State
done = with_turn (ticks_of true) two

pub a_branch_and_its_slot_end_at_7 : done.time ≡ 7
a_branch_and_its_slot_end_at_7 = refl

pub they_began_at_5_in_process_1 : done.owed ≡ Some (record { began = 5; runner = Some 1 })
they_began_at_5_in_process_1 = refl

-- a turn in which no process runs
abbrev pub idle : State
idle = with_turn 1 (record two { ready = [] })

pub a_turn_without_a_process_ends_at_6 : idle.time ≡ 6
a_turn_without_a_process_ends_at_6 = refl

pub nobody_ran_in_it : idle.owed ≡ Some (record { began = 5; runner = None })
nobody_ran_in_it = refl

-- The process that runs leaves the processor.

pub a_user_goes_on_where_it_stands : resume_address user ≡ 0x00400010
a_user_goes_on_where_it_stands = refl

pub after_an_exception_a_user_goes_on_at_epc : resume_address served ≡ 0x00400008
after_an_exception_a_user_goes_on_at_epc = refl

pub a_load_is_finished_in_the_seat : (seated_process user resting).registers.late ≡ None
a_load_is_finished_in_the_seat = refl

pub what_was_loaded_is_in_the_seat : slice_index (seated_process user resting).registers.general 8 ≡ 65
what_was_loaded_is_in_the_seat = refl

-- The unit goes on after an exception.

-- its registers after that, where it goes on at 00400008
abbrev pub lost : Registers
lost = touched_registers loading.registers 0x00400008

pub register_26_is_lost : slice_index lost.general 26 ≡ 0
register_26_is_lost = refl

pub register_27_has_the_address : slice_index lost.general 27 ≡ 0x00400008
register_27_has_the_address = refl

pub register_8_is_left : slice_index lost.general 8 ≡ 65
register_8_is_left = refl

-- a station with a processor, which has done four instructions of its unit and filled so many slots with pages of tables; it has no memory
abbrev pub station : CoreState → ℕ → Held
station c wired = record { core = c; bus = bus.at_start []; kept = kept; own = record { failed = false; spent = 4; written = []; since = 0; wired = wired; tables = 0; services = 0 } }

-- The unit goes on after a double miss.

-- process 1 has the table of its second 4 MiB at its second place, and process 2 has none
abbrev pub tables : Places
tables = (None ∷ Some 1 ∷ None ∷ None ∷ []) ∷ replicate 4 None ∷ []

-- the handler missed the page of that table; it has the unit's address in register 27
abbrev pub nested : CoreState
nested = record (core_at 0x80000080 0xC30) {
  registers = record loading.registers { general = slice_set loading.registers.general 27 0x00400008 };
  system = record (core_at 0x80000080 0xC30).system { entry_hi = 0xC0001040; epc = 0x80000008 };
}

-- the station before its service, with so many slots filled
abbrev pub doubled : ℕ → Held
doubled wired = record (station nested wired) { kept = record kept { tables = tables } }

-- the page of that table, in frame 3; it may be read
abbrev pub table_page : Entry
table_page = record { vpn = 0xC0001; asid = 1; pfn = 3; n = false; d = false; v = true; g = false }

pub the_page_of_a_table_lies_at_its_place : table_entry (doubled 0) 1 ≡ table_page
the_page_of_a_table_lies_at_its_place = refl

pub process_2_has_the_page_of_the_empty_table : table_entry (doubled 0) 2 ≡ record table_page { pfn = 1 }
process_2_has_the_page_of_the_empty_table = refl

pub the_unit_begins_again_at_its_address : (with_table_page (doubled 0) 1).core.pc ≡ 0x00400008
the_unit_begins_again_at_its_address = refl

pub user_mode_is_back : (with_table_page (doubled 0) 1).core.system.status ≡ 0xC03
user_mode_is_back = refl

pub a_way_back_loses_register_26 : slice_index (with_table_page (doubled 0) 1).core.registers.general 26 ≡ 0
a_way_back_loses_register_26 = refl

pub the_page_of_a_table_comes_into_the_next_slot : (with_table_page (doubled 0) 1).core.entries ≡ table_page ∷ other ∷ []
the_page_of_a_table_comes_into_the_next_slot = refl

pub the_slot_after_it_is_next : (with_table_page (doubled 0) 1).own.wired ≡ 1
the_slot_after_it_is_next = refl

pub the_first_comes_after_the_eighth : (with_table_page (doubled 7) 1).own.wired ≡ 0
the_first_comes_after_the_eighth = refl

-- Who is served.

pub an_exception_is_served : is_served served ≡ true
an_exception_is_served = refl

pub a_double_miss_is_served : is_served nested ≡ true
a_double_miss_is_served = refl

pub a_word_of_the_handler_is_not_served : is_served (core_at 0x80000000 0xC0C) ≡ false
a_word_of_the_handler_is_not_served = refl

pub a_user_that_jumps_to_a_vector_is_not_served : is_served (core_at 0x80000080 0xC03) ≡ false
a_user_that_jumps_to_a_vector_is_not_served = refl

pub an_exception_has_left_user_mode : has_left_user (core_at 0x80000080 0xC0C) ≡ true
an_exception_has_left_user_mode = refl

pub a_double_miss_has_left_kernel_mode : has_left_user (core_at 0x80000080 0xC30) ≡ false
a_double_miss_has_left_kernel_mode = refl

-- The beginning of a run.

pub the_first_to_run_has_address_space_1 : asid_of first_system ≡ 1
the_first_to_run_has_address_space_1 = refl

pub context_has_the_place_of_the_page_tables : first_system.context ≡ 0xC0000000
context_has_the_place_of_the_page_tables = refl

pub the_clock_counts_periods_of_the_rate : (first_bus [] 6).clock ≡ record { rate = 6; enabled = true; flagged = false; time = 0 }
the_clock_counts_periods_of_the_rate = refl
