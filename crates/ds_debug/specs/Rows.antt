-- Worked rows of what a debugger is answered.
use Rattle.std.specs.Prelude.{codes, ◌≡◌, true, false, [], Some, None, refl}
use Rattle.std.specs.Fmt.{digits}
use Rattle.ds_isa.specs.Registers.{zero_registers}
use Rattle.ds_text.specs.Digits.{hex4, hex8}
use Rattle.ds_packets.specs.Framing.{hex_text}
use Rattle.ds_packets.specs.declared.packet.Packet.TheVariants.{FirstThreads, ThreadInfo, Current, Alive, Register, Memory, End}
use Rattle.ds_packets.specs.declared.packet.Report.TheVariants.{Time, Processes}
use Rattle.ds_packets.specs.declared.packet.Who.TheVariants as who
use Rattle.ds_procs.specs.declared.process.Standing.TheVariants.{Ready}
use Rattle.ds_refinement.specs.Held.{Held, no_memory}
use Rattle.ds_debug.specs.Answers.{answer_text, run_report_text}
use Rattle.ds_debug.specs.Backward.{back_reason, back_time}
use Rattle.ds_gdb.specs.Each.{each}
use Rattle.ds_debug.specs.Exits.{is_syscall}
use Rattle.ds_debug.specs.Goals.{Aim, watch_stop}
use Rattle.ds_debug.specs.Memory.{bytes_readable_from}
use Rattle.ds_debug.specs.Places.{place_after}
use Rattle.ds_debug.specs.Resumes.{came_reason}
use Rattle.ds_debug.specs.Sights.{Sight}
use Rattle.ds_debug.specs.declared.places.Sought.TheVariants.{LastTurn, LastStop}
use Rattle.ds_debug.specs.Watches.{is_new}
use Rattle.ds_gdb.specs.declared.stops.Reason.TheVariants as reason

-- two processes at 00400000, of which the second runs, at time 7
abbrev shown : Sight
shown = record {
  time = 7;
  count = 2;
  runner = Some 2;
  unended = Some (record { process = 1; standing = Ready });
  standing = λ p. Ready;
  registers = λ p. record { general = zero_registers.general; hi = 1; lo = 2; pc = 0x400000 };
  memory = no_memory;
  consoles = [];
  log = [];
}

-- a process by its name, and all of them
pub the_process_that_is_looked_at : answer_text shown 1 Current ≡ codes "QCp1.1"
the_process_that_is_looked_at = refl

pub all_processes_are_listed : answer_text shown 1 FirstThreads ≡ codes "mp1.1,p2.1"
unfolding each
all_processes_are_listed = refl

-- there is no process 3
pub a_process_that_is_not_there : answer_text shown 1 (Alive (who.Process 3)) ≡ codes "E03"
a_process_that_is_not_there = refl

pub a_process_in_words : answer_text shown 1 (ThreadInfo (who.Process 2)) ≡ hex_text (codes "process 2 ready, runs")
unfolding digits
a_process_in_words = refl

-- pc has its lowest byte first; register 26 is not told
pub a_register_is_told : answer_text shown 1 (Register 37) ≡ codes "00004000"
a_register_is_told = refl

pub register_26_is_not_told : answer_text shown 1 (Register 26) ≡ codes "xxxxxxxx"
register_26_is_not_told = refl

-- nothing is granted
pub memory_that_may_not_be_loaded : answer_text shown 1 (Memory 0x400000 4) ≡ codes "E14"
unfolding bytes_readable_from
memory_that_may_not_be_loaded = refl

-- how far a run has come
pub the_time_of_a_run : run_report_text 9 shown Time ≡ codes "time 7 of 9, goes on\n"
unfolding digits
the_time_of_a_run = refl

pub the_end_of_a_run : run_report_text 7 shown Time ≡ codes "time 7 of 7, is over\n"
unfolding digits
the_end_of_a_run = refl

pub each_process_has_a_line : run_report_text 9 shown Processes ≡ codes "1 ready 00400000\n2 ready 00400000 runs\n"
unfolding each digits hex4 hex8
each_process_has_a_line = refl

-- a call, and what is none
pub a_word_that_calls : is_syscall (Some 12) ≡ true
a_word_that_calls = refl

pub a_break_is_no_call : is_syscall (Some 13) ≡ false
a_break_is_no_call = refl

pub what_may_not_be_fetched_is_no_call : is_syscall None ≡ false
what_may_not_be_fetched_is_no_call = refl

-- where a run ends for gdb it has no more history
pub the_last_exit_ends_it : came_reason false None ≡ reason.End
the_last_exit_ends_it = refl

-- a watch is told of the process that has it; a byte that may be loaded from now on is new to it, and one that may not be any more is none
pub it_is_told_of_who_watches : watch_stop (record { process = 1; address = 0x410000; length = 4 }) ≡ record { process = 1; reason = reason.Watch 0x410000 }
it_is_told_of_who_watches = refl

pub a_byte_that_goes : is_new (Some 18) None ≡ false
a_byte_that_goes = refl

pub a_byte_that_comes : is_new None (Some 0) ≡ true
a_byte_that_comes = refl

pub a_byte_that_changes : is_new (Some 18) (Some 19) ≡ true
a_byte_that_changes = refl

pub a_byte_that_stays : is_new (Some 18) (Some 18) ≡ false
a_byte_that_stays = refl

-- a step back comes to where the last turn of the process began
pub a_turn_of_the_process : (a : Aim) (h : Held) → place_after (LastTurn 1) a 9 (record { time = 4; runner = Some 1; logged = 0 }) [] h ≡ Some (record { time = 4; stop = record { process = 1; reason = reason.Rest } })
a_turn_of_the_process a h = refl

pub a_turn_of_another_process : (a : Aim) (h : Held) → place_after (LastTurn 1) a 9 (record { time = 4; runner = Some 2; logged = 0 }) [] h ≡ None
a_turn_of_another_process a h = refl

-- a process without a turn stays, and the last stop is sought to the beginning
pub a_process_without_a_turn_stays : back_time (LastTurn 2) None ≡ None
a_process_without_a_turn_stays = refl

pub without_a_stop_it_is_the_beginning : back_time LastStop None ≡ Some 0
without_a_stop_it_is_the_beginning = refl

pub a_process_without_a_turn_is_interrupted : back_reason (LastTurn 2) 5 None ≡ reason.Signal 2
a_process_without_a_turn_is_interrupted = refl

pub nothing_is_before_the_beginning : back_reason (LastTurn 2) 0 None ≡ reason.Begin
nothing_is_before_the_beginning = refl
