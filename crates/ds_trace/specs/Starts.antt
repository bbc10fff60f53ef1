-- The unit that a state has next.
use Rattle.std.specs.Prelude.{ℕ, ◌+◌, Bool, true, false, is_some, if◌then◌else◌, List, Option, Some, None, option_and_then, slice_index}
use Rattle.ds_word.specs.Word.{word}
use Rattle.ds_isa.specs.declared.instr.Instr.{Instr}
use Rattle.ds_isa.specs.declared.instr.Instr.TheVariants as instr
use Rattle.ds_isa.specs.Uses.{uses}
use Rattle.ds_isa.specs.Instruction.{instruction_of}
use Rattle.ds_isa.specs.Shapes.{is_branch}
use Rattle.ds_procs.specs.declared.call.Call.{Call}
use Rattle.ds_procs.specs.Calls.{call_of}
use Rattle.ds_policy.specs.Grants.{PageState}
use Rattle.ds_policy.specs.Pages.{entry_at, page_address}
use Rattle.ds_pagemap.specs.Machine.{State, process_of, first}
use Rattle.ds_station.specs.Reads.{fetched}
use Rattle.ds_trace.specs.declared.start.Start.{Start}
use Rattle.ds_trace.specs.Loads.{loaded_at, slot_loaded_at}

-- the word in the slot of the instruction at an address, where that is a branch
abbrev pub slot_of : PageState → ℕ → ℕ → Option ℕ → Option ℕ
slot_of s p pc None = None
slot_of s p pc (Some w) = if is_branch (uses (instruction_of w)).shape then fetched s p (word (pc + 4)) else None

-- whether an instruction is a call
abbrev pub is_call : Instr → Bool
is_call (instr.Syscall code) = true
is_call other = false

-- the call that registers ask for, where the word is one
abbrev pub call_at : List ℕ → Option ℕ → Option Call
call_at general None = None
call_at general (Some w) = if is_call (instruction_of w) then Some (call_of general) else None

-- the page that the entry of a process at an address names, if it names one
abbrev pub page_named_at : PageState → ℕ → ℕ → Option ℕ
page_named_at s p address = option_and_then (λ g. g.page) (entry_at s.table p (page_address address))

-- the unit of a process at an address, at a time, with these registers
abbrev pub start_at : PageState → List ℕ → ℕ → ℕ → ℕ → Start
start_at s general time p pc = record {
  time = time;
  process = p;
  address = pc;
  word = fetched s p pc;
  slot = slot_of s p pc (fetched s p pc);
  call = call_at general (fetched s p pc);
  number = slice_index general 2;
  page = page_named_at s p pc;
  slot_page = page_named_at s p (word (pc + 4));
  loaded = loaded_at general (fetched s p pc);
  slot_loaded = slot_loaded_at general (fetched s p pc) (slot_of s p pc (fetched s p pc));
}

-- the general registers of a process
abbrev pub general_of : State → ℕ → List ℕ
general_of m p = (process_of m p).registers.general

-- the unit of a process, if there is one
abbrev pub start_of : State → Option ℕ → Option Start
start_of m None = None
start_of m (Some p) = Some (start_at m.memory (general_of m p) m.time p (process_of m p).pc)

-- the unit that is next: of the first ready process, where no boundary is owed
abbrev pub next_start : State → Option Start
next_start m = if is_some m.owed then None else start_of m (first m.ready)
