-- What a station holds at the beginning of a run.
use Rattle.std.specs.Prelude.{◌≡◌, ℕ, ◌+◌, ◌^◌, true, false, [], List, length}
use Rattle.ds_word.specs.Word.{word}
use Rattle.ds_isa.specs.Registers.{zero_registers}
use Rattle.ds_tlb.specs.declared.entry.Entry.{Entry}
use Rattle.ds_tlb.specs.Entries.{empty_entries}
use Rattle.ds_cp0.specs.System.{System}
use Rattle.ds_cp0.specs.System as system
use Rattle.ds_dev.specs.Serial.{serial_at_start}
use Rattle.ds_dev.specs.Clock.{clock_at_start}
use Rattle.ds_dev.specs.Bus.{BusState}
use Rattle.ds_core.specs.Core.{CoreState}
use Rattle.ds_policy.specs.Value.{PolicyValue, InputValue}
use Rattle.ds_refill.specs.Handler as handler
use Rattle.ds_tables.specs.Places.{Places}
use Rattle.ds_asid.specs.Spaces.{at_start, space_taken}
use Rattle.ds_grants.specs.State.{page_state}
use Rattle.ds_grants.specs.Represented.{TablesHaveWords}
use Rattle.ds_grants.specs.First.{first_grants}
use Rattle.ds_pagemap.specs.Machine.{process_of}
use Rattle.ds_pagemap.specs.First.{first_state}
use Rattle.ds_refinement.specs.Held.{Held, Kept, bare}
use Rattle.ds_refinement.specs.Units.{user_status}

-- the coprocessor while a user runs in address space 1, with the page tables' base in Context
abbrev pub first_system : System
first_system = record system.at_start { status = user_status; entry_hi = 2 ^ 6; context = 0xC0000000 }

-- the processor at the start of a program
abbrev pub first_core : List Entry → ℕ → ℕ → CoreState
first_core entries random pc = record {
  registers = zero_registers;
  pc = pc;
  next = word (pc + 4);
  slot = false;
  system = first_system;
  entries = entries;
  random = random;
}

-- the devices over a memory: the serial lines and the clock ask for interrupts, the clock at a rate
abbrev pub first_bus : List ℕ → ℕ → BusState
first_bus memory rate = record {
  memory = memory;
  serial = record serial_at_start { receiver_interrupts = true; master_scan = true };
  clock = record clock_at_start { rate = rate; enabled = true };
  system = 2 ^ 7;
}

-- what is kept of the first state of a policy, with page tables at these places, and a time before which no right ends; process 1 runs, in address space 1
abbrev pub first_kept : PolicyValue → List (List ℕ) → InputValue → Places → ℕ → Kept
first_kept policy images input tables ends = record {
  state = bare (first_state policy images input);
  grants = first_grants policy;
  tables = tables;
  log = [];
  lines = 0;
  spaces = space_taken at_start 1;
  ticked = 0;
  ends = ends;
}

-- the station is at the beginning of a run of a policy with these images and this input; Random is the start
pub record IsFirst (policy : PolicyValue) (images : List (List ℕ)) (input : InputValue) (start : ℕ) (h : Held) : Type 0 where
  pub core : h.core ≡ first_core (empty_entries 64) start (process_of (first_state policy images input) 1).pc
  pub bus : h.bus ≡ first_bus h.bus.memory policy.rate
  pub pages : (first_state policy images input).memory ≡ page_state (first_grants policy) h.bus.memory
  pub size : length h.bus.memory ≡ 2 ^ 23
  pub kept : h.kept ≡ first_kept policy images input h.kept.tables h.kept.ends
  pub tables : TablesHaveWords h.bus.memory h.kept.tables (first_grants policy)
  pub vectors : handler.HasWords h.bus.memory
  pub own : h.own ≡ record { failed = false; spent = 0; written = []; since = 0; wired = 0; tables = 0; services = 0 }
