-- What a station holds: the processor, the bus with memory and devices, and what it keeps beside them.
use Rattle.std.specs.Prelude.{ℕ, Bool, List, [], ◌∷◌, Option, Some, None}
use Rattle.ds_policy.specs.Grants.{PageState}
use Rattle.ds_tables.specs.Places.{Places}
use Rattle.ds_asid.specs.Spaces.{Spaces, space_number}
use Rattle.ds_grants.specs.State.{GrantsState}
use Rattle.ds_dev.specs.Bus.{BusState}
use Rattle.ds_core.specs.Core.{CoreState}
use Rattle.ds_pagemap.specs.declared.turn.Turn.{Turn}
use Rattle.ds_pagemap.specs.Machine.{State, no_process, with_process}
use Rattle.ds_pagemap_laws.specs.Settled.{all_settled}

-- what is kept beside the processor and its bus
pub record Kept : Type 0 where
  -- the machine's state but for pages, table and log; its late loads are finished, and of the process that runs it has only its standing and its line
  pub state : State
  pub grants : GrantsState
  -- where the page tables stand in memory
  pub tables : Places
  -- the text of the log, and how many lines it has
  pub log : List ℕ
  pub lines : ℕ
  -- which process has which address space, by its number
  pub spaces : Spaces
  -- the time to which the clock was brought
  pub ticked : ℕ
  -- a time before which no right in the table ends
  pub ends : ℕ

-- the station's own marks, and what it counts of the unit that goes on
pub record Own : Type 0 where
  pub failed : Bool
  -- how many instructions the unit has taken so far
  pub spent : ℕ
  -- the slots of the buffer that its refills have written, the newest first
  pub written : List ℕ
  -- the steps of Random since the first of these
  pub since : ℕ
  -- the next of the first eight slots of the buffer, which take the entries of tables' pages in turn
  pub wired : ℕ
  -- the entries of tables' pages that the unit has put there
  pub tables : ℕ
  -- the services after which it went on
  pub services : ℕ

-- all that a station holds
pub record Held : Type 0 where
  pub core : CoreState
  pub bus : BusState
  pub kept : Kept
  pub own : Own

-- no pages, and no table
abbrev pub no_memory : PageState
no_memory = record { pages = []; table = []; named = 0 }

-- a state as it is kept: without pages, table and log, and with late loads finished
abbrev pub bare : State → State
bare m = record (all_settled m) { memory = no_memory; log = [] }

-- the state without the process that runs: its saved registers are meaningless
abbrev pub vacated : List ℕ → State → State
vacated [] m = m
vacated (p ∷ rest) m = with_process m p no_process

-- the number of a process's address space, or 0 where it has none
abbrev pub space_of : Kept → ℕ → ℕ
space_of k p = space_number k.spaces p

-- the time at which a turn began that still owes its boundary, or else this time
abbrev pub began_or : Option Turn → ℕ → ℕ
began_or None time = time
began_or (Some turn) time = turn.began

-- the time of the last boundary
abbrev pub last_boundary : State → ℕ
last_boundary m = began_or m.owed m.time
