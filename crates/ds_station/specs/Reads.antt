-- What a station shows of its processes, and of its processor, by what it holds.
use Rattle.std.specs.Prelude.{ℕ, ◌+◌, ◌==◌, ◌&&◌, Bool, not, if◌then◌else◌, List, Option, Some, None}
use Rattle.ds_word.specs.Word.{word}
use Rattle.ds_word.specs.Bytes.{word_at}
use Rattle.ds_isa.specs.declared.instr.Size.TheVariants.{Word}
use Rattle.ds_isa.specs.declared.instr.Kind.{Kind}
use Rattle.ds_isa.specs.declared.instr.Kind.TheVariants.{Fetch, Load}
use Rattle.ds_policy.specs.declared.access.Verdict.{Verdict}
use Rattle.ds_policy.specs.declared.access.Verdict.TheVariants.{Allowed, Denied}
use Rattle.ds_policy.specs.Pages.{Pages, decide, bytes_of}
use Rattle.ds_policy.specs.Grants.{PageState}
use Rattle.ds_grants.specs.State.{page_state}
use Rattle.ds_cp0.specs.System.{is_user}
use Rattle.ds_core.specs.Core.{CoreState}
use Rattle.ds_pagemap.specs.declared.turn.Turn.{Turn}
use Rattle.ds_pagemap.specs.Machine.{process_of, first}
use Rattle.ds_pagemap.specs.Boundary.{is_first}
use Rattle.ds_refinement.specs.Held.{Held}
use Rattle.ds_refinement.specs.Units.{is_served, has_left_user}
use Rattle.ds_station.specs.declared.stage.Stage.{Stage}
use Rattle.ds_station.specs.declared.stage.Stage.TheVariants as stage

-- the word at the place of an access that is allowed
abbrev pub word_on : Pages → Verdict → Option ℕ
word_on pages (Allowed page offset) = Some (word_at (bytes_of pages page) offset)
word_on pages (Denied rule code) = None

-- the word at an address, where the process may have it by an access of this kind
abbrev pub word_for : Kind → PageState → ℕ → ℕ → Option ℕ
word_for kind s p address = word_on s.pages (decide s.table p kind Word address)

-- where it may fetch it
abbrev pub fetched : PageState → ℕ → ℕ → Option ℕ
fetched s p address = word_for Fetch s p address

-- where it may read it
abbrev pub word_read : PageState → ℕ → ℕ → Option ℕ
word_read s p address = word_for Load s p address

-- the pages and the table that a station holds
abbrev pub memory_held : Held → PageState
memory_held h = page_state h.kept.grants h.bus.memory

-- in user mode, the address of the unit on the processor: in a slot, of its branch
abbrev pub unit_on : CoreState → ℕ
unit_on c = if c.slot then word (c.pc + 0xFFFFFFFC) else c.pc

-- where a process goes on: the one that runs by the processor, and each other by its seat
abbrev pub address_held : Held → ℕ → ℕ
address_held h p = if is_first (first h.kept.state.ready) p then unit_on h.core else (process_of h.kept.state p).pc

-- the general registers of a process, from the same places
abbrev pub general_held : Held → ℕ → List ℕ
general_held h p = if is_first (first h.kept.state.ready) p then h.core.registers.general else (process_of h.kept.state p).registers.general

-- HI of a process, from the same places
abbrev pub hi_held : Held → ℕ → ℕ
hi_held h p = if is_first (first h.kept.state.ready) p then h.core.registers.hi else (process_of h.kept.state p).registers.hi

-- LO of a process, from the same places
abbrev pub lo_held : Held → ℕ → ℕ
lo_held h p = if is_first (first h.kept.state.ready) p then h.core.registers.lo else (process_of h.kept.state p).registers.lo

-- What the next step is to the processor.

-- the processor is in kernel mode at this address
abbrev pub is_at : ℕ → CoreState → Bool
is_at vector c = not (is_user c.system) && (c.pc == vector)

-- of a unit it is a service, by whether the exception came from user mode, or else an instruction, which at the vector of misses begins a refill
abbrev pub stage_in_unit : CoreState → Stage
stage_in_unit c =
    if is_served c then (if has_left_user c then stage.Service else stage.DoubleMiss)
    else (if is_at 0x80000000 c then stage.Refill else stage.Instruction)

-- by the turn that owes its boundary, and by who is the first that is ready
abbrev pub stage_by : Option Turn → Option ℕ → CoreState → Stage
stage_by (Some turn) runner c = stage.Rest
stage_by None None c = stage.Rest
stage_by None (Some p) c = stage_in_unit c

-- what the next step of a station is
abbrev pub stage_of : Held → Stage
stage_of h = stage_by h.kept.state.owed (first h.kept.state.ready) h.core
