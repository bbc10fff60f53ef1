-- What instructions, services and boundaries make of what is held.
use Rattle.std.specs.Prelude.{◌≡◌, ℕ, ◌+◌, ◌-◌, ◌<◌, ◌≤◌, ◌++◌, true, false, if◌then◌else◌, List, [], ◌∷◌, length, flat_map, slice_index, slice_set, Some, None, IfSome}
use Rattle.ds_word.specs.Word.{word, bits}
use Rattle.ds_isa.specs.Registers.{Registers, settled}
use Rattle.ds_mem.specs.Memory.{frame_of}
use Rattle.ds_policy.specs.Pages.{entry_at, page_address}
use Rattle.ds_procs.specs.declared.process.Standing.TheVariants.{Ready}
use Rattle.ds_log.specs.declared.line.Line.{Line}
use Rattle.ds_log.specs.Text.{line_text}
use Rattle.ds_tlb.specs.declared.entry.Entry.{Entry}
use Rattle.ds_tlb.specs.Inner.Entries.{passed}
use Rattle.ds_tlb.specs.Words.{entry_of}
use Rattle.ds_cp0.specs.System.{is_user}
use Rattle.ds_refill.specs.Handler.{HasWords}
use Rattle.ds_tables.specs.Places.{page_of_table}
use Rattle.ds_grants.specs.State.{page_state}
use Rattle.ds_grants.specs.Inner.Counts.{page_of}
use Rattle.ds_grants.specs.Copies.{AreRewritten}
use Rattle.ds_grants.specs.Buffer.{read_only}
use Rattle.ds_grants.specs.Represented.{IsRepresented}
use Rattle.ds_grants.specs.Sound.{NamesPages}
use Rattle.ds_core.specs.declared.event.Event.{Event}
use Rattle.ds_core.specs.declared.event.Event.TheVariants.{Retired, Branched, Raised}
use Rattle.ds_core.specs.Core as core
use Rattle.ds_core.specs.Core.{CoreState}
use Rattle.ds_pagemap.specs.Machine.{State, Process, process_of, with_process, first, touched_process}
use Rattle.ds_refinement.specs.declared.step.Step.{Step}
use Rattle.ds_refinement.specs.declared.step.Step.TheVariants.{Inside, Unit}
use Rattle.ds_refinement.specs.Held.{Held, Kept, Own, no_memory, space_of}
use Rattle.ds_refinement.specs.Inner.Held.{whole}
use Rattle.ds_refinement.specs.Units.{user_status}
use Rattle.ds_refinement.specs.Handling.{HasBase, IsSet, touches}
use Rattle.ds_refinement.specs.Counts.{counts_of, fresh_counts, one_more, one_word, one_tabled, one_copied, HasNone, HasRanges}
use Rattle.ds_refinement.specs.Inner.Counts.{with_counts, one_refilled}
use Rattle.ds_refinement.specs.Stands.{AreResting}
use Rattle.ds_refinement.specs.Steps.{ticks_of}

-- a turn of so many ticks is done, and its boundary is owed
abbrev pub with_turn : ℕ → State → State
with_turn ticks m = record m { time = m.time + ticks; owed = Some (record { began = m.time; runner = first m.ready }) }

-- no unit has begun
abbrev pub with_none_spent : Own → Own
with_none_spent own = with_counts own (fresh_counts own.wired)

-- an instruction of the program counts
abbrev pub with_one_spent : Own → Own
with_one_spent own = with_counts own (one_more (counts_of own))

-- what is held after one step of the processor, which counts: where the instruction is done, so is its unit
abbrev pub after_event : Event → Held → core.Step → Held
after_event Retired h s = record h { core = s.core; bus = s.bus; kept = record h.kept { state = with_turn (ticks_of h.core.slot) h.kept.state }; own = with_none_spent h.own }
after_event Branched h s = record h { core = s.core; bus = s.bus; own = with_one_spent h.own }
after_event (Raised code) h s = record h { core = s.core; bus = s.bus; own = with_one_spent h.own }

-- the outcome of an instruction's step: the end of its unit where it is done, else it stays inside
abbrev pub step_of : Event → Step
step_of Retired = Unit
step_of Branched = Inside
step_of (Raised code) = Inside

-- The running process leaves the processor for its seat.

-- where the process goes on: in a service at EPC
abbrev pub resume_address : CoreState → ℕ
resume_address c = if is_user c.system then c.pc else c.system.epc

-- the process with what the processor has of it; a late load is finished
abbrev pub seated_process : CoreState → Process → Process
seated_process c q = record q { registers = settled c.registers; pc = resume_address c }

-- the first of the ready processes in its seat
abbrev pub with_first_seated : CoreState → State → List ℕ → State
with_first_seated c m [] = m
with_first_seated c m (p ∷ rest) = with_process m p (seated_process c (process_of m p))

-- what is kept once the running process is in its seat
abbrev pub seated : CoreState → Kept → Kept
seated c k = record k { state = with_first_seated c k.state k.state.ready }

-- The first ready process comes on the processor.

-- the processor has the process, touched, at the beginning of its unit
pub record Enters (p : ℕ) (q : Process) (c : CoreState) (k : Kept) : Type 0 where
  pub mode : c.system.status ≡ user_status
  pub number : 0 < space_of k p
  pub set : IsSet c.system (space_of k p)
  pub first : c.slot ≡ false
  pub pc : c.pc ≡ q.pc
  pub next : c.next ≡ word (q.pc + 4)
  pub registers : c.registers ≡ (touched_process q).registers
  pub seat : (0 < p) × (p ≤ length k.state.processes)
  pub standing : q.standing ≡ Ready

-- whoever is first; where nobody is ready the processor rests
abbrev pub EntersBy : List ℕ → CoreState → Kept → Type 0
EntersBy [] c k = c.system.status ≡ user_status
EntersBy (p ∷ rest) c k = Enters p (process_of k.state p) c k

-- Services.

-- what is kept has neither pages, nor a table, nor lines of the log in its state
pub record IsBare (m : State) : Type 0 where
  pub memory : m.memory ≡ no_memory
  pub log : m.log ≡ []

-- Between the two kept states and their memories lies what f does to the machine's state, with these lines added to the log.
pub record Serves (f : State → State) (old : Kept) (before : List ℕ) (new : Kept) (after : List ℕ) : Type 0 where
  pub lines : List Line
  pub state : (log : List Line) → f (whole old before log) ≡ whole new after (log ++ lines)
  pub bare : IsBare new.state
  pub text : new.log ≡ old.log ++ flat_map line_text lines
  pub count : new.lines ≡ old.lines + length lines

-- A service that ends its unit: the running process leaves for its seat, f is done to what is kept, and the first ready process comes in.
pub record EndsUnitBy (f : State → State) (old new : Held) : Type 0 where
  pub serves : Serves f (seated old.core old.kept) old.bus.memory new.kept new.bus.memory
  pub enters : EntersBy new.kept.state.ready new.core new.kept
  pub represented : IsRepresented new.core.entries new.bus.memory new.kept.tables new.kept.spaces new.kept.grants
  pub vectors : HasWords new.bus.memory
  pub base : HasBase new.core.system
  pub grants : NamesPages new.kept.grants
  pub size : length new.bus.memory ≡ length old.bus.memory
  pub devices : AreResting new.bus new.kept
  pub none : HasNone new.own
  pub ranges : HasRanges new.core (counts_of new.own)

-- A word of the handler, and the services that let the unit go on.

-- what is held after a step of the processor that ends no unit
abbrev pub with_step : Held → core.Step → Held
with_step h s = record h { core = s.core; bus = s.bus }

-- what is held after a word of the handler, which counts
abbrev pub after_word : Held → core.Step → Held
after_word h s = record (with_step h s) { own = with_counts h.own (one_word (touches h.core) h.core.random (counts_of h.own)) }

-- the processor back in user mode, at an address
abbrev pub at_unit : CoreState → ℕ → CoreState
at_unit c pc = record c { pc = pc; next = word (pc + 4); slot = false; system = record c.system { status = user_status } }

-- registers 26 and 27 go to the refill
abbrev pub touched_registers : Registers → ℕ → Registers
touched_registers r pc = record (settled r) { general = slice_set (slice_set r.general 26 0) 27 pc }

-- the entry of the page that EntryHi names, which is a page of the page table of a process
abbrev pub table_entry : Held → ℕ → Entry
table_entry h p =
    let hi = h.core.system.entry_hi in
    entry_of hi (read_only (page_of_table h.kept.tables p (bits hi 12 20 - 0xC0000)))

-- After a double miss that entry goes into the next of the first eight slots, and the unit begins again at the address that
-- the handler has in register 27; register 26 is 0.
abbrev pub with_table_page : Held → ℕ → Held
with_table_page h p = record h {
  core = record (at_unit h.core (slice_index h.core.registers.general 27)) {
    registers = record h.core.registers { general = slice_set h.core.registers.general 26 0 };
    entries = slice_set h.core.entries h.own.wired (table_entry h p);
  };
  own = with_counts h.own (one_tabled (counts_of h.own));
}

-- the processor after a copy: the unit begins again at EPC, with registers 26 and 27 lost, and with other entries
abbrev pub copied_core : CoreState → List Entry → CoreState
copied_core c entries = record (at_unit c c.system.epc) { registers = touched_registers c.registers c.system.epc; entries = entries }

-- The page that the process was to store to has got a frame of its own, and is marked no more: no page has other bytes, and each
-- slot keeps its page and its address space.
pub record IsCopied (p : ℕ) (old new : Held) : Type 0 where
  pub core : new.core ≡ copied_core old.core new.core.entries
  pub kept : new.kept ≡ record old.kept { grants = new.kept.grants }
  pub own : new.own ≡ with_counts old.own (one_copied (counts_of old.own))
  pub devices : record new.bus { memory = [] } ≡ record old.bus { memory = [] }
  pub rewritten : AreRewritten old.core.entries new.core.entries
  pub pages : page_state new.kept.grants new.bus.memory ≡ page_state old.kept.grants old.bus.memory
  pub marks : IfSome (page_of (entry_at old.kept.grants.table p (page_address old.core.system.bad_vaddr)))
      (λ page. new.kept.grants.shared ≡ slice_set old.kept.grants.shared page false)
  pub represented : IsRepresented new.core.entries new.bus.memory new.kept.tables new.kept.spaces new.kept.grants
  pub vectors : (f : ℕ) → f < 2 → frame_of new.bus.memory f ≡ frame_of old.bus.memory f
  pub grants : NamesPages new.kept.grants
  pub size : length new.bus.memory ≡ length old.bus.memory

-- a whole refill is done, which ends at this processor; it wrote the slot that Random named after six words
abbrev pub with_refill : Held → CoreState → Held
with_refill h c = record h { core = c; own = with_counts h.own (one_refilled (passed 64 8 6 h.core.random) (counts_of h.own)) }

-- Boundaries.

-- the boundary that is owed has nothing to do
abbrev pub with_boundary : Held → Held
with_boundary h = record h { kept = record h.kept { state = record h.kept.state { owed = None } } }

-- a turn in which no process runs
abbrev pub with_idle_turn : Held → Held
with_idle_turn h = record h { kept = record h.kept { state = with_turn 1 h.kept.state } }

-- the run has failed, and nothing else is changed
abbrev pub with_failure : Held → Held
with_failure h = record h { own = record h.own { failed = true } }
