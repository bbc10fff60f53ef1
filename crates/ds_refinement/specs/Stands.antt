-- The machine states that a station stands for, and how few steps its unit takes.
use Rattle.std.specs.Prelude.{◌≡◌, ℕ, ◌%◌, ◌<◌, ◌≤◌, ◌^◌, ◌⊎◌, Bool, true, false, List, [], ◌∷◌, length, flat_map}
use Rattle.ds_procs.specs.declared.process.Standing.TheVariants.{Ready}
use Rattle.ds_log.specs.Text.{line_text}
use Rattle.ds_grants.specs.State.{page_state}
use Rattle.ds_grants.specs.Sound.{NamesPages}
use Rattle.ds_grants.specs.Represented.{IsRepresented}
use Rattle.ds_cp0.specs.System.{is_user}
use Rattle.ds_refill.specs.Handler.{HasWords}
use Rattle.ds_dev.specs.Serial.{serial_at_start}
use Rattle.ds_dev.specs.Bus.{BusState}
use Rattle.ds_core.specs.Core.{CoreState}
use Rattle.ds_pagemap.specs.Machine.{State, process_of}
use Rattle.ds_pagemap.specs.Boundary.{has_passed}
use Rattle.ds_refinement.specs.Tally.{IsTallied}
use Rattle.ds_refinement.specs.Held.{Held, Kept, Own, bare, vacated, space_of, last_boundary}
use Rattle.ds_refinement.specs.Units.{user_status, AtStart, InSlot, InService, is_general, has_left_user}
use Rattle.ds_refinement.specs.Needs.{pages_of_unit}
use Rattle.ds_refinement.specs.Counts.{counts_of, course_of, may_write, HasNone, HasRanges}
use Rattle.ds_refinement.specs.Handling.{HasBase, IsSet, Phase, InHandler, InDouble}
use Rattle.ds_refinement.specs.Copying.{InCopy}

-- in kernel mode, by whether it is at the general vector, and whether it came there from user mode: then it waits for a service
-- that ends its unit, or for a copy
abbrev pub InKernel : Bool → Bool → CoreState → Kept → ℕ → State → Type 0
InKernel true true c k p m = InService c p m ⊎ InCopy c k p m
InKernel true false c k p m = InDouble c k p m
InKernel false up c k p m = (phase : Phase) × InHandler phase c k p m

-- by whether it is in user mode, and whether it is in a slot; bit 3 of Status is the mode that was left
abbrev pub OnProcessor : Bool → Bool → CoreState → Kept → ℕ → State → Type 0
OnProcessor true true c k p m = InSlot c p m
OnProcessor true false c k p m = AtStart c p m
OnProcessor false slot c k p m = InKernel (is_general c) (has_left_user c) c k p m

-- the processor has the process, and computes for it in its address space
pub record RunningIs (p : ℕ) (c : CoreState) (k : Kept) (m : State) : Type 0 where
  pub seat : (0 < p) × (p ≤ length m.processes)
  pub standing : (process_of m p).standing ≡ Ready
  pub kept : (process_of k.state p).standing ≡ Ready
  pub line : (process_of m p).line ≡ (process_of k.state p).line
  pub number : 0 < space_of k p
  pub set : IsSet c.system (space_of k p)
  pub on : OnProcessor (is_user c.system) c.slot c k p m

-- the first ready process runs; where nobody is ready the processor rests in user mode
abbrev pub RunningBy : List ℕ → CoreState → Kept → State → Type 0
RunningBy [] c k m = c.system.status ≡ user_status
RunningBy (p ∷ rest) c k m = RunningIs p c k m

-- all else is kept as it is: the other processes, queues, consoles, time and input, the pages and the table, the log
pub record KeptIs (queue : List ℕ) (k : Kept) (memory : List ℕ) (m : State) : Type 0 where
  pub ready : m.ready ≡ queue
  pub state : bare (vacated queue m) ≡ vacated queue k.state
  pub pages : m.memory ≡ page_state k.grants memory
  pub log : flat_map line_text m.log ≡ k.log
  pub lines : length m.log ≡ k.lines

-- no device asks: nothing was received that is still to be read, and no period has ended since the clock was ticked
pub record AreResting (b : BusState) (k : Kept) : Type 0 where
  pub serial : record b.serial { enables = 0 } ≡ record serial_at_start { receiver_interrupts = true; master_scan = true }
  pub clock : b.clock ≡ record { rate = k.state.rate; enabled = true; flagged = false; time = k.ticked % 2 ^ 17 }
  pub system : b.system ≡ 2 ^ 7
  pub ticked : k.ticked ≤ last_boundary k.state
  pub period : has_passed k.state.rate k.ticked (last_boundary k.state) ≡ false

-- the station agrees with the machine state m, whatever it has counted
pub record Agrees (h : Held) (m : State) : Type 0 where
  pub represented : IsRepresented h.core.entries h.bus.memory h.kept.tables h.kept.spaces h.kept.grants
  -- the handler's words stand at the vector of misses
  pub vectors : HasWords h.bus.memory
  pub base : HasBase h.core.system
  pub grants : NamesPages h.kept.grants
  pub size : length h.bus.memory ≡ 2 ^ 23
  pub kept : KeptIs h.kept.state.ready h.kept h.bus.memory m
  pub running : RunningBy h.kept.state.ready h.core h.kept m
  pub devices : AreResting h.bus h.kept

-- nothing of the unit of a process was done yet: the processor has its registers as they are, in user mode and in no slot
pub record IsUnbegun (c : CoreState) (p : ℕ) (m : State) : Type 0 where
  pub mode : is_user c.system ≡ true
  pub first : c.slot ≡ false
  pub registers : c.registers ≡ (process_of m p).registers

-- the unit of the first ready process is tallied, and where none of its instructions is counted it is unbegun; where nobody is
-- ready nothing is counted, and the buffer has its ranges
abbrev pub CountedBy : List ℕ → CoreState → Own → Kept → State → Type 0
CountedBy [] c own k m = HasNone own × HasRanges c (counts_of own)
CountedBy (p ∷ rest) c own k m = IsTallied (course_of c (counts_of own) (may_write k p) (pages_of_unit m p)) × (own.spent ≡ 0 → IsUnbegun c p m)

-- the station stands for the machine state m
pub record Stands (h : Held) (m : State) : Type 0 where
  pub agrees : Agrees h m
  pub counted : CountedBy h.kept.state.ready h.core h.own h.kept m
