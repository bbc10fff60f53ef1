-- Where the processor stands in the unit of the process that runs: at its beginning, in the slot of its branch, or in a service.
use Rattle.std.specs.Prelude.{◌≡◌, ◌⊎◌, ⊤, ℕ, ◌+◌, ◌<◌, ◌^◌, ◌==◌, ◌&&◌, Bool, true, false, not, if◌then◌else◌, Some, None}
use Rattle.ds_word.specs.Word.{word, bits}
use Rattle.ds_isa.specs.Registers.{Registers, settled}
use Rattle.ds_policy.specs.declared.access.Rule.{Rule}
use Rattle.ds_policy.specs.declared.access.Verdict.TheVariants.{Denied}
use Rattle.ds_policy.specs.Pages.{decide}
use Rattle.ds_policy.specs.Grants.{PageState}
use Rattle.ds_cp0.specs.System.{is_user, pushed}
use Rattle.ds_core.specs.Core.{CoreState}
use Rattle.ds_pagemap.specs.Machine.{State, process_of}
use Rattle.ds_pagemap.specs.Unit.{Stop, Branched, instruction, unit, denied_as, fault, parked, after_call, with_registers}
use Rattle.ds_refinement.specs.declared.cause.Cause.{Cause}
use Rattle.ds_refinement.specs.declared.cause.Cause.TheVariants as cause
use Rattle.ds_refinement.specs.Told.{is_delayed, told}

-- Status while a user runs: user mode, and interrupts on, of which the devices' two are let through
abbrev pub user_status : ℕ
user_status = 0xC03

-- the processor is at the general vector
abbrev pub is_general : CoreState → Bool
is_general c = c.pc == 0x80000080

-- the monitor is to serve: kernel mode at the general vector
abbrev pub is_served : CoreState → Bool
is_served c = not (is_user c.system) && is_general c

-- the exception came from user mode: bit 3 of Status is the mode that was left
abbrev pub has_left_user : CoreState → Bool
has_left_user c = bits c.system.status 3 1 == 1

-- the state after a unit of a process that began at a time, which owes its boundary
abbrev pub owes_boundary : ℕ → ℕ → State → State
owes_boundary began p m = record m { owed = Some (record { began = began; runner = Some p }) }

-- the unit of a process ends in a denial or a fault of the instruction at pc
abbrev pub ends_in_stop : ℕ → ℕ → ℕ → Stop → State → State
ends_in_stop p unit pc stop m = owes_boundary m.time p (parked m p unit pc stop)

-- the unit of a process ends in its call
abbrev pub ends_in_call : ℕ → ℕ → State → State
ends_in_call p pc m = owes_boundary m.time p (after_call m p pc)

-- the address of the instruction that left the program: the unit's, or after a branch that of its slot
abbrev pub own_of : Bool → ℕ → ℕ
own_of delayed unit = if delayed then word (unit + 4) else unit

-- what was told ends the unit of a process: a call, a fault, or an access that the table denies
abbrev pub EndsUnit : PageState → ℕ → ℕ → Cause → Type 0
EndsUnit s p bad (cause.Access access) = (rule : Rule) × (code : ℕ) × (decide s.table p access.kind access.size bad ≡ Denied rule code)
EndsUnit s p bad (cause.Fault code) = ⊤
EndsUnit s p bad cause.Call = ⊤

-- What the unit from m is where the exception can't be mended; s is m with the processor's registers.
abbrev pub Promise : Cause → ℕ → Bool → ℕ → ℕ → State → State → Type 0
Promise (cause.Access access) bad delayed pc p m s =
    (rule : Rule) (code : ℕ) → decide m.memory.table p access.kind access.size bad ≡ Denied rule code
    → unit m ≡ ends_in_stop p pc (own_of delayed pc) (record { kind = denied_as access.kind; address = bad; rule = rule; code = code }) s
Promise (cause.Fault code) bad delayed pc p m s = unit m ≡ ends_in_stop p pc (own_of delayed pc) (fault (own_of delayed pc) code) s
Promise cause.Call bad false pc p m s = unit m ≡ ends_in_call p pc s
Promise cause.Call bad true pc p m s = unit m ≡ ends_in_stop p pc (own_of true pc) (fault (own_of true pc) 8) s

-- the branch at the unit's address has written its link, or has been done without one
pub record IsLinked (r : Registers) (p : ℕ) (m : State) : Type 0 where
  pub target : ℕ
  pub branched : instruction m p (process_of m p).pc ≡ Branched (with_registers m p r) target

-- at the unit's first instruction, for the first time or again
pub record AtStart (c : CoreState) (p : ℕ) (m : State) : Type 0 where
  pub mode : c.system.status ≡ user_status
  pub first : c.slot ≡ false
  pub pc : c.pc ≡ (process_of m p).pc
  pub next : c.next ≡ word ((process_of m p).pc + 4)
  pub registers : (c.registers ≡ (process_of m p).registers)
      ⊎ ((m.owed ≡ None) × ((process_of m p).registers.late ≡ None) × IsLinked c.registers p m)

-- between a branch and its slot
pub record InSlot (c : CoreState) (p : ℕ) (m : State) : Type 0 where
  pub mode : c.system.status ≡ user_status
  pub second : c.slot ≡ true
  pub owed : m.owed ≡ None
  pub pc : c.pc ≡ word ((process_of m p).pc + 4)
  pub within : (process_of m p).pc < 2 ^ 32
  pub branched : instruction m p (process_of m p).pc ≡ Branched (with_registers m p c.registers) c.next

-- an exception waits to be served, which ends its unit
pub record InService (c : CoreState) (p : ℕ) (m : State) : Type 0 where
  pub mode : c.system.status ≡ pushed user_status
  pub first : c.slot ≡ false
  pub owed : m.owed ≡ None
  pub epc : c.system.epc ≡ (process_of m p).pc
  pub registers : (c.registers ≡ settled (process_of m p).registers) ⊎ IsLinked c.registers p m
  pub ends : EndsUnit m.memory p c.system.bad_vaddr (told c.system m.memory p)
  pub promise : Promise (told c.system m.memory p) c.system.bad_vaddr (is_delayed c.system) (process_of m p).pc p m (with_registers m p c.registers)
