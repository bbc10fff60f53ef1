-- Where a store waits for its page to get a frame of its own.
use Rattle.std.specs.Prelude.{◌≡◌, ℕ, ◌/◌, ◌^◌, true, false, None}
use Rattle.ds_word.specs.Word.{bits}
use Rattle.ds_isa.specs.declared.instr.Size.TheVariants.{Byte}
use Rattle.ds_isa.specs.declared.instr.Kind.TheVariants.{Store}
use Rattle.ds_policy.specs.declared.access.Verdict.TheVariants.{Allowed}
use Rattle.ds_policy.specs.Pages.{decide}
use Rattle.ds_cp0.specs.System.{System, pushed}
use Rattle.ds_grants.specs.State.{GrantsState, is_shared}
use Rattle.ds_core.specs.Core.{CoreState}
use Rattle.ds_pagemap.specs.Machine.{State, process_of}
use Rattle.ds_refinement.specs.Told.{code_in}
use Rattle.ds_refinement.specs.Held.{Kept}
use Rattle.ds_refinement.specs.Units.{user_status}
use Rattle.ds_refinement.specs.Handling.{AreUnits}

-- The coprocessor tells of a store of the process that the table allows, on a page in whose frame another may lie. EntryHi
-- names the page of its address.
pub record AwaitsCopy (s : System) (g : GrantsState) (p : ℕ) : Type 0 where
  pub code : code_in s ≡ 1
  pub address : bits s.entry_hi 12 20 ≡ s.bad_vaddr / 2 ^ 12
  pub page : ℕ
  pub offset : ℕ
  pub allowed : decide g.table p Store Byte s.bad_vaddr ≡ Allowed page offset
  pub shared : is_shared g page ≡ true

-- such a store waits to be served, in the unit of the process, which then begins again
pub record InCopy (c : CoreState) (k : Kept) (p : ℕ) (m : State) : Type 0 where
  pub mode : c.system.status ≡ pushed user_status
  pub first : c.slot ≡ false
  pub owed : m.owed ≡ None
  pub epc : c.system.epc ≡ (process_of m p).pc
  pub registers : AreUnits c.registers p m
  pub waits : AwaitsCopy c.system k.grants p
