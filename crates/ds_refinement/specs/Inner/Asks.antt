-- Which access an exception of a program comes from.
use Rattle.std.specs.Prelude.{◌≡◌, ◌≢◌, ◌⊎◌, ℕ, ◌^◌, ◌<◌, Bool, true, false, List, slice_get, Some, None, Err}
use Rattle.ds_word.specs.Word.{bits}
use Rattle.ds_word.specs.Bytes.{word_at}
use Rattle.ds_isa.specs.declared.instr.Size.{Size}
use Rattle.ds_isa.specs.declared.instr.Size.TheVariants.{Word}
use Rattle.ds_isa.specs.declared.instr.Kind.{Kind}
use Rattle.ds_isa.specs.declared.instr.Kind.TheVariants as kind
use Rattle.ds_policy.specs.declared.access.Verdict.TheVariants.{Allowed}
use Rattle.ds_policy.specs.Pages.{decide, bytes_of}
use Rattle.ds_tlb.specs.declared.entry.Entry.{Entry}
use Rattle.ds_tlb.specs.Entries.{find, random_after}
use Rattle.ds_amap.specs.declared.map.Fault.{Fault}
use Rattle.ds_cp0.specs.declared.exception.Exception.{Exception}
use Rattle.ds_cp0.specs.Codes.{is_translation}
use Rattle.ds_cp0.specs.System.{System}
use Rattle.ds_dev.specs.Bus.{BusState}
use Rattle.ds_core.specs.declared.event.Event.TheVariants as event
use Rattle.ds_core.specs.Core as core
use Rattle.ds_core.specs.Core.{CoreState, core_at_vector, branched_core}
use Rattle.ds_isa.specs.Registers.{Registers}
use Rattle.ds_core.specs.Access.{reached, access_exception}
use Rattle.ds_pagemap.specs.Machine.{State}
use Rattle.ds_refinement.specs.Course.{Ask, Fetch, UnitPages, asked}
use Rattle.ds_refinement.specs.Needs.{page_of_address, asked_at}

-- the processor after a tick of Random
abbrev pub counted : CoreState → CoreState
counted c = record c { random = random_after 64 8 c.random }

-- the processor fetches the machine's word
pub record Fetches (c : CoreState) (b : BusState) (m : State) (p place : ℕ) : Type 0 where
  pub page : ℕ
  pub offset : ℕ
  pub allowed : decide m.memory.table p kind.Fetch Word c.pc ≡ Allowed page offset
  pub same : word_at (bytes_of m.memory.pages page) offset ≡ word_at b.memory place
  pub small : place < 2 ^ 23

-- the address is the instruction's own, or in the page of its data
abbrev pub Asks : Kind → CoreState → State → ℕ → ℕ → Type 0
Asks kind.Fetch c m p address = address ≡ c.pc
Asks kind.Load c m p address = asked_at m p c.pc ≡ Some (page_of_address address)
Asks kind.Store c m p address = asked_at m p c.pc ≡ Some (page_of_address address)

-- the exception of an access that the machine's instruction makes too
pub record IsRefused (c : CoreState) (m : State) (p : ℕ) (e : Exception) : Type 0 where
  pub kind : Kind
  pub size : Size
  pub address : ℕ
  pub fault : Fault
  pub is : e ≡ access_exception c kind address fault
  pub reaches : reached c kind size address ≡ Err fault
  pub asks : Asks kind c m p address

-- an exception, of such an access or of no access
pub record Leaves (c : CoreState) (m : State) (p : ℕ) (s : core.Step) : Type 0 where
  pub what : Exception
  pub event : s.event ≡ event.Raised what.code
  pub core : s.core ≡ core_at_vector (counted c) what
  pub from : IsRefused c m p what ⊎ ((what.addr ≡ None) × (is_translation what.code ≡ false))

-- a branch outside a slot
pub record Turns (c : CoreState) (s : core.Step) : Type 0 where
  pub after : Registers
  pub target : ℕ
  pub event : s.event ≡ event.Branched
  pub core : s.core ≡ branched_core (counted c) after target
  pub outside : c.slot ≡ false

-- the instruction is done, and the buffer is as it was
pub record Retires (c : CoreState) (s : core.Step) : Type 0 where
  pub event : s.event ≡ event.Retired
  pub entries : s.core.entries ≡ c.entries
  pub random : s.core.random ≡ random_after 64 8 c.random

-- what the processor does in one step is one of these
abbrev pub IsUnitStep : CoreState → State → ℕ → core.Step → Type 0
IsUnitStep c m p s = Retires c s ⊎ Turns c s ⊎ Leaves c m p s

-- a miss of a page that the unit asks for, which EntryHi has and of which no entry is found
pub record IsMissed (slot : Bool) (pages : UnitPages) (entries : List Entry) (asid : ℕ) (s : System) : Type 0 where
  pub ask : Ask
  pub fits : slot ≡ true → ask ≢ Fetch
  pub page : bits s.entry_hi 12 20 ≡ asked pages ask
  pub none : find entries (asked pages ask) asid ≡ None

-- a store that an entry without D refuses, to the data's page, which EntryHi has
pub record IsModified (pages : UnitPages) (entries : List Entry) (asid : ℕ) (s : System) : Type 0 where
  pub page : bits s.entry_hi 12 20 ≡ pages.access
  pub slot : ℕ
  pub entry : Entry
  pub found : find entries pages.access asid ≡ Some slot
  pub at : slice_get entries slot ≡ Some entry
  pub clean : entry.d ≡ false

-- where an entry without D is found, the page may not be written
abbrev pub TellsClean : List Entry → ℕ → ℕ → (ℕ → Bool) → Type 0
TellsClean entries page asid dirty =
    (slot : ℕ) (e : Entry) → find entries page asid ≡ Some slot → slice_get entries slot ≡ Some e → e.d ≡ false → dirty page ≡ false
