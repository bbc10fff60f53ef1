-- Where the processor stands while its page tables are read by the nine words of the refill handler: at a word of the
-- handler, or after a double miss.
use Rattle.std.specs.Prelude.{◌≡◌, ◌⊎◌, ℕ, ◌+◌, ◌*◌, ◌%◌, ◌/◌, ◌^◌, ◌<◌, ◌≤◌, ◌==◌, Bool, true, false, List, length, slice_index, Option, Some, None}
use Rattle.ds_word.specs.Word.{word}
use Rattle.ds_isa.specs.declared.instr.Late.{Late}
use Rattle.ds_isa.specs.Registers.{Registers, settled}
use Rattle.ds_tlb.specs.declared.entry.Entry.{Entry}
use Rattle.ds_tlb.specs.Entries.{find}
use Rattle.ds_cp0.specs.System.{System, pushed}
use Rattle.ds_refill.specs.Handler.{handler_address}
use Rattle.ds_refill.specs.Refill.{lent, late_of}
use Rattle.ds_grants.specs.Buffer.{hi_of}
use Rattle.ds_grants.specs.Words.{granted_word}
use Rattle.ds_core.specs.Core.{CoreState}
use Rattle.ds_pagemap.specs.Machine.{State, process_of, touched_process}
use Rattle.ds_refinement.specs.Held.{Kept, space_of}
use Rattle.ds_refinement.specs.Units.{user_status, IsLinked}

-- Status in the handler, once a miss has left user mode
abbrev pub handler_status : ℕ
handler_status = pushed user_status

-- Status after a double miss, once the handler's load has missed too
abbrev pub nested_status : ℕ
nested_status = pushed handler_status

-- Context begins with the place of the page tables, C0000000
pub record HasBase (s : System) : Type 0 where
  pub tables : s.context / 2 ^ 21 ≡ 0x600
  pub whole : s.context % 4 ≡ 0

-- EntryHi is of an address space
pub record IsSet (s : System) (asid : ℕ) : Type 0 where
  pub space : s.entry_hi % 2 ^ 12 ≡ asid * 2 ^ 6
  pub small : s.entry_hi < 2 ^ 32

-- The words of the handler.

-- which of the nine words comes next
pub data Phase : Type 0 where
  -- mfc0 $26,$4: Context goes to register 26
  AtContext : Phase
  -- mfc0 $27,$14: EPC goes to register 27
  AtAddress : Phase
  -- lw $26,0($26): the page-table word goes to register 26
  AtLoad : Phase
  -- nop: it comes in
  AtPause : Phase
  -- mtc0 $26,$2: it goes to EntryLo
  AtMove : Phase
  -- addu $26,$0,$0: register 26 is 0
  AtClear : Phase
  -- tlbwr: the entry goes into the TLB
  AtWrite : Phase
  -- jr $27: the unit's address is next
  AtJump : Phase
  -- rfe, in the jump's slot: user mode comes back
  AtReturn : Phase

-- its number among the words
abbrev pub index_of : Phase → ℕ
index_of AtContext = 0
index_of AtAddress = 1
index_of AtLoad = 2
index_of AtPause = 3
index_of AtMove = 4
index_of AtClear = 5
index_of AtWrite = 6
index_of AtJump = 7
index_of AtReturn = 8

-- what the instruction after it has for its address: the last goes back to the unit
abbrev pub next_of : Phase → ℕ → ℕ → ℕ
next_of AtReturn unit at = unit
next_of other unit at = word (at + 4)

-- whether it stands in a slot
abbrev pub in_slot : Phase → Bool
in_slot AtReturn = true
in_slot other = false

-- what the handler is asked with: Context, the unit's address, and the page-table word of the page that was missed
pub record Asked : Type 0 where
  pub context : ℕ
  pub unit : ℕ
  pub entry : ℕ

-- what it has in registers 26 and 27, which load is late, and what it has in EntryLo
pub record Lending : Type 0 where
  pub first : ℕ
  pub second : ℕ
  pub late : Option Late
  pub entry_lo : ℕ

-- what each word finds there
abbrev pub Lends : Phase → Asked → Lending → Type 0
Lends AtContext a l = l.late ≡ None
Lends AtAddress a l = (old : ℕ) × (l.first ≡ a.context) × (l.late ≡ late_of 26 old)
Lends AtLoad a l = (old : ℕ) × (l.first ≡ a.context) × (l.second ≡ a.unit) × (l.late ≡ late_of 27 old)
Lends AtPause a l = (old : ℕ) × (l.first ≡ a.entry) × (l.second ≡ a.unit) × (l.late ≡ late_of 26 old)
Lends AtMove a l = (l.first ≡ a.entry) × (l.second ≡ a.unit) × (l.late ≡ None)
Lends AtClear a l = (l.second ≡ a.unit) × (l.late ≡ None) × (l.entry_lo ≡ a.entry)
Lends AtWrite a l = (l.first ≡ 0) × (l.second ≡ a.unit) × (l.late ≡ None) × (l.entry_lo ≡ a.entry)
Lends AtJump a l = (l.first ≡ 0) × (l.second ≡ a.unit) × (l.late ≡ None)
Lends AtReturn a l = (l.first ≡ 0) × (l.second ≡ a.unit) × (l.late ≡ None)

-- up to the seventh word nothing in the TLB answers for the page, and then one slot does
abbrev pub BufferAnswers : Phase → List Entry → ℕ → ℕ → Type 0
BufferAnswers AtJump entries vpn asid = (slot : ℕ) × (find entries vpn asid ≡ Some slot)
BufferAnswers AtReturn entries vpn asid = (slot : ℕ) × (find entries vpn asid ≡ Some slot)
BufferAnswers other entries vpn asid = find entries vpn asid ≡ None

-- after the seventh word the process is touched
abbrev pub has_touched : Phase → Bool
has_touched AtJump = true
has_touched AtReturn = true
has_touched other = false

-- the seventh word is next: with it, and with no other, the machine is touched
abbrev pub touches : CoreState → Bool
touches c = c.pc == handler_address 6

-- the registers of the unit so far: the process's with its late load finished, or after its branch
abbrev pub AreUnits : Registers → ℕ → State → Type 0
AreUnits r p m = (r ≡ settled (process_of m p).registers) ⊎ IsLinked r p m

-- 32 registers, of which the first is 0, and 64 slots of the TLB, of which Random spares 8: so it is of every processor
pub record IsWhole (c : CoreState) : Type 0 where
  pub size : length c.registers.general ≡ 32
  pub nought : slice_index c.registers.general 0 ≡ 0
  pub slots : length c.entries ≡ 64
  pub low : 8 ≤ c.random
  pub high : c.random < 64

-- the processor is at a word of the handler: a page of the user was missed in the unit of the process
pub record InHandler (phase : Phase) (c : CoreState) (k : Kept) (p : ℕ) (m : State) : Type 0 where
  pub whole : IsWhole c
  pub owed : m.owed ≡ None
  pub pc : c.pc ≡ handler_address (index_of phase)
  pub next : c.next ≡ next_of phase (process_of m p).pc c.pc
  pub slot : c.slot ≡ in_slot phase
  pub status : c.system.status ≡ handler_status
  pub epc : c.system.epc ≡ (process_of m p).pc
  -- the page that was missed, as EntryHi and Context have it
  pub vpn : ℕ
  pub user : vpn < 2 ^ 19
  pub hi : c.system.entry_hi ≡ hi_of vpn (space_of k p)
  pub context : c.system.context ≡ 0xC0000000 + 4 * vpn
  pub answers : BufferAnswers phase c.entries vpn (space_of k p)
  -- the unit's registers, and what of them is lent
  pub base : Registers
  pub first : ℕ
  pub second : ℕ
  pub late : Option Late
  pub registers : c.registers ≡ lent base first second late
  pub units : AreUnits base p m
  pub lends : Lends phase
      (record { context = c.system.context; unit = (process_of m p).pc; entry = granted_word k.grants p vpn })
      (record { first = first; second = second; late = late; entry_lo = c.system.entry_lo })
  pub touch : has_touched phase ≡ true → process_of m p ≡ touched_process (process_of m p)

-- the handler's load missed the page of a table, for which nothing in the TLB answers
pub record InDouble (c : CoreState) (k : Kept) (p : ℕ) (m : State) : Type 0 where
  pub whole : IsWhole c
  pub owed : m.owed ≡ None
  pub status : c.system.status ≡ nested_status
  -- the region of 4 MiB whose table it is
  pub region : ℕ
  pub few : region < 512
  pub hi : c.system.entry_hi ≡ hi_of (0xC0000 + region) (space_of k p)
  pub missed : find c.entries (0xC0000 + region) (space_of k p) ≡ None
  pub base : Registers
  pub first : ℕ
  pub registers : c.registers ≡ lent base first (process_of m p).pc None
  pub units : AreUnits base p m
