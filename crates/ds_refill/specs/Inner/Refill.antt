-- What each word of the refill handler makes of the processor, and a whole refill.
use Rattle.std.specs.Prelude.{◌≡◌, ℕ, zero, suc, ◌+◌, ◌*◌, ◌^◌, Bool, true, false, List, [], ◌∷◌, Some}
use Rattle.ds_word.specs.Word.{word, bits}
use Rattle.ds_isa.specs.declared.instr.Size.TheVariants.{Word}
use Rattle.ds_isa.specs.Registers.{Registers, read, settled, written, loaded}
use Rattle.ds_isa.specs.Meaning.{access_address}
use Rattle.ds_cp0.specs.declared.exception.Exception.{Exception}
use Rattle.ds_cp0.specs.declared.exception.ExceptionCode.TheVariants.{LoadMiss}
use Rattle.ds_cp0.specs.System.{System, is_user, returned}
use Rattle.ds_isa.specs.declared.instr.Kind.TheVariants.{Load}
use Rattle.ds_dev.specs.Bus.{BusState}
use Rattle.ds_tlb.specs.declared.entry.Entry.{Entry}
use Rattle.ds_tlb.specs.Entries.{random_after}
use Rattle.ds_core.specs.declared.event.Event.{Event}
use Rattle.ds_core.specs.declared.event.Event.TheVariants.{Retired, Branched}
use Rattle.ds_core.specs.Effect.{step}
use Rattle.ds_core.specs.Core.{CoreState, Step, at_next, branched, with_tick}
use Rattle.ds_core.specs.Access.{reached, loaded_from}
use Rattle.ds_core.specs.Coprocessor.{with_slot_written}

-- kernel mode, interrupts off
pub record IsKernel (s : System) : Type 0 where
  pub mode : is_user s ≡ false
  pub off : bits s.status 0 1 ≡ 0

-- What each word makes of the processor.

-- the first word: register 26 is late with Context, where the page table entry stands
abbrev pub context_read : CoreState → BusState → Step
context_read c b = with_tick (at_next c b (loaded c.registers 26 c.system.context))

-- the second: register 27 is late with EPC
abbrev pub address_read : CoreState → BusState → Step
address_read c b = with_tick (at_next c b (loaded c.registers 27 c.system.epc))

-- the third: register 26 is late with the page table entry, or the load misses
abbrev pub entry_loaded : CoreState → BusState → Step
entry_loaded c b = let addr = access_address c.registers 26 0 in with_tick (loaded_from c b Word addr (λ w. loaded c.registers 26 w) (reached c Load Word addr))

-- the fourth, a nop: late loads come in
abbrev pub passed : CoreState → BusState → Step
passed c b = with_tick (at_next c b (settled c.registers))

-- the fifth: EntryLo has the page table entry
abbrev pub entry_moved : CoreState → BusState → Step
entry_moved c b = with_tick (at_next (record c { system = record c.system { entry_lo = bits (read c.registers 26) 8 24 * 2 ^ 8 } }) b (settled c.registers))

-- the sixth: register 26 is 0
abbrev pub cleared : CoreState → BusState → Step
cleared c b = with_tick (at_next c b (written c.registers 26 (word (read c.registers 0 + read c.registers 0))))

-- the seventh: the slot that Random names has the entry
abbrev pub entry_written : CoreState → BusState → Step
entry_written c b = with_tick (with_slot_written c b c.random)

-- the eighth: on to where register 27 says, after a slot
abbrev pub jumped : CoreState → BusState → Step
jumped c b = with_tick (branched c.slot c b (settled c.registers) (read c.registers 27))

-- the ninth, in that slot: the mode is what it was before the miss
abbrev pub came_back : CoreState → BusState → Step
came_back c b = with_tick (at_next (record c { system = returned c.system }) b (settled c.registers))

-- the miss of the page of a table, by the third word
abbrev pub table_miss : ℕ → Exception
table_miss x = record { code = LoadMiss; pc = 0x80000008; slot = false; unit = 0; addr = Some x; miss = true }

-- the processor before the word at pc
abbrev pub at_word : ℕ → ℕ → Bool → Registers → System → List Entry → ℕ → CoreState
at_word pc next slot r s es random = record { registers = r; pc = pc; next = next; slot = slot; system = s; entries = es; random = random }

-- Random so many steps later
abbrev pub later : ℕ → ℕ → ℕ
later zero random = random
later (suc n) random = later n (random_after 64 8 random)

-- the instruction is done, and the bus stays
abbrev pub went : CoreState → BusState → Step
went c b = record { event = Retired; core = c; bus = b }

-- steps with these events lead from one processor to the other, and leave the bus as it is
abbrev pub RunsBy : List Event → CoreState → BusState → CoreState → Type 0
RunsBy [] c b t = t ≡ c
RunsBy (e ∷ es) c b t = (s : CoreState) × (step c b ≡ record { event = e; core = s; bus = b }) × RunsBy es s b t

-- what the nine words do: all are done, and the eighth is a jump
abbrev pub handler_events : List Event
handler_events = Retired ∷ Retired ∷ Retired ∷ Retired ∷ Retired ∷ Retired ∷ Retired ∷ Branched ∷ Retired ∷ []
