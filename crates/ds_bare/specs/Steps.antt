-- The line of a step: its number, its address, its instruction, and what it changed.
use Rattle.std.specs.Prelude.{codes, decimal, ℕ, ◌+◌, ◌*◌, ◌/◌, ◌%◌, ◌^◌, Bool, true, false, ◌==◌, ◌||◌, not, if◌then◌else◌, List, [], ◌∷◌, ◌++◌, slice_get, slice_set, Option, Some, None, Result, Ok, Err}
use Rattle.ds_word.specs.Bytes.{word_at}
use Rattle.ds_isa.specs.declared.instr.Late.{Late}
use Rattle.ds_isa.specs.declared.instr.Instr.{Instr}
use Rattle.ds_isa.specs.declared.instr.Instr.TheVariants as instr
use Rattle.ds_isa.specs.declared.instr.Kind.TheVariants.{Load, Store}
use Rattle.ds_isa.specs.Instruction.{instruction_of}
use Rattle.ds_isa.specs.Registers.{Registers, read}
use Rattle.ds_isa.specs.Meaning.{access_address}
use Rattle.ds_listing.specs.declared.names.RegisterNames.{RegisterNames}
use Rattle.ds_listing.specs.NamedTexts.{register_as, text_as}
use Rattle.ds_text.specs.Digits.{hex8}
use Rattle.ds_tlb.specs.declared.entry.Entry.{Entry}
use Rattle.ds_cp0.specs.Codes.{code_number}
use Rattle.ds_cp0.specs.System.{asid_of}
use Rattle.ds_amap.specs.declared.map.Physical.{Physical}
use Rattle.ds_amap.specs.declared.map.Fault.{Fault}
use Rattle.ds_amap.specs.Map.{translate}
use Rattle.ds_dev.specs.Bus.{BusState, is_memory}
use Rattle.ds_core.specs.declared.event.Event.{Event}
use Rattle.ds_core.specs.declared.event.Event.TheVariants.{Retired, Branched, Raised}
use Rattle.ds_core.specs.Access.{mode_of}
use Rattle.ds_core.specs.Coprocessor.{index_slot, system_reads}
use Rattle.ds_core.specs.Core.{CoreState}
use Rattle.ds_bare.specs.declared.before.Before.{Before}
use Rattle.ds_bare.specs.declared.before.Stored.{Stored}

-- a register's name, by its number: 0 to 31 are the general ones, which have numbers or common names
unfoldable pub name_of : RegisterNames → ℕ → List ℕ
name_of names n =
    if n == 32 then codes "HI" else
    if n == 33 then codes "LO" else
    if n == 34 then codes "Index" else
    if n == 35 then codes "EntryLo" else
    if n == 36 then codes "Context" else
    if n == 37 then codes "BadVAddr" else
    if n == 38 then codes "EntryHi" else
    if n == 39 then codes "Status" else
    if n == 40 then codes "Cause" else
    if n == 41 then codes "EPC" else register_as names n

-- the general registers with the old value of one whose load is late
abbrev pub seen_by : Option Late → List ℕ → List ℕ
seen_by None general = general
seen_by (Some l) general = slice_set general l.register l.old

-- the general registers, as the next instruction reads them
abbrev pub general_seen : Registers → List ℕ
general_seen r = seen_by r.late r.general

-- HI, LO, and the coprocessor's registers as `mfc0` reads them, in the order of their names
unfoldable pub others : CoreState → BusState → List ℕ
others c b =
    c.registers.hi ∷ c.registers.lo
    ∷ c.system.index ∷ c.system.entry_lo ∷ c.system.context ∷ c.system.bad_vaddr ∷ c.system.entry_hi
    ∷ c.system.status ∷ system_reads c b 13 ∷ c.system.epc ∷ []

-- the slot of the buffer that an instruction writes, if it does
abbrev pub slot_written : CoreState → Instr → Option ℕ
slot_written c instr.Tlbwi = Some (index_slot c.system)
slot_written c instr.Tlbwr = Some c.random
slot_written c i = None

-- the address of a store and the register that is stored, if the instruction is one
abbrev pub store_of : Registers → Instr → Option (ℕ × ℕ)
store_of r (instr.Sb rt rs i) = Some (access_address r rs i, read r rt)
store_of r (instr.Sh rt rs i) = Some (access_address r rs i, read r rt)
store_of r (instr.Swl rt rs i) = Some (access_address r rs i, read r rt)
store_of r (instr.Sw rt rs i) = Some (access_address r rs i, read r rt)
store_of r (instr.Swr rt rs i) = Some (access_address r rs i, read r rt)
store_of r i = None

-- the physical place of a store
abbrev pub stored_place : ℕ → Result Physical Fault → Option Stored
stored_place value (Err fault) = None
stored_place value (Ok place) = Some (record { place = place.0; value = value })

-- the same, where there is a store
abbrev pub stored_by : CoreState → Option (ℕ × ℕ) → Option Stored
stored_by c None = None
stored_by c (Some s) = stored_place s.1 (translate c.entries (asid_of c.system) (mode_of c.system) Store s.0)

-- the address of a load, if the instruction is one
abbrev pub load_of : Registers → Instr → Option ℕ
load_of r (instr.Lb rt rs i) = Some (access_address r rs i)
load_of r (instr.Lh rt rs i) = Some (access_address r rs i)
load_of r (instr.Lwl rt rs i) = Some (access_address r rs i)
load_of r (instr.Lw rt rs i) = Some (access_address r rs i)
load_of r (instr.Lbu rt rs i) = Some (access_address r rs i)
load_of r (instr.Lhu rt rs i) = Some (access_address r rs i)
load_of r (instr.Lwr rt rs i) = Some (access_address r rs i)
load_of r i = None

-- whether an access reaches a device, by its physical place
abbrev pub is_device : Result Physical Fault → Bool
is_device (Err fault) = false
is_device (Ok place) = not (is_memory place.0)

-- whether a load does
abbrev pub loads_device : CoreState → Option ℕ → Bool
loads_device c None = false
loads_device c (Some address) = is_device (translate c.entries (asid_of c.system) (mode_of c.system) Load address)

-- whether a store does
abbrev pub stores_device : Option Stored → Bool
stores_device None = false
stores_device (Some s) = not (is_memory s.place)

-- what a slot of the buffer holds, where one is named
abbrev pub held_at : CoreState → Option ℕ → Option Entry
held_at c None = None
held_at c (Some slot) = slice_get c.entries slot

-- what of the machine before an instruction its line tells, with its registers but the general ones
abbrev pub before_word : CoreState → List ℕ → Option ℕ → Before
before_word c others None = record { pc = c.pc; word = None; registers = general_seen c.registers; others = others; slot = None; held = None; stored = None; device = false }
before_word c others (Some w) = record {
  pc = c.pc;
  word = Some w;
  registers = general_seen c.registers;
  others = others;
  slot = slot_written c (instruction_of w);
  held = held_at c (slot_written c (instruction_of w));
  stored = stored_by c (store_of c.registers (instruction_of w));
  device = loads_device c (load_of c.registers (instruction_of w)) || stores_device (stored_by c (store_of c.registers (instruction_of w)));
}

-- the instruction, or that there is none in memory
abbrev pub instruction_text : RegisterNames → Option ℕ → List ℕ
instruction_text names None = codes "not fetched"
instruction_text names (Some w) = text_as names w

-- the bits of an entry
abbrev pub flag_text : List ℕ → Bool → List ℕ
flag_text name true = name
flag_text name false = []

abbrev pub flags_text : Entry → List ℕ
flags_text e = flag_text (codes " N") e.n ++ flag_text (codes " D") e.d ++ flag_text (codes " V") e.v ++ flag_text (codes " G") e.g

-- an entry of the buffer: the page's address, its address space, the frame's address, the bits
abbrev pub buffer_entry_text : Entry → List ℕ
buffer_entry_text e =
    hex8 (e.vpn % 2 ^ 20 * 2 ^ 12) ++ codes " asid " ++ decimal e.asid ++ codes " frame " ++ hex8 (e.pfn % 2 ^ 20 * 2 ^ 12) ++ flags_text e

-- a slot with its entry
abbrev pub slot_entry_text : ℕ → Option Entry → List ℕ
slot_entry_text slot None = []
slot_entry_text slot (Some e) = codes "slot " ++ decimal slot ++ codes " " ++ buffer_entry_text e

-- the slot that was written, if one was
abbrev pub slot_written_text : List Entry → Option ℕ → List ℕ
slot_written_text entries None = []
slot_written_text entries (Some slot) = codes "; " ++ slot_entry_text slot (slice_get entries slot)

-- the word that a place has after a store: in memory its word, else what the device was given
abbrev pub word_stored : BusState → Stored → ℕ
word_stored b s = if is_memory s.place then word_at b.memory s.place else s.value

-- the word that was stored, with its physical address, if one was
abbrev pub stored_text : BusState → Option Stored → List ℕ
stored_text b None = []
stored_text b (Some s) = codes "; " ++ hex8 (s.place / 4 * 4) ++ codes " holds " ++ hex8 (word_stored b s)

-- the register whose load is late, if one is
abbrev pub late_text : RegisterNames → Option Late → List ℕ
late_text names None = []
late_text names (Some l) = codes "; " ++ name_of names l.register ++ codes " is late"

-- what an instruction that is done wrote elsewhere than into a register
abbrev pub wrote_text : RegisterNames → Before → CoreState → BusState → List ℕ
wrote_text names before c b = slot_written_text c.entries before.slot ++ stored_text b before.stored ++ late_text names c.registers.late

-- the same by the step's event
abbrev pub written_text : RegisterNames → Before → Event → CoreState → BusState → List ℕ
written_text names before Retired c b = wrote_text names before c b
written_text names before Branched c b = []
written_text names before (Raised code) c b = []

-- a register that may have changed
abbrev pub change_text : RegisterNames → ℕ → ℕ → ℕ → List ℕ
change_text names n old new = if old == new then [] else codes "; " ++ name_of names n ++ codes " " ++ hex8 new

-- the registers that changed, the first of which has this number
abbrev pub changes_text : RegisterNames → ℕ → List ℕ → List ℕ → List ℕ
changes_text names n [] news = []
changes_text names n (old ∷ olds) [] = []
changes_text names n (old ∷ olds) (new ∷ news) = change_text names n old new ++ changes_text names (n + 1) olds news

-- an exception's name, by the number that Cause shows (Kane and Heinrich, chapter 5)
abbrev pub code_name : ℕ → List ℕ
code_name n =
    if n == 0 then codes "Int" else
    if n == 1 then codes "Mod" else
    if n == 2 then codes "TLBL" else
    if n == 3 then codes "TLBS" else
    if n == 4 then codes "AdEL" else
    if n == 5 then codes "AdES" else
    if n == 6 then codes "IBE" else
    if n == 7 then codes "DBE" else
    if n == 8 then codes "Sys" else
    if n == 9 then codes "Bp" else
    if n == 10 then codes "RI" else
    if n == 11 then codes "CpU" else
    if n == 12 then codes "Ov" else codes "reserved"

-- an exception's code and its name
unfoldable pub code_text : ℕ → List ℕ
code_text n = decimal n ++ codes " " ++ code_name n

-- an exception with its code and its vector
unfoldable pub raised_text : ℕ → ℕ → List ℕ
raised_text code pc = codes "; exception " ++ code_text code ++ codes " at " ++ hex8 pc

-- the same by a step's event
abbrev pub event_text : Event → ℕ → List ℕ
event_text Retired pc = []
event_text Branched pc = []
event_text (Raised code) pc = raised_text (code_number code) pc

-- what all registers have that changed
unfoldable pub changed_registers_text : RegisterNames → Before → CoreState → BusState → List ℕ
changed_registers_text names before c b = changes_text names 0 before.registers (general_seen c.registers) ++ changes_text names 32 before.others (others c b)

-- a step's number, its address and its instruction
unfoldable pub front_text : RegisterNames → ℕ → ℕ → Option ℕ → List ℕ
front_text names k pc word = decimal k ++ codes " " ++ hex8 pc ++ codes " " ++ instruction_text names word

-- the line of the step with this number, with registers called by these names
unfoldable pub numbered_step_text : RegisterNames → ℕ → Before → Event → CoreState → BusState → List ℕ
numbered_step_text names k before event c b =
    front_text names k before.pc before.word ++ written_text names before event c b ++ changed_registers_text names before c b ++ event_text event c.pc ++ codes "\n"
