-- Fetches, loads and stores: alignment before the segment, that before the translation, and then the bus.
use Rattle.std.specs.Prelude.{ℕ, Bool, true, false, not, if◌then◌else◌, Some, Result, Ok, Err}
use Rattle.ds_isa.specs.declared.instr.Size.{Size}
use Rattle.ds_isa.specs.declared.instr.Kind.{Kind}
use Rattle.ds_isa.specs.declared.instr.Kind.TheVariants.{Load, Store}
use Rattle.ds_isa.specs.Access.{is_store, is_aligned}
use Rattle.ds_isa.specs.Registers.{Registers, settled}
use Rattle.ds_word.specs.Bytes.{word_at, with_word}
use Rattle.ds_cp0.specs.declared.exception.Exception.{Exception}
use Rattle.ds_cp0.specs.declared.exception.ExceptionCode.{ExceptionCode}
use Rattle.ds_cp0.specs.declared.exception.ExceptionCode.TheVariants.{Modification, LoadMiss, StoreMiss, LoadAddress, StoreAddress, DataBus}
use Rattle.ds_cp0.specs.System.{System, asid_of, is_user}
use Rattle.ds_amap.specs.declared.map.Mode.{Mode}
use Rattle.ds_amap.specs.declared.map.Mode.TheVariants.{User, Kernel}
use Rattle.ds_amap.specs.declared.map.Physical.{Physical}
use Rattle.ds_amap.specs.declared.map.Fault.{Fault}
use Rattle.ds_amap.specs.declared.map.Fault.TheVariants.{Address, Refill, Invalid, Modified}
use Rattle.ds_amap.specs.Map.{translate}
use Rattle.ds_dev.specs.declared.fault.BusError.{BusError}
use Rattle.ds_dev.specs.Bus.{BusState, is_memory, answers, store_taken}
use Rattle.ds_dev.specs.Bus as bus
use Rattle.ds_core.specs.Core.{CoreState, Step, at_vector, trapped, at_next}

-- the mode in which the processor is
abbrev pub mode_of : System → Mode
mode_of s = if is_user s then User else Kernel

-- the physical address of an access, or why there is none
abbrev pub reached : CoreState → Kind → Size → ℕ → Result Physical Fault
reached c access size addr =
    if not (is_aligned size addr) then Err Address
    else translate c.entries (asid_of c.system) (mode_of c.system) access addr

-- the exception of an access that has no physical address
abbrev pub code_of : Fault → Bool → ExceptionCode
code_of Address store = if store then StoreAddress else LoadAddress
code_of Refill store = if store then StoreMiss else LoadMiss
code_of Invalid store = if store then StoreMiss else LoadMiss
code_of Modified store = Modification

-- no entry matches
abbrev pub is_refill : Fault → Bool
is_refill Refill = true
is_refill Address = false
is_refill Invalid = false
is_refill Modified = false

-- the exception of an access that the address map refuses
abbrev pub access_exception : CoreState → Kind → ℕ → Fault → Exception
access_exception c access addr fault = record {
  code = code_of fault (is_store access);
  pc = c.pc;
  slot = c.slot;
  unit = 0;
  addr = Some addr;
  miss = is_refill fault;
}

-- the exception is raised, and nothing is done
abbrev pub refused_step : CoreState → BusState → Kind → ℕ → Fault → Step
refused_step c b access addr fault = at_vector c b (access_exception c access addr fault)

-- a load of the aligned word that holds a place in memory, whatever the size; devices answer to whole words alone
abbrev pub aligned_load : BusState → ℕ → Size → Result ℕ BusError × BusState
aligned_load b place size = if is_memory place then answers b (word_at b.memory place) else bus.load b place size

-- the aligned word that holds a place in memory, which a store of a part of it keeps; 0 elsewhere
abbrev pub kept_word : BusState → ℕ → ℕ
kept_word b place = if is_memory place then word_at b.memory place else 0

-- a store of the aligned word that holds a place in memory, whatever the size; devices take whole words alone
abbrev pub aligned_store : BusState → ℕ → Size → ℕ → Result (Unit {0}) BusError × BusState
aligned_store b place size w =
    if is_memory place then store_taken (record b { memory = with_word b.memory place w }) else bus.store b place size w

-- what the bus answered to a load
abbrev pub load_answered : CoreState → BusState → (ℕ → Registers) → Result ℕ BusError → Step
load_answered c b after (Err e) = trapped c b DataBus
load_answered c b after (Ok w) = at_next c b (after w)

-- a load from the place that the address map gives, or its exception
abbrev pub loaded_from : CoreState → BusState → Size → ℕ → (ℕ → Registers) → Result Physical Fault → Step
loaded_from c b size addr after (Err fault) = refused_step c b Load addr fault
loaded_from c b size addr after (Ok place) = (let r = aligned_load b place.0 size in load_answered c r.1 after r.0)

-- what the bus answered to a store
abbrev pub store_answered : CoreState → BusState → Result (Unit {0}) BusError → Step
store_answered c b (Err e) = trapped c b DataBus
store_answered c b (Ok done) = at_next c b (settled c.registers)

-- a store to the place that the address map gives, or its exception
abbrev pub stored_to : CoreState → BusState → Size → ℕ → (ℕ → ℕ) → Result Physical Fault → Step
stored_to c b size addr after (Err fault) = refused_step c b Store addr fault
stored_to c b size addr after (Ok place) = (let r = aligned_store b place.0 size (after (kept_word b place.0)) in store_answered c r.1 r.0)
