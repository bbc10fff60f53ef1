-- One machine instruction, in user or kernel mode.
use Rattle.std.specs.Prelude.{ℕ, ◌==◌, if◌then◌else◌, Result, Ok, Err}
use Rattle.ds_isa.specs.declared.instr.Size.TheVariants.{Word}
use Rattle.ds_isa.specs.declared.instr.Instr.{Instr}
use Rattle.ds_isa.specs.Instruction.{instruction_of}
use Rattle.ds_isa.specs.Meaning.{Effect, Goes, Branches, Loads, Stores, Faults, Calls, Privileged, meaning}
use Rattle.ds_cp0.specs.declared.exception.ExceptionCode.{ExceptionCode}
use Rattle.ds_cp0.specs.declared.exception.ExceptionCode.TheVariants.{Interrupt, FetchBus, SystemCall, Breakpoint, ReservedInstruction, Overflow}
use Rattle.ds_cp0.specs.System.{is_pending}
use Rattle.ds_isa.specs.declared.instr.Kind.TheVariants.{Fetch, Load, Store}
use Rattle.ds_amap.specs.declared.map.Physical.{Physical}
use Rattle.ds_amap.specs.declared.map.Fault.{Fault}
use Rattle.ds_dev.specs.declared.fault.BusError.{BusError}
use Rattle.ds_dev.specs.Bus.{BusState, lines}
use Rattle.ds_core.specs.Core.{CoreState, Step, trapped, at_next, branched, with_tick}
use Rattle.ds_core.specs.Access.{reached, refused_step, aligned_load, loaded_from, stored_to}
use Rattle.ds_core.specs.Coprocessor.{privileged}

-- the cause of a fault of the instruction itself
abbrev pub fault_code : ℕ → ExceptionCode
fault_code code = if code == 9 then Breakpoint else if code == 12 then Overflow else ReservedInstruction

-- what an instruction's effect makes of processor and bus
abbrev pub effect : CoreState → BusState → Instr → Effect → Step
effect c b i (Goes after) = at_next c b after
effect c b i (Branches after target) = branched c.slot c b after target
effect c b i (Loads size addr after) = loaded_from c b size addr after (reached c Load size addr)
effect c b i (Stores size addr after) = stored_to c b size addr after (reached c Store size addr)
effect c b i (Faults code) = trapped c b (fault_code code)
effect c b i Calls = trapped c b SystemCall
effect c b i Privileged = privileged c b i

-- the instruction of a word
abbrev pub executed : CoreState → BusState → Instr → Step
executed c b i = effect c b i (meaning i c.pc c.registers)

-- what the bus answered to the fetch
abbrev pub fetch_answered : CoreState → BusState → Result ℕ BusError → Step
fetch_answered c b (Err e) = trapped c b FetchBus
fetch_answered c b (Ok w) = executed c b (instruction_of w)

-- the instruction at the place that the address map gives, or the exception of its fetch
abbrev pub fetched_from : CoreState → BusState → Result Physical Fault → Step
fetched_from c b (Err fault) = refused_step c b Fetch c.pc fault
fetched_from c b (Ok place) = (let r = aligned_load b place.0 Word in fetch_answered c r.1 r.0)

-- the instruction at pc
abbrev pub instruction_step : CoreState → BusState → Step
instruction_step c b = fetched_from c b (reached c Fetch Word c.pc)

-- an interrupt, or the instruction at pc
abbrev pub step : CoreState → BusState → Step
step c b = if is_pending c.system (lines b).0 (lines b).1 then trapped c b Interrupt else with_tick (instruction_step c b)
