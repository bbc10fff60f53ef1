-- When a run of the bare machine ends, and why.
use Rattle.std.specs.Prelude.{ℕ, zero, suc, ◌+◌, ◌*◌, Bool, true, false, ◌&&◌, not, ◌==◌, if◌then◌else◌, List, Option, Some, None, Result, Ok, Err}
use Rattle.ds_word.specs.Bytes.{word_at}
use Rattle.ds_isa.specs.declared.instr.Size.TheVariants.{Word}
use Rattle.ds_isa.specs.declared.instr.Kind.TheVariants.{Fetch}
use Rattle.ds_cp0.specs.Codes.{code_number}
use Rattle.ds_cp0.specs.System.{is_user}
use Rattle.ds_amap.specs.declared.map.Physical.{Physical}
use Rattle.ds_amap.specs.declared.map.Fault.{Fault}
use Rattle.ds_dev.specs.Bus.{BusState, is_memory}
use Rattle.ds_core.specs.declared.event.Event.{Event}
use Rattle.ds_core.specs.declared.event.Event.TheVariants.{Retired, Branched, Raised}
use Rattle.ds_core.specs.Access.{reached}
use Rattle.ds_core.specs.Core.{CoreState}
use Rattle.ds_bare.specs.declared.ending.Ending.{Ending}
use Rattle.ds_bare.specs.declared.ending.Ending.TheVariants.{Finished, AtGeneralVector, NoHandler}
use Rattle.ds_bare.specs.Machine.{Machine, next_step, stepped}

-- the word at a place that the address map gives, where memory is
abbrev pub word_in : BusState → Result Physical Fault → Option ℕ
word_in b (Err fault) = None
word_in b (Ok place) = if is_memory place.0 then Some (word_at b.memory place.0) else None

-- the word of the instruction at pc, where that lies in memory
unfoldable pub word_at_pc : CoreState → BusState → Option ℕ
word_at_pc c b = word_in b (reached c Fetch Word c.pc)

-- in kernel mode at an address
abbrev pub is_at : CoreState → ℕ → Bool
is_at c addr = (c.pc == addr) && not (is_user c.system)

-- whether so many words of memory from a place on are 0
unfoldable pub are_zero : List ℕ → ℕ → ℕ → Bool
are_zero memory place zero = true
are_zero memory place (suc n) = are_zero memory place n && (word_at memory (place + 4 * n) == 0)

-- `break 1`
abbrev pub finish : ℕ
finish = 0x4D

-- whether an instruction is `break 1`
abbrev pub is_finish : Option ℕ → Bool
is_finish None = false
is_finish (Some w) = w == finish

-- whether a breakpoint was met
abbrev pub is_breakpoint : Event → Bool
is_breakpoint Retired = false
is_breakpoint Branched = false
is_breakpoint (Raised code) = code_number code == 9

-- why the run ends after a step, if it does: the program said `break 1`, or the processor has come to a vector from which on 32 words are 0
unfoldable pub ending_by : Option ℕ → Event → CoreState → BusState → Option Ending
ending_by w event c b =
    if is_breakpoint event && is_finish w then Some Finished
    else if is_at c 0x80000080 && are_zero b.memory 0x80 32 then Some AtGeneralVector
    else if is_at c 0x80000000 && are_zero b.memory 0 32 then Some NoHandler
    else None

-- the same for a machine's next step
unfoldable pub ending_of : Machine → Option Ending
ending_of m = ending_by (word_at_pc m.core m.bus) (next_step m).event (stepped m).core (stepped m).bus
