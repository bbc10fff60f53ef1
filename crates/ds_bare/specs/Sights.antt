-- What of the machine is seen between two instructions, with no effect on it.
use Rattle.std.specs.Prelude.{ℕ, ◌*◌, ◌%◌, if◌then◌else◌, Option, Some, None, Result, Ok, Err}
use Rattle.ds_word.specs.Word.{bits}
use Rattle.ds_word.specs.Bytes.{word_at}
use Rattle.ds_isa.specs.declared.instr.Kind.TheVariants.{Load}
use Rattle.ds_cp0.specs.System.{asid_of}
use Rattle.ds_amap.specs.declared.map.Physical.{Physical}
use Rattle.ds_amap.specs.declared.map.Fault.{Fault}
use Rattle.ds_amap.specs.Map.{translate}
use Rattle.ds_dev.specs.Bus.{BusState, is_memory}
use Rattle.ds_core.specs.Access.{mode_of}
use Rattle.ds_bare.specs.Machine.{Machine}

-- the byte at a place that the address map gives, where memory is
abbrev pub byte_in : BusState → Result Physical Fault → Option ℕ
byte_in b (Err fault) = None
byte_in b (Ok place) = if is_memory place.0 then Some (bits (word_at b.memory place.0) (8 * (place.0 % 4)) 8) else None

-- the byte that a load at an address would read, in the mode and the address space of now, where that lies in memory
unfoldable pub byte_seen : Machine → ℕ → Option ℕ
byte_seen m address = byte_in m.bus (translate m.core.entries (asid_of m.core.system) (mode_of m.core.system) Load address)
