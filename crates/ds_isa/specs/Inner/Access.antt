-- Accesses: what they do, which addresses suit them, and which size an instruction asks for.
use Rattle.std.specs.Prelude.{Option, Some, None}
use Rattle.ds_isa.specs.declared.instr.Size.{Size}
use Rattle.ds_isa.specs.Meaning.{Effect, Loads, Stores}

-- the size of the load or the store that an effect asks for, if it asks for one
abbrev pub size_asked : Effect → Option Size
size_asked (Loads size address after) = Some size
size_asked (Stores size address after) = Some size
size_asked other = None
