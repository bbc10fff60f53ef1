-- Accesses: what they do, which addresses suit them, and which size an instruction asks for.
use Rattle.std.specs.Prelude.{ℕ, ◌%◌, ◌==◌, Bool, true, false, Option}
use Rattle.ds_isa.specs.declared.instr.Size.{Size}
use Rattle.ds_isa.specs.declared.instr.Size.TheVariants.{Byte, Half, Word, Part}
use Rattle.ds_isa.specs.declared.instr.Kind.{Kind}
use Rattle.ds_isa.specs.declared.instr.Kind.TheVariants.{Fetch, Load, Store}
use Rattle.ds_isa.specs.declared.instr.Instr.{Instr}
use Rattle.ds_isa.specs.Uses.{uses}
use Rattle.ds_isa.specs.Shapes.{size_of}

-- whether an access writes bytes
abbrev pub is_store : Kind → Bool
is_store Fetch = false
is_store Load = false
is_store Store = true

-- whether an address suits the size of an access
abbrev pub is_aligned : Size → ℕ → Bool
is_aligned Byte address = true
is_aligned Half address = address % 2 == 0
is_aligned Word address = address % 4 == 0
is_aligned Part address = true

-- the size of the load or the store that an instruction is, if it is one
abbrev pub access_size : Instr → Option Size
access_size i = size_of (uses i).shape
