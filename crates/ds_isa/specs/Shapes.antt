-- The shape of what an instruction does.
use Rattle.std.specs.Prelude.{Bool, true, false, Option, Some, None}
use Rattle.ds_isa.specs.declared.instr.Size.{Size}
use Rattle.ds_isa.specs.declared.uses.Shape.{Shape}
use Rattle.ds_isa.specs.declared.uses.Shape.TheVariants.{Branch, Load, Store}

-- whether it is a branch or a jump
abbrev pub is_branch : Shape → Bool
is_branch Branch = true
is_branch other = false

-- the size of its load or its store, if it has one
abbrev pub size_of : Shape → Option Size
size_of (Load size) = Some size
size_of (Store size) = Some size
size_of other = None
