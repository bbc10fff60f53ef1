-- The shape of what an instruction does.
use Rattle.ds_isa.specs.declared.uses.Shape.{Shape}
use Rattle.ds_isa.specs.declared.uses.Shape.TheVariants.{Straight, Branch, Load, Store, Trap, System}
use Rattle.ds_isa.specs.Meaning.{Effect, Goes, Branches, Loads, Stores, Faults, Calls, Privileged}

-- the shape of an effect; an overflow too is a trap
abbrev pub effect_shape : Effect → Shape
effect_shape (Goes after) = Straight
effect_shape (Branches after target) = Branch
effect_shape (Loads size address after) = Load size
effect_shape (Stores size address after) = Store size
effect_shape (Faults code) = Trap
effect_shape Calls = Trap
effect_shape Privileged = System
