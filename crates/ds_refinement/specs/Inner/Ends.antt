-- The service of an exception that ends its unit.
use Rattle.std.specs.Prelude.{ℕ}
use Rattle.ds_pagemap.specs.Unit.{Stop}
use Rattle.ds_refinement.specs.Held.{Held}
use Rattle.ds_refinement.specs.Units.{ends_in_stop, ends_in_call}
use Rattle.ds_refinement.specs.Inner.Services.{EndsUnitBy}
use Rattle.ds_refinement.specs.Told.{own_in}

-- the unit of a process is stopped: it began at EPC, and its instruction stands where the coprocessor tells
abbrev pub EndsInStop : ℕ → Stop → Held → Held → Type 0
EndsInStop p stop old new = EndsUnitBy (ends_in_stop p old.core.system.epc (own_in old.core.system) stop) old new

-- the unit of a process, which is its call at EPC, is done
abbrev pub EndsInCall : ℕ → Held → Held → Type 0
EndsInCall p old new = EndsUnitBy (ends_in_call p old.core.system.epc) old new
