-- What the coprocessor's registers tell of an exception, and of the access that was refused by it.
use Rattle.std.specs.Prelude.{ℕ}
use Rattle.ds_isa.specs.declared.instr.Kind.{Kind}
use Rattle.ds_amap.specs.declared.map.Fault.{Fault}
use Rattle.ds_cp0.specs.System.{System, entered}
use Rattle.ds_core.specs.Core.{CoreState}
use Rattle.ds_core.specs.Access.{access_exception}

-- the registers after an access that the address map refused
abbrev pub system_after : CoreState → Kind → ℕ → Fault → System
system_after c access address fault = entered c.system (access_exception c access address fault)
