-- A page of the process that runs was missed.
use Rattle.std.specs.Prelude.{◌==◌, ◌&&◌, Bool, not}
use Rattle.ds_cp0.specs.System.{is_user}
use Rattle.ds_core.specs.Core.{CoreState}

-- in kernel mode at the vector of misses: the handler's first word comes next
abbrev pub has_missed : CoreState → Bool
has_missed c = not (is_user c.system) && (c.pc == 0x80000000)
