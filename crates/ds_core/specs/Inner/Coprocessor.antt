-- The instructions of the system coprocessor, the translation buffer's among them (Kane and Heinrich, chapters 4 and 5).
use Rattle.std.specs.Prelude.{Bool, false, ◌&&◌, not}
use Rattle.ds_cp0.specs.System.{is_pending}
use Rattle.ds_core.specs.Core.{CoreState}
use Rattle.ds_core.specs.Coprocessor.{is_coprocessor_usable}

-- whether only a device can interrupt: the program may not use coprocessor 0, and software asks for nothing that is let through
abbrev pub only_devices_interrupt : CoreState → Bool
only_devices_interrupt c = not (is_coprocessor_usable c 0) && not (is_pending c.system false false)
