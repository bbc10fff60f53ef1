use Rattle.std.proofs.Common.{length, take}
use Rattle.std.specs.Io.KnownBytes.{Appends}
use Rattle.ds_station.specs.Reads.{memory_held}
use Rattle.ds_drive.specs.Windows.{window_lines_in}
use Rattle.ds_drive.proofs.windows.send_windows.Given as goal

abbrev pub invariant-loop-window : goal.invariant-loop-window
invariant-loop-window g l =
    Appends (g.O.Output.contents l.fn.out) (g.O.Output.contents l.out) (window_lines_in (length l.station.held.kept.state.processes) (memory_held l.station.held) (take l.window-index l.windows))
