use Rattle.std.proofs.Common.{take, drop, suc, subst, length}
use Rattle.std.specs.Prelude.{flat_map}
use Rattle.ds_text.specs.Sent.{AppendsPart}
use Rattle.ds_text.proofs.Sends.{at_err, part_after, part_before, flat_map_at}
use Rattle.ds_station.specs.Reads.{memory_held}
use Rattle.ds_drive.specs.Windows.{window_lines}
use Rattle.ds_drive.proofs.windows.send_windows.Goals as goal

pub returns-in_err-send_window-clause-err : goal.returns-in_err-send_window-clause-err
returns-in_err-send_window-clause-err g c =
    let lines = window_lines (length c.args.station.now.held.kept.state.processes) (memory_held c.args.station.now.held) in
    at_err c.from_residual.result
    (subst (AppendsPart _ _) (flat_map_at lines c.args.windows.now c.loop-window.window-index _ c.loop-window-test.true)
    (part_after _ _ _ (flat_map lines (take c.loop-window.window-index c.args.windows.now)) _ c.loop-window.invariant
    (part_before _ _ _ (flat_map lines (drop (suc c.loop-window.window-index) c.args.windows.now)) c.in_err-send_window.ensures.err)))
