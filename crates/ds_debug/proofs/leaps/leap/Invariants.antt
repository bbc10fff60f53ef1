use Rattle.std.proofs.Common.{◌≡◌, ◌≤◌, ◌-◌, None, false}
use Rattle.ds_refinement.specs.Real.{RealPath}
use Rattle.ds_refinement.specs.Inner.Runs.{RunsWithin}
use Rattle.ds_debug.specs.Forward.{HasPassed}
use Rattle.ds_debug.specs.Goals.{goal_with}
use Rattle.ds_debug.proofs.leaps.leap.Given as goal

-- so far the run has passed without a stop, and stands between two turns
abbrev pub invariant-loop-ahead : goal.invariant-loop-ahead
invariant-loop-ahead l = record {
  passed : HasPassed (goal_with l.actions l.breakpoints l.watchpoints) l.n l.fn.station.held l.station.held;
  path : RealPath l.fn.station.held l.station.held;
  within : RunsWithin l.n l.fn.station.held l.station.held;
  whole : l.station.held.kept.state.owed ≡ None;
  spent : l.station.held.own.spent ≡ 0;
  working : l.station.held.own.failed ≡ false;
  same : l.past ≡ l.fn.past;
  later : l.fn.station.held.kept.state.time ≤ l.station.held.kept.state.time;
}

abbrev pub decreases-loop-ahead : goal.decreases-loop-ahead
decreases-loop-ahead l = l.n - l.station.held.kept.state.time
