use Rattle.std.proofs.Common.{◌≡◌, ◌≤◌, ◌-◌, None, false}
use Rattle.std.specs.Prelude.{IfSome}
use Rattle.ds_debug.specs.Goals.{goal_with}
use Rattle.ds_debug.specs.Places.{HasFound}
use Rattle.ds_debug.proofs.backward.find_last.Given as goal

-- so far this is the last place that is found, and the run stands between two turns
abbrev pub invariant-loop-alloc : goal.invariant-loop-alloc
invariant-loop-alloc g l = record {
  found : HasFound l.sought (goal_with l.actions l.breakpoints l.watchpoints) l.until l.place l.fn.station.held l.station.held;
  small : IfSome l.place (λ p. p.stop.process ≤ 100);
  early : IfSome l.place (λ p. p.time ≤ l.until);
  whole : l.station.held.kept.state.owed ≡ None;
  spent : l.station.held.own.spent ≡ 0;
  working : l.station.held.own.failed ≡ false;
}

abbrev pub decreases-loop-alloc : goal.decreases-loop-alloc
decreases-loop-alloc g l = l.until - l.station.held.kept.state.time
