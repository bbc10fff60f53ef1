use Rattle.std.proofs.Common.{◌≡◌, ◌≤◌}
use Rattle.ds_bare_debug.specs.Going.{last_stop}
use Rattle.ds_bare_debug.specs.Positions.{position}
use Rattle.ds_bare_debug.specs.Inner.Goals.{goal_seen}
use Rattle.ds_bare_debug.specs.Runs.{run_seen}
use Rattle.ds_bare_debug.proofs.back.last_stop.Given as goal

-- so far this is the last that stops
abbrev pub invariant-loop-done : goal.invariant-loop-done
invariant-loop-done l = record {
  there : l.runner ≡ position (run_seen l.run) l.done;
  place : l.place ≡ last_stop (run_seen l.run) (goal_seen l.goal) l.done;
  early : l.place.done ≤ l.done;
}
