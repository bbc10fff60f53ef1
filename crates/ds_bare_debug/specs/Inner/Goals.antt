-- What stops a run, as code has it.
use Rattle.ds_bare_debug.specs.Goals.{BareGoal}
use Rattle.ds_bare_debug.specs.declared.goals.Goal.{Goal as Given}

-- what the code is given
abbrev pub goal_seen : Given → BareGoal
goal_seen g = record { action = g.action; breakpoints = g.breakpoints.now; watchpoints = g.watchpoints.now; stop_at = g.stop_at }
