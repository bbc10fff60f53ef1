use Rattle.std.proofs.Common.{◌≡◌, ◌-◌}
use Rattle.ds_bare_debug.specs.Going.{next_stop}
use Rattle.ds_bare_debug.specs.Inner.Goals.{goal_seen}
use Rattle.ds_bare_debug.proofs.forward.go.Given as goal

-- from here it comes to where it comes from the beginning
abbrev pub invariant-loop-alloc : goal.invariant-loop-alloc
invariant-loop-alloc l = next_stop (goal_seen l.goal) (l.limit - l.runner.done) l.runner ≡ next_stop (goal_seen l.goal) (l.limit - l.fn.runner.done) l.fn.runner

abbrev pub decreases-loop-alloc : goal.decreases-loop-alloc
decreases-loop-alloc l = l.limit - l.runner.done
