use Rattle.std.proofs.Common.{◌≡◌, ◌-◌, ◌++◌}
use Rattle.ds_debug.specs.Resumes.{actions_by, actions_from}
use Rattle.ds_debug.proofs.actions.actions_by.Given as goal

-- those so far, and those that are left
abbrev pub invariant-loop-process : goal.invariant-loop-process
invariant-loop-process l = l.actions.items ++ actions_from l.action l.going l.words l.process (101 - l.process) ≡ actions_by l.action l.going l.words
