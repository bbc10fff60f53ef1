use Rattle.std.proofs.Common.{◌≡◌, ◌++◌}
use Rattle.ds_check.specs.Limits.{of_processes}
use Rattle.ds_check.proofs.limits.push_processes.Given as goal

abbrev pub invariant-loop-index : goal.invariant-loop-index
invariant-loop-index l = l.sheet.items ≡ l.fn.sheet.items ++ of_processes l.rules l.index
