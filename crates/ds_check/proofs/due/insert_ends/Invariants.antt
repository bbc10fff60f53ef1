use Rattle.std.proofs.Common.{◌≡◌, ◌+◌, drop}
use Rattle.ds_check.specs.Due.{with_ends}
use Rattle.ds_check.proofs.due.insert_ends.Given as goal

-- what is there, with the ends of the rules that are left, is all
abbrev pub invariant-loop-index : goal.invariant-loop-index
invariant-loop-index l = with_ends (l.index + 1) (drop l.index l.rules) l.due.items ≡ with_ends 1 l.rules l.fn.due.items
