use Rattle.std.proofs.Common.{◌≡◌, ◌+◌, drop}
use Rattle.ds_policy.specs.Pages.{entries_of}
use Rattle.ds_ties.specs.Ties.{shared_among}
use Rattle.ds_ties.proofs.ties.shared_among.Given as goal

-- what the processes that are left share is what all share
abbrev pub invariant-loop-index : goal.invariant-loop-index
invariant-loop-index l = shared_among (entries_of l.table l.process) l.process (l.index + 1) (drop l.index l.table) ≡ shared_among (entries_of l.table l.process) l.process 1 l.table
