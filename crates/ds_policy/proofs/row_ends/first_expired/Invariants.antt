use Rattle.std.proofs.Common.{◌≡◌, drop}
use Rattle.ds_policy.specs.Inner.Ends.{first_expired}
use Rattle.ds_policy.proofs.row_ends.first_expired.Given as goal

abbrev pub invariant-loop-entry : goal.invariant-loop-entry
invariant-loop-entry l = first_expired l.now (drop l.entry-index l.entries) ≡ first_expired l.now l.entries
