use Rattle.std.proofs.Common.{◌≡◌, drop}
use Rattle.ds_policy.specs.Pages.{found}
use Rattle.ds_log_reasons.proofs.entries.grant_at.Given as goal

-- nothing is found in those before
abbrev pub invariant-loop-entry : goal.invariant-loop-entry
invariant-loop-entry l = found (drop l.entry-index l.entries) l.address ≡ found l.entries l.address
