use Rattle.std.proofs.Common.{◌≡◌, ◌||◌, ℕ, drop}
use Rattle.ds_policy.specs.Ends.{is_reached, has_some_expired}
use Rattle.ds_policy.proofs.ends.next_end.Given as goal

abbrev pub invariant-loop-row : goal.invariant-loop-row
invariant-loop-row l = (now : ℕ) → is_reached now l.end || has_some_expired now (drop l.row-index l.rows) ≡ has_some_expired now l.rows
