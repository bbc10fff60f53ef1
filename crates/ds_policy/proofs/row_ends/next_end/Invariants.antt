use Rattle.std.proofs.Common.{◌≡◌, ◌||◌, ℕ, drop}
use Rattle.std.specs.List.{list_any}
use Rattle.ds_policy.specs.Ends.{is_reached, has_expired}
use Rattle.ds_policy.proofs.row_ends.next_end.Given as goal

abbrev pub invariant-loop-entry : goal.invariant-loop-entry
invariant-loop-entry l = (now : ℕ) → is_reached now l.end || list_any (has_expired now) (drop l.entry-index l.entries) ≡ list_any (has_expired now) l.entries
