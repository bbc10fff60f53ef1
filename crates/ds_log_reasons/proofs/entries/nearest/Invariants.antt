use Rattle.std.proofs.Common.{◌≡◌, drop}
use Rattle.ds_log_reasons.specs.Nearest.{nearest, nearest_from}
use Rattle.ds_log_reasons.proofs.entries.nearest.Given as goal

-- the nearest so far, or of those that are left, is the nearest of all
abbrev pub invariant-loop-entry : goal.invariant-loop-entry
invariant-loop-entry l = nearest_from l.address l.best (drop l.entry-index l.entries) ≡ nearest l.address l.entries
