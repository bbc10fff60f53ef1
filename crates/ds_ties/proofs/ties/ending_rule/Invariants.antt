use Rattle.std.proofs.Common.{◌≡◌, drop}
use Rattle.ds_ties.specs.Ties.{ending_rule}
use Rattle.ds_ties.proofs.ties.ending_rule.Given as goal

abbrev pub invariant-loop-entry : goal.invariant-loop-entry
invariant-loop-entry l = ending_rule (drop l.entry-index l.entries) ≡ ending_rule l.entries
