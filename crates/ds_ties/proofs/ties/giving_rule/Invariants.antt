use Rattle.std.proofs.Common.{◌≡◌, drop}
use Rattle.ds_ties.specs.Ties.{giving_rule}
use Rattle.ds_ties.proofs.ties.giving_rule.Given as goal

abbrev pub invariant-loop-entry : goal.invariant-loop-entry
invariant-loop-entry l = giving_rule (drop l.entry-index l.entries) ≡ giving_rule l.entries
