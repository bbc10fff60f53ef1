use Rattle.std.proofs.Common.{◌≡◌, drop}
use Rattle.ds_ties.specs.Ties.{shared_rule}
use Rattle.ds_ties.proofs.ties.shared_rule.Given as goal

abbrev pub invariant-loop-entry : goal.invariant-loop-entry
invariant-loop-entry l = shared_rule l.mine (drop l.entry-index l.entries) ≡ shared_rule l.mine l.entries
