use Rattle.std.proofs.Common.{◌≡◌, replicate, []}
use Rattle.ds_policy.proofs.reading.own.no_rules.Given as goal

abbrev pub invariant-loop : goal.invariant-loop
invariant-loop l = l.owns.items ≡ replicate l.counter []
