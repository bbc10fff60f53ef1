use Rattle.std.proofs.Common.{◌≡◌, replicate, []}
use Rattle.ds_monitor.proofs.first.empty_queues.Given as goal

abbrev pub invariant-loop : goal.invariant-loop
invariant-loop l = l.queues.items ≡ replicate l.counter []
