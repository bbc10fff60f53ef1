use Rattle.std.proofs.Common.{◌≡◌}
use Rattle.ds_pagemap.specs.First.{numbers}
use Rattle.ds_monitor.proofs.first.all_ready.Given as goal

abbrev pub invariant-loop-process : goal.invariant-loop-process
invariant-loop-process l = l.ready ≡ numbers l.process 1
