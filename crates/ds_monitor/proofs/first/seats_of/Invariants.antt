use Rattle.std.proofs.Common.{◌≡◌, map, take}
use Rattle.ds_pagemap.specs.First.{first_process}
use Rattle.ds_monitor.proofs.first.seats_of.Given as goal

abbrev pub invariant-loop-process : goal.invariant-loop-process
invariant-loop-process l = l.seats.items ≡ map first_process (take l.process-index l.processes)
