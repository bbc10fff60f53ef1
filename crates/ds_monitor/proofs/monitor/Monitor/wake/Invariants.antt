use Rattle.std.proofs.Common.{◌≡◌, ◌<◌, ◌≤◌, ◌+◌, ◌-◌, length, map}
use Rattle.std.specs.Prelude.{All}
use Rattle.ds_pagemap.specs.Boundary.{woken}
use Rattle.ds_pagemap.specs.Machine.{State, Process}
use Rattle.ds_monitor.specs.Inner.Kept.{kept_of, kept_after}
use Rattle.ds_monitor.proofs.monitor.Monitor.wake.Given as goal

abbrev pub invariant-loop-process : goal.invariant-loop-process
invariant-loop-process l = record {
  same : kept_after (λ (m : State). woken m l.process (l.count + 1 - l.process)) (kept_of l.self) ≡ kept_after (λ (m : State). woken m 1 l.count) (kept_of l.fn.self);
  counted : l.count ≡ length l.fn.self.seats.items;
  seats : length l.self.seats.items ≡ l.count;
  lines : All (λ x. x < 4) (map (λ (q : Process). q.line) l.self.seats.items);
  above : 0 < l.process;
  within : l.process ≤ l.count + 1;
  queues : length l.self.queues.items ≡ 4;
  few : l.count ≤ 100;
  rest : l.self ≡ record l.fn.self { seats = l.self.seats; ready = l.self.ready };
}

abbrev pub decreases-loop-process : goal.decreases-loop-process
decreases-loop-process l = l.count + 1 - l.process
