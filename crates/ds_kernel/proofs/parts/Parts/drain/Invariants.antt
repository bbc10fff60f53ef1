use Rattle.std.proofs.Common.{◌≡◌, length, map, All}
use Rattle.ds_dev.specs.Bus.{with_serial}
use Rattle.ds_pagemap.specs.Boundary.{all_queued}
use Rattle.ds_kernel.specs.Inner.Devices.{IsOfLine, typed, emptied}
use Rattle.ds_kernel.proofs.parts.Parts.drain.Given as goal

abbrev pub invariant-loop-character : goal.invariant-loop-character
invariant-loop-character g l = record {
  queues : all_queued l.self.monitor.queues.items (map typed l.self.bus.serial.silo) ≡ all_queued l.fn.self.monitor.queues.items (map typed l.fn.self.bus.serial.silo);
  serial : emptied l.self.bus.serial ≡ emptied l.fn.self.bus.serial;
  lines : All IsOfLine l.self.bus.serial.silo;
  four : length l.self.monitor.queues.items ≡ 4;
  rest : l.self ≡ record l.fn.self { bus = with_serial l.fn.self.bus l.self.bus.serial; monitor = record l.fn.self.monitor { queues = l.self.monitor.queues } };
}

abbrev pub decreases-loop-character : goal.decreases-loop-character
decreases-loop-character g l = length l.self.bus.serial.silo
