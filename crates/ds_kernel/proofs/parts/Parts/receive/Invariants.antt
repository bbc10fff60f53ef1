use Rattle.std.proofs.Common.{◌≡◌, true, length, All}
use Rattle.ds_dev.specs.Bus.{with_serial}
use Rattle.ds_pagemap_laws.specs.Due.{come}
use Rattle.ds_monitor.specs.Inner.Kept.{kept_of}
use Rattle.ds_kernel.specs.Inner.Devices.{IsOfLine, all_received}
use Rattle.ds_kernel.specs.Inner.Attended.{to_come}
use Rattle.ds_kernel.proofs.parts.Parts.receive.Given as goal

abbrev pub invariant-loop-character : goal.invariant-loop-character
invariant-loop-character g l = record {
  serial : all_received l.self.bus.serial (come (kept_of l.self.monitor).state) ≡ all_received l.fn.self.bus.serial (come (kept_of l.fn.self.monitor).state);
  later : to_come (kept_of l.self.monitor).state ≡ to_come (kept_of l.fn.self.monitor).state;
  on : l.self.bus.serial.master_scan ≡ true;
  lines : All IsOfLine l.self.bus.serial.silo;
  rest : l.self ≡ record l.fn.self { bus = with_serial l.fn.self.bus l.self.bus.serial; monitor = record l.fn.self.monitor { due = record l.fn.self.monitor.due { characters = l.self.monitor.due.characters } } };
}

abbrev pub decreases-loop-character : goal.decreases-loop-character
decreases-loop-character g l = length l.self.monitor.due.characters
