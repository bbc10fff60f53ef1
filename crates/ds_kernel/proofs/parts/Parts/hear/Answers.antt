use Rattle.std.proofs.Common.{[], map, sym, ◌∙◌}
use Rattle.ds_refinement.specs.Inner.Held.{whole}
use Rattle.ds_monitor.specs.Inner.Kept.{kept_of}
use Rattle.ds_kernel.specs.Inner.Devices.{typed}
use Rattle.ds_kernel.proofs.Hearing.{none_heard, quiet_kept, quiet_bus}
use Rattle.ds_kernel.proofs.Sharing.{drained_formed, woken_orderly, lines_low}
use Rattle.ds_kernel.proofs.parts.Parts.hear.Goals as goal

pub wake-requires-clause-lines : goal.wake-requires-clause-lines
wake-requires-clause-lines g c =
    lines_low (whole (kept_of c.drain.new.self.monitor) [] [])
    (drained_formed (kept_of c.args.self.now.monitor) (kept_of c.drain.new.self.monitor) (map typed c.args.self.now.bus.serial.silo) c.drain.ensures.kept c.requires.orderly.lawful)

pub wake-requires-clause-queues : goal.wake-requires-clause-queues
wake-requires-clause-queues g c =
    (drained_formed (kept_of c.args.self.now.monitor) (kept_of c.drain.new.self.monitor) (map typed c.args.self.now.bus.serial.silo) c.drain.ensures.kept c.requires.orderly.lawful).sizes.queues

pub returns-then-asks-clause-orderly : goal.returns-then-asks-clause-orderly
returns-then-asks-clause-orderly g c =
    woken_orderly (kept_of c.args.self.now.monitor) (kept_of c.drain.new.self.monitor) (kept_of c.wake.new.self) (map typed c.args.self.now.bus.serial.silo) c.drain.ensures.kept c.wake.ensures.kept c.requires.orderly

pub returns-else-asks-clause-kept : goal.returns-else-asks-clause-kept
returns-else-asks-clause-kept g c =
    let none = none_heard c.args.self.now.bus c.requires.tells (sym c.asks.ensures ∙ c.if-asks.false) in
    quiet_kept (kept_of c.args.self.now.monitor) c.args.self.now.bus.serial.silo none c.requires.orderly.lawful.asleep

pub returns-else-asks-clause-bus : goal.returns-else-asks-clause-bus
returns-else-asks-clause-bus g c =
    quiet_bus c.args.self.now.bus (none_heard c.args.self.now.bus c.requires.tells (sym c.asks.ensures ∙ c.if-asks.false))
