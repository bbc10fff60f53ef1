use Rattle.std.proofs.Common.{◌≡◌, ◌+◌, ◌-◌, ◌<◌, ◌≤◌, ap, arith}
use Rattle.ds_ahead.specs.Inner.Ahead.{owed_tick}
use Rattle.ds_kernel.proofs.Ahead.{may_run_ahead}
use Rattle.ds_kernel.proofs.parts.Parts.may_go_on.Goals as goal

pub returns-then-self-end : goal.returns-then-self-end
returns-then-self-end g c = λ room.
    let p = c.args.self.now in
    let early : p.monitor.time + 1 < c.args.end = c.if-self-end.true in
    let quiet : c.args.end ≤ p.monitor.quiet_until = c.requires.quiet in
    let none : owed_tick p.core.slot ≡ 0 = ap owed_tick c.requires.outside in record {
      early = early;
      outside = c.requires.outside;
      ahead = may_run_ahead p (c.args.end - p.monitor.time - 1) c.requires.good c.show_events_in_order.ensures.commands c.show_events_in_order.ensures.order c.requires.unowed c.requires.ready c.requires.user (omega (arith, early, quiet, none));
      room = record { consoles = c.have_room.ensures room; log = c.requires.log };
    }
