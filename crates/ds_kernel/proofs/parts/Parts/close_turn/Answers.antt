use Rattle.std.proofs.Common.{inl, refl, arith}
use Rattle.ds_kernel.proofs.Bounding.{nothing_due, quiet_good, attended_good}
use Rattle.ds_kernel.proofs.parts.Parts.close_turn.Goals as goal

pub attend-requires : goal.attend-requires
attend-requires g c =
    let early = c.requires.good.orderly.early in record {
      slots = c.requires.slots;
      wired = c.requires.wired;
      good = c.requires.good;
      owed = c.requires.owed;
      high = c.requires.good.orderly.rate.high;
      low = c.requires.good.orderly.rate.low;
      early = omega (arith, early);
    }

pub returns-then-self-clause-bounded : goal.returns-then-self-clause-bounded
returns-then-self-clause-bounded g c =
    let m = c.args.self.now.monitor in
    inl (nothing_due m m.time m.owed c.show_events_in_order.ensures.commands c.show_events_in_order.ensures.order c.requires.good.next c.if-self.true c.requires.good.orderly.kept, refl)

pub returns-then-self-clause-good : goal.returns-then-self-clause-good
returns-then-self-clause-good g c =
    let m = c.args.self.now.monitor in
    quiet_good c.args.self.now c.requires.good c.requires.owed (nothing_due m m.time m.owed c.show_events_in_order.ensures.commands c.show_events_in_order.ensures.order c.requires.good.next c.if-self.true c.requires.good.orderly.kept)

pub returns-else-self-clause-good : goal.returns-else-self-clause-good
returns-else-self-clause-good g c = attended_good c.args.self.now c.requires.good c.requires.owed c.attend.new.self c.attend.ensures
