use Rattle.std.proofs.Common.{sym, length, arith}
use Rattle.ds_asm.proofs.SourceLines.{after_within}
use Rattle.ds_check.proofs.EventCounts.{event_more}
use Rattle.ds_check.proofs.counts.count_events.Goals as goal

pub loop-left-preserved : goal.loop-left-preserved
loop-left-preserved c = record {
  same = event_more c.loop-left.count c.events_of-count.result _ c.loop-left.left.now _ _ c.first_line.ensures.line c.first_line.ensures.after c.events_of-count.ensures.exact c.loop-left.invariant.same;
  within = omega (arith, after_within c.loop-left.count (length c.args.input.now) c.loop-left.left.now _ c.first_line.ensures.after (sym c.loop-left-test.ensures) c.loop-left.invariant.within, c.events_of-count.ensures.few);
}
