use Rattle.std.proofs.Common.{◌≡◌, ◌<◌, false}
use Rattle.std.specs.Prelude.{is_some}
use Rattle.ds_kernel.specs.Inner.Going.{rank}
use Rattle.ds_text.specs.Sent.{IsAskedOnce}
use Rattle.ds_refinement.specs.Inner.Stands.{IsSound}
use Rattle.ds_trace.specs.Processors.{told_from, window_end}
use Rattle.ds_trace.specs.Inner.Counted.{IsCounting}
use Rattle.ds_trace.specs.Inner.Shows.{TellsSo}
use Rattle.ds_trace.proofs.trace.follow.Given as goal

abbrev pub invariant-loop-station : goal.invariant-loop-station
invariant-loop-station g l = record {
  tells : TellsSo l.view l.n l.fn.station.held l.station.held (g.O.Output.contents l.fn.out) (g.O.Output.contents l.out) l.sheet.text.items l.progress;
  sound : IsSound l.station.held;
  working : l.station.held.own.failed ≡ false;
  owed : l.progress.before.owed ≡ is_some l.station.held.kept.state.owed;
  begun : 0 < l.station.held.own.spent → l.station.held.kept.state.time < l.n;
  counting : IsCounting (window_end l.view) (told_from l.view l.n) l.n l.fn.station.held l.station.held l.counts l.window;
  asked : IsAskedOnce (g.O.Output.answers l.fn.out) (g.O.Output.answers l.out) false;
}

abbrev pub decreases-loop-station : goal.decreases-loop-station
decreases-loop-station g l = rank l.n l.station.held
