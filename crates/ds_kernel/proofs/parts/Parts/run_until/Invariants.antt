use Rattle.std.proofs.Common.{◌≡◌, ◌<◌, ◌⊎◌, false}
use Rattle.ds_refinement.specs.Inner.Clear.{ClearPath, IsMet}
use Rattle.ds_kernel.specs.Inner.Parts.{held}
use Rattle.ds_kernel.specs.Inner.Good.{IsGood}
use Rattle.ds_kernel.specs.Inner.Ran.{HasRun}
use Rattle.ds_kernel.specs.Inner.Going.{rank}
use Rattle.ds_kernel.proofs.parts.Parts.run_until.Given as goal

abbrev pub invariant-loop-self : goal.invariant-loop-self
invariant-loop-self g l = record {
  ran : HasRun l.n (held l.fn.self) (held l.self);
  clear : ClearPath l.stops (held l.fn.self) (held l.self);
  met : IsMet l.stops (held l.fn.self) (held l.self);
  good : IsGood l.self;
  working : l.self.failed ≡ false;
  begun : ((l.fn.self.spent ≡ 0) ⊎ (l.fn.self.monitor.time < l.n)) → 0 < l.self.spent → l.self.monitor.time < l.n;
}

abbrev pub decreases-loop-self : goal.decreases-loop-self
decreases-loop-self g l = rank l.n (held l.self)
