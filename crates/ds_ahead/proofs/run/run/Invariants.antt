use Rattle.ds_pages.specs.Inner.Page.{HoldsWords}
use Rattle.ds_ahead.specs.declared.here.Way.TheVariants.{On}
use Rattle.ds_ahead.specs.Inner.Run.{StandsIn, IsFreeHere, Ran, left_here}
use Rattle.ds_ahead.proofs.run.run.Given as goal

abbrev pub invariant-loop-here : goal.invariant-loop-here
invariant-loop-here g l = record {
  ran : Ran On l.fn.left l.fn.core l.fn.at l.fn.bus l.page.places l.first l.here l.rest l.core l.at l.bus;
  stands : StandsIn l.here;
  free : IsFreeHere l.page.places l.here;
  holds : HoldsWords l.page l.bus.memory l.code.base;
}

abbrev pub decreases-loop-here : goal.decreases-loop-here
decreases-loop-here g l = left_here l.page.places l.here l.rest
