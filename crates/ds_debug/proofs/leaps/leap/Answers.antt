use Rattle.std.proofs.Common.{refl, ◌∙◌, arith}
use Rattle.ds_refinement.specs.Held.{Held}
use Rattle.ds_refinement.proofs.Joined.{path_join}
use Rattle.ds_refinement.proofs.RunSteps.{within_sound, within_start}
use Rattle.ds_station.proofs.InPieces.{no_steps, within_join}
use Rattle.ds_debug.specs.Goals.{Goal, goal_with}
use Rattle.ds_debug.specs.Inner.Leaps.{Leaps}
use Rattle.ds_debug.proofs.Going.{none_passed}
use Rattle.ds_debug.proofs.Keeping.{reached_past, reached_sound}
use Rattle.ds_debug.proofs.Leaping.{leap_passes, passed_join}
use Rattle.ds_debug.proofs.leaps.leap.Goals as goal

pub returns-then-not-is_free-clause-within : goal.returns-then-not-is_free-clause-within
returns-then-not-is_free-clause-within c = within_start c.args.n c.args.station.now.held

pub loop-ahead-init : goal.loop-ahead-init
loop-ahead-init c = record {
  passed = none_passed (goal_with c.args.actions.now c.args.breakpoints.now c.args.watchpoints.now) c.args.n c.args.station.now.held;
  path = no_steps c.args.station.now.held;
  within = within_start c.args.n c.args.station.now.held;
  whole = c.requires.whole;
  spent = c.requires.spent;
  working = c.requires.working;
  same = refl;
  later = omega arith;
}

pub keep-requires : goal.keep-requires
keep-requires c =
    let start : Held = c.args.station.now.held in
    let last : Held = c.loop-ahead.station.held in
    let new : Held = c.in-Some.ahead.held in
    let leap : Leaps (record { actions = c.args.actions.now; breakpoints = c.args.breakpoints.now }) c.args.n last new = c.in-Some.ensures in
    record {
      reached = reached_past c.args.past.now c.loop-ahead.past c.args.n start new c.loop-ahead.invariant.same c.requires.limit c.requires.reached
          (within_join c.args.n c.args.n (omega arith) start last new c.loop-ahead.invariant.within leap.leapt.within) (path_join start last new c.loop-ahead.invariant.path leap.leapt.path);
      whole = leap.leapt.whole;
      spent = leap.leapt.spent;
      working = leap.leapt.working;
    }

pub loop-ahead-preserved : goal.loop-ahead-preserved
loop-ahead-preserved c =
    let free : Goal = goal_with c.args.actions.now c.args.breakpoints.now c.args.watchpoints.now in
    let start : Held = c.args.station.now.held in
    let last : Held = c.loop-ahead.station.held in
    let new : Held = c.in-Some.ahead.held in
    let leap : Leaps (record { actions = c.args.actions.now; breakpoints = c.args.breakpoints.now }) c.args.n last new = c.in-Some.ensures in
    let sound = within_sound c.args.n start last c.loop-ahead.invariant.within (reached_sound c.args.past.now.inputs c.args.past.now.limit start c.requires.reached) in
    record {
      passed = passed_join free c.args.n start last new c.loop-ahead.invariant.passed (leap_passes free c.args.n last new (c.if-not-is_free.ensures refl) sound c.loop-ahead.invariant.whole c.loop-ahead.invariant.spent leap);
      path = path_join start last new c.loop-ahead.invariant.path leap.leapt.path;
      within = within_join c.args.n c.args.n (omega arith) start last new c.loop-ahead.invariant.within leap.leapt.within;
      whole = leap.leapt.whole;
      spent = leap.leapt.spent;
      working = leap.leapt.working;
      same = c.keep.ensures ∙ c.loop-ahead.invariant.same;
      later = omega (arith, c.loop-ahead.invariant.later, leap.further.later);
    }
