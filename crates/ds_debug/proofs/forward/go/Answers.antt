use Rattle.std.proofs.Common.{ℕ, ◌+◌, inl, inr, length, None, Some, refl, sym, ap, subst, ◌∙◌, arith}
use Rattle.ds_refinement.specs.Held.{Held}
use Rattle.ds_refinement.specs.Runs.{RunsTo}
use Rattle.ds_refinement.proofs.Joined.{path_join}
use Rattle.ds_refinement.proofs.RunSteps.{within_start}
use Rattle.ds_station.proofs.InPieces.{cut_join, no_steps, over_whole, to_within, within_join}
use Rattle.ds_debug.specs.Goals.{Goal, goal_with}
use Rattle.ds_debug.specs.Forward.{IsOnward}
use Rattle.ds_debug.proofs.Keeping.{reached_past}
use Rattle.ds_debug.proofs.Leaping.{passed_join}
use Rattle.ds_debug.proofs.Going.{none_passed, one_passed, still_over, stop_told, time_over}
use Rattle.ds_debug.proofs.forward.go.Goals as goal

pub loop-alloc-init : goal.loop-alloc-init
loop-alloc-init c = record {
  passed = none_passed (goal_with c.args.actions.now c.args.breakpoints.now c.args.watchpoints.now) c.args.n c.args.station.now.held;
  path = no_steps c.args.station.now.held;
  within = within_start c.args.n c.args.station.now.held;
  whole = c.requires.whole;
  spent = c.requires.spent;
  working = c.requires.working;
  same = refl;
}

pub leap-requires-clause-reached : goal.leap-requires-clause-reached
leap-requires-clause-reached c =
    reached_past c.args.past.now c.loop-alloc.past c.args.n c.args.station.now.held c.loop-alloc.station.held c.loop-alloc.invariant.same c.requires.limit c.requires.reached c.loop-alloc.invariant.within c.loop-alloc.invariant.path

pub loop-alloc-preserved-then-leap_at-time : goal.loop-alloc-preserved-then-leap_at-time
loop-alloc-preserved-then-leap_at-time c =
    let free : Goal = goal_with c.args.actions.now c.args.breakpoints.now c.args.watchpoints.now in
    let start : Held = c.args.station.now.held in
    let last : Held = c.loop-alloc.station.held in
    let new : Held = c.leap.new.station.held in
    record {
      passed = passed_join free c.args.n start last new c.loop-alloc.invariant.passed c.leap.ensures.passed;
      path = path_join start last new c.loop-alloc.invariant.path c.leap.ensures.path;
      within = within_join c.args.n c.args.n (omega arith) start last new c.loop-alloc.invariant.within c.leap.ensures.within;
      whole = c.leap.ensures.whole;
      spent = c.leap.ensures.spent;
      working = c.leap.ensures.working;
      same = c.leap.ensures.past ∙ c.loop-alloc.invariant.same;
    }

pub keep-requires : goal.keep-requires
keep-requires c = record {
  reached = reached_past c.args.past.now c.loop-alloc.past c.args.n c.args.station.now.held c.loop-alloc.station.held c.loop-alloc.invariant.same c.requires.limit c.requires.reached c.loop-alloc.invariant.within c.loop-alloc.invariant.path;
  whole = c.loop-alloc.invariant.whole;
  spent = c.loop-alloc.invariant.spent;
  working = c.loop-alloc.invariant.working;
}

pub returns-in-Err-clause-within : goal.returns-in-Err-clause-within
returns-in-Err-clause-within c =
    within_join (c.time-began.result + 1) c.args.n (omega (arith, c.loop-alloc-test.true, c.time.ensures.held, c.time-began.ensures.held)) c.args.station.now.held c.loop-alloc.station.held c.run.new.self.held
    c.loop-alloc.invariant.within c.in-Err.ensures.err

pub returns-in-Err-clause-cut : goal.returns-in-Err-clause-cut
returns-in-Err-clause-cut c = inl (cut_join c.in-Err.fault c.args.station.now.held c.loop-alloc.station.held c.run.new.self.held c.loop-alloc.invariant.path c.in-Err.ensures.cut)

pub returns-then-time-began-clause-within : goal.returns-then-time-began-clause-within
returns-then-time-began-clause-within c =
    within_join (c.time-began.result + 1) c.args.n (omega (arith, c.loop-alloc-test.true, c.time.ensures.held, c.time-began.ensures.held)) c.args.station.now.held c.loop-alloc.station.held c.run.new.self.held
    c.loop-alloc.invariant.within (to_within (c.time-began.result + 1) c.loop-alloc.station.held c.run.new.self.held c.in-Ok.ensures.ok)

pub returns-then-time-began-clause-real : goal.returns-then-time-began-clause-real
returns-then-time-began-clause-real c = path_join c.args.station.now.held c.loop-alloc.station.held c.run.new.self.held c.loop-alloc.invariant.path c.in-Ok.ensures.real

pub returns-in-Some-clause-within : goal.returns-in-Some-clause-within
returns-in-Some-clause-within c =
    within_join (c.time-began.result + 1) c.args.n (omega (arith, c.loop-alloc-test.true, c.time.ensures.held, c.time-began.ensures.held)) c.args.station.now.held c.loop-alloc.station.held c.run.new.self.held
    c.loop-alloc.invariant.within (to_within (c.time-began.result + 1) c.loop-alloc.station.held c.run.new.self.held c.in-Ok.ensures.ok)

pub returns-in-Some-clause-real : goal.returns-in-Some-clause-real
returns-in-Some-clause-real c = path_join c.args.station.now.held c.loop-alloc.station.held c.run.new.self.held c.loop-alloc.invariant.path c.in-Ok.ensures.real

pub loop-alloc-preserved : goal.loop-alloc-preserved
loop-alloc-preserved c =
    let goal_here : Goal = goal_with c.args.actions.now c.args.breakpoints.now c.args.watchpoints.now in
    let last : Held = c.loop-alloc.station.held in
    let new : Held = c.run.new.self.held in
    let turn : IsOnward c.args.n last new = record {
      turn = record {
        early = omega (arith, c.loop-alloc-test.true, c.time.ensures.held);
        runs = subst (λ (t : ℕ). RunsTo (t + 1) last new) c.time-began.ensures.held c.in-Ok.ensures.ok;
        path = c.in-Ok.ensures.real;
        later = omega (arith, c.if-time-began.false, c.time-began.ensures.held, c.time-in-loop-alloc.ensures.held);
      };
      stays = sym c.exits_next.ensures ∙ c.if-exits_next.false;
    } in
    record {
      passed = one_passed goal_here c.args.n c.args.station.now.held last new c.loop-alloc.invariant.passed turn
          (stop_told goal_here last new c.runner-runner.result (length c.log-logged.result.now) c.as_slice.result.now None c.runner-runner.ensures.held (ap (length {A = ℕ}) c.log-logged.ensures.held) (c.as_slice.ensures.value ∙ c.in_ok-seen.ensures) (sym c.in-None.is ∙ c.stop_after.ensures.value));
      path = path_join c.args.station.now.held last new c.loop-alloc.invariant.path c.in-Ok.ensures.real;
      within = within_join (c.time-began.result + 1) c.args.n (omega (arith, c.loop-alloc-test.true, c.time.ensures.held, c.time-began.ensures.held)) c.args.station.now.held last new
          c.loop-alloc.invariant.within (to_within (c.time-began.result + 1) last new c.in-Ok.ensures.ok);
      whole = over_whole (c.time-began.result + 1) new c.in-Ok.ensures.over;
      spent = c.in-Ok.ensures.unit (inl c.loop-alloc.invariant.spent);
      working = c.in-Ok.ensures.good;
      same = c.keep.ensures ∙ c.loop-alloc.invariant.same;
    }

pub returns-in-Some-clause-goes : goal.returns-in-Some-clause-goes
returns-in-Some-clause-goes c =
    let goal_here : Goal = goal_with c.args.actions.now c.args.breakpoints.now c.args.watchpoints.now in
    let last : Held = c.loop-alloc.station.held in
    let new : Held = c.run.new.self.held in
    record {
      last = last;
      passed = c.loop-alloc.invariant.passed;
      turn = record {
        turn = record {
          early = omega (arith, c.loop-alloc-test.true, c.time.ensures.held);
          runs = subst (λ (t : ℕ). RunsTo (t + 1) last new) c.time-began.ensures.held c.in-Ok.ensures.ok;
          path = c.in-Ok.ensures.real;
          later = omega (arith, c.if-time-began.false, c.time-began.ensures.held, c.time-in-loop-alloc.ensures.held);
        };
        stays = sym c.exits_next.ensures ∙ c.if-exits_next.false;
      };
      stops = stop_told goal_here last new c.runner-runner.result (length c.log-logged.result.now) c.as_slice.result.now (Some c.in-Some.stop) c.runner-runner.ensures.held (ap (length {A = ℕ}) c.log-logged.ensures.held) (c.as_slice.ensures.value ∙ c.in_ok-seen.ensures) (sym c.in-Some.is ∙ c.stop_after.ensures.value);
    }

pub returns-then-time-began-clause-goes : goal.returns-then-time-began-clause-goes
returns-then-time-began-clause-goes c = record {
  last = c.loop-alloc.station.held;
  passed = c.loop-alloc.invariant.passed;
  still = omega (arith, c.if-time-began.true, c.time-began.ensures.held, c.time-in-loop-alloc.ensures.held);
  over = inl (still_over c.args.n c.time-began.result c.run.new.self.held (omega (arith, c.if-time-began.true, c.time-in-loop-alloc.ensures.held)) c.in-Ok.ensures.over);
}

pub returns-clause-goes : goal.returns-clause-goes
returns-clause-goes c = record {
  last = c.loop-alloc.station.held;
  passed = c.loop-alloc.invariant.passed;
  still = omega arith;
  over = inl (time_over c.args.n c.loop-alloc.station.held c.loop-alloc.invariant.whole (omega (arith, c.loop-alloc-test.false, c.time.ensures.held)));
}

pub returns-then-exits_next-clause-goes : goal.returns-then-exits_next-clause-goes
returns-then-exits_next-clause-goes c = record {
  last = c.loop-alloc.station.held;
  passed = c.loop-alloc.invariant.passed;
  still = omega arith;
  over = inr (sym c.exits_next.ensures ∙ c.if-exits_next.true);
}
