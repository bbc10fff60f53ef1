use Rattle.std.proofs.Common.{ℕ, ◌<◌, ◌≤◌, ◌-◌, ◌^◌}
use Rattle.ds_ahead.specs.Inner.Ahead.{Advances, after_steps, hardware_of}
use Rattle.ds_ahead.proofs.ahead.run_ahead.Given as goal

abbrev pub invariant-loop-steps : goal.invariant-loop-steps
invariant-loop-steps g l = record {
  within : l.steps ≤ l.limit;
  advances : Advances l.steps (hardware_of l.fn.core l.fn.bus) (hardware_of l.core l.bus);
  words : (k : ℕ) → k < l.steps → (after_steps k (hardware_of l.fn.core l.fn.bus)).core.pc < 2 ^ 32;
}

abbrev pub decreases-loop-steps : goal.decreases-loop-steps
decreases-loop-steps g l = l.limit - l.steps
