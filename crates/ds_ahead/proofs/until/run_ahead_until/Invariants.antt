use Rattle.std.proofs.Common.{ℕ, ◌<◌, ◌-◌, ◌^◌}
use Rattle.ds_ahead.specs.Inner.Ahead.{Advances, after_steps, hardware_of}
use Rattle.ds_ahead.specs.Inner.Stops.{ComesClear, IsClear}
use Rattle.ds_ahead.proofs.until.run_ahead_until.Given as goal

-- so many steps were taken, and at none but the first, nor here where some were, does it stand at a stop
abbrev pub invariant-loop-code : goal.invariant-loop-code
invariant-loop-code g l = record {
  within : l.steps < l.limit;
  advances : Advances l.steps (hardware_of l.fn.core l.fn.bus) (hardware_of l.core l.bus);
  words : (k : ℕ) → k < l.steps → (after_steps k (hardware_of l.fn.core l.fn.bus)).core.pc < 2 ^ 32;
  clear : ComesClear l.stops l.steps (hardware_of l.fn.core l.fn.bus);
  here : 0 < l.steps → IsClear l.stops l.core;
}

abbrev pub decreases-loop-code : goal.decreases-loop-code
decreases-loop-code g l = l.limit - l.steps
