use Rattle.std.proofs.Common.{◌≡◌, ℕ, true, take, length}
use Rattle.ds_ahead.specs.Inner.Stops.{may_hold}
use Rattle.ds_gdb.specs.Points.{is_break}
use Rattle.ds_debug.proofs.leaps.stops_at.Given as goal

-- the addresses of those so far are marked
abbrev pub invariant-loop-breakpoint : goal.invariant-loop-breakpoint
invariant-loop-breakpoint l = record {
  size : length l.stops ≡ 1024;
  holds : (p pc : ℕ) → is_break (take l.breakpoint-index l.breakpoints) p pc ≡ true → may_hold l.stops pc ≡ true;
}
