-- What stops a run.
use Rattle.std.specs.Prelude.{ℕ, ◌==◌, ◌||◌, Bool, false, if◌then◌else◌, List, Option, Some, None}
use Rattle.ds_packets.specs.declared.packet.Action.{Action}
use Rattle.ds_gdb.specs.Points.{is_break}
use Rattle.ds_gdb.specs.Steps.{is_done}
use Rattle.ds_gdb.specs.declared.points.Breakpoint.{Breakpoint}
use Rattle.ds_gdb.specs.declared.points.Watchpoint.{Watchpoint}
use Rattle.ds_gdb.specs.declared.stops.Reason.{Reason}
use Rattle.ds_gdb.specs.declared.stops.Reason.TheVariants.{Break, Rest}
use Rattle.ds_bare_debug.specs.Positions.{Position}
use Rattle.ds_bare_debug.specs.Watches.{watched_now, first_differing}

-- how far it is to go, the breakpoints, what is watched, and after how many instructions it is to stop once
pub record BareGoal : Type 0 where
  pub action : Action
  pub breakpoints : List Breakpoint
  pub watchpoints : List Watchpoint
  pub stop_at : Option ℕ

-- it is to stop after so many instructions
abbrev pub is_asked : Option ℕ → ℕ → Bool
is_asked None k = false
is_asked (Some t) k = t == k

-- the first, or else the second
abbrev pub or_else : Option Reason → Option Reason → Option Reason
or_else None second = second
or_else (Some reason) second = Some reason

-- what stops at a position by how far it is to go, or by a breakpoint
abbrev pub stop_here : BareGoal → ℕ → ℕ → Option Reason
stop_here g k pc = if is_done g.action pc || is_asked g.stop_at k then Some Rest else (if is_break g.breakpoints 1 pc then Some Break else None)

-- what stops at a position, where it comes from the one before it
unfoldable pub stop_coming : BareGoal → Position → Position → Option Reason
stop_coming g old new = or_else (first_differing new.machine (watched_now old.machine g.watchpoints)) (stop_here g new.done new.machine.core.pc)

-- by what is watched alone
unfoldable pub watch_between : BareGoal → Position → Position → Option Reason
watch_between g old new = first_differing new.machine (watched_now old.machine g.watchpoints)
