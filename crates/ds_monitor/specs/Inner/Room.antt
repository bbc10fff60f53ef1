-- The room that a monitor has for what is written.
use Rattle.std.specs.Prelude.{ℕ, ◌+◌, ◌*◌, ◌≤◌, nat_lt, nat_le, Bool, ◌&&◌, vec_len, vec_capacity}
use Rattle.ds_monitor.specs.Inner.Consoles as consoles
use Rattle.ds_monitor.specs.Inner.Commands.{commands_by}
use Rattle.ds_monitor.specs.declared.monitor.Monitor.{Monitor}

-- so many lines of the log need no memory
abbrev pub HasLogRoom : ℕ → Monitor → Type 0
HasLogRoom lines m = vec_len m.log + 64 * lines ≤ vec_capacity m.log

-- what an operator's commands may write at the boundary that comes next
abbrev pub HasBoundaryRoom : Monitor → Type 0
HasBoundaryRoom m = HasLogRoom (commands_by m.time m.due.commands) m

-- a byte on each console and so many lines of the log need no memory
pub record HasRoom (lines : ℕ) (m : Monitor) : Type 0 where
  pub consoles : consoles.HasRoom m.consoles
  pub log : HasLogRoom lines m

-- what a unit may write, and the commands that are due until it is over
abbrev pub HasTurnRoom : Monitor → Type 0
HasTurnRoom m = HasRoom (1 + commands_by (m.time + 2) m.due.commands) m

-- whether there is that room
abbrev pub has_turn_room : Monitor → Bool
has_turn_room m = nat_lt 0 m.consoles.room && nat_le (vec_len m.log + 64 * (1 + commands_by (m.time + 2) m.due.commands)) (vec_capacity m.log)
