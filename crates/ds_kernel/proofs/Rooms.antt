-- Room for what a unit and the commands after it may write.
use Rattle.std.proofs.Common.{◌≡◌, ℕ, ◌+◌, ◌-◌, ◌<◌, ◌≤◌, Option, sym, ap, subst, ◌∙◌, arith}
use Rattle.std.specs.Prelude.{min}
use Rattle.std.proofs.Math.Nat.{min-le_left}
use Rattle.ds_policy.specs.Value.{InputValue}
use Rattle.ds_policy.specs.InputFacts.{has_time, comes_at}
use Rattle.ds_pagemap.specs.declared.turn.Turn.{Turn}
use Rattle.ds_monitor.specs.Inner.Coming.{first_time, first_due, period_end, next_due}
use Rattle.ds_monitor.specs.Inner.Commands.{commands_by}
use Rattle.ds_monitor.specs.Inner.Kept.{kept_of}
use Rattle.ds_monitor.specs.Inner.Room.{HasLogRoom, HasRoom, HasBoundaryRoom, HasTurnRoom}
use Rattle.ds_monitor.specs.declared.monitor.Monitor.{Monitor}
use Rattle.ds_monitor.proofs.Commanding.{by_more, by_none, fewer_lines}
use Rattle.ds_refinement.specs.Held.{Held}
use Rattle.ds_refinement.specs.Inner.Stands.{IsSound}
use Rattle.ds_kernel.specs.declared.parts.Parts.{Parts}
use Rattle.ds_kernel.specs.Inner.Parts.{held}
use Rattle.ds_kernel.specs.Inner.Good.{IsGood, IsOrderly}

-- the room is no matter of time and turns
pub room_later : (n : ℕ) (m : Monitor) (time : ℕ) (owed : Option Turn) → HasRoom n m → HasRoom n (record m { time = time; owed = owed })
room_later n m time owed r = record { consoles = r.consoles; log = r.log }

-- room for a unit and commands is room for a unit
pub unit_room : (m : Monitor) → HasTurnRoom m → HasRoom 1 m
unit_room m r = record { consoles = r.consoles; log = fewer_lines 1 (1 + commands_by (m.time + 2) m.due.commands) m (omega arith) r.log }

-- before the first command comes it is the same
pub early_room : (m : Monitor) → HasRoom 1 m → m.time + 2 < first_time has_time m.due.commands → HasTurnRoom m
early_room m r early =
    let none : commands_by (m.time + 2) m.due.commands ≡ 0 = by_none (m.time + 2) m.due.commands early in
    let one : 1 + commands_by (m.time + 2) m.due.commands ≡ 1 = omega (arith, none) in
    subst (λ (n : ℕ). HasRoom n m) (sym one) r

-- and where nothing is due before the longest unit is over
pub turn_room : (m : Monitor) → HasRoom 1 m → m.quiet_until ≡ next_due (kept_of m) → m.time + 2 ≤ m.quiet_until → HasTurnRoom m
turn_room m r next early =
    let comes : ℕ = min (first_due m.due) (period_end m.rate m.ticked) in
    let soonest : next_due (kept_of m) ≤ comes = min-le_left comes m.ends in
    let first : comes ≤ first_due m.due = min-le_left (first_due m.due) (period_end m.rate m.ticked) in
    let command : first_due m.due ≤ first_time has_time m.due.commands - 1 = min-le_left (first_time has_time m.due.commands - 1) (first_time comes_at m.due.characters) in
    early_room m r (omega (arith, early, next, soonest, first, command))

-- at the same time, with another turn
pub turn_room_still : (m : Monitor) (time : ℕ) (owed : Option Turn) → time ≡ m.time → HasTurnRoom m → HasTurnRoom (record m { time = time; owed = owed })
turn_room_still m time owed same r =
    subst (λ (t : ℕ). HasRoom (1 + commands_by (t + 2) m.due.commands) (record m { time = time; owed = owed })) (sym same)
    (room_later (1 + commands_by (m.time + 2) m.due.commands) m time owed r)

-- the boundary after the unit has room for its commands
pub boundary_room : (m : Monitor) (time : ℕ) (owed : Option Turn) → time ≤ m.time + 2 → HasTurnRoom m → HasBoundaryRoom (record m { time = time; owed = owed })
boundary_room m time owed soon r =
    let few : commands_by time m.due.commands ≤ commands_by (m.time + 2) m.due.commands = by_more time (m.time + 2) m.due.commands soon in
    fewer_lines (commands_by time m.due.commands) (1 + commands_by (m.time + 2) m.due.commands) (record m { time = time; owed = owed }) (omega (arith, few)) r.log

-- and so it has where the unit wrote a line
pub boundary_room_after : (old new : Monitor) → new.time ≤ old.time + 2 → new.due ≡ old.due → ((n : ℕ) → HasLogRoom (n + 1) old → HasLogRoom n new) → HasTurnRoom old → HasBoundaryRoom new
boundary_room_after old new soon same less r =
    let count : ℕ = commands_by (old.time + 2) old.due.commands in
    let few : commands_by new.time old.due.commands ≤ count = by_more new.time (old.time + 2) old.due.commands soon in
    let now : commands_by new.time new.due.commands ≡ commands_by new.time old.due.commands = ap (λ (i : InputValue). commands_by new.time i.commands) same in
    fewer_lines (commands_by new.time new.due.commands) count new (omega (arith, few, now)) (less count (fewer_lines (count + 1) (1 + count) old (omega arith) r.log))

-- parts that hold the same are good too, once they have room for a unit
pub good_again : {L : Type 0} (new old : Parts L) → held new ≡ held old → new.monitor.quiet_until ≡ old.monitor.quiet_until → HasTurnRoom new.monitor → IsGood old → IsGood new
good_again new old same quiet room good = record {
  sound = subst IsSound (sym same) good.sound;
  orderly = subst IsOrderly (sym same) good.orderly;
  room = λ _. room;
  owed = λ _. boundary_room new.monitor new.monitor.time new.monitor.owed (omega arith) room;
  next = quiet ∙ good.next ∙ ap (λ (h : Held). next_due h.kept) (sym same);
}
