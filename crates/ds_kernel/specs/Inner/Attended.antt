-- What a boundary makes of what is held.
use Rattle.std.specs.Prelude.{◌≡◌, ◌⊎◌, ℕ, ◌+◌, ◌-◌, ◌≤◌, Bool, not, nat_le, filter, if◌then◌else◌, List, length, Option, Some, None}
use Rattle.ds_dev.specs.Clock.{read_flags}
use Rattle.ds_dev.specs.Bus.{BusState, with_serial, with_clock, after_ticks}
use Rattle.ds_policy.specs.declared.command.Character.{Character}
use Rattle.ds_pagemap.specs.declared.turn.Turn.{Turn}
use Rattle.ds_pagemap.specs.Machine.{State}
use Rattle.ds_pagemap.specs.Boundary.{all_queued, woken, rotated, boundary}
use Rattle.ds_pagemap_laws.specs.Due.{come}
use Rattle.ds_refinement.specs.Held.{Held, Kept}
use Rattle.ds_refinement.specs.Pairs.{HasNoNewPairs}
use Rattle.ds_refinement.specs.Inner.Quiet.{IsUndisturbed}
use Rattle.ds_refinement.specs.Inner.Services.{EndsUnitBy, with_boundary, with_none_spent}
use Rattle.ds_monitor.specs.Inner.Coming.{next_due}
use Rattle.ds_monitor.specs.Inner.Kept.{kept_of}
use Rattle.ds_monitor.specs.Inner.Commands.{with_ends, commanded}
use Rattle.ds_monitor.specs.Inner.Orderly as monitor
use Rattle.ds_kernel.specs.declared.parts.Parts.{Parts}
use Rattle.ds_kernel.specs.Inner.Parts.{held}
use Rattle.ds_kernel.specs.Inner.Devices.{all_received, emptied}

-- The devices.

-- the characters that come later
abbrev pub to_come : State → List Character
to_come m = filter (λ (c : Character). not (nat_le c.time m.time)) m.characters

-- the bus once the clock is brought to the time and the characters that are due have come in
abbrev pub bus_at : BusState → Kept → BusState
bus_at b k = with_serial (after_ticks b (k.state.time - k.ticked)) (all_received b.serial (come k.state))

-- the bus once the clock's flags and all characters are read
abbrev pub read_out : BusState → BusState
read_out b = with_serial (with_clock b (read_flags b.clock).1) (emptied b.serial)

-- The processes.

-- the process that ran, if one did
abbrev pub runner_of : Option Turn → Option ℕ
runner_of None = None
runner_of (Some turn) = turn.runner

-- no boundary is owed
abbrev pub unowed : Kept → Kept
unowed k = record k { state = record k.state { owed = None } }

-- these characters are queued, and who waits for one that is there becomes ready
abbrev pub heard : List Character → State → State
heard cs m =
    let typed : State = record m { queues = all_queued m.queues cs } in
    woken typed 1 (length typed.processes)

-- These characters are queued, who waits for one that is there becomes ready, and where a period has ended the process that ran goes to the end.
abbrev pub shared : List Character → Bool → Option ℕ → State → State
shared cs passed runner m =
    let typed : State = record m { queues = all_queued m.queues cs } in
    let awake : State = woken typed 1 (length typed.processes) in
    if passed then rotated awake runner else awake

-- The rights that have ended by a time end, the commands that are due are done, and then the rest of the boundary.
abbrev pub ruled : ℕ → List Character → Bool → Option ℕ → State → State
ruled now cs passed runner m = shared cs passed runner (commanded now (with_ends now m))

-- The boundary.

-- the boundary that was owed is served, and the station's own marks are those of a new unit
pub record HasAttended {L : Type 0} (old new : Parts L) : Type 0 where
  pub ends : EndsUnitBy boundary (held old) (held new)
  pub own : (held new).own ≡ with_none_spent (held old).own
  pub random : new.core.random ≡ old.core.random
  pub pairs : HasNoNewPairs old.core.entries new.core.entries
  pub lines : new.monitor.lines + length new.monitor.due.commands ≤ old.monitor.lines + length old.monitor.due.commands
  pub time : new.monitor.time ≡ old.monitor.time
  pub ticked : new.monitor.ticked ≡ old.monitor.time
  pub rate : new.monitor.rate ≡ old.monitor.rate
  pub next : new.monitor.quiet_until ≡ next_due (kept_of new.monitor)
  pub kept : monitor.IsOrderly (kept_of new.monitor)

-- a boundary that was owed had nothing to do, or was served
abbrev pub IsBounded : Held → Held → Type 0
IsBounded old new =
    (IsUndisturbed old.kept × (new ≡ with_boundary old))
    ⊎ (EndsUnitBy boundary old new × (new.own ≡ with_none_spent old.own) × (new.core.random ≡ old.core.random)
    × HasNoNewPairs old.core.entries new.core.entries)
