-- Many instructions of the processor at once, with the boundaries of the units that they end.
use Rattle.std.specs.Prelude.{◌≡◌, ◌≢◌, ℕ, zero, suc, ◌+◌, ◌≤◌, Bool, [], Option, None}
use Rattle.ds_pagemap.specs.declared.turn.Turn.{Turn}
use Rattle.ds_ahead.specs.Inner.Ahead.{Hardware, hardware_of, ticks, owed_tick}
use Rattle.ds_refinement.specs.Held.{Held, Kept, Own}
use Rattle.ds_refinement.specs.Counts.{Counts, counts_of, fresh_counts, one_more}
use Rattle.ds_refinement.specs.Inner.Counts.{with_counts}
use Rattle.ds_refinement.specs.Units.{user_status}
use Rattle.ds_refinement.specs.Told.{is_delayed}
use Rattle.ds_refinement.specs.Inner.Quiet.{IsUndisturbed}

-- what is held with another processor and bus, at another time, with another boundary owed and with other counts of the unit
abbrev pub moved : Held → Hardware → ℕ → Option Turn → Counts → Held
moved h hw time owed counts = record h {
  core = hw.core;
  bus = hw.bus;
  kept = record h.kept { state = record h.kept.state { time = time; owed = owed } };
  own = with_counts h.own counts;
}

-- so many instructions more
abbrev pub more_counted : ℕ → Counts → Counts
more_counted zero n = n
more_counted (suc steps) n = one_more (more_counted steps n)

-- The counts after so many steps in so many ticks, by whether the next stands in a slot. While no time has passed the unit goes on,
-- and each step counts; once it has, another unit has begun, of which the branch is done at most.
abbrev pub counts_beyond : ℕ → ℕ → Bool → Own → Counts
counts_beyond steps zero slot own = more_counted steps (counts_of own)
counts_beyond steps (suc ticks) slot own = record (fresh_counts own.wired) { spent = owed_tick slot }

-- the time after so many steps
abbrev pub time_after : ℕ → Held → ℕ
time_after n h = h.kept.state.time + ticks n (hardware_of h.core h.bus)

-- what is held after so many steps that entered no exception: of each unit that ended the boundary is done
abbrev pub with_block : ℕ → Held → Hardware → Held
with_block n h hw = moved h hw (time_after n h) None (counts_beyond n (ticks n (hardware_of h.core h.bus)) hw.core.slot h.own)

-- and after one step more, which entered an exception
abbrev pub with_exception : ℕ → Held → Hardware → Held
with_exception n h hw = moved h hw (time_after n h) None (one_more (counts_beyond n (ticks n (hardware_of h.core h.bus)) (is_delayed hw.core.system) h.own))

-- what is kept at another time
abbrev pub at_time : ℕ → Kept → Kept
at_time time k = record k { state = record k.state { time = time } }

-- from now on up to a time every boundary has nothing to do
pub record IsQuietUntil (last : ℕ) (k : Kept) : Type 0 where
  pub ticked : k.ticked ≤ k.state.time
  pub quiet : (time : ℕ) → k.state.time ≤ time → time ≤ last → IsUndisturbed (at_time time k)

-- A process is in its unit, in user mode and at any step of it, and up to the boundary after so many steps each has nothing to do.
pub record MayRunAhead (n : ℕ) (h : Held) : Type 0 where
  pub owed : h.kept.state.owed ≡ None
  pub ready : h.kept.state.ready ≢ []
  pub mode : h.core.system.status ≡ user_status
  pub few : h.own.spent ≤ 61
  pub quiet : IsQuietUntil (h.kept.state.time + n + owed_tick h.core.slot) h.kept
