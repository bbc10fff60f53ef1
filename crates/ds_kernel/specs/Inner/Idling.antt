-- Turns in which no process runs, many at once.
use Rattle.std.specs.Prelude.{◌≡◌, ℕ, ◌%◌, ◌<◌, ◌^◌, false, [], None}
use Rattle.std.specs.List.Sorted.{IsNonDecreasingBy}
use Rattle.ds_policy.specs.Ends.{has_some_expired}
use Rattle.ds_policy.specs.InputFacts.{has_time, comes_at}
use Rattle.ds_pagemap.specs.Run.{is_over}
use Rattle.ds_pagemap_laws.specs.Due.{NobodyWakes}
use Rattle.ds_refinement.specs.Held.{Held}
use Rattle.ds_monitor.specs.Inner.Coming.{first_event}

-- what is held at a time up to which nobody ran and nothing came: the clock is brought to it, and its flag is read
abbrev pub idled : ℕ → Held → Held
idled time h = record h {
  bus = record h.bus { clock = record h.bus.clock { flagged = false; time = time % 2 ^ 17 } };
  kept = record h.kept { state = record h.kept.state { time = time }; ticked = time };
}

-- Nobody is ready, somebody has not ended, nobody waits for a character that is there, and up to a time no event comes and no right ends.
pub record MayIdle (time : ℕ) (h : Held) : Type 0 where
  pub owed : h.kept.state.owed ≡ None
  pub ready : h.kept.state.ready ≡ []
  pub going : is_over h.kept.state ≡ false
  pub asleep : NobodyWakes h.kept.state
  pub commands : IsNonDecreasingBy has_time h.kept.state.commands
  pub characters : IsNonDecreasingBy comes_at h.kept.state.characters
  pub early : time < first_event (record { commands = h.kept.state.commands; characters = h.kept.state.characters })
  pub ends : has_some_expired time h.kept.grants.table ≡ false
