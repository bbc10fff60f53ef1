-- What is counted while a station is followed.
use Rattle.std.specs.Prelude.{◌≡◌, ◌⊎◌, ⊤, ℕ, ◌+◌, ◌*◌, ◌^◌, ◌≤◌, Bool, true, false, ◌||◌, List, [], ◌∷◌, ◌++◌, Option, Some, None, Result, Ok, Err}
use Rattle.std.specs.String.{string_bytes}
use Rattle.ds_pagemap.specs.Machine.{State}
use Rattle.ds_refinement.specs.declared.step.Step.{Step}
use Rattle.ds_refinement.specs.Held.{Held}
use Rattle.ds_refinement.specs.Stands.{Stands}
use Rattle.ds_refinement.specs.Runs.{held_goes_on}
use Rattle.ds_refinement.specs.Inner.Runs.{RunsWithin}
use Rattle.ds_refinement.specs.Inner.Services.{with_failure}
use Rattle.ds_kernel.specs.Inner.Ended.{DoesStep}
use Rattle.ds_kernel.specs.Inner.Going.{rank}
use Rattle.ds_kernel.specs.Inner.Ran.{HasRun}
use Rattle.ds_station.specs.declared.fault.Fault.{Fault}
use Rattle.ds_trace.specs.declared.processor.ProcessorCounts.{ProcessorCounts}
use Rattle.ds_trace.specs.declared.window.WindowEnd.{WindowEnd}
use Rattle.ds_words.specs.Views.{is_before}
use Rattle.ds_trace.specs.Processors.{StepsTo, left_along, window_left_text, processor_after, window_text}
use Rattle.ds_trace.specs.Inner.Processors.{total}

-- a step of some kind was done
abbrev pub IsStepped : Held → Held → Type 0
IsStepped h new = (step : Step) × DoesStep step h new

-- a step that was done is counted by what was held before it, and one that was refused is not
abbrev pub CountsStep : Result Bool Fault → Held → Held → ProcessorCounts → ProcessorCounts → Type 0
CountsStep (Ok last) h new c d = IsStepped h new × (d ≡ processor_after c h)
CountsStep (Err f) h new c d = (new ≡ with_failure h) × (d ≡ c)

-- where a run has not left a window, the end of that is awaited still
abbrev pub awaited_after : Option ℕ → Option Held → Option ℕ
awaited_after window None = window
awaited_after window (Some left) = None

-- at a station within the window what is kept of its end stays, and else it is told what the buffer holds
abbrev pub WatchesBy : Bool → Held → WindowEnd → WindowEnd → Type 0
WatchesBy true h old new = new ≡ old
WatchesBy false h old new = (new.awaited ≡ None) × (string_bytes new.lines ≡ string_bytes old.lines ++ window_left_text h)

-- by whether a boundary is owed
abbrev pub WatchesAt : Bool → Held → WindowEnd → WindowEnd → Type 0
WatchesAt owed h old new = WatchesBy (owed || is_before old.awaited h.kept.state.time) h old new

-- after a step that was done, and not after one that was refused
abbrev pub WatchesAfter : Result Bool Fault → Bool → Held → WindowEnd → WindowEnd → Type 0
WatchesAfter (Ok last) owed h old new = WatchesAt owed h old new
WatchesAfter (Err f) owed h old new = new ≡ old

-- where a run from a start left a window, a run for n came there, and no instruction of a unit is counted there
abbrev pub HasPassed : ℕ → Held → Option Held → Type 0
HasPassed n start None = ⊤
HasPassed n start (Some h) = (h.own.spent ≡ 0) × RunsWithin n start h

-- these lines tell of it
pub record HasLeft (n : ℕ) (start : Held) (left : Option Held) (lines : List ℕ) : Type 0 where
  pub passed : HasPassed n start left
  pub told : lines ≡ window_text left

-- so do those that are kept of it
pub record IsWatched (window : Option ℕ) (n : ℕ) (start : Held) (at : Option Held) (e : WindowEnd) : Type 0 where
  pub awaited : e.awaited ≡ awaited_after window at
  pub left : HasLeft n start at (string_bytes e.lines)

-- A run for n is followed from where that for k was over; so many steps are counted and may still come.
pub record IsCounting (window : Option ℕ) (k n : ℕ) (start h : Held) (c : ProcessorCounts) (e : WindowEnd) : Type 0 where
  pub from : Held
  pub ran : HasRun k start from
  pub over : held_goes_on k from ≡ false
  pub unbegun : from.own.spent ≡ 0
  pub steps : StepsTo n from h c
  pub few : total c + 2 * rank n h ≤ 2 ^ 40
  pub watched : IsWatched window n start (left_along window (h ∷ steps.path)) e

-- It was followed, or the run for k was cut short, and then nothing is counted. A failure has come since, or none.
pub record HasCounted (window : Option ℕ) (k n : ℕ) (start h : Held) (c : ProcessorCounts) (lines : List ℕ) : Type 0 where
  pub from : Held
  pub ran : HasRun k start from
  pub unbegun : from.own.spent ≡ 0
  pub to : Held
  pub steps : StepsTo n from to c
  pub begins : (held_goes_on k from ≡ false) ⊎ (steps.path ≡ [])
  pub left : HasLeft n start (left_along window (to ∷ steps.path)) lines
  pub core : h.core ≡ to.core
  pub stands : (m : State) → Stands h m → Stands to m
