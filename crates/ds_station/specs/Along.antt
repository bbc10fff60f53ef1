-- A run of the page-map machine along the steps of a station.
use Rattle.std.specs.Prelude.{◌≡◌, ℕ, ⊤, List, [], ◌∷◌}
use Rattle.ds_pagemap.specs.Machine.{State}
use Rattle.ds_refinement.specs.declared.step.Step.{Step}
use Rattle.ds_refinement.specs.Held.{Held}
use Rattle.ds_refinement.specs.Real.{IsReal}
use Rattle.ds_refinement.specs.Stands.{KeptIs, IsUnbegun}
use Rattle.ds_refinement.specs.Steps.{StepTo}

-- while no instruction of a unit is counted, the processor has the registers of who runs, in user mode and in no slot
abbrev pub ShowsRunner : List ℕ → Held → State → Type 0
ShowsRunner [] h m = ⊤
ShowsRunner (p ∷ rest) h m = h.own.spent ≡ 0 → IsUnbegun h.core p m

-- the station shows the state: in what it keeps, and at the beginning of a unit in the processor
pub record ShowsState (h : Held) (m : State) : Type 0 where
  pub kept : KeptIs h.kept.state.ready h.kept h.bus.memory m
  pub runner : ShowsRunner h.kept.state.ready h m

-- a station, and a state of the machine
pub record Both : Type 0 where
  pub held : Held
  pub state : State

-- the station takes a real step, and the machine one of some kind to a state that the station shows
pub record StepsAlong (old new : Both) : Type 0 where
  pub real : IsReal old.held new.held
  pub kind : Step
  pub machine : StepTo kind old.state new.state
  pub shows : ShowsState new.held new.state

-- by these steps, the newest first
abbrev pub ThroughBoth : Both → List Both → Both → Type 0
ThroughBoth old [] new = new ≡ old
ThroughBoth old (last ∷ before) new = StepsAlong last new × ThroughBoth old before last

-- a path of real steps, along which one run of the machine goes from this state, which the station shows
pub record RunsAlong (first : State) (old new : Held) : Type 0 where
  pub shows : ShowsState old first
  pub path : List Both
  pub last : State
  pub through : ThroughBoth (record { held = old; state = first }) path (record { held = new; state = last })
