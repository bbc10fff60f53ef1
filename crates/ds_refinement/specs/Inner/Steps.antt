-- What a step of the station does to the machine states that it stands for.
use Rattle.ds_pagemap.specs.Machine.{State}
use Rattle.ds_refinement.specs.Held.{Held}
use Rattle.ds_refinement.specs.Stands.{Stands}

-- each machine state that the station stood for, it still stands for
pub record Stays (old new : Held) : Type 0 where
  pub stays : (m : State) → Stands old m → Stands new m
