-- The machine states that a station stands for, and how few steps its unit takes.
use Rattle.std.specs.Prelude.{◌≡◌, ℕ, List, length, flat_map}
use Rattle.ds_log.specs.Text.{line_text}
use Rattle.ds_grants.specs.State.{page_state}
use Rattle.ds_pagemap.specs.Machine.{State}
use Rattle.ds_refinement.specs.Held.{Held, Kept, bare}
use Rattle.ds_refinement.specs.Stands.{Stands}

-- there is a machine state that the station stands for
pub record IsSound (h : Held) : Type 0 where
  pub state : State
  pub stands : Stands h state

-- nobody is on the processor: all is kept
pub record IsKept (k : Kept) (memory : List ℕ) (m : State) : Type 0 where
  pub state : bare m ≡ k.state
  pub pages : m.memory ≡ page_state k.grants memory
  pub log : flat_map line_text m.log ≡ k.log
  pub lines : length m.log ≡ k.lines
