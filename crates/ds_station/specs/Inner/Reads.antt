-- What a station shows of its processes, and of its processor, by what it holds.
use Rattle.std.specs.Prelude.{◌≡◌, ℕ, List}
use Rattle.ds_pagemap.specs.Machine.{State, process_of}
use Rattle.ds_refinement.specs.Held.{Held}
use Rattle.ds_refinement.specs.Stands.{Stands}

-- while no instruction of a unit is counted, its general registers are those of the process in each machine state that the station stands for
abbrev pub ShowsGeneral : List ℕ → Held → ℕ → Type 0
ShowsGeneral shown h p = h.own.spent ≡ 0 → (m : State) → Stands h m → shown ≡ (process_of m p).registers.general
