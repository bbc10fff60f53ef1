-- States that differ at most in what a touch of their processes can reach.
use Rattle.std.specs.Prelude.{◌≡◌, ℕ, List, length, slice_index_or}
use Rattle.ds_pagemap.specs.Machine.{State, Process, no_process}
use Rattle.ds_pagemap.specs.Unit.{Outcome, Went, Branched, Called, Stopped}
use Rattle.ds_promise.specs.Alike.{AreAlike}

-- the same process, of which the second may have been touched
pub record IsTwinProcess (q r : Process) : Type 0 where
  pub registers : AreAlike q.registers r.registers
  pub pc : q.pc ≡ r.pc
  pub standing : q.standing ≡ r.standing
  pub line : q.line ≡ r.line

-- as many processes, each a twin
pub record AreTwins (ps qs : List Process) : Type 0 where
  pub size : length ps ≡ length qs
  pub each : (i : ℕ) → IsTwinProcess (slice_index_or ps i no_process) (slice_index_or qs i no_process)

-- t is m with other processes, some of them touched
pub record IsTwin (m t : State) : Type 0 where
  pub processes : List Process
  pub is : t ≡ record m { processes = processes }
  pub twins : AreTwins m.processes processes

-- instructions with the same outcome, in states that are twins
abbrev pub OutcomesAlike : Outcome → Outcome → Type 0
OutcomesAlike (Went m) (Went t) = IsTwin m t
OutcomesAlike (Branched m to) (Branched t there) = IsTwin m t × (to ≡ there)
OutcomesAlike Called Called = Unit {0}
OutcomesAlike (Stopped stop) (Stopped other) = stop ≡ other
OutcomesAlike o u = ⊥
