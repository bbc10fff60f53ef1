-- The positions of a run of the bare machine: its states between two instructions.
use Rattle.std.specs.Prelude.{ℕ, zero, suc, ◌+◌, Bool, false, is_some, List}
use Rattle.ds_policy.specs.declared.command.Character.{Character}
use Rattle.ds_bare.specs.Machine.{Machine, machine_at_start}
use Rattle.ds_bare.specs.Runs.{ending_at, turned}

-- an image, where Random begins, the characters that come in, and the most instructions
pub record BareRun : Type 0 where
  pub image : List ℕ
  pub random : ℕ
  pub keys : List Character
  pub limit : ℕ

-- how many instructions are done, the machine after them, and whether the run ended with the last
pub record Position : Type 0 where
  pub done : ℕ
  pub machine : Machine
  pub over : Bool

-- before the first instruction
abbrev pub first_position : BareRun → Position
first_position r = record { done = 0; machine = machine_at_start r.image r.random r.keys; over = false }

-- the next position
unfoldable pub onward : Position → Position
onward p = record { done = p.done + 1; machine = turned p.done p.machine; over = is_some (ending_at p.done p.machine) }

-- the position after so many instructions more
unfoldable pub position_after : Position → ℕ → Position
position_after p zero = p
position_after p (suc k) = onward (position_after p k)

-- the position of a run after so many instructions
abbrev pub position : BareRun → ℕ → Position
position r k = position_after (first_position r) k
