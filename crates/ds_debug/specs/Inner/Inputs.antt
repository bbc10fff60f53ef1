-- What a run begins with, and where a run of it comes.
use Rattle.std.specs.Prelude.{ℕ}
use Rattle.ds_refinement.specs.Held.{Held}
use Rattle.ds_refinement.specs.Real.{RealPath}
use Rattle.ds_refinement.specs.Inner.Runs.{RunsWithin}
use Rattle.ds_station.specs.Headline.{sources_seen}
use Rattle.ds_debug.specs.declared.inputs.Inputs.{Inputs}
use Rattle.ds_debug.specs.Inputs.{RunInputs, IsBeginning}

-- those of the code
abbrev pub inputs_seen : Inputs → RunInputs
inputs_seen i = record { policy = i.policy.now; sources = sources_seen i.sources.now; input = i.input.now; random = i.random }

-- a run of these for n comes to it, by real steps
pub record IsReached (i : RunInputs) (n : ℕ) (h : Held) : Type 0 where
  pub start : Held
  pub begins : IsBeginning i n start
  pub within : RunsWithin n start h
  pub path : RealPath start h
