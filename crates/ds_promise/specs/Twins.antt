-- States that differ at most in what a touch of their processes can reach.
use Rattle.std.specs.Prelude.{◌≡◌, ℕ, length, slice_index_or}
use Rattle.ds_pagemap.specs.Machine.{State, no_process}

-- each process has 32 registers
pub record HaveRegisters (m : State) : Type 0 where
  pub whole : (i : ℕ) → length (slice_index_or m.processes i no_process).registers.general ≡ 32
