-- What a debugger sees of a state between two turns.
use Rattle.std.specs.Prelude.{ℕ, List, length, Option}
use Rattle.ds_policy.specs.Grants.{PageState}
use Rattle.ds_procs.specs.declared.process.Standing.{Standing}
use Rattle.ds_pagemap.specs.Machine.{first, process_of}
use Rattle.ds_refinement.specs.Held.{Held}
use Rattle.ds_station.specs.Outcome.{first_unended}
use Rattle.ds_station.specs.Reads.{memory_held}
use Rattle.ds_station.specs.declared.outcome.Unended.{Unended}
use Rattle.ds_debug.specs.Registers.{registers_held}
use Rattle.ds_debug.specs.declared.registers.Registers.{Registers}

-- the time, how many processes there are, which of them runs, which is the first that has not ended, how each stands, its registers, memory, what the consoles have, and the log
pub record Sight : Type 0 where
  pub time : ℕ
  pub count : ℕ
  pub runner : Option ℕ
  pub unended : Option Unended
  pub standing : ℕ → Standing
  pub registers : ℕ → Registers
  pub memory : PageState
  pub consoles : List (List ℕ)
  pub log : List ℕ

-- that of what a station holds
abbrev pub sight_held : Held → Sight
sight_held h = record {
  time = h.kept.state.time;
  count = length h.kept.state.processes;
  runner = first h.kept.state.ready;
  unended = first_unended h.kept.state;
  standing = λ p. (process_of h.kept.state p).standing;
  registers = registers_held h;
  memory = memory_held h;
  consoles = h.kept.state.consoles;
  log = h.kept.log;
}
