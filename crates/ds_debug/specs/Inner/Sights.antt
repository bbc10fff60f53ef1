-- What a debugger sees of a state between two turns.
use Rattle.std.specs.Prelude.{length, flat_map}
use Rattle.ds_log.specs.Text.{line_text}
use Rattle.ds_pagemap.specs.Machine.{State, first, process_of}
use Rattle.ds_station.specs.Outcome.{first_unended}
use Rattle.ds_debug.specs.Inner.Registers.{registers_in}
use Rattle.ds_debug.specs.Sights.{Sight}

-- that of a machine state
abbrev pub sight_in : State → Sight
sight_in m = record {
  time = m.time;
  count = length m.processes;
  runner = first m.ready;
  unended = first_unended m;
  standing = λ p. (process_of m p).standing;
  registers = registers_in m;
  memory = m.memory;
  consoles = m.consoles;
  log = flat_map line_text m.log;
}
