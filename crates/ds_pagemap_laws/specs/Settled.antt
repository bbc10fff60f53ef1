-- Loads that are late, finished.
use Rattle.std.specs.Prelude.{map}
use Rattle.ds_isa.specs.Registers.{settled}
use Rattle.ds_pagemap.specs.Machine.{State, Process}

-- the process with no load late
abbrev pub settled_process : Process → Process
settled_process q = record q { registers = settled q.registers }

-- every process with no load late
abbrev pub all_settled : State → State
all_settled m = record m { processes = map settled_process m.processes }
