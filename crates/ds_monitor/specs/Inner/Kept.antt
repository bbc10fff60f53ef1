-- What the monitor keeps, as a state of the machine without pages, table and log.
use Rattle.std.specs.Prelude.{[]}
use Rattle.ds_pagemap.specs.Machine.{State}
use Rattle.ds_refinement.specs.Held.{Kept, no_memory}
use Rattle.ds_monitor.specs.Inner.Consoles.{texts_of}
use Rattle.ds_monitor.specs.declared.monitor.Monitor.{Monitor}

-- what a monitor keeps
abbrev pub kept_of : Monitor → Kept
kept_of m = record {
  state = record {
    memory = no_memory;
    rate = m.rate;
    processes = m.seats.items;
    ready = m.ready;
    queues = m.queues.items;
    consoles = texts_of m.consoles;
    log = [];
    time = m.time;
    commands = m.due.commands;
    characters = m.due.characters;
    owed = m.owed;
  };
  grants = m.grants;
  tables = m.tables;
  spaces = m.spaces;
  log = m.log.items;
  lines = m.lines;
  ticked = m.ticked;
  ends = m.ends;
}

-- what is kept where this is done to its state
abbrev pub kept_after : (State → State) → Kept → Kept
kept_after f k = record k { state = f k.state }
