use Rattle.std.proofs.Common.{◌≡◌, ◌+◌, ◌≤◌, ℕ, List, length}
use Rattle.ds_grants.specs.Inner.Represented.{IsLow, Keeps}
use Rattle.ds_refinement.specs.Held.{Kept}
use Rattle.ds_refinement.specs.Pairs.{HasNoNewPairs}
use Rattle.ds_refinement.specs.Inner.Services.{Serves}
use Rattle.ds_monitor.specs.Inner.Kept.{kept_of}
use Rattle.ds_monitor.specs.Inner.Commands.{commanded, commands_by}
use Rattle.ds_monitor.specs.Inner.Orderly.{IsOrderly}
use Rattle.ds_monitor.specs.Inner.Room.{HasLogRoom}
use Rattle.ds_monitor.proofs.monitor.Monitor.commands.Given as goal

abbrev pub invariant-loop-order : goal.invariant-loop-order
invariant-loop-order g l = record {
  serves : (z : Kept) (w : List ℕ) → Serves (commanded l.fn.self.time) (kept_of l.self) l.bus.memory z w → Serves (commanded l.fn.self.time) (kept_of l.fn.self) l.fn.bus.memory z w;
  orderly : IsOrderly (kept_of l.self);
  named : l.self.grants.named ≡ l.fn.self.grants.named;
  count : l.self.lines + length l.self.due.commands ≤ l.fn.self.lines + length l.fn.self.due.commands;
  low : IsLow l.fn.bus.memory l.bus.memory;
  keeps : Keeps (g.L.Lookaside.entries l.fn.tlb) l.fn.bus.memory l.fn.self.tables l.fn.self.spaces l.fn.self.grants (g.L.Lookaside.entries l.tlb) l.bus.memory l.self.tables l.self.spaces l.self.grants;
  pairs : HasNoNewPairs (g.L.Lookaside.entries l.fn.tlb) (g.L.Lookaside.entries l.tlb);
  random : g.L.Lookaside.random_place l.tlb ≡ g.L.Lookaside.random_place l.fn.tlb;
  room : HasLogRoom (commands_by l.fn.self.time l.self.due.commands) l.self;
  bus : l.bus ≡ record l.fn.bus { memory = l.bus.memory };
  rest : l.self ≡ record l.fn.self {
    grants = l.self.grants;
    tables = l.self.tables;
    spaces = l.self.spaces;
    seats = l.self.seats;
    ready = l.self.ready;
    log = l.self.log;
    lines = l.self.lines;
    due = record l.fn.self.due { commands = l.self.due.commands };
  };
}

abbrev pub decreases-loop-order : goal.decreases-loop-order
decreases-loop-order g l = length l.self.due.commands
