use Rattle.std.proofs.Common.{◌≡◌, ◌∙◌, ◌+◌, ◌<◌, ◌≤◌, ℕ, List, ◌∷◌, length, refl, sym, ap, subst, arith, All}
use Rattle.ds_policy.specs.declared.command.TimedCommand.{TimedCommand}
use Rattle.ds_policy.specs.Value.{InputValue}
use Rattle.ds_policy.specs.InputFacts.{has_time}
use Rattle.ds_pagemap.specs.Machine.{State}
use Rattle.ds_pagemap.specs.Calls.{after_command}
use Rattle.ds_monitor.specs.Inner.Orderly.{IsOrderly}
use Rattle.ds_grants.specs.Inner.Represented.{IsLow, Keeps}
use Rattle.ds_dev.specs.Bus.{BusState}
use Rattle.ds_refinement.specs.Held.{Kept}
use Rattle.ds_refinement.specs.Inner.Services.{Serves}
use Rattle.ds_refinement.proofs.NoNewPairs.{same_pairs, joined_pairs}
use Rattle.ds_monitor.specs.declared.monitor.Monitor.{Monitor}
use Rattle.ds_monitor.specs.Inner.Kept.{kept_of}
use Rattle.ds_monitor.specs.Inner.Room.{HasLogRoom}
use Rattle.ds_monitor.specs.Inner.Commands.{commanded, commands_by}
use Rattle.ds_monitor.proofs.Commanding.{taken, commanded_then, commanded_end, by_next, good_first, fewer_lines}
use Rattle.ds_monitor.proofs.Low.{low_same, low_then}
use Rattle.ds_monitor.proofs.Lawful.{taken_orderly}
use Rattle.ds_monitor.proofs.monitor.Monitor.commands.Goals as goal

-- what is kept once the first command is taken
taken_is : (last : Monitor) (left : InputValue) → left ≡ record last.due { commands = left.commands } → kept_of (record last { due = left }) ≡ taken (kept_of last) left.commands
taken_is last left rest = ap (λ (i : InputValue). kept_of (record last { due = i })) rest

pub loop-order-init : goal.loop-order-init
loop-order-init g c = record {
  serves = λ z w s. s;
  orderly = c.requires.orderly;
  named = refl;
  count = omega arith;
  low = low_same c.args.bus.now.memory;
  keeps = λ holds. holds;
  pairs = same_pairs (g.L.Lookaside.entries c.args.tlb.now);
  random = refl;
  room = c.requires.room;
  bus = refl;
  rest = refl;
}

pub command-requires : goal.command-requires
command-requires g c =
    let i = c.loop-order.invariant in
    let last = c.loop-order.self in
    let left = c.take_command.new.self in
    let order = c.in-Some.order in
    let first : last.due.commands ≡ order ∷ left.commands = c.in-Some.ensures.some.0 in
    let time : last.time ≡ c.args.self.now.time = ap (λ (m : Monitor). m.time) i.rest in
    let due : order.time ≤ last.time = c.in-Some.ensures.some.1 in
    let now = c.args.self.now.time in
    let more : commands_by now last.due.commands ≡ commands_by now left.commands + 1 = ap (commands_by now) first ∙ by_next now order left.commands (omega (arith, due, time)) in
    record {
      orderly = subst IsOrderly (sym (taken_is last left c.take_command.ensures.rest)) (taken_orderly (kept_of last) order left.commands first i.orderly);
      good = good_first last.grants.named last.due.commands left.commands order first i.orderly.commands;
      number = c.in-Some.ensures.few;
      early = (let early = c.requires.early in omega (arith, early, time));
      count = (let all = i.count in let few = c.requires.count in omega (arith, all, few));
      room = fewer_lines 1 (commands_by now last.due.commands) last (omega (arith, more)) i.room;
    }

pub loop-order-preserved : goal.loop-order-preserved
loop-order-preserved g c =
    let i = c.loop-order.invariant in
    let last = c.loop-order.self in
    let left = c.take_command.new.self in
    let next = c.command.new.self in
    let order = c.in-Some.order in
    let first : last.due.commands ≡ order ∷ left.commands = c.in-Some.ensures.some.0 in
    let time : last.time ≡ c.args.self.now.time = ap (λ (m : Monitor). m.time) i.rest in
    let due : order.time ≤ last.time = c.in-Some.ensures.some.1 in
    let now = c.args.self.now.time in
    let soon : order.time ≤ now = omega (arith, due, time) in
    let more : commands_by now last.due.commands ≡ commands_by now left.commands + 1 = ap (commands_by now) first ∙ by_next now order left.commands soon in
    let still : next.due ≡ left = ap (λ (m : Monitor). m.due) c.command.ensures.rest in
    let longer : length last.due.commands ≡ length left.commands + 1 = ap (λ (cs : List TimedCommand). length cs) first ∙ (omega arith) in
    let same : length next.due.commands ≡ length left.commands = ap (λ (d : InputValue). length d.commands) still in
    let there = taken_is last left c.take_command.ensures.rest in
    let before = c.loop-order.bus.memory in
    let later = c.command.new.memory in
    let lent = c.memory.ensures.value in
    let tlb = g.L.Lookaside.entries c.loop-order.tlb in
    let tlb_later = g.L.Lookaside.entries c.command.new.tlb in
    record {
      serves = λ z w s. i.serves z w
          (commanded_then now (kept_of last) (kept_of next) z before later w order left.commands first soon
          (subst (λ (k : Kept). Serves (λ (m : State). after_command m order.number order.command) k before (kept_of next) later) there
          (subst (λ (x : List ℕ). Serves (λ (m : State). after_command m order.number order.command) (kept_of (record last { due = left })) x (kept_of next) later) lent c.command.ensures.serves)) s);
      orderly = c.command.ensures.orderly;
      named = c.command.ensures.named ∙ i.named;
      count = (let all = i.count in let one = c.command.ensures.lines in omega (arith, all, one, longer, same));
      low = low_then c.args.bus.now.memory before later i.low (subst (λ (x : List ℕ). IsLow x later) lent c.command.ensures.low);
      keeps = λ holds.
          subst (λ (x : List ℕ). Keeps tlb x last.tables last.spaces last.grants tlb_later later next.tables next.spaces next.grants) lent c.command.ensures.keeps
          (i.keeps holds);
      pairs = joined_pairs (g.L.Lookaside.entries c.args.tlb.now) tlb tlb_later i.pairs c.command.ensures.pairs;
      random = c.command.ensures.random ∙ i.random;
      room = subst (λ (d : InputValue). HasLogRoom (commands_by now d.commands) next) (sym still)
          (c.command.ensures.room (commands_by now left.commands) (fewer_lines (commands_by now left.commands + 1) (commands_by now last.due.commands) (record last { due = left }) (omega (arith, more)) i.room));
      bus = ap (λ (b : BusState). record b { memory = later }) i.bus;
      rest =
          c.command.ensures.rest
          ∙ (ap (λ (d : InputValue). record last { grants = next.grants; tables = next.tables; spaces = next.spaces; seats = next.seats; ready = next.ready; log = next.log; lines = next.lines; due = d }) c.take_command.ensures.rest
          ∙ (ap (λ (m : Monitor). record m { grants = next.grants; tables = next.tables; spaces = next.spaces; seats = next.seats; ready = next.ready; log = next.log; lines = next.lines; due = record m.due { commands = left.commands } }) i.rest
          ∙ ap (λ (d : InputValue). record c.args.self.now { grants = next.grants; tables = next.tables; spaces = next.spaces; seats = next.seats; ready = next.ready; log = next.log; lines = next.lines; due = record c.args.self.now.due { commands = d.commands } }) (sym still)));
    }

pub returns-clause-serves : goal.returns-clause-serves
returns-clause-serves g c =
    let i = c.loop-order.invariant in
    let last = c.loop-order.self in
    let now = c.args.self.now.time in
    let same : kept_of (record last { due = c.take_command.new.self }) ≡ kept_of last = ap (λ (d : InputValue). kept_of (record last { due = d })) (c.in_default.ensures.none refl) in
    subst (λ (k : Kept). Serves (commanded now) (kept_of c.args.self.now) c.args.bus.now.memory k c.loop-order.bus.memory) (sym same)
    (i.serves (kept_of last) c.loop-order.bus.memory
    (commanded_end now (kept_of last) c.loop-order.bus.memory (record { memory = refl; log = refl })
    (subst (λ (t : ℕ). All (λ (x : TimedCommand). t < has_time x) last.due.commands) (ap (λ (m : Monitor). m.time) i.rest) (c.in_default.ensures.later refl))))
