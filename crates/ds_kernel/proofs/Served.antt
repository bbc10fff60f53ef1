-- The boundary that is served, put together.
use Rattle.std.proofs.Common.{◌≡◌, inl, ℕ, ◌+◌, ◌<◌, ◌≤◌, Bool, true, false, List, [], length, take, map, Option, Some, None, refl, sym, ap, ap₂, subst, ◌∙◌, arith}
use Rattle.std.specs.List.{All}
use Rattle.ds_tlb.specs.declared.entry.Entry.{Entry}
use Rattle.ds_dev.specs.declared.serial.Character.{Character as Received}
use Rattle.ds_dev.specs.Bus.{BusState}
use Rattle.ds_dev.specs.Inner.Bus.{asks}
use Rattle.ds_core.specs.Core.{CoreState}
use Rattle.ds_policy.specs.declared.command.Character.{Character}
use Rattle.ds_grants.specs.State.{page_state}
use Rattle.ds_grants.specs.Represented.{IsRepresented}
use Rattle.ds_grants.specs.Inner.Represented.{IsLow, Keeps}
use Rattle.ds_grants.specs.Sound.{NamesPages}
use Rattle.ds_pagemap.specs.declared.turn.Turn.{Turn}
use Rattle.ds_pagemap.specs.Machine.{State}
use Rattle.ds_pagemap.specs.Boundary.{all_queued, has_passed, boundary}
use Rattle.ds_pagemap_laws.specs.Due.{come}
use Rattle.ds_pagemap_laws.proofs.Formed.{formed_with}
use Rattle.ds_refinement.specs.Held.{Kept}
use Rattle.ds_refinement.specs.Inner.Held.{whole}
use Rattle.ds_refill.specs.Handler.{HasWords}
use Rattle.ds_refinement.specs.Pairs.{HasNoNewPairs}
use Rattle.ds_refinement.specs.Stands.{AreResting}
use Rattle.ds_refinement.specs.Inner.Stands.{IsSound}
use Rattle.ds_refinement.specs.Inner.Services.{Serves, EntersBy, EndsUnitBy, seated, with_none_spent}
use Rattle.ds_pagemap.proofs.Boundaries.{boundary_owed}
use Rattle.ds_monitor.specs.declared.monitor.Monitor.{Monitor}
use Rattle.ds_monitor.specs.Inner.Coming.{next_due}
use Rattle.ds_monitor.specs.Inner.Kept.{kept_of}
use Rattle.ds_monitor.specs.Inner.Orderly as monitor
use Rattle.ds_monitor.proofs.Serving.{serves_as}
use Rattle.ds_kernel.specs.declared.parts.Parts.{Parts}
use Rattle.ds_kernel.specs.Inner.Parts.{held, own_of, with_counts_of}
use Rattle.ds_refinement.specs.Handling.{IsWhole}
use Rattle.ds_kernel.specs.Inner.Devices.{IsOfLine, typed, interrupted}
use Rattle.ds_kernel.specs.Inner.Attended.{to_come, bus_at, read_out, runner_of, unowed, ruled, HasAttended}
use Rattle.ds_kernel.proofs.Attending.{at_boundary, quiet_kept, arrived_kept, seated_between, seat_beside, boundary_serves, unseen, ruled_alike, queued_alike, flag_is, rest_again}
use Rattle.ds_refinement.proofs.NoNewPairs.{joined_pairs}
use Rattle.ds_refinement.proofs.Vectors.{vectors_first}
use Rattle.ds_kernel.proofs.Finishing.{spaces_orderly, memory_rests, base_as, none_counted, ranges_after}

-- nothing was received yet, so each that was is of a line
pub none_received : (silo : List Received) → silo ≡ [] → All IsOfLine silo
none_received silo e = subst (λ (xs : List Received). All IsOfLine xs) (sym e) (λ k d below. absurd (omega (arith, below)))

same_entries : (asked : Bool) (c : CoreState) → (interrupted asked c).entries ≡ c.entries
same_entries true c = refl
same_entries false c = refl

same_context : (asked : Bool) (c : CoreState) → (interrupted asked c).system.context ≡ c.system.context
same_context true c = refl
same_context false c = refl

same_random : (asked : Bool) (c : CoreState) → (interrupted asked c).random ≡ c.random
same_random true c = refl
same_random false c = refl

-- what comes in, and how far the clock was brought, leaves it orderly
pub arrived_orderly : (k n : Kept) → n ≡ arrived_kept k.state.time k → monitor.IsOrderly k → monitor.IsOrderly n
arrived_orderly k n is it = subst monitor.IsOrderly (sym is) (record {
  lawful = record {
    formed = formed_with (whole k [] []) (page_state k.grants []) k.state.queues k.state.consoles [] k.state.time k.state.commands (to_come k.state) k.state.owed refl refl refl it.lawful.formed;
    asleep = it.lawful.asleep;
  };
  ended = it.ended;
  commands = it.commands;
  ends = it.ends;
})

module _ {L : Type 0} (old came served new : Parts L) (ahead : Monitor) (turn : Turn) (sound : IsSound (held old)) (owed : old.monitor.owed ≡ Some turn) (before : old.monitor.ticked ≤ old.monitor.time)
    (high : old.monitor.rate ≤ 15) (low : 0 < old.monitor.rate → 3 ≤ old.monitor.rate) (lines : All (λ (c : Character). c.line < 4) old.monitor.due.characters)
    (comes : came ≡ record old {
      core = interrupted (asks (bus_at old.bus (kept_of old.monitor))) old.core;
      bus = bus_at old.bus (kept_of old.monitor);
      monitor = record old.monitor { ticked = old.monitor.time; due = record old.monitor.due { characters = to_come (kept_of old.monitor).state } };
    })
    (serves : Serves (ruled came.monitor.time (map typed came.bus.serial.silo) came.bus.clock.flagged (runner_of came.monitor.owed)) (unowed (seated came.core (kept_of came.monitor))) came.bus.memory (kept_of served.monitor) served.bus.memory)
    (orderly : monitor.IsOrderly (kept_of served.monitor)) (count : served.monitor.lines + length served.monitor.due.commands ≤ came.monitor.lines + length came.monitor.due.commands) (reads : served.bus ≡ record (read_out came.bus) { memory = served.bus.memory }) (below : IsLow came.bus.memory served.bus.memory)
    (keeps : Keeps came.core.entries came.bus.memory came.monitor.tables came.monitor.spaces came.monitor.grants served.core.entries served.bus.memory served.monitor.tables served.monitor.spaces served.monitor.grants)
    (adds : HasNoNewPairs came.core.entries served.core.entries) (still : served.core.random ≡ came.core.random)
    (rest : served ≡ record came {
      core = record came.core { entries = served.core.entries };
      bus = served.bus;
      monitor = record came.monitor {
        grants = served.monitor.grants;
        tables = served.monitor.tables;
        spaces = served.monitor.spaces;
        seats = served.monitor.seats;
        ready = served.monitor.ready;
        queues = served.monitor.queues;
        log = served.monitor.log;
        lines = served.monitor.lines;
        owed = served.monitor.owed;
        ends = served.monitor.ends;
        due = record came.monitor.due { commands = served.monitor.due.commands };
      };
    })
    (looks : ahead ≡ record served.monitor { quiet_until = next_due (kept_of served.monitor) })
    (enters : EntersBy new.monitor.ready new.core (kept_of new.monitor))
    (represented : IsRepresented served.core.entries served.bus.memory ahead.tables ahead.spaces ahead.grants
    → IsRepresented new.core.entries new.bus.memory new.monitor.tables new.monitor.spaces new.monitor.grants)
    (brings : HasNoNewPairs served.core.entries new.core.entries) (context : new.core.system.context ≡ served.core.system.context)
    (pages : NamesPages ahead.grants) (random : new.core.random ≡ served.core.random)
    (counts : own_of new ≡ with_none_spent (own_of served)) (complete : IsWhole new.core)
    (ends : new ≡ record (with_counts_of new (record served { monitor = ahead })) { core = new.core; monitor = record ahead { spaces = new.monitor.spaces } }) where
  abbrev k : Kept
  k = kept_of old.monitor

  abbrev b : BusState
  b = old.bus

  resting : AreResting b k
  resting = sound.stands.agrees.devices

  abbrev k0 : Kept
  k0 = seated old.core k

  beside : k0.state ≡ record k.state { processes = k0.state.processes }
  beside = seat_beside k.state.ready old.core k.state

  -- what the boundary of the machine does, and what was done
  abbrev does : State → State
  does = ruled k0.state.time (take 64 (come k0.state)) (has_passed k0.state.rate turn.began k0.state.time) turn.runner

  abbrev did : State → State
  did = ruled came.monitor.time (map typed came.bus.serial.silo) came.bus.clock.flagged (runner_of came.monitor.owed)

  seat : unowed (seated came.core (kept_of came.monitor)) ≡ record (quiet_kept k0) { ticked = k.state.time }
  seat =
      ap (λ (p : Parts L). unowed (seated p.core (kept_of p.monitor))) comes
      ∙ seated_between k.state.ready (asks (bus_at b k)) old.core k k.state.time (at_boundary (held old) turn sound owed).0 (at_boundary (held old) turn sound owed).1

  time : came.monitor.time ≡ k0.state.time
  time = ap (λ (p : Parts L). p.monitor.time) comes ∙ sym (ap (λ (s : State). s.time) beside)

  silo : came.bus.serial.silo ≡ (bus_at b k).serial.silo
  silo = ap (λ (p : Parts L). p.bus.serial.silo) comes

  flag : came.bus.clock.flagged ≡ has_passed k0.state.rate turn.began k0.state.time
  flag =
      ap (λ (p : Parts L). p.bus.clock.flagged) comes
      ∙ (flag_is b k resting turn owed high low before
      ∙ sym (ap (λ (s : State). has_passed s.rate turn.began s.time) beside))

  runner : runner_of came.monitor.owed ≡ turn.runner
  runner = ap (λ (p : Parts L). runner_of p.monitor.owed) comes ∙ ap runner_of owed

  queued : (queues : List (List ℕ)) → all_queued queues (map typed (bus_at b k).serial.silo) ≡ all_queued queues (take 64 (come k0.state))
  queued queues = queued_alike b k resting queues lines ∙ ap (λ (s : State). all_queued queues (take 64 (come s))) (sym beside)

  alike : (m : State) → does m ≡ did m
  alike m =
      sym (ruled_alike k0.state.time (map typed (bus_at b k).serial.silo) (take 64 (come k0.state)) (has_passed k0.state.rate turn.began k0.state.time) turn.runner m queued)
      ∙ (ap₂ (λ (passed : Bool) (r : Option ℕ). ruled k0.state.time (map typed (bus_at b k).serial.silo) passed r m) (sym flag) (sym runner)
      ∙ ap₂ (λ (t : ℕ) (xs : List Received). ruled t (map typed xs) came.bus.clock.flagged (runner_of came.monitor.owed) m) (sym time) (sym silo))

  memory : came.bus.memory ≡ b.memory
  memory = ap (λ (p : Parts L). p.bus.memory) comes

  by_did : Serves did (record (quiet_kept k0) { ticked = k.state.time }) b.memory (kept_of served.monitor) served.bus.memory
  by_did =
      subst (λ (x : List ℕ). Serves did (record (quiet_kept k0) { ticked = k.state.time }) x (kept_of served.monitor) served.bus.memory) memory
      (subst (λ (x : Kept). Serves did x came.bus.memory (kept_of served.monitor) served.bus.memory) seat serves)

  by_does : Serves does (record (quiet_kept k0) { ticked = k.state.time }) b.memory (kept_of served.monitor) served.bus.memory
  by_does =
      serves_as did does (record (quiet_kept k0) { ticked = k.state.time }) (kept_of served.monitor) b.memory served.bus.memory
      (λ log. alike (whole (record (quiet_kept k0) { ticked = k.state.time }) b.memory log)) by_did

  machine : Serves boundary k0 b.memory (record (kept_of served.monitor) { spaces = new.monitor.spaces }) served.bus.memory
  machine =
      boundary_serves k0 (record (kept_of served.monitor) { spaces = new.monitor.spaces }) b.memory served.bus.memory turn
      (ap (λ (s : State). s.owed) beside ∙ owed)
      (unseen does (quiet_kept k0) (kept_of served.monitor) b.memory served.bus.memory new.monitor.spaces k.state.time by_does)

  monitor_is : new.monitor ≡ record ahead { spaces = new.monitor.spaces }
  monitor_is = ap (λ (p : Parts L). p.monitor) ends

  last : kept_of new.monitor ≡ record (kept_of served.monitor) { spaces = new.monitor.spaces }
  last = ap (λ (m : Monitor). kept_of m) monitor_is ∙ ap (λ (m : Monitor). record (kept_of m) { spaces = new.monitor.spaces }) looks

  bus_then : new.bus ≡ served.bus
  bus_then = ap (λ (p : Parts L). p.bus) ends

  bus : new.bus ≡ record (read_out (bus_at b k)) { memory = served.bus.memory }
  bus = bus_then ∙ (reads ∙ ap (λ (p : Parts L). record (read_out p.bus) { memory = served.bus.memory }) comes)

  served_is : Serves boundary k0 b.memory (kept_of new.monitor) new.bus.memory
  served_is =
      subst (λ (x : BusState). Serves boundary k0 b.memory (kept_of new.monitor) x.memory) (sym bus_then)
      (subst (λ (x : Kept). Serves boundary k0 b.memory x served.bus.memory) (sym last) machine)

  abbrev next : ℕ
  next = next_due (kept_of served.monitor)

  -- what neither the devices nor the service touch
  abbrev looked : ℕ → Monitor
  looked until = record old.monitor {
    ticked = old.monitor.time;
    grants = served.monitor.grants;
    tables = served.monitor.tables;
    spaces = served.monitor.spaces;
    seats = served.monitor.seats;
    ready = served.monitor.ready;
    queues = served.monitor.queues;
    log = served.monitor.log;
    lines = served.monitor.lines;
    owed = served.monitor.owed;
    ends = served.monitor.ends;
    due = record { commands = served.monitor.due.commands; characters = to_come k.state };
    quiet_until = until;
  }

  before_ahead : served.monitor ≡ looked old.monitor.quiet_until
  before_ahead =
      ap (λ (p : Parts L). p.monitor) rest
      ∙ ap (λ (p : Parts L). record p.monitor {
        grants = served.monitor.grants;
        tables = served.monitor.tables;
        spaces = served.monitor.spaces;
        seats = served.monitor.seats;
        ready = served.monitor.ready;
        queues = served.monitor.queues;
        log = served.monitor.log;
        lines = served.monitor.lines;
        owed = served.monitor.owed;
        ends = served.monitor.ends;
        due = record p.monitor.due { commands = served.monitor.due.commands };
      }) comes

  ahead_is : ahead ≡ looked next
  ahead_is = looks ∙ ap (λ (m : Monitor). record m { quiet_until = next }) before_ahead

  all : new.monitor ≡ record (looked next) { spaces = new.monitor.spaces }
  all = monitor_is ∙ ap (λ (m : Monitor). record m { spaces = new.monitor.spaces }) ahead_is

  entries : came.core.entries ≡ old.core.entries
  entries = ap (λ (p : Parts L). p.core.entries) comes ∙ same_entries (asks (bus_at b k)) old.core

  -- what is represented before who is first comes in
  held_between : IsRepresented served.core.entries served.bus.memory served.monitor.tables served.monitor.spaces served.monitor.grants
  held_between =
      keeps
      (subst (λ (es : List Entry). IsRepresented es came.bus.memory came.monitor.tables came.monitor.spaces came.monitor.grants) (sym entries)
      (subst (λ (p : Parts L). IsRepresented old.core.entries p.bus.memory p.monitor.tables p.monitor.spaces p.monitor.grants) (sym comes) sound.stands.agrees.represented))

  random_is : new.core.random ≡ old.core.random
  random_is = random ∙ (still ∙ (ap (λ (p : Parts L). p.core.random) comes ∙ same_random (asks (bus_at b k)) old.core))

  own_is : own_of new ≡ with_none_spent (own_of old)
  own_is = counts ∙ ap with_none_spent (ap (λ (p : Parts L). own_of p) rest ∙ ap (λ (p : Parts L). own_of p) comes)

  context_is : new.core.system.context ≡ old.core.system.context
  context_is = context ∙ (ap (λ (p : Parts L). p.core.system.context) rest ∙ (ap (λ (p : Parts L). p.core.system.context) comes ∙ same_context (asks (bus_at b k)) old.core))

  vectors_are : HasWords new.bus.memory
  vectors_are =
      subst (λ (x : BusState). HasWords x.memory) (sym bus_then)
      (vectors_first came.bus.memory served.bus.memory (below.1 0 (inl (omega arith))) (subst HasWords (sym memory) sound.stands.agrees.vectors))

  pairs_are : HasNoNewPairs old.core.entries new.core.entries
  pairs_are =
      joined_pairs old.core.entries served.core.entries new.core.entries
      (subst (λ (es : List Entry). HasNoNewPairs es served.core.entries) entries adds) brings

  none_owed : new.monitor.owed ≡ None
  none_owed = sym (ap (λ (s : State). s.owed) (served_is.state [])) ∙ boundary_owed (whole k0 b.memory [])

  ends_by : EndsUnitBy boundary (held old) (held new)
  ends_by = record {
    serves = served_is;
    enters = enters;
    represented = represented (subst (λ (m : Monitor). IsRepresented served.core.entries served.bus.memory m.tables m.spaces m.grants) (sym ahead_is) held_between);
    vectors = vectors_are;
    base = base_as old.core.system new.core.system context_is sound.stands.agrees.base;
    grants = subst NamesPages (sym (ap (λ (m : Monitor). m.grants) monitor_is)) pages;
    size = ap (λ (x : BusState). length x.memory) bus_then ∙ (below.0 ∙ ap (λ (x : List ℕ). length x) memory);
    devices = subst (λ (x : BusState). AreResting x (kept_of new.monitor)) (sym bus)
        (memory_rests (read_out (bus_at b k)) served.bus.memory (kept_of new.monitor)
        (rest_again b k resting (kept_of new.monitor) (ap (λ (m : Monitor). m.rate) all) (ap (λ (m : Monitor). m.ticked) all) (ap (λ (m : Monitor). m.time) all) none_owed before));
    none = none_counted (own_of old) (own_of new) own_is;
    ranges = ranges_after (held old) new.core (own_of new) sound complete own_is;
  }

  few : new.monitor.lines + length new.monitor.due.commands ≤ old.monitor.lines + length old.monitor.due.commands
  few =
      let now : new.monitor.lines + length new.monitor.due.commands ≡ served.monitor.lines + length served.monitor.due.commands = ap (λ (m : Monitor). m.lines + length m.due.commands) all in
      let then : came.monitor.lines + length came.monitor.due.commands ≡ old.monitor.lines + length old.monitor.due.commands = ap (λ (p : Parts L). p.monitor.lines + length p.monitor.due.commands) comes in
      omega (arith, now, then, count)

  pub has_attended : HasAttended old new
  has_attended = record {
    ends = ends_by;
    own = own_is;
    random = random_is;
    pairs = pairs_are;
    lines = few;
    time = ap (λ (m : Monitor). m.time) all;
    ticked = ap (λ (m : Monitor). m.ticked) all;
    rate = ap (λ (m : Monitor). m.rate) all;
    next = ap (λ (m : Monitor). m.quiet_until) all ∙ sym (ap next_due last);
    kept = subst (λ (x : Kept). monitor.IsOrderly x) (sym last) (spaces_orderly (kept_of served.monitor) new.monitor.spaces orderly);
  }
