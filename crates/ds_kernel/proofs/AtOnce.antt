-- A call that is answered at once: what is held after it and its boundary, with the seat of the process as it was.
use Rattle.std.proofs.Common.{◌≡◌, ℕ, ◌+◌, ◌%◌, ◌<◌, ◌≤◌, ◌==◌, Bool, true, false, cond, List, [], ◌∷◌, ◌++◌, length, length-set, Option, Some, None, refl, sym, ap, subst, ◌∙◌, arith, ◌⊎◌, inl, inr}
use Rattle.std.specs.Prelude.{slice_index, slice_set, slice_index_or, drop}
use Rattle.ds_word.specs.Word.{word}
use Rattle.ds_cp0.specs.System.{System, is_user}
use Rattle.ds_core.specs.Core.{CoreState}
use Rattle.ds_ahead.specs.Inner.Ahead.{owed_tick}
use Rattle.ds_dev.specs.Bus.{BusState}
use Rattle.ds_refill.specs.Handler.{HasWords}
use Rattle.ds_procs.specs.declared.process.Standing.TheVariants.{Ready}
use Rattle.ds_procs.specs.declared.call.Call.{Call}
use Rattle.ds_procs.specs.declared.call.Call.TheVariants as call
use Rattle.ds_procs.specs.Calls.{call_of}
use Rattle.std.specs.List.Sorted.{IsNonDecreasingBy}
use Rattle.ds_policy.specs.InputFacts.{has_time, comes_at}
use Rattle.ds_policy.specs.Grants.{PageState}
use Rattle.ds_log.specs.declared.line.Line.{Line}
use Rattle.ds_grants.specs.State.{page_state}
use Rattle.ds_grants.specs.Represented.{IsRepresented}
use Rattle.ds_pagemap.specs.declared.turn.Turn.{Turn}
use Rattle.ds_pagemap.specs.Machine.{State, Process, no_process, process_of, with_process, first}
use Rattle.ds_pagemap.specs.Unit.{at_pc}
use Rattle.ds_pagemap.specs.Calls.{after_put, answered, queue_of, served}
use Rattle.ds_pagemap.proofs.Processes.{with_process_again}
use Rattle.ds_pagemap_laws.specs.Lawful.{IsReady}
use Rattle.ds_pagemap_laws.specs.Due.{NobodyWakes}
use Rattle.ds_pagemap_laws.proofs.Formed.{formed_with}
use Rattle.ds_pagemap_laws.proofs.Asleep.{taken_asleep}
use Rattle.ds_refinement.specs.declared.step.Step.TheVariants.{Unit, Boundary}
use Rattle.ds_refinement.specs.declared.cause.Cause.TheVariants as cause
use Rattle.ds_refinement.specs.Told.{told, code_in, is_delayed}
use Rattle.ds_refinement.specs.Held.{Held, Kept, Own, vacated}
use Rattle.ds_refinement.specs.Inner.Held.{whole}
use Rattle.ds_refinement.specs.Units.{ends_in_call, is_served, has_left_user}
use Rattle.ds_refinement.specs.Stands.{Agrees, CountedBy, Stands, AreResting, RunningIs, RunningBy}
use Rattle.ds_refinement.specs.Inner.Stands.{IsSound}
use Rattle.ds_refinement.specs.Inner.Services.{Enters, EntersBy, IsBare, Serves, seated, with_first_seated, with_boundary, with_none_spent}
use Rattle.ds_refinement.specs.Inner.Ends.{EndsInCall}
use Rattle.ds_refinement.specs.Inner.Quiet.{IsUndisturbed}
use Rattle.ds_refinement.specs.Real.{EndsUnitReally, GoesOnReally, GoesBack}
use Rattle.ds_refinement.specs.Runs.{held_goes_on}
use Rattle.ds_refinement.proofs.RunSteps.{begins_goes}
use Rattle.ds_refinement.proofs.Boundaries.{quiet}
use Rattle.ds_refinement.proofs.NoNewPairs.{same_pairs}
use Rattle.ds_refinement.proofs.Registers.{HasSeat, seat_kept, process_put}
use Rattle.ds_monitor.specs.Inner.Sending.{with_sent}
use Rattle.ds_monitor.specs.Inner.Coming.{next_due}
use Rattle.ds_monitor.specs.Inner.Kept.{kept_of, kept_after}
use Rattle.ds_monitor.proofs.Serving.{blind_serves, serves_as}
use Rattle.ds_monitor.specs.Inner.Blind.{IsBlind}
use Rattle.ds_monitor.specs.Inner.Room.{HasLogRoom}
use Rattle.ds_monitor.specs.Inner.Taking.{got, with_taken}
use Rattle.ds_monitor.proofs.Gets.{set_same, taken_answered}
use Rattle.ds_monitor.proofs.Called.{with_end, called, call_ends, puts, gets}
use Rattle.ds_kernel.specs.Inner.Seats.{past_call, on_processor, back_on}
use Rattle.ds_kernel.specs.Inner.AtOnce.{IsQuietCall, IsAnswered}
use Rattle.ds_kernel.specs.declared.parts.Parts.{Parts}
use Rattle.ds_kernel.specs.Inner.Parts.{held, own_of}
use Rattle.ds_refinement.proofs.Tallied.{ranges_of}
use Rattle.ds_kernel.specs.Inner.Good.{IsOrderly, IsGood}
use Rattle.ds_kernel.specs.Inner.Ended.{DoesStep}
use Rattle.ds_kernel.specs.Inner.Going.{GoesOn}
use Rattle.ds_kernel.proofs.Bounding.{nothing_due}
use Rattle.ds_kernel.proofs.Doing.{call_does, kernel_of}
use Rattle.ds_kernel.proofs.Entering.{entering}
use Rattle.ds_kernel.proofs.Finishing.{resting, sent_rests}
use Rattle.ds_kernel.proofs.Running.{step_goes, goes_join, owed_goes_on}
use Rattle.ds_kernel.proofs.Keeping.{first_ready, first_rest}
use Rattle.ds_kernel.proofs.Stepping.{sound_after, none_is_not_some}

-- what code 8 tells
told_call : (s : System) (pages : PageState) (p : ℕ) → code_in s ≡ 8 → told s pages p ≡ cause.Call
told_call s pages p is = let e : (code_in s == 8) ≡ true = ap (λ (n : ℕ). n == 8) is in grind arith

-- what is held, by its parts
abbrev held_by : CoreState → BusState → Kept → Own → Held
held_by c b k own = record { core = c; bus = b; kept = k; own = own }

-- a state with other queues and consoles
abbrev pub with_texts : State → List (List ℕ) → List (List ℕ) → State
with_texts m queues consoles = record m { queues = queues; consoles = consoles }

-- What is held after a call of a process that stays on the processor: its boundary is owed, and its seat is as it was.
abbrev owing_of : Held → ℕ → ℕ → List (List ℕ) → List (List ℕ) → BusState → ℕ → ℕ → Held
owing_of h p answer queues consoles b cause epc = record {
  core = back_on h.core (past_call h.core answer (process_of h.kept.state p)) cause epc;
  bus = b;
  kept = record h.kept { state = record (with_texts h.kept.state queues consoles) { time = h.kept.state.time + 1; owed = Some (record { began = h.kept.state.time; runner = Some p }) } };
  own = with_none_spent h.own;
}

-- and once the boundary is over
abbrev pub closed_of : Held → ℕ → ℕ → List (List ℕ) → List (List ℕ) → BusState → ℕ → ℕ → Held
closed_of h p answer queues consoles b cause epc = with_boundary (owing_of h p answer queues consoles b cause epc)

-- whoever came on the processor did so whatever Cause and EPC have
entered_with : (p : ℕ) (q : Process) (c : CoreState) (k : Kept) (cause epc : ℕ) → Enters p q c k → Enters p q (record c { system = record c.system { cause = cause; epc = epc } }) k
entered_with p q c k cause epc e = record {
  mode = e.mode;
  number = e.number;
  set = record { space = e.set.space; small = e.set.small };
  first = e.first;
  pc = e.pc;
  next = e.next;
  registers = e.registers;
  seat = e.seat;
  standing = e.standing;
}

entered_by : (queue : List ℕ) (c : CoreState) (k : Kept) (cause epc : ℕ) → EntersBy queue c k → EntersBy queue (record c { system = record c.system { cause = cause; epc = epc } }) k
entered_by [] c k cause epc e = e
entered_by (p ∷ rest) c k cause epc e = entered_with p (process_of k.state p) c k cause epc e

-- A call answers this, and leaves these queues, consoles and bus, and nothing else, whatever registers the process has.
pub record Answers (s : State) (p pc : ℕ) (asked : Call) (answer : ℕ) (queues consoles : List (List ℕ)) (before after : BusState) : Type 0 where
  pub blind : IsBlind (λ (m : State). served m p pc asked)
  pub does : (x : Process) → x.line ≡ (process_of s p).line → served (with_process s p x) p pc asked ≡ answered (with_texts (with_process s p x) queues consoles) p answer
  pub memory : after.memory ≡ before.memory
  pub rests : (k : Kept) → AreResting before k → AreResting after k
  pub as_many_queues : length queues ≡ length s.queues
  pub as_many_consoles : length consoles ≡ length s.consoles
  pub asleep : NobodyWakes s → NobodyWakes (with_texts s queues consoles)

-- A call of the process that runs.
module _ (h : Held) (p : ℕ) (rest : List ℕ) (asked : Call) (answer : ℕ) (queues consoles : List (List ℕ)) (b : BusState) (sound : IsSound h) (ready : h.kept.state.ready ≡ p ∷ rest) (serving : is_served h.core ≡ true) (from_user : has_left_user h.core ≡ true)
    (unowed : h.kept.state.owed ≡ None) (bare : IsBare h.kept.state) (seat : HasSeat h.kept.state p) (standing : (process_of h.kept.state p).standing ≡ Ready) (code : code_in h.core.system ≡ 8) (outside : is_delayed h.core.system ≡ false)
    (asks : call_of h.core.registers.general ≡ asked) (by : Answers h.kept.state p h.core.system.epc asked answer queues consoles h.bus b) (cause epc : ℕ) where
  abbrev s : State
  s = h.kept.state

  abbrev q : Process
  q = process_of s p

  abbrev pc : ℕ
  pc = h.core.system.epc

  -- the process as it leaves for its call, where it stands after that, and with the answer
  abbrev leaving : Process
  leaving = record q { registers = record h.core.registers { late = None }; pc = pc }

  abbrev past : Process
  past = record leaving { pc = word (pc + 4) }

  abbrev afterwards : Process
  afterwards = past_call h.core answer q

  abbrev owing : Held
  owing = owing_of h p answer queues consoles b cause epc

  abbrev closed : Held
  closed = closed_of h p answer queues consoles b cause epc

  abbrev later : State
  later = owing.kept.state

  -- the same with the process in its seat
  abbrev in_seat : Held
  in_seat = record owing { kept = record h.kept { state = with_process later p afterwards } }

  -- The service.

  abbrev left : State
  left = with_process s p leaving

  kernel : is_user h.core.system ≡ false
  kernel = kernel_of h.core serving

  seat_is : seated h.core h.kept ≡ record h.kept { state = left }
  seat_is =
      ap (λ (ps : List ℕ). record h.kept { state = with_first_seated h.core s ps }) ready
      ∙ ap (λ (u : Bool). record h.kept { state = with_process s p (record q { registers = record h.core.registers { late = None }; pc = cond u h.core.pc pc }) }) kernel

  abbrev calls : State → State
  calls = called p pc asked

  -- an answer where a process stands after its call
  abbrev answer_in : Process → State
  answer_in x = with_end p (with_process (with_texts (with_process s p past) queues consoles) p (record x { registers = record x.registers { general = slice_set x.registers.general 2 answer } }))

  calls_is : calls left ≡ with_process later p afterwards
  calls_is =
      let there : at_pc left p (word (pc + 4)) ≡ with_process s p past =
      ap (λ (x : Process). with_process left p (record x { pc = word (pc + 4) })) (process_put s p leaving seat) ∙ with_process_again s p leaving past in
      ap (λ (m : State). with_end p (served m p pc asked)) there
      ∙ (ap (with_end p) (by.does past refl)
      ∙ (ap answer_in (process_put s p past seat)
      ∙ with_process_again later p past afterwards))

  serves : Serves (ends_in_call p pc) (seated h.core h.kept) h.bus.memory in_seat.kept b.memory
  serves =
      let k : Kept = record h.kept { state = left } in
      let asked_there : (log : List Line) → asked ≡ call_of (process_of (at_pc (whole k h.bus.memory log) p (word (pc + 4))) p).registers.general = λ log.
      sym asks
      ∙ (ap (λ (x : Process). call_of x.registers.general) (sym (process_put s p leaving seat))
      ∙ ap (λ (x : Process). call_of x.registers.general) (sym (process_put (whole k h.bus.memory log) p (record (process_of (whole k h.bus.memory log) p) { pc = word (pc + 4) }) (seat_kept s p leaving seat)))) in
      let by_calls : Serves calls k h.bus.memory (kept_after calls k) h.bus.memory =
      blind_serves calls k h.bus.memory (λ m memory log. ap (with_end p) (by.blind (at_pc m p (word (pc + 4))) memory log)) (record { memory = bare.memory; log = bare.log }) in
      let by_end : Serves (ends_in_call p pc) k h.bus.memory (kept_after calls k) h.bus.memory =
      serves_as calls (ends_in_call p pc) k (kept_after calls k) h.bus.memory h.bus.memory
      (λ log. call_ends p pc asked (whole k h.bus.memory log) (ap (λ (x : Process). x.registers.late) (process_put s p leaving seat)) (asked_there log)) by_calls in
      subst (λ (y : List ℕ). Serves (ends_in_call p pc) (seated h.core h.kept) h.bus.memory in_seat.kept y) (sym by.memory)
      (subst (λ (x : Kept). Serves (ends_in_call p pc) x h.bus.memory in_seat.kept h.bus.memory) (sym seat_is)
      (subst (λ (m : State). Serves (ends_in_call p pc) k h.bus.memory (record h.kept { state = m }) h.bus.memory) calls_is by_end))

  runs : RunningIs p h.core h.kept sound.state
  runs = subst (λ (ps : List ℕ). RunningBy ps h.core h.kept sound.state) ready sound.stands.agrees.running

  there : process_of (with_process later p afterwards) p ≡ afterwards
  there = process_put later p afterwards seat

  ends : EndsInCall p h in_seat
  ends = record {
    serves = serves;
    enters = entered_by s.ready (on_processor h.core afterwards) in_seat.kept cause epc
        (entering s.ready p h.core (on_processor h.core afterwards) in_seat.kept (ap first ready) (seat.0, (seat_kept later p afterwards seat).1, ap (λ (x : Process). x.standing) there ∙ standing) runs.number runs.set (ap (on_processor h.core) (sym there)));
    represented = subst (λ (x : List ℕ). IsRepresented h.core.entries x h.kept.tables h.kept.spaces h.kept.grants) (sym by.memory) sound.stands.agrees.represented;
    vectors = subst HasWords (sym by.memory) sound.stands.agrees.vectors;
    base = record { tables = sound.stands.agrees.base.tables; whole = sound.stands.agrees.base.whole };
    grants = sound.stands.agrees.grants;
    size = ap (λ (x : List ℕ). length x) by.memory;
    devices = by.rests in_seat.kept (resting h.bus h.kept in_seat.kept (Some p) unowed refl refl refl sound.stands.agrees.devices);
    none = refl;
    ranges = (let r = ranges_of h sound.state sound.stands in record { size = r.size; low = r.low; high = r.high; turn = r.turn });
  }

  seated_does : DoesStep Unit h in_seat
  seated_does = call_does h p rest sound ready serving from_user in_seat unowed (told_call h.core.system (page_state h.kept.grants h.bus.memory) p code) outside refl refl (same_pairs h.core.entries) ends

  -- The running process's saved registers are meaningless.

  vacant : vacated s.ready (with_process later p afterwards) ≡ vacated s.ready later
  vacant = subst (λ (ps : List ℕ). vacated ps (with_process later p afterwards) ≡ vacated ps later) (sym ready) (with_process_again later p afterwards no_process)

  running_still : (m : State) → RunningIs p in_seat.core in_seat.kept m → RunningIs p owing.core owing.kept m
  running_still m r = record {
    seat = r.seat;
    standing = r.standing;
    kept = standing;
    line = r.line ∙ ap (λ (x : Process). x.line) there;
    number = r.number;
    set = r.set;
    on = r.on;
  }

  agrees_unseated : (m : State) → Agrees in_seat m → Agrees owing m
  agrees_unseated m k = record {
    represented = k.represented;
    vectors = k.vectors;
    base = k.base;
    grants = k.grants;
    size = k.size;
    kept = record { ready = k.kept.ready; state = k.kept.state ∙ vacant; pages = k.kept.pages; log = k.kept.log; lines = k.kept.lines };
    running = subst (λ (ps : List ℕ). RunningBy ps owing.core owing.kept m) (sym ready) (running_still m (subst (λ (ps : List ℕ). RunningBy ps in_seat.core in_seat.kept m) ready k.running));
    devices = record { serial = k.devices.serial; clock = k.devices.clock; system = k.devices.system; ticked = k.devices.ticked; period = k.devices.period };
  }

  unseated : (m : State) → Stands in_seat m → Stands owing m
  unseated m k = record {
    agrees = agrees_unseated m k.agrees;
    counted = subst (λ (ps : List ℕ). CountedBy ps owing.core owing.own owing.kept m) (sym ready) (subst (λ (ps : List ℕ). CountedBy ps in_seat.core in_seat.own in_seat.kept m) ready k.counted);
  }

  still_back : GoesBack h in_seat → GoesBack h owing
  still_back g = record { mode = g.mode; address = g.address; pages = g.pages; devices = g.devices; answered = g.answered; written = g.written; rewritten = g.rewritten }

  still_served : EndsUnitReally h in_seat ⊎ GoesOnReally h in_seat → EndsUnitReally h owing ⊎ GoesOnReally h owing
  still_served (inl e) = inl (record { owed = e.owed; left = e.left; stops = e.stops })
  still_served (inr g) = inr (record { may = g.may; back = still_back g.back })

  unit_does : DoesStep Unit h owing
  unit_does =
      let d = seated_does in record {
        follows = record { follows = λ m k. (let t = d.follows.follows m k in (t.0, t.1, unseated t.0 t.2)) };
        moves = d.moves;
        real = record { instruction = d.real.instruction; service = λ unit served. still_served (d.real.service unit served); random = d.real.random; pairs = d.real.pairs };
      }

  -- The boundary after it.

  boundary_does : h.kept.ticked ≤ s.time → IsUndisturbed owing.kept → DoesStep Boundary owing closed
  boundary_does ticked none =
      let same : s.time + 1 ≡ s.time + 1 + 0 = omega arith in record {
        follows = quiet owing refl refl (omega (arith, ticked)) none;
        moves = (refl, refl, same, refl, refl);
        real = record {
          instruction = λ unit other. (let no : Some (record { began = s.time; runner = Some p }) ≡ None = unit.0 in absurd (cc));
          service = λ unit other. (let no : Some (record { began = s.time; runner = Some p }) ≡ None = unit.0 in absurd (cc));
          random = λ all. refl;
          pairs = λ all. same_pairs owing.core.entries;
        };
      }

  pub sound_then : h.kept.ticked ≤ s.time → IsUndisturbed owing.kept → IsSound closed
  sound_then ticked none =
      sound_after Boundary owing closed (sound_after Unit h owing sound unit_does.follows) (boundary_does ticked none).follows

  pub goes_then : (n : ℕ) → h.kept.ticked ≤ s.time → IsUndisturbed owing.kept → s.time < n → GoesOn n h closed
  goes_then n ticked none before =
      let going : held_goes_on n h ≡ true = begins_goes n h sound.state sound.stands (inr (λ nobody. (let no : p ∷ rest ≡ [] = sym ready ∙ nobody in absurd (cc)), before)) in
      let owing_sound : IsSound owing = sound_after Unit h owing sound unit_does.follows in
      goes_join n h owing closed (step_goes Unit n h owing going sound unit_does)
      (step_goes Boundary n owing closed (owed_goes_on n owing refl) owing_sound (boundary_does ticked none))

  pub orderly_then : s.time < 1000000000 → IsOrderly h → IsOrderly closed
  orderly_then soon o =
      let lines : h.kept.lines + length s.commands ≤ s.time + 4096 = o.lines in
      let ticked : h.kept.ticked ≤ s.time = o.ticked in record {
        begun = λ some. refl;
        failed = λ is. refl;
        raised = λ is. (let no : true ≡ false = is in absurd (cc));
        running = λ some. (let no : 0 < 0 = some in absurd (omega (arith, no)));
        spent = omega arith;
        fresh = λ few. refl;
        lines = omega (arith, lines);
        ticked = omega (arith, ticked);
        early = omega (arith, soon);
        rate = o.rate;
        kept = record {
          lawful = record {
            formed = formed_with (whole h.kept [] []) (page_state h.kept.grants []) queues consoles [] (s.time + 1) s.commands s.characters None refl by.as_many_queues by.as_many_consoles o.kept.lawful.formed;
            asleep = by.asleep o.kept.lawful.asleep;
          };
          ended = o.kept.ended;
          commands = o.kept.commands;
          ends = o.kept.ends;
        };
      }

-- The parts of a station after it.
module _ {L : Type 0} (p answer cause epc : ℕ) (asked : Call) (queues consoles : List (List ℕ)) (old new : Parts L) (waits : IsQuietCall p old) (asks : call_of old.core.registers.general ≡ asked)
    (by : Answers (kept_of old.monitor).state p old.core.system.epc asked answer queues consoles old.bus new.bus)
    (commands : IsNonDecreasingBy has_time old.monitor.due.commands) (order : IsNonDecreasingBy comes_at old.monitor.due.characters)
    (core : new.core ≡ back_on old.core (past_call old.core answer (process_of (kept_of old.monitor).state p)) cause epc)
    (kept : kept_of new.monitor ≡ record (kept_of old.monitor) { state = record (with_texts (kept_of old.monitor).state queues consoles) { time = old.monitor.time + 1 } })
    (until : new.monitor.quiet_until ≡ old.monitor.quiet_until) (log : HasLogRoom 1 old.monitor → HasLogRoom 1 new.monitor) (own : own_of new ≡ with_none_spent (own_of old)) where
  abbrev h : Held
  h = held old

  good : IsGood old
  good = waits.busy.good

  unowed : old.monitor.owed ≡ None
  unowed = good.orderly.begun waits.busy.begun

  abbrev closed_held : Held
  closed_held = closed_of h p answer queues consoles new.bus cause epc

  abbrev state_then : State
  state_then = record (with_texts (kept_of old.monitor).state queues consoles) { time = old.monitor.time + 1 }

  is : held new ≡ closed_held
  is =
      ap (λ (c : CoreState). held_by c new.bus (kept_of new.monitor) (own_of new)) core
      ∙ (ap (λ (k : Kept). held_by closed_held.core new.bus k (own_of new)) kept
      ∙ (ap (λ (o : Option Turn). held_by closed_held.core new.bus (record (kept_of old.monitor) { state = record state_then { owed = o } }) (own_of new)) unowed
      ∙ ap (λ (o : Own). held_by closed_held.core new.bus closed_held.kept o) own))

  spent : new.spent ≡ 0
  spent = ap (λ (o : Own). o.spent) own

  none : IsUndisturbed (owing_of h p answer queues consoles new.bus cause epc).kept
  none =
      let n = nothing_due old.monitor (old.monitor.time + 1) (Some (record { began = old.monitor.time; runner = Some p })) commands order good.next waits.early good.orderly.kept in
      record { commands = n.commands; characters = n.characters; asleep = by.asleep good.orderly.kept.lawful.asleep; period = n.period; ends = n.ends }

  ready : IsReady (whole (kept_of old.monitor) [] []) p
  ready = first_ready (kept_of old.monitor) p waits.busy.first good.orderly.kept.lawful

  abbrev others : List ℕ
  others = (first_rest old.monitor.ready p waits.busy.first).0

  queue : old.monitor.ready ≡ p ∷ others
  queue = (first_rest old.monitor.ready p waits.busy.first).1

  sound : IsSound closed_held
  sound = sound_then h p others asked answer queues consoles new.bus good.sound queue waits.called.served waits.called.left unowed (record { memory = refl; log = refl }) (ready.0, ready.1) ready.2 waits.called.code waits.outside asks by cause epc good.orderly.ticked none

  good_after : IsGood new
  good_after = record {
    sound = subst IsSound (sym is) sound;
    orderly = subst IsOrderly (sym is)
        (orderly_then h p others asked answer queues consoles new.bus good.sound queue waits.called.served waits.called.left unowed (record { memory = refl; log = refl }) (ready.0, ready.1) ready.2 waits.called.code waits.outside asks by cause epc waits.busy.early good.orderly);
    room = λ some. absurd (omega (arith, spent, some));
    owed = λ some. absurd (none_is_not_some new.monitor.owed (ap (λ (x : Held). x.kept.state.owed) is) some);
    next = until ∙ (good.next ∙ sym (ap next_due kept));
  }

  goes_after : (n : ℕ) → old.monitor.time < n → GoesOn n h (held new)
  goes_after n before =
      subst (λ (x : Held). GoesOn n h x) (sym is)
      (goes_then h p others asked answer queues consoles new.bus good.sound queue waits.called.served waits.called.left unowed (record { memory = refl; log = refl }) (ready.0, ready.1) ready.2 waits.called.code waits.outside asks by cause epc n good.orderly.ticked none before)

  pub is_answered : IsAnswered old new
  is_answered = record {
    good = good_after;
    goes = goes_after;
    unowed = ap (λ (x : Held). x.kept.state.owed) is;
    ready = ap (λ (k : Kept). k.state.ready) kept;
    user = ap (λ (c : CoreState). is_user c.system) core;
    begins = spent ∙ sym (ap (λ (c : CoreState). owed_tick c.slot) core);
    outside = ap (λ (c : CoreState). c.slot) core;
    until = until;
    log = log;
  }

-- The two calls.

pub put_answers : (s : State) (p pc byte : ℕ) (bus : BusState) → HasSeat s p
    → Answers s p pc (call.Put byte) 0 s.queues (after_put s p byte).consoles bus (with_sent bus (process_of s p).line)
put_answers s p pc byte bus seat = record {
  blind = puts p pc byte;
  does = λ x same.
      ap (λ (l : ℕ). answered (with_texts (with_process s p x) s.queues (slice_set s.consoles l (slice_index_or s.consoles l [] ++ byte ∷ []))) p 0)
      (ap (λ (y : Process). y.line) (process_put s p x seat) ∙ same);
  memory = refl;
  rests = sent_rests bus (process_of s p).line;
  as_many_queues = refl;
  as_many_consoles = length-set s.consoles (process_of s p).line (slice_index_or s.consoles (process_of s p).line [] ++ byte ∷ []);
  asleep = λ asleep. asleep;
}

taken_sleep : (s : State) (i : ℕ) (bytes : List ℕ) → slice_index_or s.queues i [] ≡ bytes → NobodyWakes s → NobodyWakes (record s { queues = slice_set s.queues i (drop 1 bytes) })
taken_sleep s i [] at asleep = subst (λ (queues : List (List ℕ)). NobodyWakes (record s { queues = queues })) (sym (set_same s.queues i at)) asleep
taken_sleep s i (byte ∷ rest) at asleep = taken_asleep s i byte rest at asleep

pub get_answers : (s : State) (p pc : ℕ) (bus : BusState) → HasSeat s p
    → Answers s p pc call.Get (got (queue_of s p)) (with_taken p s).queues s.consoles bus bus
get_answers s p pc bus seat = record {
  blind = gets p pc;
  does = λ x same.
      let m : State = with_process s p x in
      sym (taken_answered m p (queue_of m p) refl)
      ∙ ap (λ (l : ℕ). answered (with_texts m (slice_set s.queues l (drop 1 (slice_index_or s.queues l []))) s.consoles) p (got (slice_index_or s.queues l [])))
      (ap (λ (y : Process). y.line) (process_put s p x seat) ∙ same);
  memory = refl;
  rests = λ k resting. resting;
  as_many_queues = length-set s.queues (process_of s p).line (drop 1 (queue_of s p));
  as_many_consoles = refl;
  asleep = taken_sleep s (process_of s p).line (queue_of s p) refl;
}

-- what the number of a call asks
pub asks_put : (r : List ℕ) → slice_index r 2 ≡ 1 → call_of r ≡ call.Put (slice_index r 4 % 256)
asks_put r first = grind arith

pub asks_get : (r : List ℕ) → slice_index r 2 ≡ 2 → call_of r ≡ call.Get
asks_get r first = grind arith
