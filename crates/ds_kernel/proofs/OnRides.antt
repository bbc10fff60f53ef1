-- A block of instructions in which calls are answered where they stand.
use Rattle.std.proofs.Common.{◌≡◌, ◌≢◌, ℕ, zero, suc, ◌+◌, ◌-◌, ◌<◌, ◌≤◌, ◌^◌, Bool, true, false, cond, List, [], Option, Some, None, refl, sym, ap, ap₂, subst, ◌∙◌, ◌⊎◌, inl, inr, arith}
use Rattle.std.specs.Prelude.{◌==◌, slice_set, IfSome}
use Rattle.std.proofs.Math.Seq.{take-length}
use Rattle.std.proofs.lemmas.Bool.Decides.{nat_tests}
use Rattle.std.specs.List.Sorted.{IsNonDecreasingBy}
use Rattle.ds_policy.specs.InputFacts.{has_time, comes_at}
use Rattle.ds_word.specs.Word.{word}
use Rattle.ds_isa.specs.Registers.{settled}
use Rattle.ds_tlb.specs.Entries.{random_after}
use Rattle.ds_tlb.specs.Inner.Entries.{passed}
use Rattle.ds_cp0.specs.declared.exception.ExceptionCode.{ExceptionCode}
use Rattle.ds_cp0.specs.declared.exception.ExceptionCode.TheVariants.{SystemCall}
use Rattle.ds_cp0.specs.System.{System}
use Rattle.ds_dev.specs.Bus.{BusState}
use Rattle.ds_dev.specs.Serial.{SerialState}
use Rattle.ds_core.specs.Core.{CoreState, Step, trapped, with_tick}
use Rattle.ds_core.specs.Inner.Core.{is_raised}
use Rattle.ds_core.specs.Effect.{step}
use Rattle.ds_ahead.specs.declared.ride.Ride.{Ride}
use Rattle.ds_ahead.specs.Inner.Ahead.{Hardware, hardware_of, after_steps, Advances, AdvancesTo, ComesByWords, owed_tick, ticks}
use Rattle.ds_ahead.specs.Inner.Ride.{ridden, Rides, MayGoOn, after_answer}
use Rattle.ds_ahead.proofs.Advances.{advances_none, comes_on, advances_join}
use Rattle.ds_ahead.proofs.Stretches.{join_to, words_join, words_to}
use Rattle.ds_ahead.proofs.Slots.{ticks_of_advance}
use Rattle.ds_pagemap.specs.Machine.{Process, first}
use Rattle.ds_refinement.specs.Held.{Held, Own}
use Rattle.ds_refinement.specs.Told.{is_delayed}
use Rattle.ds_refinement.specs.Units.{user_status}
use Rattle.ds_refinement.specs.Handling.{IsWhole}
use Rattle.ds_refinement.specs.Counts.{Counts, counts_of, one_more, fresh_counts}
use Rattle.ds_refinement.specs.Inner.Counts.{IsFresh, with_counts}
use Rattle.ds_refinement.specs.Inner.Blocks.{MayRunAhead, more_counted, counts_beyond}
use Rattle.ds_refinement.specs.Inner.Services.{with_none_spent}
use Rattle.ds_refinement.proofs.BlockPaths.{raised_ticks}
use Rattle.ds_refinement.proofs.Tallied.{few_of}
use Rattle.ds_refinement.proofs.Raising.{slot_of_raised}
use Rattle.ds_monitor.specs.declared.monitor.Monitor.{Monitor}
use Rattle.ds_monitor.specs.Inner.Room.{HasLogRoom, HasRoom}
use Rattle.ds_monitor.specs.Inner.Consoles as consoles
use Rattle.ds_monitor.specs.Inner.Sending.{with_sent}
use Rattle.ds_kernel.specs.declared.parts.Parts.{Parts}
use Rattle.ds_kernel.specs.Inner.Parts.{held, own_of, with_counts_of}
use Rattle.ds_kernel.specs.Inner.Good.{IsGood}
use Rattle.ds_kernel.specs.Inner.Going.{GoesOn}
use Rattle.ds_kernel.specs.Inner.Seats.{past_call, back_on}
use Rattle.ds_kernel.specs.Inner.AtOnce.{IsCalled, IsQuietCall, IsAnswered}
use Rattle.ds_kernel.specs.Inner.InBlock.{InBlock, IsBehindCall, riding, called_counts, at_call}
use Rattle.ds_kernel.proofs.Ahead.{may_run_ahead}
use Rattle.ds_kernel.proofs.Blocking.{IsMoved, counted_is, calm_good, calm_goes, raised_good, raised_goes, raised_soon, raised_call, system_kept}
use Rattle.ds_kernel.proofs.Running.{goes_join}

-- Random names a slot that is not wired, however often it is counted down.

ticked_range : (r : ℕ) → 8 ≤ r → r < 64 → (8 ≤ random_after 64 8 r) × (random_after 64 8 r < 64)
ticked_range r low high = by (r == 8) refl
  where
    by : (is : Bool) → (r == 8) ≡ is → (8 ≤ cond is (64 - 1) (r - 1)) × (cond is (64 - 1) (r - 1) < 64)
    by true e = (omega arith, omega arith)
    by false e = (let other : r ≢ 8 = grind (arith, nat_tests) in omega (arith, low, other), omega (arith, high))

passed_range : (n r : ℕ) → 8 ≤ r → r < 64 → (8 ≤ passed 64 8 n r) × (passed 64 8 n r < 64)
passed_range zero r low high = (low, high)
passed_range (suc n) r low high = (let before = passed_range n r low high in ticked_range (passed 64 8 n r) before.0 before.1)

-- the processor that entered a call where a ride came to is whole
pub called_whole : (r : Ride) (c : CoreState) (b : BusState) → IsWhole c → IsWhole (with_tick (trapped (ridden r c) b SystemCall)).core
called_whole r c b w = record {
  size = w.size;
  nought = w.nought;
  slots = w.slots;
  low = (passed_range (suc (r.all - r.left)) c.random w.low w.high).0;
  high = (passed_range (suc (r.all - r.left)) c.random w.low w.high).1;
}

-- An answered call.

-- Cause, EPC and Status as they were, where the program was in user mode
abbrev after_by : CoreState → ℕ → ℕ → System → CoreState
after_by c answer pc system = record c {
  registers = record (settled c.registers) { general = slice_set (slice_set (slice_set c.registers.general 2 answer) 26 0) 27 (word (pc + 4)) };
  pc = word (pc + 4);
  next = word (word (pc + 4) + 4);
  slot = false;
  system = system;
  random = random_after 64 8 c.random;
}

epc_outside : (slot : Bool) (pc : ℕ) → slot ≡ false → pc ≡ cond slot (word (pc + (2 ^ 32 - 4))) pc
epc_outside true pc e = absurd cc
epc_outside false pc e = refl

-- entering a call and coming back behind it, with an answer and with Cause and EPC as they were, writes registers and goes on
pub after_is : (c : CoreState) (b : BusState) (answer : ℕ) (q : Process) → c.slot ≡ false → c.system.status ≡ user_status
    → after_answer c answer ≡ back_on (with_tick (trapped c b SystemCall)).core (past_call (with_tick (trapped c b SystemCall)).core answer q) c.system.cause c.system.epc
after_is c b answer q outside mode =
    ap₂ (after_by c answer) (epc_outside c.slot c.pc outside) (ap (λ (w : ℕ). record c.system { status = w }) mode)

-- whose turn it is among the first slots is no matter of instructions
more_wired : (n : ℕ) (c : Counts) → (more_counted n c).wired ≡ c.wired
more_wired zero c = refl
more_wired (suc n) c = more_wired n c

counts_wired : (n t : ℕ) (slot : Bool) (own : Own) → (counts_beyond n t slot own).wired ≡ own.wired
counts_wired n zero slot own = more_wired n (counts_of own)
counts_wired n (suc t) slot own = refl

-- after an answer nothing is counted, whatever was before
pub none_counted : {L : Type 0} (mark left before : ℕ) (c : CoreState) (p : Parts L) → with_none_spent (own_of p) ≡ with_none_spent (own_of (at_call mark left before c p))
none_counted mark left before c p = ap (λ (w : ℕ). with_counts (own_of p) (fresh_counts w)) (sym (counts_wired (mark - before - left) (mark - left) false (own_of p)))

-- a ride goes on where a character has left on a line
pub rides_elsewhere : (r : Ride) (c : CoreState) (b b2 : BusState) (line : ℕ) → b2 ≡ with_sent b line → Rides r c b → Rides r c b2
rides_elsewhere r c b b2 line is rides = subst (Rides r c) (sym is) (record {
  knows = rides.knows;
  space = rides.space;
  some = rides.some;
  begins = rides.begins;
  low = rides.low;
  within = rides.within;
  calm = rides.calm;
  holds = rides.holds;
})

pub owed_most : (slot : Bool) → owed_tick slot ≤ 1
owed_most true = omega arith
owed_most false = omega arith

-- where a ride may go on it stands at an address of 32 bits
pub word_there : (r : Ride) → r.first < 2 ^ 31 → MayGoOn r → r.at.pc < 2 ^ 32
word_there r low may = (let i = may.inside in omega (arith, low, i))

-- In a block, in front of a call that stands in no slot.
module _ {L : Type 0} (begun : Held) (n end mark left before : ℕ) (c : CoreState) (p : Parts L) (k : InBlock begun n end mark left before c p) (call : with_tick (trapped c p.bus SystemCall) ≡ step c p.bus) (some : 0 < left) (outside : c.slot ≡ false)
    (inside : c.pc < 2 ^ 32) (whole : IsWhole (with_tick (trapped c p.bus SystemCall)).core) where
  abbrev entered_there : Parts L
  entered_there = at_call mark left before c p

  abbrev there : CoreState
  there = (with_tick (trapped c p.bus SystemCall)).core

  abbrev done : ℕ
  done = k.limit - left

  abbrev start : Hardware
  start = hardware_of k.start.core k.start.bus

  fewer : done < k.limit
  fewer = (let limit = k.most in omega (arith, some, limit))

  leads : AdvancesTo done (Some SystemCall) start (hardware_of there p.bus)
  leads = (hardware_of c p.bus, k.steps, call)

  words : ComesByWords done start
  words = comes_on done start (hardware_of c p.bus) k.words k.steps inside

  done_is : mark - before - left ≡ done
  done_is = (let m = k.marked in omega (arith, m))

  not_delayed : is_delayed there.system ≡ false
  not_delayed =
      ap (λ (s : Step). is_delayed s.core.system) call
      ∙ (slot_of_raised c p.bus (ap (λ (s : Step). is_raised s.event) (sym call)) ∙ outside)

  all : ticks done start + owed_tick (is_delayed there.system) ≡ done + owed_tick k.start.core.slot
  all = raised_ticks done SystemCall start (hardware_of there p.bus) leads

  passed_is : mark - left ≡ done + owed_tick k.start.core.slot - owed_tick (is_delayed there.system)
  passed_is =
      let m = k.marked in
      let b = k.slot_tick in
      let l = k.most in
      let none : owed_tick (is_delayed there.system) ≡ 0 = ap owed_tick not_delayed in
      omega (arith, m, b, l, none)

  own_is : own_of p ≡ own_of k.start
  own_is = ap (λ (x : Parts L). own_of x) k.still

  counts_is : own_of entered_there ≡ with_counts (own_of k.start) (one_more (counts_beyond done (mark - left) (is_delayed there.system) (own_of k.start)))
  counts_is =
      let counts : Counts = called_counts mark left before p in
      ap (λ (w : List ℕ). with_counts (own_of p) (record counts { written = w })) (take-length counts.written)
      ∙ (ap (λ (m : ℕ). with_counts (own_of p) (one_more (counts_beyond m (mark - left) false (own_of p)))) done_is
      ∙ (ap (λ (s : Bool). with_counts (own_of p) (one_more (counts_beyond done (mark - left) s (own_of p)))) (sym not_delayed)
      ∙ ap (λ (o : Own). with_counts o (one_more (counts_beyond done (mark - left) (is_delayed there.system) o))) own_is))

  in_time : k.start.monitor.time + k.limit + 1 ≤ 1000000001
  in_time = (let t = k.time in let w = k.within in let e = k.early in omega (arith, t, w, e))

  soon : k.start.monitor.time + k.limit + 1 + owed_tick k.start.core.slot ≤ k.start.monitor.quiet_until
  soon = (let t = k.time in let q = k.quiet in let b = k.slot_tick in omega (arith, t, q, b))

  upto : k.start.monitor.time + k.limit + owed_tick k.start.core.slot ≤ n
  upto = (let t = k.time in let w = k.within in let b = k.slot_tick in omega (arith, t, w, b))

  moved : entered_there ≡ record k.start {
    core = there;
    bus = p.bus;
    monitor = record k.start.monitor { time = k.start.monitor.time + (mark - left) };
    spent = entered_there.spent;
    wired = entered_there.wired;
    written = entered_there.written;
    refills = entered_there.refills;
    since = entered_there.since;
    tables = entered_there.tables;
    services = entered_there.services;
  }
  moved =
      ap (λ (x : Parts L). record x {
        core = there;
        bus = p.bus;
        monitor = record x.monitor { time = x.monitor.time + (mark - left) };
        spent = entered_there.spent;
        wired = entered_there.wired;
        written = entered_there.written;
        refills = entered_there.refills;
        since = entered_there.since;
        tables = entered_there.tables;
        services = entered_there.services;
      }) k.still

  entered_good : IsGood entered_there
  entered_good = raised_good k.limit done k.start entered_there there p.bus (mark - left) k.good k.ahead k.room in_time soon words moved SystemCall fewer leads whole all passed_is counts_is

  entered_goes : GoesOn n (held k.start) (held entered_there)
  entered_goes = raised_goes k.limit done k.start entered_there there p.bus (mark - left) k.good k.ahead k.room in_time soon words moved SystemCall fewer leads whole all passed_is counts_is n upto

  entered_soon : entered_there.monitor.time + 1 < k.start.monitor.quiet_until
  entered_soon = raised_soon k.limit done k.start entered_there there p.bus (mark - left) k.good k.ahead k.room in_time soon words moved SystemCall fewer leads whole all passed_is counts_is

  entered_call : IsCalled there
  entered_call = raised_call k.limit done k.start entered_there there p.bus (mark - left) k.good k.ahead k.room in_time soon words moved SystemCall fewer leads whole all passed_is counts_is refl

  monitor_is : p.monitor ≡ k.start.monitor
  monitor_is = ap (λ (x : Parts L). x.monitor) k.still

  early_there : entered_there.monitor.time < n
  early_there =
      let t = k.time in
      let w = k.within in
      let b = k.slot_tick in
      let m = k.marked in
      let l = k.most in
      let small = owed_most k.start.core.slot in
      let same : p.monitor.time ≡ k.start.monitor.time = ap (λ (x : Monitor). x.time) monitor_is in
      omega (arith, t, w, b, m, l, some, small, same)

  -- the processor's registers are those of a user, and the serial lines are scanned
  pub mode_there : c.system.status ≡ user_status
  mode_there =
      let kept : c.system ≡ k.start.core.system = ap (λ (h : Hardware). h.core.system) k.steps.state ∙ system_kept start done k.ahead.mode k.steps.calm in
      ap (λ (s : System). s.status) kept ∙ k.ahead.mode

  pub scanned : p.bus.serial.master_scan ≡ true
  scanned = ap (λ (s : SerialState). s.master_scan) entered_good.sound.stands.agrees.devices.serial

  -- it waits, and may be answered at once
  pub call_waits : (process : ℕ) → first p.monitor.ready ≡ Some process → IsQuietCall process entered_there
  call_waits process is = record {
    busy = record {
      good = entered_good;
      first = is;
      begun = omega arith;
      working = ap (λ (x : Parts L). x.failed) k.still ∙ k.working;
      early = (let e = k.early in let t = early_there in omega (arith, e, t));
    };
    called = entered_call;
    outside = not_delayed;
    early = (let same : p.monitor.quiet_until ≡ k.start.monitor.quiet_until = ap (λ (x : Monitor). x.quiet_until) monitor_is in let s = entered_soon in omega (arith, s, same));
  }

  join : {x y z : Held} → (x ≡ y) ⊎ GoesOn n y x → GoesOn n x z → GoesOn n y z
  join {z = z} (inl same) after = subst (λ (h : Held). GoesOn n h z) same after
  join {x = x} {y = y} {z = z} (inr before) after = goes_join n y x z before after

  -- and is answered then
  pub answered_after : (left2 : ℕ) (new : Parts L) → left2 + 1 ≡ left → new.monitor.time ≡ p.monitor.time + (mark - left2) → IsAnswered entered_there new → IsBehindCall begun n end left2 new
  answered_after left2 new one time a =
      let after : GoesOn n (held entered_there) (held new) = a.goes n early_there in
      let queue : p.monitor.ready ≡ k.start.monitor.ready = ap (λ (x : Monitor). x.ready) monitor_is in
      let until : p.monitor.quiet_until ≡ k.start.monitor.quiet_until = ap (λ (x : Monitor). x.quiet_until) monitor_is in
      let same : p.monitor.time ≡ k.start.monitor.time = ap (λ (x : Monitor). x.time) monitor_is in
      let t = k.time in
      let b = k.slot_tick in
      let m = k.marked in
      let l = k.most in
      let q = k.quiet in
      let u = a.until in record {
        good = a.good;
        goes = join k.goes (goes_join n (held k.start) (held entered_there) (held new) entered_goes after);
        working = after.working ∙ (ap (λ (x : Parts L). x.failed) k.still ∙ k.working);
        time = omega (arith, one, time, same, t, m, b, l);
        within = k.within;
        early = k.early;
        unowed = a.unowed;
        ready = subst (λ (r : List ℕ). r ≢ []) (sym (a.ready ∙ queue)) k.ahead.ready;
        user = a.user;
        outside = a.outside;
        quiet = omega (arith, q, u, until);
        log = a.log (subst (HasLogRoom 1) (sym monitor_is) k.room.log);
      }

-- More steps of a block were taken.
pub block_on : {L : Type 0} (begun : Held) (n end mark left before : ℕ) (c : CoreState) (p : Parts L) → InBlock begun n end mark left before c p → (left2 : ℕ) (c2 : CoreState) (p2 : Parts L)
    → p2 ≡ record p { core = p2.core; bus = p2.bus } → left2 ≤ left → Advances (left - left2) (hardware_of c p.bus) (hardware_of c2 p2.bus)
    → ((j : ℕ) → j < left - left2 → (after_steps j (hardware_of c p.bus)).core.pc < 2 ^ 32) → InBlock begun n end mark left2 before c2 p2
block_on {L = L} begun n end mark left before c p k left2 c2 p2 rest fewer steps words =
    let l = k.most in
    let sum : k.limit - left + (left - left2) ≡ k.limit - left2 = omega (arith, l, fewer) in
    let start : Hardware = hardware_of k.start.core k.start.bus in record {
      start = k.start;
      limit = k.limit;
      goes = k.goes;
      good = k.good;
      working = k.working;
      ahead = k.ahead;
      room = k.room;
      some = k.some;
      time = k.time;
      within = k.within;
      early = k.early;
      slot_tick = k.slot_tick;
      marked = k.marked;
      quiet = k.quiet;
      still = rest ∙ ap (λ (x : Parts L). record x { core = p2.core; bus = p2.bus }) k.still;
      most = omega (arith, l, fewer);
      steps = subst (λ (m : ℕ). Advances m start (hardware_of c2 p2.bus)) sum (advances_join (k.limit - left) (left - left2) start (hardware_of c p.bus) (hardware_of c2 p2.bus) k.steps steps);
      words = subst (λ (m : ℕ). (j : ℕ) → j < m → (after_steps j start).core.pc < 2 ^ 32) sum (words_join (k.limit - left) (left - left2) start (hardware_of c p.bus) k.steps k.words words);
    }

-- It goes on with the processor as the ride left it.
pub block_closed : {L : Type 0} (begun : Held) (n end mark left before : ℕ) (c : CoreState) (p : Parts L) → InBlock begun n end mark left before c p → (p2 : Parts L) → p2 ≡ record p { core = c }
    → InBlock begun n end mark left before p2.core p2
block_closed {L = L} begun n end mark left before c p k p2 is =
    subst (λ (x : Parts L). InBlock begun n end mark left before x.core x) (sym is) (record {
      start = k.start;
      limit = k.limit;
      goes = k.goes;
      good = k.good;
      working = k.working;
      ahead = k.ahead;
      room = k.room;
      some = k.some;
      time = k.time;
      within = k.within;
      early = k.early;
      slot_tick = k.slot_tick;
      marked = k.marked;
      quiet = k.quiet;
      still = ap (λ (x : Parts L). record x { core = c }) k.still;
      most = k.most;
      steps = k.steps;
      words = k.words;
    })

-- A block begins.
abbrev pub block_begun : {L : Type 0} (begun : Held) (n end limit : ℕ) (p : Parts L) → (held p ≡ begun) ⊎ GoesOn n begun (held p) → IsGood p → p.failed ≡ false → MayRunAhead limit (held p) → HasRoom 1 p.monitor → 1 ≤ limit
    → p.monitor.time + limit + owed_tick p.core.slot + 1 ≡ end → end ≤ n + 1 → n ≤ 1000000000 → end ≤ p.monitor.quiet_until → (mark before : ℕ) → before ≡ owed_tick p.core.slot → mark ≡ limit + before → InBlock begun n end mark limit before p.core p
block_begun begun n end limit p goes good working ahead room some time within early quiet mark before is marked =
    let none : limit - limit ≡ 0 = omega arith in
    let start : Hardware = hardware_of p.core p.bus in record {
      start = p;
      limit = limit;
      goes = goes;
      good = good;
      working = working;
      ahead = ahead;
      room = room;
      some = some;
      time = omega (arith, time, is);
      within = within;
      early = early;
      slot_tick = is;
      marked = marked;
      quiet = quiet;
      still = refl;
      most = omega arith;
      steps = subst (λ (m : ℕ). Advances m start start) (sym none) (advances_none start);
      words = λ j below. absurd (omega (arith, below, none));
    }

-- Another block begins behind a call, where the ride goes on.
pub block_anew : {L : Type 0} (begun : Held) (n end left : ℕ) (r : Ride) (p : Parts L) → IsBehindCall begun n end left (riding r p) → 0 < left → consoles.HasRoom p.monitor.consoles
    → IsNonDecreasingBy has_time p.monitor.due.commands → IsNonDecreasingBy comes_at p.monitor.due.characters → InBlock begun n end left left 0 (ridden r p.core) p
block_anew begun n end left r p b some room commands order =
    let none : owed_tick (riding r p).core.slot ≡ 0 = ap owed_tick b.outside in
    let t = b.time in
    let q = b.quiet in
    let begins : InBlock begun n end left left 0 (ridden r p.core) (riding r p) =
    block_begun begun n end left (riding r p) (inr b.goes) b.good b.working (may_run_ahead (riding r p) left b.good commands order b.unowed b.ready b.user (omega (arith, none, t, q)))
    (record { consoles = room; log = b.log }) some (omega (arith, none, t)) b.within b.early q left 0 (sym none) (omega arith) in record {
      start = begins.start;
      limit = begins.limit;
      goes = begins.goes;
      good = begins.good;
      working = begins.working;
      ahead = begins.ahead;
      room = begins.room;
      some = begins.some;
      time = begins.time;
      within = begins.within;
      early = begins.early;
      slot_tick = begins.slot_tick;
      marked = begins.marked;
      quiet = begins.quiet;
      still = refl;
      most = begins.most;
      steps = begins.steps;
      words = begins.words;
    }

-- A ride is opened, and what it found may change nothing.
pub block_opened : {L : Type 0} (begun : Held) (n end mark left before : ℕ) (p : Parts L) → InBlock begun n end mark left before p.core p → (p2 : Parts L) (r : Ride) → p2 ≡ p → ridden r p.core ≡ p.core → r.left ≡ left
    → InBlock begun n end mark r.left before (ridden r p2.core) p2
block_opened {L = L} begun n end mark left before p k p2 r same here all =
    subst (λ (x : Parts L). InBlock begun n end mark r.left before (ridden r x.core) x) (sym same)
    (subst (λ (m : ℕ). InBlock begun n end mark m before (ridden r p.core) p) (sym all)
    (subst (λ (c : CoreState). InBlock begun n end mark left before c p) (sym here) k))

pub block_same : {L : Type 0} (begun : Held) (n end mark before : ℕ) (r : Ride) (p : Parts L) → InBlock begun n end mark r.left before (ridden r p.core) p → (p2 : Parts L) (r2 : Ride) (mark2 before2 : ℕ)
    → p2 ≡ p → r2 ≡ r → mark2 ≡ mark → before2 ≡ before → InBlock begun n end mark2 r2.left before2 (ridden r2 p2.core) p2
block_same {L = L} begun n end mark before r p k p2 r2 mark2 before2 same ride marked owed =
    subst (λ (x : Parts L). InBlock begun n end mark2 r2.left before2 (ridden r2 x.core) x) (sym same)
    (subst (λ (x : Ride). InBlock begun n end mark2 x.left before2 (ridden x p.core) p) (sym ride)
    (subst (λ (m : ℕ). InBlock begun n end m r.left before2 (ridden r p.core) p) (sym marked)
    (subst (λ (b : ℕ). InBlock begun n end mark r.left b (ridden r p.core) p) (sym owed) k)))

-- what is so where something is there
pub on_some : {A : Type 0} (o : Option A) (P Q : A → Type 0) → ((x : A) → P x → Q x) → IfSome o P → IfSome o Q
on_some None P Q each is = tt
on_some (Some x) P Q each is = each x is

pub call_same : {L : Type 0} (r : Ride) (p : Parts L) → with_tick (trapped (ridden r p.core) p.bus SystemCall) ≡ step (ridden r p.core) p.bus → (p2 : Parts L) (r2 : Ride) → p2 ≡ p → r2 ≡ r
    → with_tick (trapped (ridden r2 p2.core) p2.bus SystemCall) ≡ step (ridden r2 p2.core) p2.bus
call_same {L = L} r p call p2 r2 same ride =
    subst (λ (x : Parts L). with_tick (trapped (ridden r2 x.core) x.bus SystemCall) ≡ step (ridden r2 x.core) x.bus) (sym same)
    (subst (λ (x : Ride). with_tick (trapped (ridden x p.core) p.bus SystemCall) ≡ step (ridden x p.core) p.bus) (sym ride) call)

-- How a block ends.
module _ {L : Type 0} (begun : Held) (n end mark left before : ℕ) (p : Parts L) (k : InBlock begun n end mark left before p.core p) where
  abbrev began : Hardware
  began = hardware_of k.start.core k.start.bus

  ends_in_time : k.start.monitor.time + k.limit + 1 ≤ 1000000001
  ends_in_time = (let t = k.time in let w = k.within in let e = k.early in omega (arith, t, w, e))

  ends_soon : k.start.monitor.time + k.limit + 1 + owed_tick k.start.core.slot ≤ k.start.monitor.quiet_until
  ends_soon = (let t = k.time in let q = k.quiet in let b = k.slot_tick in omega (arith, t, q, b))

  ends_before : k.start.monitor.time + k.limit + owed_tick k.start.core.slot ≤ n
  ends_before = (let t = k.time in let w = k.within in let b = k.slot_tick in omega (arith, t, w, b))

  join_begun : {x y z : Held} → (x ≡ y) ⊎ GoesOn n y x → GoesOn n x z → GoesOn n y z
  join_begun {z = z} (inl same) after = subst (λ (h : Held). GoesOn n h z) same after
  join_begun {x = x} {y = y} {z = z} (inr step) after = goes_join n y x z step after

  -- What is counted leaves room, whatever the processor came to.
  module _ (mid : Parts L) (rest : mid ≡ record p { core = mid.core; bus = mid.bus }) where
    mid_still : mid ≡ record k.start { core = mid.core; bus = mid.bus }
    mid_still = rest ∙ ap (λ (x : Parts L). record x { core = mid.core; bus = mid.bus }) k.still

    mid_own : own_of mid ≡ own_of k.start
    mid_own = ap (λ (x : Parts L). own_of x) mid_still

    pub mid_fresh : mid.spent ≡ before → IsFresh (own_of mid)
    mid_fresh is =
        let same : mid.spent ≡ k.start.spent = ap (λ (o : Own). o.spent) mid_own in
        let b = k.slot_tick in
        subst IsFresh (sym mid_own) (k.good.orderly.fresh (omega (arith, is, same, b)))

    pub mid_early : mid.monitor.time ≤ 1000000000
    mid_early =
        let same : mid.monitor.time ≡ k.start.monitor.time = ap (λ (x : Parts L). x.monitor.time) mid_still in
        let t = k.time in
        let w = k.within in
        let e = k.early in
        let s = k.some in
        omega (arith, same, t, w, e, s)

    pub mid_spent : mid.spent ≤ 61
    mid_spent = (let same : mid.spent ≡ k.start.spent = ap (λ (o : Own). o.spent) mid_own in let few = k.ahead.few in omega (arith, same, few))

    pub mid_since : mid.since < 56
    mid_since = subst (λ (x : Parts L). x.since < 56) (sym mid_still) (few_of (held k.start) k.good.sound.state k.good.sound.stands).since

    -- the steps that are counted are those that were taken
    module _ (steps : ℕ) (most : steps ≤ left) where
      abbrev total : ℕ
      total = k.limit - (left - steps)

      abbrev counted_steps : ℕ
      counted_steps = mark - before - (left - steps)

      total_is : counted_steps ≡ total
      total_is = (let m = k.marked in omega (arith, m))

      total_sum : k.limit - left + steps ≡ total
      total_sum = (let l = k.most in omega (arith, l, most))

      pub mark_holds : (before ≤ mark) × (left - steps ≤ mark - before)
      mark_holds = (let m = k.marked in let l = k.most in (omega (arith, m), omega (arith, m, l)))

      pub counted_fits : counted_steps + before < 2 ^ 32
      counted_fits =
          let m = k.marked in
          let t = k.time in
          let w = k.within in
          let e = k.early in
          omega (arith, m, t, w, e)

      -- The step after them entered an exception.
      module _ (code : ExceptionCode) (fewer : steps < left) (leads : AdvancesTo steps (Some code) (hardware_of p.core p.bus) (hardware_of mid.core mid.bus)) (words : (j : ℕ) → j < steps → (after_steps j (hardware_of p.core p.bus)).core.pc < 2 ^ 32)
          (at : (after_steps steps (hardware_of p.core p.bus)).core.pc < 2 ^ 32) (slot : Bool) (told : slot ≡ is_delayed mid.core.system) where
        all_leads : AdvancesTo total (Some code) began (hardware_of mid.core mid.bus)
        all_leads = subst (λ (m : ℕ). AdvancesTo m (Some code) began (hardware_of mid.core mid.bus)) total_sum (join_to (k.limit - left) steps (Some code) began (hardware_of p.core p.bus) (hardware_of mid.core mid.bus) k.steps leads)

        all_words : ComesByWords total began
        all_words = subst (λ (m : ℕ). ComesByWords m began) total_sum (λ j within. words_to (k.limit - left) steps began (hardware_of p.core p.bus) k.steps k.words words at j within)

        all_ticks : ticks total began + owed_tick (is_delayed mid.core.system) ≡ total + owed_tick k.start.core.slot
        all_ticks = raised_ticks total code began (hardware_of mid.core mid.bus) all_leads

        owed_told : owed_tick slot ≡ owed_tick (is_delayed mid.core.system)
        owed_told = ap owed_tick told

        pub raised_some : owed_tick slot ≤ counted_steps + before
        raised_some = (let t = all_ticks in let i = total_is in let b = k.slot_tick in let o = owed_told in omega (arith, t, i, b, o))

        abbrev passed_by : ℕ
        passed_by = counted_steps + before - owed_tick slot

        time_by : passed_by ≡ total + owed_tick k.start.core.slot - owed_tick (is_delayed mid.core.system)
        time_by = (let i = total_is in let b = k.slot_tick in let o = owed_told in omega (arith, i, b, o))

        fewer_by : total < k.limit
        fewer_by = (let l = k.most in let s = k.some in omega (arith, l, s, fewer))

        module _ (whole : IsWhole mid.core) (new : Parts L) (own : own_of new ≡ with_counts (own_of mid) (one_more (counts_beyond counted_steps passed_by slot (own_of mid))))
            (by : new ≡ record (with_counts_of new mid) { monitor = record mid.monitor { time = mid.monitor.time + passed_by } }) where
          own_by : own_of new ≡ with_counts (own_of k.start) (one_more (counts_beyond total passed_by (is_delayed mid.core.system) (own_of k.start)))
          own_by =
              own
              ∙ (ap (λ (o : Own). with_counts o (one_more (counts_beyond counted_steps passed_by slot o))) mid_own
              ∙ ap₂ (λ (m : ℕ) (s : Bool). with_counts (own_of k.start) (one_more (counts_beyond m passed_by s (own_of k.start)))) total_is told)

          moved_by : IsMoved k.start new mid.core mid.bus passed_by
          moved_by = counted_is k.start mid new passed_by mid_still by

          pub ends_raised_good : IsGood new
          ends_raised_good = raised_good k.limit total k.start new mid.core mid.bus passed_by k.good k.ahead k.room ends_in_time ends_soon all_words moved_by code fewer_by all_leads whole all_ticks time_by own_by

          pub ends_raised_goes : GoesOn n begun (held new)
          ends_raised_goes = join_begun k.goes (raised_goes k.limit total k.start new mid.core mid.bus passed_by k.good k.ahead k.room ends_in_time ends_soon all_words moved_by code fewer_by all_leads whole all_ticks time_by own_by n ends_before)

          monitor_by : new.monitor ≡ record k.start.monitor { time = k.start.monitor.time + passed_by }
          monitor_by = ap (λ (x : Parts L). x.monitor) moved_by

          until_by : new.monitor.quiet_until ≡ k.start.monitor.quiet_until
          until_by = ap (λ (x : Monitor). x.quiet_until) monitor_by

          pub ends_raised_early : new.monitor.time + 1 < new.monitor.quiet_until
          ends_raised_early =
              let u = until_by in
              let e = raised_soon k.limit total k.start new mid.core mid.bus passed_by k.good k.ahead k.room ends_in_time ends_soon all_words moved_by code fewer_by all_leads whole all_ticks time_by own_by in
              omega (arith, u, e)

          pub ends_raised_call : code ≡ SystemCall → IsCalled new.core
          ends_raised_call = raised_call k.limit total k.start new mid.core mid.bus passed_by k.good k.ahead k.room ends_in_time ends_soon all_words moved_by code fewer_by all_leads whole all_ticks time_by own_by

          pub ends_raised_quiet : end ≤ new.monitor.quiet_until
          ends_raised_quiet = (let u = until_by in let q = k.quiet in omega (arith, u, q))

          pub ends_raised_log : HasLogRoom 1 new.monitor
          ends_raised_log = subst (HasLogRoom 1) (sym monitor_by) k.room.log

  -- All its steps were taken.
  module _ (over : left ≡ 0) (here : p.core.pc < 2 ^ 32) (new : Parts L) (slot : Bool) (stands : slot ≡ p.core.slot) (own : own_of new ≡ with_counts (own_of p) (counts_beyond (mark - before) (mark - before + before - owed_tick slot) slot (own_of p)))
      (by : new ≡ record (with_counts_of new p) { monitor = record p.monitor { time = p.monitor.time + (mark - before + before - owed_tick slot) } }) where
    abbrev passed_over : ℕ
    passed_over = mark - before + before - owed_tick slot

    limit_is : mark - before ≡ k.limit
    limit_is = (let m = k.marked in omega (arith, m))

    none_left : k.limit - left ≡ k.limit
    none_left = omega (arith, over)

    over_advances : Advances k.limit began (hardware_of p.core p.bus)
    over_advances = subst (λ (m : ℕ). Advances m began (hardware_of p.core p.bus)) none_left k.steps

    over_words : ComesByWords k.limit began
    over_words = comes_on k.limit began (hardware_of p.core p.bus) (subst (λ (m : ℕ). (j : ℕ) → j < m → (after_steps j began).core.pc < 2 ^ 32) none_left k.words) over_advances here

    over_ticks : ticks k.limit began + owed_tick p.core.slot ≡ k.limit + owed_tick k.start.core.slot
    over_ticks = ticks_of_advance k.limit began (hardware_of p.core p.bus) over_advances

    owed_over : owed_tick slot ≡ owed_tick p.core.slot
    owed_over = ap owed_tick stands

    over_time : passed_over ≡ k.limit + owed_tick k.start.core.slot - owed_tick p.core.slot
    over_time = (let i = limit_is in let b = k.slot_tick in let o = owed_over in omega (arith, i, b, o))

    over_own : own_of new ≡ with_counts (own_of k.start) (counts_beyond k.limit passed_over p.core.slot (own_of k.start))
    over_own =
        own
        ∙ (ap (λ (o : Own). with_counts o (counts_beyond (mark - before) passed_over slot o)) (ap (λ (x : Parts L). own_of x) k.still)
        ∙ ap₂ (λ (m : ℕ) (s : Bool). with_counts (own_of k.start) (counts_beyond m passed_over s (own_of k.start))) limit_is stands)

    over_moved : IsMoved k.start new p.core p.bus passed_over
    over_moved = counted_is k.start p new passed_over k.still by

    all_of_it : k.limit ≤ k.limit
    all_of_it = omega arith

    pub ends_good : IsGood new
    ends_good = calm_good k.limit k.limit k.start new p.core p.bus passed_over k.good k.ahead k.room ends_in_time ends_soon over_words over_moved all_of_it over_advances over_ticks over_time over_own k.some

    pub ends_goes : GoesOn n begun (held new)
    ends_goes = join_begun k.goes (calm_goes k.limit k.limit k.start new p.core p.bus passed_over k.good k.ahead k.room ends_in_time ends_soon over_words over_moved all_of_it over_advances over_ticks over_time over_own n k.some ends_before)

    over_monitor : new.monitor ≡ record k.start.monitor { time = k.start.monitor.time + passed_over }
    over_monitor = ap (λ (x : Parts L). x.monitor) over_moved

    pub ends_quiet : end ≤ new.monitor.quiet_until
    ends_quiet = (let u : new.monitor.quiet_until ≡ k.start.monitor.quiet_until = ap (λ (x : Monitor). x.quiet_until) over_monitor in let q = k.quiet in omega (arith, u, q))

    pub ends_log : HasLogRoom 1 new.monitor
    ends_log = subst (HasLogRoom 1) (sym over_monitor) k.room.log
