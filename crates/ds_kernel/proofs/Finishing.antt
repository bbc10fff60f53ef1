-- A service ends the unit.
use Rattle.std.proofs.Common.{◌≡◌, ℕ, ◌+◌, ◌/◌, ◌%◌, ◌^◌, ◌<◌, ◌≤◌, true, false, List, [], length, Option, Some, None, refl, sym, ap, ap₂, subst, ◌∙◌, arith}
use Rattle.ds_tlb.specs.declared.entry.Entry.{Entry}
use Rattle.ds_mem.specs.Memory.{frame_of}
use Rattle.ds_cp0.specs.System.{System}
use Rattle.ds_refill.specs.Handler.{HasWords}
use Rattle.ds_dev.specs.Serial.{SerialState}
use Rattle.ds_dev.specs.Clock.{ClockState}
use Rattle.ds_dev.specs.Bus.{BusState}
use Rattle.ds_asid.specs.Spaces.{Spaces}
use Rattle.ds_grants.specs.Represented.{IsRepresented}
use Rattle.ds_grants.specs.Inner.Represented.{Keeps}
use Rattle.ds_grants.specs.Sound.{NamesPages}
use Rattle.ds_pagemap.specs.declared.turn.Turn.{Turn}
use Rattle.ds_pagemap.specs.Boundary.{has_passed}
use Rattle.ds_pagemap.specs.Machine.{State}
use Rattle.ds_refinement.specs.Held.{Held, Kept, Own, began_or, last_boundary}
use Rattle.ds_pagemap.specs.Unit.{Stop}
use Rattle.ds_refinement.specs.Told.{own_in}
use Rattle.ds_refinement.specs.Units.{ends_in_stop, ends_in_call}
use Rattle.ds_refinement.specs.Handling.{HasBase}
use Rattle.ds_refinement.specs.Pairs.{HasNoNewPairs}
use Rattle.ds_refinement.specs.Stands.{AreResting}
use Rattle.ds_refinement.specs.Inner.Stands.{IsSound}
use Rattle.ds_refinement.specs.Inner.Services.{Serves, EntersBy, seated, with_none_spent}
use Rattle.ds_monitor.specs.declared.monitor.Monitor.{Monitor}
use Rattle.ds_monitor.specs.Inner.Coming.{next_due}
use Rattle.ds_monitor.specs.Inner.Kept.{kept_of}
use Rattle.ds_monitor.specs.Inner.Orderly as monitor
use Rattle.ds_monitor.specs.Inner.Room.{HasLogRoom}
use Rattle.ds_monitor.specs.Inner.Sending.{with_sent, bus_after}
use Rattle.ds_procs.specs.declared.call.Call.{Call}
use Rattle.ds_procs.specs.declared.call.Call.TheVariants as call
use Rattle.ds_kernel.specs.declared.parts.Parts.{Parts}
use Rattle.ds_kernel.specs.Inner.Parts.{held, own_of}
use Rattle.ds_refinement.specs.Handling.{IsWhole}
use Rattle.ds_core.specs.Core.{CoreState}
use Rattle.ds_refinement.specs.Counts.{HasNone, HasRanges, counts_of}
use Rattle.ds_refinement.proofs.Tallied.{ranges_of}
use Rattle.ds_kernel.specs.Inner.Ended.{HasEnded}
use Rattle.ds_refinement.proofs.NoNewPairs.{same_pairs, joined_pairs}
use Rattle.ds_refinement.proofs.Vectors.{vectors_first}
use Rattle.ds_kernel.proofs.Keeping.{lawful_elsewhere}

-- whoever has which address space, the service is the same
spaces_unseen : (f : State → State) (a k : Kept) (x y : List ℕ) (v : Spaces) → Serves f a x k y → Serves f a x (record k { spaces = v }) y
spaces_unseen f a k x y v s = record { lines = s.lines; state = s.state; bare = s.bare; text = s.text; count = s.count }

-- and what is kept is orderly
pub spaces_orderly : (k : Kept) (v : Spaces) → monitor.IsOrderly k → monitor.IsOrderly (record k { spaces = v })
spaces_orderly k v it = record { lawful = lawful_elsewhere k [] [] [] [] it.lawful; ended = it.ended; commands = it.commands; ends = it.ends }

-- the turn of a process that began at a time
abbrev turn_of : ℕ → ℕ → Option Turn
turn_of began p = Some (record { began = began; runner = Some p })

-- nothing is counted where the counts begin again
pub none_counted : (old new : Own) → new ≡ with_none_spent old → HasNone new
none_counted old new is = subst HasNone (sym is) refl

-- and the buffer has its ranges
pub ranges_after : (h : Held) (c : CoreState) (own : Own) → IsSound h → IsWhole c → own ≡ with_none_spent h.own → HasRanges c (counts_of own)
ranges_after h c own sound whole is =
    subst (λ (o : Own). HasRanges c (counts_of o)) (sym is)
    (record { size = whole.slots; low = whole.low; high = whole.high; turn = (ranges_of h sound.state sound.stands).turn })

abbrev resting_clock : ℕ → ℕ → ClockState
resting_clock x y = record { rate = x; enabled = true; flagged = false; time = y % 2 ^ 17 }

-- the devices rest as before after a unit, whose boundary is owed
pub resting : (b : BusState) (k k' : Kept) (runner : Option ℕ) → k.state.owed ≡ None → k'.state.rate ≡ k.state.rate → k'.ticked ≡ k.ticked
    → k'.state.owed ≡ Some (record { began = k.state.time; runner = runner }) → AreResting b k → AreResting b k'
resting b k k' runner none rate ticked owed r =
    let last : last_boundary k'.state ≡ last_boundary k.state =
    ap (λ (o : Option Turn). began_or o k'.state.time) owed ∙ sym (ap (λ (o : Option Turn). began_or o k.state.time) none) in
    let early = r.ticked in record {
      serial = r.serial;
      clock = r.clock ∙ ap₂ (λ (x y : ℕ). resting_clock x y) (sym rate) (sym ticked);
      system = r.system;
      ticked = subst (λ (n : ℕ). k'.ticked ≤ n) (sym last) (subst (λ (n : ℕ). n ≤ last_boundary k.state) (sym ticked) r.ticked);
      period = ap (λ (n : ℕ). has_passed n k'.ticked (last_boundary k'.state)) rate ∙ (ap₂ (λ (x y : ℕ). has_passed k.state.rate x y) ticked last ∙ r.period);
    }

-- the same devices rest
pub rest_alike : (a b : BusState) → b ≡ a → (k : Kept) → AreResting a k → AreResting b k
rest_alike a b same k resting = subst (λ (x : BusState). AreResting x k) (sym same) resting

-- after a character that was sent the devices rest as before
pub sent_rests : (b : BusState) (line : ℕ) (k : Kept) → AreResting b k → AreResting (with_sent b line) k
sent_rests b line k r = record {
  serial = ap (λ (d : SerialState). record d { waiting = None }) r.serial;
  clock = r.clock;
  system = r.system;
  ticked = r.ticked;
  period = r.period;
}

-- what lies in memory is no matter of the devices
pub memory_rests : (b : BusState) (memory : List ℕ) (k : Kept) → AreResting b k → AreResting (record b { memory = memory }) k
memory_rests b memory k r = record { serial = r.serial; clock = r.clock; system = r.system; ticked = r.ticked; period = r.period }

-- and so they do after each call
pub call_rests : (c : Call) (b : BusState) (line : ℕ) (k : Kept) → AreResting b k → AreResting (bus_after c line b) k
call_rests call.Exit b line k r = r
call_rests (call.Put byte) b line k r = sent_rests b line k r
call_rests call.Get b line k r = r
call_rests call.Yield b line k r = r
call_rests call.Time b line k r = r
call_rests call.Own b line k r = r
call_rests (call.Give address receiver to mode) b line k r = r
call_rests (call.Take process address) b line k r = r
call_rests (call.Drop address) b line k r = r
call_rests call.Wait b line k r = r
call_rests call.Unknown b line k r = r

-- Context is as it was, and so is its base
pub base_as : (old new : System) → new.context ≡ old.context → HasBase old → HasBase new
base_as old new same b = record {
  tables = subst (λ (n : ℕ). n / 2 ^ 21 ≡ 0x600) (sym same) b.tables;
  whole = subst (λ (n : ℕ). n % 4 ≡ 0) (sym same) b.whole;
}

-- What is kept between the service and who comes in.
module _ {L : Type 0} (f : State → State) (old new : Parts L) (between : Monitor) (entries : List Entry) (last : List ℕ) (p : ℕ) where
  -- what comes in leaves
  pub record Comes : Type 0 where
    pub enters : EntersBy new.monitor.ready new.core (kept_of new.monitor)
    pub represented : IsRepresented entries last between.tables between.spaces between.grants
        → IsRepresented new.core.entries new.bus.memory new.monitor.tables new.monitor.spaces new.monitor.grants
    pub pages : NamesPages between.grants
    pub random : new.core.random ≡ old.core.random
    pub memory : new.bus.memory ≡ last
    pub rests : (k : Kept) → AreResting old.bus k → AreResting new.bus k
    pub monitor : new.monitor ≡ record between { spaces = new.monitor.spaces }
    pub own : own_of new ≡ with_none_spent (own_of old)
    pub whole : IsWhole new.core
    pub context : new.core.system.context ≡ old.core.system.context
    pub pairs : HasNoNewPairs entries new.core.entries

  -- what the service leaves
  pub record Served : Type 0 where
    pub serves : Serves f (seated old.core (kept_of old.monitor)) old.bus.memory (kept_of between) last
    pub size : length last ≡ length old.bus.memory
    pub first : frame_of last 0 ≡ frame_of old.bus.memory 0
    pub pairs : HasNoNewPairs old.core.entries entries
    pub keeps : Keeps old.core.entries old.bus.memory old.monitor.tables old.monitor.spaces old.monitor.grants entries last between.tables between.spaces between.grants
    pub rate : between.rate ≡ old.monitor.rate
    pub ticked : between.ticked ≡ old.monitor.ticked
    pub until : between.quiet_until ≡ old.monitor.quiet_until
    pub next : next_due (kept_of between) ≡ next_due (kept_of old.monitor)
    pub lines : between.lines ≤ old.monitor.lines + 1
    pub owed : between.owed ≡ Some (record { began = old.monitor.time; runner = Some p })
    pub kept : monitor.IsOrderly (kept_of between)
    pub due : between.due ≡ old.monitor.due
    pub room : (n : ℕ) → HasLogRoom (n + 1) old.monitor → HasLogRoom n between

  kept_is : Comes → kept_of new.monitor ≡ record (kept_of between) { spaces = new.monitor.spaces }
  kept_is b = ap (λ (m : Monitor). kept_of m) b.monitor

  pub has_ended : IsSound (held old) → old.monitor.owed ≡ None → Served → Comes → HasEnded f old new
  has_ended sound unowed a b = record {
    ends = record {
      serves = subst (λ (x : List ℕ). Serves f (seated old.core (kept_of old.monitor)) old.bus.memory (kept_of new.monitor) x) (sym b.memory)
          (subst (λ (k : Kept). Serves f (seated old.core (kept_of old.monitor)) old.bus.memory k last) (sym (kept_is b))
          (spaces_unseen f (seated old.core (kept_of old.monitor)) (kept_of between) old.bus.memory last new.monitor.spaces a.serves));
      enters = b.enters;
      represented = b.represented (a.keeps sound.stands.agrees.represented);
      vectors = subst HasWords (sym b.memory) (vectors_first old.bus.memory last a.first sound.stands.agrees.vectors);
      base = base_as old.core.system new.core.system b.context sound.stands.agrees.base;
      grants = subst NamesPages (sym (ap (λ (k : Kept). k.grants) (kept_is b))) b.pages;
      size = ap (λ (x : List ℕ). length x) b.memory ∙ a.size;
      devices = b.rests (kept_of new.monitor)
          (resting old.bus (kept_of old.monitor) (kept_of new.monitor) (Some p) unowed
          (ap (λ (m : Monitor). m.rate) b.monitor ∙ a.rate)
          (ap (λ (m : Monitor). m.ticked) b.monitor ∙ a.ticked)
          (ap (λ (m : Monitor). m.owed) b.monitor ∙ a.owed)
          sound.stands.agrees.devices);
      none = none_counted (own_of old) (own_of new) b.own;
      ranges = ranges_after (held old) new.core (own_of new) sound b.whole b.own;
    };
    own = b.own;
    random = b.random;
    pairs = joined_pairs old.core.entries entries new.core.entries a.pairs b.pairs;
    lines = subst (λ (n : ℕ). n ≤ old.monitor.lines + 1) (sym (ap (λ (m : Monitor). m.lines) b.monitor)) a.lines;
    ticked = ap (λ (m : Monitor). m.ticked) b.monitor ∙ a.ticked;
    rate = ap (λ (m : Monitor). m.rate) b.monitor ∙ a.rate;
    until = ap (λ (m : Monitor). m.quiet_until) b.monitor ∙ a.until;
    next = ap (λ (m : Monitor). next_due (kept_of m)) b.monitor ∙ a.next;
    kept = subst (λ (k : Kept). monitor.IsOrderly k) (sym (kept_is b)) (spaces_orderly (kept_of between) new.monitor.spaces a.kept);
    due = ap (λ (m : Monitor). m.due) b.monitor ∙ a.due;
    room = λ n h. subst (HasLogRoom n) (sym b.monitor) (a.room n h);
  }

-- Who is first comes in after a service of the process that left.
pub comes_in : {L : Type 0} (f : State → State) (old left new : Parts L) (between : Monitor) (entries : List Entry) (memory : List ℕ) (p : ℕ)
    → left ≡ record old { monitor = record old.monitor { seats = left.monitor.seats } }
    → EntersBy new.monitor.ready new.core (kept_of new.monitor)
    → (IsRepresented entries memory between.tables between.spaces between.grants
    → IsRepresented new.core.entries new.bus.memory new.monitor.tables new.monitor.spaces new.monitor.grants)
    → NamesPages between.grants → new.core.random ≡ left.core.random → new.bus.memory ≡ memory → ((k : Kept) → AreResting left.bus k → AreResting new.bus k)
    → new.monitor ≡ record between { spaces = new.monitor.spaces } → own_of new ≡ with_none_spent (own_of left) → IsWhole new.core
    → new.core.system.context ≡ left.core.system.context → HasNoNewPairs entries new.core.entries
    → Comes f old new between entries memory p
comes_in {L} f old left new between entries memory p leaves enters represented pages random same rests monitor own whole context pairs = record {
  enters = enters;
  represented = represented;
  pages = pages;
  random = random ∙ ap (λ (x : Parts L). x.core.random) leaves;
  memory = same;
  rests = λ k resting. rests k (subst (λ (b : BusState). AreResting b k) (sym (ap (λ (x : Parts L). x.bus) leaves)) resting);
  monitor = monitor;
  own = own ∙ ap (λ (x : Parts L). with_none_spent (own_of x)) leaves;
  whole = whole;
  context = context ∙ ap (λ (x : Parts L). x.core.system.context) leaves;
  pairs = pairs;
}

-- What a stop leaves.
pub stop_served : {L : Type 0} (old left new : Parts L) (between : Monitor) (p unit pc : ℕ) (stop : Stop)
    → unit ≡ old.core.system.epc → pc ≡ own_in old.core.system → 0 < p
    → kept_of left.monitor ≡ seated old.core (kept_of old.monitor)
    → left ≡ record old { monitor = record old.monitor { seats = left.monitor.seats } }
    → monitor.IsOrderly (kept_of between) → ((n : ℕ) → HasLogRoom (n + 1) left.monitor → HasLogRoom n between)
    → ((memory : List ℕ) → Serves (ends_in_stop p unit pc stop) (kept_of left.monitor) memory (kept_of between) memory)
    → between.lines ≡ left.monitor.lines + 1
    → between ≡ record left.monitor { seats = between.seats; ready = between.ready; log = between.log; lines = between.lines; time = between.time; owed = between.owed }
    → Served (ends_in_stop p old.core.system.epc (own_in old.core.system) stop) old new between left.core.entries old.bus.memory p
stop_served {L} old left new between p unit pc stop unit_is pc_is above kept leaves orderly room serves lines rest =
    let lines_left : left.monitor.lines ≡ old.monitor.lines = ap (λ (x : Parts L). x.monitor.lines) leaves in
    let time_left : left.monitor.time ≡ old.monitor.time = ap (λ (x : Parts L). x.monitor.time) leaves in
    record {
      serves = subst (λ (n : ℕ). Serves (ends_in_stop p n (own_in old.core.system) stop) (seated old.core (kept_of old.monitor)) old.bus.memory (kept_of between) old.bus.memory) unit_is
          (subst (λ (n : ℕ). Serves (ends_in_stop p unit n stop) (seated old.core (kept_of old.monitor)) old.bus.memory (kept_of between) old.bus.memory) pc_is
          (subst (λ (k : Kept). Serves (ends_in_stop p unit pc stop) k old.bus.memory (kept_of between) old.bus.memory) kept (serves old.bus.memory)));
      size = refl;
      first = refl;
      pairs = subst (λ (x : Parts L). HasNoNewPairs old.core.entries x.core.entries) (sym leaves) (same_pairs old.core.entries);
      keeps = λ holds. subst (λ (m : Monitor). IsRepresented left.core.entries old.bus.memory m.tables m.spaces m.grants) (sym rest)
          (subst (λ (x : Parts L). IsRepresented x.core.entries old.bus.memory x.monitor.tables x.monitor.spaces x.monitor.grants) (sym leaves) holds);
      rate = ap (λ (m : Monitor). m.rate) rest ∙ ap (λ (x : Parts L). x.monitor.rate) leaves;
      ticked = ap (λ (m : Monitor). m.ticked) rest ∙ ap (λ (x : Parts L). x.monitor.ticked) leaves;
      until = ap (λ (m : Monitor). m.quiet_until) rest ∙ ap (λ (x : Parts L). x.monitor.quiet_until) leaves;
      next = ap (λ (m : Monitor). next_due (kept_of m)) rest ∙ ap (λ (x : Parts L). next_due (kept_of x.monitor)) leaves;
      lines = omega (arith, lines, lines_left);
      owed = sym (ap (λ (s : State). s.owed) ((serves []).state [])) ∙ ap (λ (n : ℕ). turn_of n p) time_left;
      kept = orderly;
      due = ap (λ (m : Monitor). m.due) rest ∙ ap (λ (x : Parts L). x.monitor.due) leaves;
      room = λ n h. room n (subst (HasLogRoom (n + 1)) (sym (ap (λ (x : Parts L). x.monitor) leaves)) h);
    }

-- What a call leaves.
pub call_served : {L : Type 0} (old left new : Parts L) (between : Monitor) (entries : List Entry) (memory : List ℕ) (p unit : ℕ)
    → unit ≡ old.core.system.epc → 0 < p → p ≤ length left.monitor.seats.items
    → kept_of left.monitor ≡ seated old.core (kept_of old.monitor)
    → left ≡ record old { monitor = record old.monitor { seats = left.monitor.seats } }
    → monitor.IsOrderly (kept_of between) → between.lines ≤ left.monitor.lines + 1 → ((n : ℕ) → HasLogRoom (n + 1) left.monitor → HasLogRoom n between)
    → Serves (ends_in_call p unit) (kept_of left.monitor) left.bus.memory (kept_of between) memory → length memory ≡ length left.bus.memory → ((f : ℕ) → f < 2 → frame_of memory f ≡ frame_of left.bus.memory f)
    → Keeps left.core.entries left.bus.memory left.monitor.tables left.monitor.spaces left.monitor.grants entries memory between.tables between.spaces between.grants
    → HasNoNewPairs left.core.entries entries
    → between ≡ record left.monitor { grants = between.grants; tables = between.tables; spaces = between.spaces; seats = between.seats; ready = between.ready; queues = between.queues; consoles = between.consoles; log = between.log; lines = between.lines; time = between.time; owed = between.owed }
    → Served (ends_in_call p old.core.system.epc) old new between entries memory p
call_served {L} old left new between entries memory p unit unit_is above within kept leaves orderly lines room serves size elsewhere keeps pairs rest =
    let lines_left : left.monitor.lines ≡ old.monitor.lines = ap (λ (x : Parts L). x.monitor.lines) leaves in
    let time_left : left.monitor.time ≡ old.monitor.time = ap (λ (x : Parts L). x.monitor.time) leaves in
    let held : left.bus.memory ≡ old.bus.memory = ap (λ (x : Parts L). x.bus.memory) leaves in record {
      serves = subst (λ (n : ℕ). Serves (ends_in_call p n) (seated old.core (kept_of old.monitor)) old.bus.memory (kept_of between) memory) unit_is
          (subst (λ (m : List ℕ). Serves (ends_in_call p unit) (seated old.core (kept_of old.monitor)) m (kept_of between) memory) held
          (subst (λ (k : Kept). Serves (ends_in_call p unit) k left.bus.memory (kept_of between) memory) kept serves));
      size = size ∙ ap (λ (x : List ℕ). length x) held;
      first = elsewhere 0 (omega arith) ∙ ap (λ (x : List ℕ). frame_of x 0) held;
      pairs = subst (λ (x : Parts L). HasNoNewPairs x.core.entries entries) leaves pairs;
      keeps = subst (λ (x : Parts L). Keeps x.core.entries x.bus.memory x.monitor.tables x.monitor.spaces x.monitor.grants entries memory between.tables between.spaces between.grants) leaves keeps;
      rate = ap (λ (m : Monitor). m.rate) rest ∙ ap (λ (x : Parts L). x.monitor.rate) leaves;
      ticked = ap (λ (m : Monitor). m.ticked) rest ∙ ap (λ (x : Parts L). x.monitor.ticked) leaves;
      until = ap (λ (m : Monitor). m.quiet_until) rest ∙ ap (λ (x : Parts L). x.monitor.quiet_until) leaves;
      next = ap (λ (m : Monitor). next_due (kept_of m)) rest ∙ ap (λ (x : Parts L). next_due (kept_of x.monitor)) leaves;
      lines = omega (arith, lines, lines_left);
      owed = sym (ap (λ (s : State). s.owed) (serves.state [])) ∙ ap (λ (n : ℕ). turn_of n p) time_left;
      kept = orderly;
      due = ap (λ (m : Monitor). m.due) rest ∙ ap (λ (x : Parts L). x.monitor.due) leaves;
      room = λ n h. room n (subst (HasLogRoom (n + 1)) (sym (ap (λ (x : Parts L). x.monitor) leaves)) h);
    }
