-- One step of the processor in user mode keeps what the station stands for.
use Rattle.std.proofs.Common.{◌≡◌, ◌≢◌, ℕ, ◌+◌, ◌-◌, ◌<◌, ◌≤◌, ◌^◌, ◌⊎◌, Bool, true, false, cond, List, [], ◌∷◌, length, refl, sym, ap, subst, ◌∙◌, arith, inl, inr}
use Rattle.std.proofs.lemmas.List.{set-set}
use Rattle.std.specs.Prelude.{Option, Some, None, is_some}
use Rattle.ds_word.specs.Word.{word}
use Rattle.ds_isa.specs.Registers.{Registers, settled}
use Rattle.ds_procs.specs.declared.process.Standing.TheVariants.{Parked}
use Rattle.ds_policy.specs.Grants.{PageState}
use Rattle.ds_log.specs.declared.line.Line.TheVariants.{Denial}
use Rattle.ds_procs.specs.Calls.{call_of}
use Rattle.ds_tlb.specs.declared.entry.Entry.{Entry}
use Rattle.ds_grants.specs.State.{page_state}
use Rattle.ds_grants.specs.Represented.{IsRepresented}
use Rattle.ds_grants.specs.Inner.Represented.{IsHigh}
use Rattle.ds_grants.proofs.Kept.{high_kept}
use Rattle.ds_cp0.specs.declared.exception.Exception.{Exception}
use Rattle.ds_cp0.specs.System.{System, asid_of, entered, is_user, vector, epc_of}
use Rattle.ds_dev.specs.Bus.{BusState}
use Rattle.ds_core.specs.declared.event.Event.TheVariants as event
use Rattle.ds_core.specs.Core as core
use Rattle.ds_core.specs.Core.{CoreState, core_at_next, core_at_vector, branched_core, with_tick, trapped}
use Rattle.ds_core.specs.Inner.Core.{is_raised}
use Rattle.ds_core.specs.Effect as whole
use Rattle.ds_refinement.specs.Inner.Real.{IsNoBusError}
use Rattle.ds_refinement.specs.Handling.{HasBase, IsSet, IsWhole, AreUnits}
use Rattle.ds_refinement.specs.Inner.Handling.{IsMiss}
use Rattle.ds_cp0.specs.declared.exception.ExceptionCode.{ExceptionCode}
use Rattle.ds_cp0.specs.declared.exception.ExceptionCode.TheVariants.{Interrupt}
use Rattle.ds_pagemap.specs.declared.turn.Turn.{Turn}
use Rattle.ds_pagemap.specs.Machine.{State, Process, process_of, with_process, no_process, made_unready, without, logged, first}
use Rattle.ds_pagemap.specs.Boundary.{boundary, has_passed}
use Rattle.ds_pagemap.specs.Calls.{served}
use Rattle.ds_pagemap.specs.Unit.{Outcome, Went, Branched, Called, Stopped, Stop, unit, unit_of_first, instruction, after_instruction, after_slot, after_call, parked, settle, fault, at_pc, ticked, with_registers}
use Rattle.ds_pagemap.specs.Run.{half_turn}
use Rattle.ds_pagemap.proofs.Processes.{with_process_again}
use Rattle.ds_refinement.specs.declared.cause.Cause.{Cause}
use Rattle.ds_refinement.specs.declared.cause.Cause.TheVariants as cause
use Rattle.ds_refinement.specs.declared.step.Step.TheVariants.{Inside, Unit}
use Rattle.ds_refinement.specs.Told.{told}
use Rattle.ds_refinement.specs.Held.{Held, Kept, space_of, bare, began_or, last_boundary}
use Rattle.ds_refinement.specs.Copying.{AwaitsCopy}
use Rattle.ds_refinement.specs.Units.{user_status, owes_boundary, EndsUnit, Promise, AtStart, InSlot}
use Rattle.ds_refinement.specs.Stands.{OnProcessor, RunningIs, RunningBy, KeptIs, AreResting, Agrees, CountedBy, IsUnbegun, Stands}
use Rattle.ds_refinement.specs.Inner.Stands.{IsSound}
use Rattle.ds_refinement.specs.Inner.Leaves.{Leaves}
use Rattle.ds_core.specs.declared.event.Event.{Event}
use Rattle.ds_refinement.specs.Tally.{IsTallied}
use Rattle.ds_refinement.specs.Needs.{pages_of_unit}
use Rattle.ds_refinement.specs.Counts.{Counts, HasRanges, counts_of, course_of, fresh_counts, may_write, one_more}
use Rattle.ds_refinement.specs.Inner.Counts.{CountedAfter}
use Rattle.ds_refinement.specs.Inner.Services.{after_event, step_of, with_turn, with_one_spent}
use Rattle.ds_refinement.specs.Steps.{Comes, Follows, ticks_of}
use Rattle.ds_refinement.proofs.Exceptions.{slot_told}
use Rattle.ds_refinement.proofs.Registers.{HasSeat, seat_kept, process_put, registers_put, registers_again, registers_same}
use Rattle.ds_refinement.proofs.Links.{branches_again, linked_settled}
use Rattle.ds_refinement.proofs.Meets.{Retires, Turns, Raises, Meets, counted, instruction_meets}
use Rattle.ds_refinement.proofs.Resting.{rests}
use Rattle.ds_refinement.proofs.Fields.{space_set}
use Rattle.ds_refinement.proofs.Vectors.{vectors_high}
use Rattle.ds_refinement.proofs.Standing.{few, own_unseen}
use Rattle.ds_refinement.proofs.Tallied.{begins, instruction_counted, tallied_of, tells_clean}
use Rattle.ds_refinement.proofs.Entered.{enters}

-- Units.

-- half a turn where no boundary is owed is a unit
half_unit : (m : State) → m.owed ≡ None → unit m ≡ half_turn false m
unfolding half_turn
half_unit m owed = sym (ap (λ (x : Option Turn). cond (is_some x) (boundary m) (unit m)) owed)

-- a unit of the first ready process
unit_by : (m : State) (p : ℕ) (rest : List ℕ) → m.ready ≡ p ∷ rest
    → unit m ≡ owes_boundary m.time p (after_instruction m p (process_of m p).pc (instruction m p (process_of m p).pc))
unfolding unit
unit_by m p rest ready = ap (λ (rs : List ℕ). record (unit_of_first m rs) { owed = Some (record { began = m.time; runner = first rs }) }) ready

-- the state after a unit, with the process in its new place
abbrev afterwards : State → ℕ → Process → PageState → ℕ → State
afterwards m p q pages ticks = record (with_process m p q) { memory = pages; time = m.time + ticks; owed = Some (record { began = m.time; runner = Some p }) }

-- two changes of one process are the second
twice : (m : State) (p : ℕ) (r : Registers) (pages : PageState) (ticks pc : ℕ) → HasSeat m p
    → owes_boundary m.time p (ticked ticks (at_pc (record (with_registers m p r) { memory = pages }) p pc)) ≡ afterwards m p (record (process_of m p) { registers = r; pc = pc }) pages ticks
twice m p r pages ticks pc seat =
    ap (λ (q : Process). afterwards (with_process m p (record (process_of m p) { registers = r })) p (record q { pc = pc }) pages ticks) (process_put m p (record (process_of m p) { registers = r }) seat)
    ∙ ap (λ (s : State). record s { memory = pages; time = m.time + ticks; owed = Some (record { began = m.time; runner = Some p }) })
    (with_process_again m p (record (process_of m p) { registers = r }) (record (process_of m p) { registers = r; pc = pc }))

-- A late load is finished where a unit stops or calls.

-- a process that is put is settled
settle_put : (m : State) (p : ℕ) (q : Process) → HasSeat m p → settle (with_process m p q) p ≡ with_process m p (record q { registers = settled q.registers })
settle_put m p q seat =
    ap (λ (x : Process). with_process (with_process m p q) p (record x { registers = settled x.registers })) (process_put m p q seat)
    ∙ with_process_again m p q (record q { registers = settled q.registers })

-- a settled process is settled again, parked
unready_again : (m : State) (p : ℕ) → HasSeat m p
    → settle (made_unready m p Parked) p ≡ settle (made_unready (with_registers m p (settled (process_of m p).registers)) p Parked) p
unready_again m p seat =
    let q : Process = record (process_of m p) { registers = settled (process_of m p).registers } in
    let n : State = record m { ready = without m.ready p } in
    settle_put n p (record (process_of m p) { standing = Parked }) seat
    ∙ (sym (settle_put n p (record q { standing = Parked }) seat)
    ∙ (sym (ap (λ (s : State). settle (record s { ready = without m.ready p }) p) (with_process_again m p q (record q { standing = Parked })))
    ∙ sym (ap (λ (x : Process). settle (record (with_process (with_process m p q) p (record x { standing = Parked })) { ready = without m.ready p }) p) (process_put m p q seat))))

-- a stop, whether the late load was finished before or not
stopped_alike : (m : State) (p : ℕ) (r : Registers) (unit pc : ℕ) (stop : Stop) → HasSeat m p → r ≡ (process_of m p).registers
    → owes_boundary m.time p (parked m p unit pc stop) ≡ owes_boundary m.time p (parked (with_registers m p (settled r)) p unit pc stop)
stopped_alike m p r unit pc stop seat same =
    ap (λ (s : State). owes_boundary m.time p (ticked 1 (logged (at_pc s p unit) (Denial m.time p pc stop.kind stop.address stop.rule stop.code)))) (unready_again m p seat)
    ∙ ap (λ (x : Registers). owes_boundary m.time p (parked (with_registers m p (settled x)) p unit pc stop)) (sym same)

-- a call alike
called_alike : (m : State) (p : ℕ) (r : Registers) (pc : ℕ) → HasSeat m p → r ≡ (process_of m p).registers
    → owes_boundary m.time p (after_call m p pc) ≡ owes_boundary m.time p (after_call (with_registers m p (settled r)) p pc)
called_alike m p r pc seat same =
    let does : State → State = λ (s : State). owes_boundary m.time p (let at = at_pc s p (word (pc + 4)) in ticked 1 (served at p pc (call_of (process_of at p).registers.general))) in
    let q : Process = record (process_of m p) { registers = settled (process_of m p).registers } in
    ap does (sym (settle_put m p q seat))
    ∙ ap (λ (x : Registers). owes_boundary m.time p (after_call (with_registers m p (settled x)) p pc)) (sym same)

-- What is promised where an instruction leaves the program.

stops_not : (o : Outcome) (s : State) (target : ℕ) (stop : Stop) → o ≡ Branched s target → o ≡ Stopped stop → ⊥
stops_not o s target stop e f = let g : Branched s target ≡ Stopped stop = sym e ∙ f in cc

calls_not : (o : Outcome) (s : State) (target : ℕ) → o ≡ Branched s target → o ≡ Called → ⊥
calls_not o s target e f = let g : Branched s target ≡ Called = sym e ∙ f in cc

-- by the first instruction of the unit
first_promise : (why : Cause) (bad : ℕ) (m : State) (p pc : ℕ) (r : Registers) (o : Outcome) → HasSeat m p → unit m ≡ owes_boundary m.time p (after_instruction m p pc o)
    → (r ≡ (process_of m p).registers) ⊎ ((target : ℕ) × (o ≡ Branched (with_registers m p r) target)) → Leaves why bad false pc p m.memory o
    → Promise why bad false pc p m (with_registers m p (settled r))
first_promise (cause.Access access) bad m p pc r o seat u (inl same) l =
    λ rule code d. u ∙ (ap (λ (x : Outcome). owes_boundary m.time p (after_instruction m p pc x)) (l rule code d) ∙ stopped_alike m p r pc pc _ seat same)
first_promise (cause.Access access) bad m p pc r o seat u (inr again) l = λ rule code d. absurd (stops_not o _ again.0 _ again.1 (l rule code d))
first_promise (cause.Fault code) bad m p pc r o seat u (inl same) l =
    u ∙ (ap (λ (x : Outcome). owes_boundary m.time p (after_instruction m p pc x)) l ∙ stopped_alike m p r pc pc _ seat same)
first_promise (cause.Fault code) bad m p pc r o seat u (inr again) l = absurd (stops_not o _ again.0 _ again.1 l)
first_promise cause.Call bad m p pc r o seat u (inl same) l =
    u ∙ (ap (λ (x : Outcome). owes_boundary m.time p (after_instruction m p pc x)) l ∙ called_alike m p r pc seat same)
first_promise cause.Call bad m p pc r o seat u (inr again) l = absurd (calls_not o _ again.0 again.1 l)

-- by the slot, in the state after its branch
slot_promise : (why : Cause) (bad : ℕ) (m : State) (p pc : ℕ) (r : Registers) (target : ℕ) (o : Outcome)
    → unit m ≡ owes_boundary m.time p (after_slot (with_registers m p r) p pc (word (pc + 4)) target o) → Leaves why bad true (word (pc + 4)) p m.memory o
    → Promise why bad true pc p m (with_registers m p r)
slot_promise (cause.Access access) bad m p pc r target o u l =
    λ rule code d. u ∙ ap (λ (x : Outcome). owes_boundary m.time p (after_slot (with_registers m p r) p pc (word (pc + 4)) target x)) (l rule code d)
slot_promise (cause.Fault code) bad m p pc r target o u (inl l) = u ∙ ap (λ (x : Outcome). owes_boundary m.time p (after_slot (with_registers m p r) p pc (word (pc + 4)) target x)) l
slot_promise (cause.Fault code) bad m p pc r target o u (inr l) =
    u ∙ (ap (λ (x : Outcome). owes_boundary m.time p (after_slot (with_registers m p r) p pc (word (pc + 4)) target x)) l.1.2
    ∙ ap (λ (n : ℕ). owes_boundary m.time p (parked (with_registers m p r) p pc (word (pc + 4)) (fault (word (pc + 4)) n))) (sym l.0))
slot_promise cause.Call bad m p pc r target o u l = u ∙ ap (λ (x : Outcome). owes_boundary m.time p (after_slot (with_registers m p r) p pc (word (pc + 4)) target x)) l

-- what the processor left, seen from another place of the same value
leaves_as : (why : Cause) (bad p : ℕ) (a b : Bool) (pc at : ℕ) (s : PageState) (o o' : Outcome) → a ≡ b → pc ≡ at → o ≡ o' → Leaves why bad a pc p s o → Leaves why bad b at p s o'
leaves_as why bad p a b pc at s o o' e f g l = subst (λ (x : Outcome). Leaves why bad b at p s x) g (subst (λ (x : ℕ). Leaves why bad b x p s o) f (subst (λ (x : Bool). Leaves why bad x pc p s o) e l))

-- a miss that Random's passing leaves
counted_miss : (c : CoreState) (e : Exception) → IsMiss c e → IsMiss (counted c) e
counted_miss c e miss = record { address = miss.address; user = miss.user; is = miss.is; code = miss.code; miss = miss.miss; missed = miss.missed }

-- where the processor stands, by its mode and slot
on_as : (c : CoreState) (k : Kept) (p : ℕ) (m : State) (a b a' b' : Bool) → a ≡ a' → b ≡ b' → OnProcessor a' b' c k p m → OnProcessor a b c k p m
on_as c k p m a b a' b' e f on = rw (e, f) on

mode_on : (slot : Bool) (c : CoreState) (k : Kept) (p : ℕ) (m : State) → OnProcessor true slot c k p m → c.system.status ≡ user_status
mode_on true c k p m on = on.mode
mode_on false c k p m on = on.mode

-- in user mode Random does not matter
counted_on : (slot : Bool) (c : CoreState) (k : Kept) (p : ℕ) (m : State) → OnProcessor true slot c k p m → OnProcessor true slot (counted c) k p m
counted_on true c k p m on = record { mode = on.mode; second = on.second; owed = on.owed; pc = on.pc; within = on.within; branched = on.branched }
counted_on false c k p m on = record { mode = on.mode; first = on.first; pc = on.pc; next = on.next; registers = on.registers }

back_4 : (a : ℕ) → a < 2 ^ 32 → word (word (a + 4) + (2 ^ 32 - 4)) ≡ a
back_4 a small = omega (arith, small)

-- The station stands for m, and the first ready process is in its unit.
module _ (h : Held) (m : State) (p : ℕ) (rest : List ℕ) (all : Stands h m) (ready : h.kept.state.ready ≡ p ∷ rest) (owed : h.kept.state.owed ≡ None) (user : is_user h.core.system ≡ true) where
  abbrev k : Agrees h m
  k = all.agrees

  -- what is counted, and which pages may be written
  abbrev n : Counts
  n = counts_of h.own

  abbrev dirty : ℕ → Bool
  dirty = may_write h.kept p

  -- what is counted after a step
  abbrev Counted : Event → CoreState → Type 0
  Counted e c = CountedAfter e c n dirty (pages_of_unit m p)

  -- what is kept, by who is ready
  kept : KeptIs (p ∷ rest) h.kept h.bus.memory m
  kept = subst (λ (rs : List ℕ). KeptIs rs h.kept h.bus.memory m) ready k.kept

  running : RunningIs p h.core h.kept m
  running = subst (λ (rs : List ℕ). RunningBy rs h.core h.kept m) ready k.running

  on : OnProcessor true h.core.slot h.core h.kept p m
  on = on_as h.core h.kept p m true h.core.slot (is_user h.core.system) h.core.slot (sym user) refl running.on

  mode : h.core.system.status ≡ user_status
  mode = mode_on h.core.slot h.core h.kept p m on

  owes_none : m.owed ≡ None
  owes_none = ap (λ (s : State). s.owed) kept.state ∙ owed

  times : m.time ≡ h.kept.state.time
  times = ap (λ (s : State). s.time) kept.state

  some_ready : m.ready ≢ []
  some_ready = λ (none : m.ready ≡ []). let e : p ∷ rest ≡ [] = sym kept.ready ∙ none in cc

  is_unit : unit m ≡ owes_boundary m.time p (after_instruction m p (process_of m p).pc (instruction m p (process_of m p).pc))
  is_unit = unit_by m p rest kept.ready

  -- The instruction is done, and with it the unit.

  -- what is kept after the unit
  kept_past : (q : Process) (memory : List ℕ) (ticks : ℕ) → KeptIs (p ∷ rest) (record h.kept { state = with_turn ticks h.kept.state }) memory (afterwards m p q (page_state h.kept.grants memory) ticks)
  kept_past q memory ticks = record {
    ready = kept.ready;
    state =
        ap (λ (qs : List Process). bare (record m { processes = qs; time = m.time + ticks; owed = Some (record { began = m.time; runner = Some p }) })) (set-set m.processes (p - 1) q no_process)
        ∙ (ap (λ (s : State). record s { time = s.time + ticks; owed = Some (record { began = s.time; runner = Some p }) }) kept.state
        ∙ ap (λ (rs : List ℕ). record (with_process h.kept.state p no_process) { time = h.kept.state.time + ticks; owed = Some (record { began = h.kept.state.time; runner = first rs }) }) (sym ready));
    pages = refl;
    log = kept.log;
    lines = kept.lines;
  }

  -- and the process itself
  running_after : (r : Registers) (pages : PageState) (ticks pc : ℕ) → h.core.next ≡ pc
      → RunningIs p (core_at_next (counted h.core) r) (record h.kept { state = with_turn ticks h.kept.state }) (afterwards m p (record (process_of m p) { registers = r; pc = pc }) pages ticks)
  running_after r pages ticks pc next =
      let q : Process = record (process_of m p) { registers = r; pc = pc } in
      let s = afterwards m p q pages ticks in
      let c = core_at_next (counted h.core) r in
      let is : process_of s p ≡ q = process_put m p q running.seat in
      let a : AtStart c p s = record {
        mode = mode;
        first = refl;
        pc = next ∙ ap (λ (x : Process). x.pc) (sym is);
        next = ap (λ (n : ℕ). word (n + 4)) (next ∙ ap (λ (x : Process). x.pc) (sym is));
        registers = inl (ap (λ (x : Process). x.registers) (sym is));
      } in
      record {
        seat = seat_kept m p q running.seat;
        standing = ap (λ (x : Process). x.standing) is ∙ running.standing;
        kept = running.kept;
        line = ap (λ (x : Process). x.line) is ∙ running.line;
        number = running.number;
        set = running.set;
        on = on_as c (record h.kept { state = with_turn ticks h.kept.state }) p s (is_user c.system) c.slot true false user refl a;
      }

  -- the devices are as they were, and the boundary that is owed began now
  devices_after : (memory : List ℕ) (ticks : ℕ) → AreResting (record h.bus { memory = memory }) (record h.kept { state = with_turn ticks h.kept.state })
  devices_after memory ticks =
      let now : last_boundary h.kept.state ≡ h.kept.state.time = ap (λ (o : Option Turn). began_or o h.kept.state.time) owed in
      record {
        serial = k.devices.serial;
        clock = k.devices.clock;
        system = k.devices.system;
        ticked = subst (λ (n : ℕ). h.kept.ticked ≤ n) now k.devices.ticked;
        period = subst (λ (n : ℕ). has_passed h.kept.state.rate h.kept.ticked n ≡ false) now k.devices.period;
      }

  -- a unit of so many ticks ends, and the program goes on at pc
  retires : (r : Registers) (memory : List ℕ) (ticks pc : ℕ) → length memory ≡ 2 ^ 23 → IsHigh h.bus.memory memory
      → unit m ≡ owes_boundary m.time p (ticked ticks (at_pc (record (with_registers m p r) { memory = page_state h.kept.grants memory }) p pc))
      → h.core.next ≡ pc → ticks_of h.core.slot ≡ ticks → HasRanges (core_at_next (counted h.core) r) (fresh_counts h.own.wired)
      → Comes Unit (after_event event.Retired h (record { event = event.Retired; core = core_at_next (counted h.core) r; bus = record h.bus { memory = memory } })) m
  retires r memory ticks pc size high is next long ranges =
      let new = after_event event.Retired h (record { event = event.Retired; core = core_at_next (counted h.core) r; bus = record h.bus { memory = memory } }) in
      let q : Process = record (process_of m p) { registers = r; pc = pc } in
      let s = afterwards m p q (page_state h.kept.grants memory) ticks in
      let there : unit m ≡ s = is ∙ twice m p r (page_state h.kept.grants memory) ticks pc running.seat in
      let stands : Agrees new s = record {
        represented = high_kept h.core.entries h.bus.memory memory h.kept.tables h.kept.spaces h.kept.grants high k.represented;
        vectors = vectors_high h.bus.memory memory high k.vectors;
        base = k.base;
        grants = k.grants;
        size = size;
        kept = subst (λ (rs : List ℕ). KeptIs rs new.kept memory s) (sym ready)
            (subst (λ (n : ℕ). KeptIs (p ∷ rest) (record h.kept { state = with_turn n h.kept.state }) memory s) (sym long) (kept_past q memory ticks));
        running = subst (λ (rs : List ℕ). RunningBy rs new.core new.kept s) (sym ready)
            (subst (λ (n : ℕ). RunningIs p new.core (record h.kept { state = with_turn n h.kept.state }) s) (sym long) (running_after r (page_state h.kept.grants memory) ticks pc next));
        devices = devices_after memory (ticks_of h.core.slot);
      } in
      let unbegun : IsUnbegun new.core p s = record { mode = user; first = refl; registers = sym (ap (λ (x : Process). x.registers) (process_put m p q running.seat)) } in
      let tallied : CountedBy h.kept.state.ready new.core new.own new.kept s =
      subst (λ (rs : List ℕ). CountedBy rs new.core new.own new.kept s) (sym ready) (begins new.core h.own.wired (may_write new.kept p) (pages_of_unit s p) user refl ranges, λ spent. unbegun) in
      (unit m, (owes_none, some_ready, (false, false, half_unit m owes_none)), subst (Stands new) (sym there) (record { agrees = stands; counted = tallied }))

  -- Inside the unit.

  -- the station goes on to stand for m, with the processor in another place
  stays : (c : CoreState) → c.entries ≡ h.core.entries → HasBase c.system → IsSet c.system (space_of h.kept p) → OnProcessor (is_user c.system) c.slot c h.kept p m
      → Agrees (record h { core = c }) m
  stays c entries base set there = record {
    represented = subst (λ (es : List Entry). IsRepresented es h.bus.memory h.kept.tables h.kept.spaces h.kept.grants) (sym entries) k.represented;
    vectors = k.vectors;
    base = base;
    grants = k.grants;
    size = k.size;
    kept = k.kept;
    running = subst (λ (rs : List ℕ). RunningBy rs c h.kept m) (sym ready) (record {
      seat = running.seat;
      standing = running.standing;
      kept = running.kept;
      line = running.line;
      number = running.number;
      set = set;
      on = there;
    });
    devices = k.devices;
  }

  -- and its unit is tallied
  goes_on : (c : CoreState) → Agrees (record h { core = c }) m → IsTallied (course_of c (one_more n) dirty (pages_of_unit m p)) → Stands (record h { core = c; own = with_one_spent h.own }) m
  goes_on c there tallied = record {
    agrees = own_unseen (record h { core = c }) (with_one_spent h.own) m there;
    counted = subst (λ (rs : List ℕ). CountedBy rs c (with_one_spent h.own) h.kept m) (sym ready) (tallied, λ (none : h.own.spent + 1 ≡ 0). absurd (omega (arith, none)));
  }

  -- a branch goes on to its slot
  turns : (r : Registers) (target : ℕ) → h.core.next ≡ word ((process_of m p).pc + 4) → (process_of m p).pc < 2 ^ 32
      → instruction m p (process_of m p).pc ≡ Branched (with_registers m p r) target
      → IsTallied (course_of (branched_core (counted h.core) r target) (one_more n) dirty (pages_of_unit m p))
      → Comes Inside (after_event event.Branched h (record { event = event.Branched; core = branched_core (counted h.core) r target; bus = h.bus })) m
  turns r target next within is tallied =
      let c = branched_core (counted h.core) r target in
      let a : InSlot c p m = record { mode = mode; second = refl; owed = owes_none; pc = next; within = within; branched = is } in
      (m, (some_ready, false, refl), goes_on c (stays c refl k.base running.set (on_as c h.kept p m (is_user c.system) c.slot true true user refl a)) tallied)

  -- Random passes, and nothing else of the stage does
  on_counted : OnProcessor true h.core.slot (counted h.core) h.kept p m
  on_counted = counted_on h.core.slot h.core h.kept p m on

  -- an exception comes to the handler, or waits to be served
  raises : (e : Exception) → e.slot ≡ h.core.slot → epc_of e ≡ (process_of m p).pc → AreUnits (settled h.core.registers) p m
      → Promise (told (entered h.core.system e) m.memory p) (entered h.core.system e).bad_vaddr h.core.slot (process_of m p).pc p m (with_registers m p (settled h.core.registers))
      → (vector e ≡ 0x80000080 → EndsUnit m.memory p (entered h.core.system e).bad_vaddr (told (entered h.core.system e) m.memory p) ⊎ AwaitsCopy (entered h.core.system e) h.kept.grants p)
      → (vector e ≡ 0x80000000 → IsMiss h.core e) → IsWhole (core_at_vector (counted h.core) e)
      → IsTallied (course_of (core_at_vector (counted h.core) e) (one_more n) dirty (pages_of_unit m p))
      → Comes Inside (after_event (event.Raised e.code) h (record { event = event.Raised e.code; core = core_at_vector (counted h.core) e; bus = h.bus })) m
  raises e slot at units promise ends missed whole tallied =
      let t : System = entered h.core.system e in
      let there : Agrees (record h { core = counted h.core }) m = stays (counted h.core) refl k.base running.set (on_as (counted h.core) h.kept p m (is_user h.core.system) h.core.slot true h.core.slot user refl on_counted) in (
        m,
        (some_ready, false, refl),
        goes_on (core_at_vector (counted h.core) e) (enters (record h { core = counted h.core }) m p rest e there ready whole mode owes_none at units (λ v. counted_miss h.core e (missed v)) ends
            (subst (λ (b : Bool). Promise (told t m.memory p) t.bad_vaddr b (process_of m p).pc p m (with_registers m p (settled h.core.registers))) (sym (slot_told h.core.system e ∙ slot)) promise)) tallied,
      )

  -- The instruction of the machine, with the registers of the processor.

  -- the process with them
  abbrev here : State
  here = with_registers m p h.core.registers

  -- both do the same instruction
  pub both_meet : h.core.pc < 2 ^ 32 → (s : core.Step) → s ≡ whole.step h.core h.bus → Meets h.core h.bus h.kept.grants here p (instruction here p h.core.pc) s
  both_meet small s is =
      let quiet : whole.step h.core h.bus ≡ with_tick (whole.instruction_step h.core h.bus) =
      ap (λ (b : Bool). cond b (trapped h.core h.bus Interrupt) (with_tick (whole.instruction_step h.core h.bus))) (rests h.bus h.kept h.core.system k.devices mode) in
      subst (Meets h.core h.bus h.kept.grants here p (instruction here p h.core.pc)) (sym (is ∙ quiet))
      (instruction_meets h.core h.bus h.kept here p (sym (registers_put m p h.core.registers running.seat)) kept.pages k.size mode small k.represented.buffer k.grants running.seat.0 running.number (space_set h.core.system.entry_hi (space_of h.kept p) running.set.space (few h m p rest k ready)))

  -- registers that are put here are put in m
  put_here : (r : Registers) → with_registers here p r ≡ with_registers m p r
  put_here r = registers_again m p h.core.registers r running.seat

  -- what a step makes of the station
  abbrev Goes : core.Step → Type 0
  Goes s = Counted s.event s.core → Comes (step_of s.event) (after_event s.event h s) m

  -- after an exception the processor is whole
  abbrev Whole : core.Step → Type 0
  Whole s = is_raised s.event ≡ true → IsWhole s.core

  -- so it is where the exception is known
  whole_at : (e : Exception) (s : core.Step) → s ≡ record { event = event.Raised e.code; core = core_at_vector (counted h.core) e; bus = h.bus } → Whole s → IsWhole (core_at_vector (counted h.core) e)
  whole_at e s is whole = subst Whole is whole refl

  -- at the unit's beginning
  module _ (small : h.core.pc < 2 ^ 32) (a : AtStart h.core p m) where
    -- the first instruction does here what it does in m
    first_alike : instruction here p h.core.pc ≡ instruction m p (process_of m p).pc
    first_alike = ap (instruction here p) a.pc ∙ elim a.registers [
      | inl same ↦ ap (λ (s : State). instruction s p (process_of m p).pc) (registers_same m p h.core.registers same)
      | inr again ↦ branches_again m p (process_of m p).pc h.core.registers again.2.target running.seat again.1 again.2.branched
    ]

    first_retires : (s : core.Step) → Retires h.core h.bus h.kept.grants here p (instruction here p h.core.pc) s → Goes s
    first_retires s w =
        let pages = page_state h.kept.grants w.memory in
        let went : instruction m p (process_of m p).pc ≡ Went (record (with_registers m p w.after) { memory = pages }) =
        sym first_alike ∙ (w.went ∙ ap (λ (t : State). Went (record t { memory = pages })) (put_here w.after)) in
        subst Goes (sym w.step)
        (λ ranges. retires w.after w.memory 1 (word ((process_of m p).pc + 4)) w.size w.high (is_unit ∙ ap (λ (x : Outcome). owes_boundary m.time p (after_instruction m p (process_of m p).pc x)) went) a.next (ap ticks_of a.first) ranges)

    first_turns : (s : core.Step) → Turns h.core h.bus here p (instruction here p h.core.pc) s → Goes s
    first_turns s w =
        subst Goes (sym w.step)
        (λ tallied. turns w.after w.target a.next (subst (λ (n : ℕ). n < 2 ^ 32) a.pc small) (sym first_alike ∙ (w.went ∙ ap (λ (t : State). Branched t w.target) (put_here w.after))) tallied)

    first_raises : (s : core.Step) → Whole s → Raises h.core h.bus h.kept.grants here p (instruction here p h.core.pc) s → Goes s
    first_raises s whole w =
        let t : System = entered h.core.system w.what in
        let pc : ℕ = (process_of m p).pc in
        let leaves : Leaves (told t m.memory p) t.bad_vaddr false pc p m.memory (instruction m p pc) =
        leaves_as (told t m.memory p) t.bad_vaddr p h.core.slot false h.core.pc pc m.memory (instruction here p h.core.pc) (instruction m p pc) a.first a.pc first_alike w.leaves in
        let linked : (h.core.registers ≡ (process_of m p).registers) ⊎ ((target : ℕ) × (instruction m p pc ≡ Branched (with_registers m p h.core.registers) target)) =
        elim a.registers [ inl same ↦ inl same | inr again ↦ inr (again.2.target, again.2.branched) ] in
        let promise : Promise (told t m.memory p) t.bad_vaddr false pc p m (with_registers m p (settled h.core.registers)) =
        first_promise (told t m.memory p) t.bad_vaddr m p pc h.core.registers (instruction m p pc) running.seat is_unit linked leaves in
        subst Goes (sym w.step)
        (λ tallied. raises w.what w.slot (ap (λ (b : Bool). cond b (word (w.what.pc + (2 ^ 32 - 4))) w.what.pc) (w.slot ∙ a.first) ∙ (w.pc ∙ a.pc))
        (elim a.registers [
          | inl same ↦ inl (ap settled same)
          | inr again ↦
              let z : settled h.core.registers ≡ h.core.registers = linked_settled m p pc h.core.registers again.2.target running.seat again.2.branched in
              inr (record { target = again.2.target; branched = again.2.branched ∙ ap (λ (x : Registers). Branched (with_registers m p x) again.2.target) (sym z) })
        ])
        (subst (λ (b : Bool). Promise (told t m.memory p) t.bad_vaddr b pc p m (with_registers m p (settled h.core.registers))) (sym a.first) promise) w.ends w.missed (whole_at w.what s w.step whole) tallied)

  -- in the slot
  module _ (a : InSlot h.core p m) where
    -- the unit, by what comes of its slot
    slot_unit : unit m ≡ owes_boundary m.time p (after_slot here p (process_of m p).pc (word ((process_of m p).pc + 4)) h.core.next (instruction here p h.core.pc))
    slot_unit =
        is_unit ∙ (ap (λ (x : Outcome). owes_boundary m.time p (after_instruction m p (process_of m p).pc x)) a.branched
        ∙ ap (λ (n : ℕ). owes_boundary m.time p (after_slot here p (process_of m p).pc (word ((process_of m p).pc + 4)) h.core.next (instruction here p n))) (sym a.pc))

    slot_retires : (s : core.Step) → Retires h.core h.bus h.kept.grants here p (instruction here p h.core.pc) s → Goes s
    slot_retires s w =
        let pages = page_state h.kept.grants w.memory in
        let went : instruction here p h.core.pc ≡ Went (record (with_registers m p w.after) { memory = pages }) =
        w.went ∙ ap (λ (t : State). Went (record t { memory = pages })) (put_here w.after) in
        subst Goes (sym w.step)
        (λ ranges. retires w.after w.memory 2 h.core.next w.size w.high
        (slot_unit ∙ ap (λ (x : Outcome). owes_boundary m.time p (after_slot here p (process_of m p).pc (word ((process_of m p).pc + 4)) h.core.next x)) went) refl (ap ticks_of a.second) ranges)

    slot_turns : (s : core.Step) → Turns h.core h.bus here p (instruction here p h.core.pc) s → Goes s
    slot_turns s w = let no : true ≡ false = sym a.second ∙ w.outside in absurd cc

    slot_raises : (s : core.Step) → Whole s → Raises h.core h.bus h.kept.grants here p (instruction here p h.core.pc) s → Goes s
    slot_raises s whole w =
        let t : System = entered h.core.system w.what in
        let pc : ℕ = (process_of m p).pc in
        let z : settled h.core.registers ≡ h.core.registers = linked_settled m p pc h.core.registers h.core.next running.seat a.branched in
        let leaves : Leaves (told t m.memory p) t.bad_vaddr true (word (pc + 4)) p m.memory (instruction here p h.core.pc) =
        leaves_as (told t m.memory p) t.bad_vaddr p h.core.slot true h.core.pc (word (pc + 4)) m.memory (instruction here p h.core.pc) (instruction here p h.core.pc) a.second a.pc refl w.leaves in
        let promise : Promise (told t m.memory p) t.bad_vaddr true pc p m (with_registers m p (settled h.core.registers)) =
        subst (λ (x : Registers). Promise (told t m.memory p) t.bad_vaddr true pc p m (with_registers m p x)) (sym z)
        (slot_promise (told t m.memory p) t.bad_vaddr m p pc h.core.registers h.core.next (instruction here p h.core.pc) slot_unit leaves) in
        subst Goes (sym w.step)
        (λ tallied. raises w.what w.slot
        (ap (λ (b : Bool). cond b (word (w.what.pc + (2 ^ 32 - 4))) w.what.pc) (w.slot ∙ a.second) ∙ (ap (λ (n : ℕ). word (n + (2 ^ 32 - 4))) (w.pc ∙ a.pc) ∙ back_4 pc a.within))
        (inr (record { target = h.core.next; branched = a.branched ∙ ap (λ (x : Registers). Branched (with_registers m p x) h.core.next) (sym z) }))
        (subst (λ (b : Bool). Promise (told t m.memory p) t.bad_vaddr b pc p m (with_registers m p (settled h.core.registers))) (sym a.second) promise) w.ends w.missed (whole_at w.what s w.step whole) tallied)

  -- by where the processor stands
  by_slot : (slot : Bool) → OnProcessor true slot h.core h.kept p m → h.core.pc < 2 ^ 32 → (s : core.Step) → Whole s → Meets h.core h.bus h.kept.grants here p (instruction here p h.core.pc) s → Goes s
  by_slot false a small s whole (inl w) = first_retires small a s w
  by_slot false a small s whole (inr (inl w)) = first_turns small a s w
  by_slot false a small s whole (inr (inr w)) = first_raises small a s whole w
  by_slot true a small s whole (inl w) = slot_retires a s w
  by_slot true a small s whole (inr (inl w)) = slot_turns a s w
  by_slot true a small s whole (inr (inr w)) = slot_raises a s whole w

  -- what the step counts
  counts : (s : core.Step) → s ≡ whole.step h.core h.bus → Counted s.event s.core
  counts s is =
      let space : asid_of h.core.system ≡ space_of h.kept p = space_set h.core.system.entry_hi (space_of h.kept p) running.set.space (few h m p rest k ready) in
      instruction_counted h m p rest s n dirty k ready user is
      (tells_clean h.core.entries h.kept p (pages_of_unit m p).access (asid_of h.core.system) k.represented.buffer running.seat.0 running.number space)
      (tallied_of h m p rest all ready)

  -- one step of the processor
  pub step_comes : h.core.pc < 2 ^ 32 → (s : core.Step) → s ≡ whole.step h.core h.bus → Whole s → Comes (step_of s.event) (after_event s.event h s) m
  step_comes small s is raised = by_slot h.core.slot on small s raised (both_meet small s is) (counts s is)

-- What is told of an exception is what the machine needs.

-- where the step raised one
raised_leaves : (c : CoreState) (b : BusState) (k : Kept) (m : State) (p : ℕ) (o : Outcome) (s : core.Step) (code : ExceptionCode) → s.event ≡ event.Raised code → Meets c b k.grants m p o s
    → Leaves (told s.core.system m.memory p) s.core.system.bad_vaddr c.slot c.pc p m.memory o
raised_leaves c b k m p o s code is (inl w) = let e : event.Retired ≡ event.Raised code = sym (ap (λ (x : core.Step). x.event) w.step) ∙ is in absurd cc
raised_leaves c b k m p o s code is (inr (inl w)) = let e : event.Branched ≡ event.Raised code = sym (ap (λ (x : core.Step). x.event) w.step) ∙ is in absurd cc
raised_leaves c b k m p o s code is (inr (inr w)) = subst (λ (x : core.Step). Leaves (told x.core.system m.memory p) x.core.system.bad_vaddr c.slot c.pc p m.memory o) (sym w.step) w.leaves

pub exception_leaves : (h : Held) (m : State) (p : ℕ) (rest : List ℕ) (s : core.Step) (code : ExceptionCode) → Stands h m → h.kept.state.ready ≡ p ∷ rest → h.kept.state.owed ≡ None → is_user h.core.system ≡ true → h.core.pc < 2 ^ 32
    → s ≡ whole.step h.core h.bus → s.event ≡ event.Raised code
    → Leaves (told s.core.system m.memory p) s.core.system.bad_vaddr h.core.slot h.core.pc p m.memory (instruction (with_registers m p h.core.registers) p h.core.pc)
exception_leaves h m p rest s code k ready owed user small is raised =
    raised_leaves h.core h.bus h.kept (with_registers m p h.core.registers) p (instruction (with_registers m p h.core.registers) p h.core.pc) s code raised (both_meet h m p rest k ready owed user small s is)

-- whoever is ready
ready_comes : (rs : List ℕ) (h : Held) (m : State) (s : core.Step) → h.kept.state.ready ≡ rs → rs ≢ [] → Stands h m → h.kept.state.owed ≡ None → is_user h.core.system ≡ true → h.core.pc < 2 ^ 32 → s ≡ whole.step h.core h.bus
    → (is_raised s.event ≡ true → IsWhole s.core) → Comes (step_of s.event) (after_event s.event h s) m
ready_comes [] h m s ready some k owed user small is raised = absurd (some refl)
ready_comes (p ∷ rest) h m s ready some k owed user small is raised = step_comes h m p rest k ready owed user small s is raised

-- one step of the processor in user mode is one instruction of the machine
pub step_follows : (h : Held) (s : core.Step) → s ≡ whole.step h.core h.bus → h.kept.state.owed ≡ None → h.kept.state.ready ≢ [] → is_user h.core.system ≡ true → h.core.pc < 2 ^ 32
    → (is_raised s.event ≡ true → IsWhole s.core) → Follows (step_of s.event) h (after_event s.event h s)
step_follows h s is owed some user small raised = record { follows = λ m k. ready_comes h.kept.state.ready h m s refl some k owed user small is raised }

-- Nobody meets a bus error.

meets_no_error : (c : CoreState) (b : BusState) (k : Kept) (m : State) (p : ℕ) (o : Outcome) (s : core.Step) → Meets c b k.grants m p o s → IsNoBusError s.event
meets_no_error c b k m p o s (inl w) = subst (λ (x : core.Step). IsNoBusError x.event) (sym w.step) tt
meets_no_error c b k m p o s (inr (inl w)) = subst (λ (x : core.Step). IsNoBusError x.event) (sym w.step) tt
meets_no_error c b k m p o s (inr (inr w)) = subst (λ (x : core.Step). IsNoBusError x.event) (sym w.step) w.bus

ready_meets : (rs : List ℕ) (h : Held) (m : State) → h.kept.state.ready ≡ rs → rs ≢ [] → Stands h m → h.kept.state.owed ≡ None → is_user h.core.system ≡ true → h.core.pc < 2 ^ 32
    → IsNoBusError (whole.step h.core h.bus).event
ready_meets [] h m ready some k owed user small = absurd (some refl)
ready_meets (p ∷ rest) h m ready some k owed user small =
    meets_no_error h.core h.bus h.kept (with_registers m p h.core.registers) p (instruction (with_registers m p h.core.registers) p h.core.pc) (whole.step h.core h.bus) (both_meet h m p rest k ready owed user small (whole.step h.core h.bus) refl)

pub no_bus_error : (h : Held) → IsSound h → h.kept.state.owed ≡ None → h.kept.state.ready ≢ [] → is_user h.core.system ≡ true → h.core.pc < 2 ^ 32 → IsNoBusError (whole.step h.core h.bus).event
no_bus_error h sound owed some user small = ready_meets h.kept.state.ready h sound.state refl some sound.stands owed user small
