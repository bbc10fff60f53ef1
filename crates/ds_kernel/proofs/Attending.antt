-- A boundary is served: the devices and the processor before it, what is kept after it.
use Rattle.std.proofs.Common.{◌≡◌, ℕ, ◌+◌, ◌-◌, ◌%◌, ◌^◌, ◌<◌, ◌≤◌, Bool, true, false, cond, List, [], ◌∷◌, ◌++◌, length, take, map, Option, Some, None, refl, sym, ap, ap₂, subst, ◌∙◌, arith}
use Rattle.std.specs.Prelude.{◌==◌, ◌||◌, nat_le}
use Rattle.std.specs.List.{All}
use Rattle.std.proofs.lemmas.List.Elements.{All-take, All-filter}
use Rattle.ds_word.specs.Word.{word, bits}
use Rattle.ds_isa.specs.Registers.{settled}
use Rattle.ds_cp0.specs.System.{is_user, pushed}
use Rattle.ds_dev.specs.declared.serial.Character.{Character as Received}
use Rattle.ds_dev.specs.Serial.{SerialState}
use Rattle.ds_dev.specs.Clock.{ClockState, rings, clock_after}
use Rattle.ds_dev.specs.Bus.{BusState, is_enabled}
use Rattle.ds_core.specs.Core.{CoreState}
use Rattle.ds_policy.specs.declared.command.Character.{Character}
use Rattle.ds_pagemap.specs.declared.turn.Turn.{Turn}
use Rattle.ds_pagemap.specs.Machine.{State, Process, process_of, with_process}
use Rattle.ds_pagemap.specs.Boundary.{all_queued, woken, rotated, has_passed, boundary}
use Rattle.ds_pagemap_laws.specs.Due.{come}
use Rattle.ds_asid.specs.Spaces.{Spaces}
use Rattle.ds_refinement.specs.Held.{Held, Kept, began_or, last_boundary}
use Rattle.ds_refinement.specs.Inner.Held.{whole}
use Rattle.ds_refinement.specs.Units.{user_status, is_general, has_left_user}
use Rattle.ds_refinement.specs.Stands.{RunningBy, OnProcessor, AreResting}
use Rattle.ds_refinement.specs.Inner.Stands.{IsSound}
use Rattle.ds_refinement.specs.Inner.Services.{Serves, seated_process, with_first_seated}
use Rattle.ds_refinement.proofs.Boundaries.{owed_is, kernel_owes}
use Rattle.ds_monitor.specs.Inner.Commands.{with_ends, commanded}
use Rattle.ds_kernel.specs.Inner.Devices.{typed, emptied, interrupted, TellsReceived}
use Rattle.ds_kernel.specs.Inner.Attended.{to_come, bus_at, read_out, unowed, ruled}
use Rattle.ds_kernel.proofs.Characters.{as_received, silo_of, emptied_all, typed_alike, first_typed}
use Rattle.ds_kernel.proofs.Clocks.{rings_as, passed_since, none_since, time_is}
use Rattle.ds_kernel.proofs.Sharing.{boundary_ruled}

-- Where a boundary is owed, the processor is at the beginning of a unit.

-- it stands outside of slots, if it has a process
abbrev pub FirstBy : List ℕ → CoreState → Type 0
FirstBy [] c = Unit {0}
FirstBy (p ∷ rest) c = c.slot ≡ false

begins_by : (user slot : Bool) (c : CoreState) (k : Kept) (p : ℕ) (m : State) (turn : Turn) → m.owed ≡ Some turn → OnProcessor user slot c k p m → (c.system.status ≡ user_status) × (c.slot ≡ false)
begins_by false slot c k p m turn o a = let no : Some turn ≡ None = sym o ∙ kernel_owes (is_general c) (has_left_user c) c k p m a in absurd (cc)
begins_by true true c k p m turn o a = let no : Some turn ≡ None = sym o ∙ a.owed in absurd (cc)
begins_by true false c k p m turn o a = (a.mode, a.first)

rests_by : (queue : List ℕ) (c : CoreState) (k : Kept) (m : State) (turn : Turn) → m.owed ≡ Some turn → RunningBy queue c k m → (c.system.status ≡ user_status) × FirstBy queue c
rests_by [] c k m turn o a = (a, tt)
rests_by (p ∷ rest) c k m turn o a = begins_by (is_user c.system) c.slot c k p m turn o a.on

pub at_boundary : (h : Held) (turn : Turn) → IsSound h → h.kept.state.owed ≡ Some turn → (h.core.system.status ≡ user_status) × FirstBy h.kept.state.ready h.core
at_boundary h turn sound owed = rests_by h.kept.state.ready h.core h.kept sound.state turn (owed_is h sound.state sound.stands.agrees ∙ owed) sound.stands.agrees.running

-- The seat after an interrupt.

-- a process goes to its seat as it would have without the interrupt
seat_alike : (asked : Bool) (c : CoreState) (q : Process) → c.system.status ≡ user_status → c.slot ≡ false → seated_process (interrupted asked c) q ≡ seated_process c q
seat_alike false c q mode first = refl
seat_alike true c q mode first =
    ap₂ (λ (status : ℕ) (slot : Bool). record q { registers = settled c.registers; pc = cond (bits (pushed status) 1 1 == 1) 0x80000080 (cond slot (word (c.pc + (2 ^ 32 - 4))) c.pc) }) mode first
    ∙ sym (ap (λ (status : ℕ). record q { registers = settled c.registers; pc = cond (bits status 1 1 == 1) c.pc c.system.epc }) mode)

-- what is kept without what has come in, and with nothing owed
abbrev pub quiet_kept : Kept → Kept
quiet_kept k = record k { state = record k.state { characters = to_come k.state; owed = None } }

-- what is kept once the characters that are due have come in, at the time of the boundary
abbrev pub arrived_kept : ℕ → Kept → Kept
arrived_kept time k = record k { state = record k.state { characters = to_come k.state }; ticked = time }

pub seated_between : (queue : List ℕ) (asked : Bool) (c : CoreState) (k : Kept) (time : ℕ) → c.system.status ≡ user_status → FirstBy queue c
    → unowed (record (arrived_kept time k) { state = with_first_seated (interrupted asked c) (arrived_kept time k).state queue })
    ≡ record (quiet_kept (record k { state = with_first_seated c k.state queue })) { ticked = time }
seated_between [] asked c k time mode first = refl
seated_between (p ∷ rest) asked c k time mode first =
    ap (λ (q : Process). record (quiet_kept (record k { state = with_process k.state p q })) { ticked = time }) (seat_alike asked c (process_of k.state p) mode first)

-- the seat says nothing of the rest
pub seat_beside : (queue : List ℕ) (c : CoreState) (m : State) → with_first_seated c m queue ≡ record m { processes = (with_first_seated c m queue).processes }
seat_beside [] c m = refl
seat_beside (p ∷ rest) c m = refl

-- The boundary of what is kept.

pub boundary_serves : (k n : Kept) (x y : List ℕ) (turn : Turn) → k.state.owed ≡ Some turn
    → Serves (ruled k.state.time (take 64 (come k.state)) (has_passed k.state.rate turn.began k.state.time) turn.runner) (quiet_kept k) x n y → Serves boundary k x n y
boundary_serves k n x y turn owed s = record {
  lines = s.lines;
  state = λ log. boundary_ruled (whole k x log) turn owed ∙ s.state log;
  bare = s.bare;
  text = s.text;
  count = s.count;
}

-- who has the address space, and how far the clock was brought, a service doesn't see
pub unseen : (f : State → State) (a k : Kept) (x y : List ℕ) (v : Spaces) (ticked : ℕ) → Serves f (record a { ticked = ticked }) x k y → Serves f a x (record k { spaces = v }) y
unseen f a k x y v ticked s = record { lines = s.lines; state = s.state; bare = s.bare; text = s.text; count = s.count }

-- what comes in counts by the queues that it leaves
pub ruled_alike : (now : ℕ) (cs ds : List Character) (passed : Bool) (runner : Option ℕ) (m : State) → ((queues : List (List ℕ)) → all_queued queues cs ≡ all_queued queues ds) → ruled now cs passed runner m ≡ ruled now ds passed runner m
ruled_alike now cs ds passed runner m same =
    let done : State = commanded now (with_ends now m) in
    ap (λ (queues : List (List ℕ)). cond passed (rotated (woken (record done { queues = queues }) 1 (length done.processes)) runner) (woken (record done { queues = queues }) 1 (length done.processes))) (same done.queues)

-- The devices.

-- those of a bus that rests, while the clock was brought to a time
module _ (b : BusState) (k : Kept) (resting : AreResting b k) where
  scanned : b.serial.master_scan ≡ true
  scanned = ap (λ (d : SerialState). d.master_scan) resting.serial

  empty : b.serial.silo ≡ []
  empty = ap (λ (d : SerialState). d.silo) resting.serial

  none_lost : b.serial.overrun ≡ false
  none_lost = ap (λ (d : SerialState). d.overrun) resting.serial

  pub is_scanned : b.serial.master_scan ≡ true
  is_scanned = scanned

  pub is_empty : b.serial.silo ≡ []
  is_empty = empty

  pub tells : TellsReceived b
  tells = record {
    serial = ap (λ (d : SerialState). d.receiver_interrupts) resting.serial;
    system = ap is_enabled resting.system;
  }

  few : length b.serial.silo ≤ 64
  few = (let none : length b.serial.silo ≡ 0 = ap (λ (silo : List Received). length silo) empty in omega (arith, none))

  -- what is read out of the silo goes to the queues as the characters that came in
  pub queued_alike : (queues : List (List ℕ)) → All (λ (c : Character). c.line < 4) k.state.characters
      → all_queued queues (map typed (bus_at b k).serial.silo) ≡ all_queued queues (take 64 (come k.state))
  queued_alike queues low =
      let silo : (bus_at b k).serial.silo ≡ take 64 (map as_received (come k.state)) =
      silo_of b.serial (come k.state) scanned few ∙ ap (λ (silo : List Received). take 64 (silo ++ map as_received (come k.state))) empty in
      ap (λ (silo : List Received). all_queued queues (map typed silo)) silo
      ∙ (ap (all_queued queues) (first_typed 64 (come k.state))
      ∙ typed_alike queues (take 64 (come k.state))
      (All-take (λ (c : Character). c.line < 4) 64 (come k.state) (All-filter (λ (c : Character). nat_le c.time k.state.time) (λ (c : Character). c.line < 4) k.state.characters low)))

  -- the clock's flag tells whether a period ended in the turn
  pub flag_is : (turn : Turn) → k.state.owed ≡ Some turn → k.state.rate ≤ 15 → (0 < k.state.rate → 3 ≤ k.state.rate) → k.ticked ≤ k.state.time
      → (bus_at b k).clock.flagged ≡ has_passed k.state.rate turn.began k.state.time
  flag_is turn owed high low before =
      let last : last_boundary k.state ≡ turn.began = ap (λ (o : Option Turn). began_or o k.state.time) owed in
      let since : k.ticked ≤ turn.began = subst (λ (n : ℕ). k.ticked ≤ n) last resting.ticked in
      let none : has_passed k.state.rate k.ticked turn.began ≡ false = ap (λ (n : ℕ). has_passed k.state.rate k.ticked n) (sym last) ∙ resting.period in
      ap (λ (c : ClockState). c.flagged || rings c.rate c.time (k.state.time - k.ticked)) resting.clock
      ∙ (rings_as k.state.rate k.ticked k.state.time high low before
      ∙ passed_since k.state.rate k.ticked turn.began k.state.time since none)

  -- once all is read, they rest again
  pub rest_again : (n : Kept) → n.state.rate ≡ k.state.rate → n.ticked ≡ k.state.time → n.state.time ≡ k.state.time → n.state.owed ≡ None → k.ticked ≤ k.state.time → AreResting (read_out (bus_at b k)) n
  rest_again n rate ticked time owed before =
      let last : last_boundary n.state ≡ k.state.time = ap (λ (o : Option Turn). began_or o n.state.time) owed ∙ time in
      let all : emptied (bus_at b k).serial ≡ record b.serial { silo = []; overrun = false } = emptied_all b.serial (come k.state) scanned few (λ none. none_lost) in
      record {
        serial = ap (λ (d : SerialState). record d { enables = 0 }) all ∙ ap (λ (d : SerialState). record d { silo = []; overrun = false }) resting.serial;
        clock =
            ap (λ (c : ClockState). record (clock_after c (k.state.time - k.ticked)) { flagged = false }) resting.clock
            ∙ ap₂ (λ (x y : ℕ). record { rate = x; enabled = true; flagged = false; time = y }) (sym rate) (time_is k.ticked k.state.time before ∙ ap (λ (t : ℕ). t % 2 ^ 17) (sym ticked));
        system = resting.system;
        ticked = (let same : n.ticked ≡ last_boundary n.state = ticked ∙ sym last in omega (arith, same));
        period = ap₂ (λ (x y : ℕ). has_passed n.state.rate x y) ticked last ∙ none_since n.state.rate k.state.time;
      }
