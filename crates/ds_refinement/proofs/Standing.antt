-- What a station stands for, with the processor at another place of the unit, or with the process touched.
use Rattle.std.proofs.Common.{◌≡◌, ◌≢◌, ◌⊎◌, ℕ, ◌+◌, ◌<◌, ◌==◌, Bool, true, false, List, [], ◌∷◌, None, refl, sym, ap, subst, ◌∙◌, inl, inr}
use Rattle.std.specs.Prelude.{not, ◌&&◌}
use Rattle.ds_word.specs.Word.{word, bits}
use Rattle.ds_isa.specs.Registers.{Registers}
use Rattle.ds_cp0.specs.System.{is_user, pushed}
use Rattle.ds_refill.specs.Handler.{handler_address}
use Rattle.ds_refill.specs.Refill.{lent}
use Rattle.ds_grants.specs.Buffer.{BufferHolds}
use Rattle.ds_core.specs.Core.{CoreState}
use Rattle.ds_pagemap.specs.Machine.{State, Process, process_of, with_process, no_process, touched, touch_first, touched_process}
use Rattle.ds_pagemap.proofs.Processes.{with_process_again, with_process-process_of}
use Rattle.ds_refinement.specs.Held.{Held, Kept, Own, bare, space_of}
use Rattle.ds_refinement.specs.Units.{user_status, is_general, is_served, has_left_user, IsLinked, AtStart, InService}
use Rattle.ds_refinement.specs.Inner.Services.{touched_registers}
use Rattle.ds_refinement.proofs.Registers.{HasSeat, seat_kept, process_put}
use Rattle.ds_refinement.proofs.Links.{touched_link}
use Rattle.ds_refinement.proofs.Spaces.{small_number}
use Rattle.ds_refinement.specs.Handling.{Phase, AtContext, AtAddress, AtLoad, AtPause, AtMove, AtClear, AtWrite, AtJump, AtReturn, index_of, HasBase, IsSet, AreUnits, InHandler, InDouble}
use Rattle.ds_refinement.specs.Copying.{InCopy}
use Rattle.ds_refinement.specs.Stands.{InKernel, OnProcessor, RunningIs, RunningBy, KeptIs, Agrees}

-- Where the processor stands, by what it shows.

-- no word stands at the general vector
not_general : (phase : Phase) → (handler_address (index_of phase) == 0x80000080) ≡ false
not_general AtContext = refl
not_general AtAddress = refl
not_general AtLoad = refl
not_general AtPause = refl
not_general AtMove = refl
not_general AtClear = refl
not_general AtWrite = refl
not_general AtJump = refl
not_general AtReturn = refl

pub in_handler : (phase : Phase) (c : CoreState) (k : Kept) (p : ℕ) (m : State) → InHandler phase c k p m → OnProcessor (is_user c.system) c.slot c k p m
in_handler phase c k p m h =
    subst (λ (b : Bool). OnProcessor b c.slot c k p m) (sym (ap (λ (n : ℕ). bits n 1 1 == 1) h.status))
    (subst (λ (b : Bool). InKernel b (has_left_user c) c k p m) (sym (ap (λ (n : ℕ). n == 0x80000080) h.pc ∙ not_general phase)) (phase, h))

pub in_double : (c : CoreState) (k : Kept) (p : ℕ) (m : State) → c.pc ≡ 0x80000080 → InDouble c k p m → OnProcessor (is_user c.system) c.slot c k p m
in_double c k p m at h =
    subst (λ (b : Bool). OnProcessor b c.slot c k p m) (sym (ap (λ (n : ℕ). bits n 1 1 == 1) h.status))
    (subst (λ (b : Bool). InKernel b (has_left_user c) c k p m) (sym (ap (λ (n : ℕ). n == 0x80000080) at))
    (subst (λ (b : Bool). InKernel true b c k p m) (sym (ap (λ (n : ℕ). bits n 3 1 == 1) h.status)) h))

pub at_general : (c : CoreState) (k : Kept) (p : ℕ) (m : State) → c.pc ≡ 0x80000080 → c.system.status ≡ pushed user_status → InService c p m ⊎ InCopy c k p m → OnProcessor (is_user c.system) c.slot c k p m
at_general c k p m at mode a =
    subst (λ (b : Bool). OnProcessor b c.slot c k p m) (sym (ap (λ (n : ℕ). bits n 1 1 == 1) mode))
    (subst (λ (b : Bool). InKernel b (has_left_user c) c k p m) (sym (ap (λ (n : ℕ). n == 0x80000080) at))
    (subst (λ (b : Bool). InKernel true b c k p m) (sym (ap (λ (n : ℕ). bits n 3 1 == 1) mode)) a))

at_start : (c : CoreState) (k : Kept) (p : ℕ) (m : State) → AtStart c p m → OnProcessor (is_user c.system) c.slot c k p m
at_start c k p m a =
    subst (λ (b : Bool). OnProcessor (is_user c.system) b c k p m) (sym a.first)
    (subst (λ (b : Bool). OnProcessor b false c k p m) (sym (ap (λ (n : ℕ). bits n 1 1 == 1) a.mode)) a)

-- where the monitor is to serve, the processor is in kernel mode at the general vector
both : (user general : Bool) → (not user && general) ≡ true → (user ≡ false) × (general ≡ true)
both true general e = absurd cc
both false true e = (refl, refl)
both false false e = absurd cc

pub served_is : (c : CoreState) → is_served c ≡ true → (is_user c.system ≡ false) × (is_general c ≡ true)
served_is c served = both (is_user c.system) (is_general c) served

-- in kernel mode, where it is not to serve, the processor is away from that vector
pub away_is : (c : CoreState) → is_user c.system ≡ false → is_served c ≡ false → is_general c ≡ false
away_is c user served = sym (ap (λ (b : Bool). not b && is_general c) user) ∙ served

-- somebody is first
pub first_ready : (queue : List ℕ) → queue ≢ [] → (p : ℕ) × (rest : List ℕ) × (queue ≡ p ∷ rest)
first_ready [] some = absurd (some refl)
first_ready (p ∷ rest) some = (p, rest, refl)

-- the machine doesn't see how the station counts
pub own_unseen : (h : Held) (own : Own) (m : State) → Agrees h m → Agrees (record h { own = own }) m
own_unseen h own m k = record {
  represented = k.represented;
  vectors = k.vectors;
  base = k.base;
  grants = k.grants;
  size = k.size;
  kept = k.kept;
  running = k.running;
  devices = k.devices;
}

-- in user mode Status is that of a user
pub mode_of_user : (slot : Bool) (c : CoreState) (k : Kept) (p : ℕ) (m : State) → OnProcessor true slot c k p m → c.system.status ≡ user_status
mode_of_user true c k p m a = a.mode
mode_of_user false c k p m a = a.mode

-- What is kept doesn't show the process that runs.
pub kept_after_put : (p : ℕ) (rest : List ℕ) (k : Kept) (memory : List ℕ) (m : State) (q : Process) → KeptIs (p ∷ rest) k memory m → KeptIs (p ∷ rest) k memory (with_process m p q)
kept_after_put p rest k memory m q a = record {
  ready = a.ready;
  state = ap bare (with_process_again m p q no_process) ∙ a.state;
  pages = a.pages;
  log = a.log;
  lines = a.lines;
}

-- The process is touched, and stands at the beginning of its unit.
module _ (m : State) (p : ℕ) (c : CoreState) (base : Registers) (seat : HasSeat m p) (owed : m.owed ≡ None) (units : AreUnits base p m)
    (mode : c.system.status ≡ user_status) (first : c.slot ≡ false) (at : c.pc ≡ (process_of m p).pc) (next : c.next ≡ word ((process_of m p).pc + 4))
    (registers : c.registers ≡ lent base 0 (process_of m p).pc None) where
  abbrev q : Process
  q = touched_process (process_of m p)

  abbrev after_touch : State
  after_touch = with_process m p q

  put : process_of after_touch p ≡ q
  put = process_put m p q seat

  are_touched : (touched_registers base (process_of m p).pc ≡ (process_of after_touch p).registers)
      ⊎ ((m.owed ≡ None) × ((process_of after_touch p).registers.late ≡ None) × IsLinked (touched_registers base (process_of m p).pc) p after_touch)
  are_touched = elim units [
    | inl same ↦ inl (ap (λ (r : Registers). touched_registers r (process_of m p).pc) same ∙ ap (λ (x : Process). x.registers) (sym put))
    | inr link ↦ elim (touched_link m p base link.target seat link.branched) [
      | inl gone ↦ inl (gone ∙ ap (λ (x : Process). x.registers) (sym put))
      | inr again ↦ inr (owed, ap (λ (x : Process). x.registers.late) put, again)
    ]
  ]

  starts_touched : AtStart c p after_touch
  starts_touched = record {
    mode = mode;
    first = first;
    pc = at ∙ ap (λ (x : Process). x.pc) (sym put);
    next = next ∙ ap (λ (x : Process). word (x.pc + 4)) (sym put);
    registers = subst (λ (r : Registers). (r ≡ (process_of after_touch p).registers) ⊎ ((m.owed ≡ None) × ((process_of after_touch p).registers.late ≡ None) × IsLinked r p after_touch)) (sym registers) are_touched;
  }

-- A station that stands for m, whose first ready process is p.
module _ (h : Held) (m : State) (p : ℕ) (rest : List ℕ) (k : Agrees h m) (ready : h.kept.state.ready ≡ p ∷ rest) where
  pub runs : RunningIs p h.core h.kept m
  runs = subst (λ (rs : List ℕ). RunningBy rs h.core h.kept m) ready k.running

  pub kept : KeptIs (p ∷ rest) h.kept h.bus.memory m
  kept = subst (λ (rs : List ℕ). KeptIs rs h.kept h.bus.memory m) ready k.kept

  pub few : space_of h.kept p < 64
  few = small_number h.kept.spaces p k.represented.spaces

  -- what waits for the monitor, by whether user mode was left
  pub waits : (left : Bool) → is_served h.core ≡ true → has_left_user h.core ≡ left → InKernel true left h.core h.kept p m
  waits left served is =
      let at = served_is h.core served in
      subst (λ (b : Bool). InKernel true b h.core h.kept p m) is
      (subst (λ (b : Bool). InKernel b (has_left_user h.core) h.core h.kept p m) at.1
      (subst (λ (b : Bool). OnProcessor b h.core.slot h.core h.kept p m) at.0 runs.on))

  -- the machine with the process touched
  pub touched_is : touched true m ≡ with_process m p (touched_process (process_of m p))
  touched_is = ap (touch_first m) (k.kept.ready ∙ ready)

  -- for the same state, with the processor in another place and other entries
  pub same_state : (c : CoreState) → BufferHolds c.entries h.kept.spaces h.kept.grants h.kept.tables → HasBase c.system → IsSet c.system (space_of h.kept p)
      → OnProcessor (is_user c.system) c.slot c h.kept p m → Agrees (record h { core = c }) m
  same_state c buffer base set on = record {
    represented = record { buffer = buffer; words = k.represented.words; places = k.represented.places; empty = k.represented.empty; spaces = k.represented.spaces };
    vectors = k.vectors;
    base = base;
    grants = k.grants;
    size = k.size;
    kept = k.kept;
    running = subst (λ (rs : List ℕ). RunningBy rs c h.kept m) (sym ready) (record { seat = runs.seat; standing = runs.standing; kept = runs.kept; line = runs.line; number = runs.number; set = set; on = on });
    devices = k.devices;
  }

  -- for the state with the process touched
  pub stands_after : (c : CoreState) → BufferHolds c.entries h.kept.spaces h.kept.grants h.kept.tables → HasBase c.system → IsSet c.system (space_of h.kept p)
      → OnProcessor (is_user c.system) c.slot c h.kept p (with_process m p (touched_process (process_of m p))) → Agrees (record h { core = c }) (with_process m p (touched_process (process_of m p)))
  stands_after c buffer base set on =
      let q : Process = touched_process (process_of m p) in
      let s : State = with_process m p q in
      let put : process_of s p ≡ q = process_put m p q runs.seat in
      record {
        represented = record { buffer = buffer; words = k.represented.words; places = k.represented.places; empty = k.represented.empty; spaces = k.represented.spaces };
        vectors = k.vectors;
        base = base;
        grants = k.grants;
        size = k.size;
        kept = subst (λ (rs : List ℕ). KeptIs rs h.kept h.bus.memory s) (sym ready) (kept_after_put p rest h.kept h.bus.memory m q kept);
        running = subst (λ (rs : List ℕ). RunningBy rs c h.kept s) (sym ready) (record {
          seat = seat_kept m p q runs.seat;
          standing = ap (λ (x : Process). x.standing) put ∙ runs.standing;
          kept = runs.kept;
          line = ap (λ (x : Process). x.line) put ∙ runs.line;
          number = runs.number;
          set = set;
          on = on;
        });
        devices = k.devices;
      }

  pub as_touched : (g : Held) → Agrees g (with_process m p (touched_process (process_of m p))) → Agrees g (touched true m)
  as_touched g stands = subst (λ (x : State). Agrees g x) (sym touched_is) stands

  -- who is touched is not changed by a touch
  pub touched_already : process_of m p ≡ touched_process (process_of m p) → touched true m ≡ m
  touched_already touch = touched_is ∙ (ap (with_process m p) (sym touch) ∙ with_process-process_of m p)

  -- for the state with the process touched, at the beginning of its unit
  pub touched_state : (c : CoreState) (base : Registers) → m.owed ≡ None → AreUnits base p m → BufferHolds c.entries h.kept.spaces h.kept.grants h.kept.tables → HasBase c.system → IsSet c.system (space_of h.kept p)
      → c.system.status ≡ user_status → c.slot ≡ false → c.pc ≡ (process_of m p).pc → c.next ≡ word ((process_of m p).pc + 4) → c.registers ≡ lent base 0 (process_of m p).pc None
      → Agrees (record h { core = c }) (touched true m)
  touched_state c base owed units buffer tables set mode first at next registers =
      as_touched (record h { core = c }) (stands_after c buffer tables set
      (at_start c h.kept p (with_process m p (touched_process (process_of m p))) (starts_touched m p c base runs.seat owed units mode first at next registers)))
