-- Services that end the unit: the runner leaves, something is done to what is kept, and the first comes in.
use Rattle.std.proofs.Common.{◌≡◌, ℕ, ◌+◌, ◌++◌, ◌⊎◌, Bool, true, false, cond, List, [], ◌∷◌, length, refl, sym, ap, ap₂, subst, ◌∙◌, inl, inr}
use Rattle.std.specs.Prelude.{◌&&◌, not, Option, Some, None, flat_map, is_some}
use Rattle.std.proofs.lemmas.Grind.{flat_map-append}
use Rattle.std.proofs.lemmas.List.{length-append}
use Rattle.ds_log.specs.declared.line.Line.{Line}
use Rattle.ds_log.specs.Text.{line_text}
use Rattle.ds_policy.specs.declared.access.Access.{Access}
use Rattle.ds_policy.specs.declared.access.Rule.{Rule}
use Rattle.ds_policy.specs.declared.access.Verdict.TheVariants.{Denied}
use Rattle.ds_policy.specs.Pages.{decide}
use Rattle.ds_policy.specs.Grants.{PageState}
use Rattle.ds_grants.specs.State.{page_state}
use Rattle.ds_cp0.specs.System.{is_user}
use Rattle.ds_core.specs.Core.{CoreState}
use Rattle.ds_pagemap.specs.declared.turn.Turn.{Turn}
use Rattle.ds_pagemap.specs.Machine.{State, process_of, with_process, touched}
use Rattle.ds_pagemap.specs.Unit.{Stop, unit, denied_as, fault, with_registers}
use Rattle.ds_pagemap.specs.Boundary.{boundary}
use Rattle.ds_pagemap.specs.Run.{half_turn}
use Rattle.ds_pagemap_laws.specs.Settled.{all_settled}
use Rattle.ds_pagemap_laws.proofs.Calls.{parked_settles, after_call_settles}
use Rattle.ds_refinement.specs.declared.cause.Cause.{Cause}
use Rattle.ds_refinement.specs.declared.cause.Cause.TheVariants as cause
use Rattle.ds_refinement.specs.declared.step.Step.TheVariants.{Unit}
use Rattle.ds_refinement.specs.Held.{Held, Kept, no_memory}
use Rattle.ds_refinement.specs.Inner.Held.{whole}
use Rattle.ds_refinement.specs.Copying.{AwaitsCopy, InCopy}
use Rattle.ds_refinement.specs.Units.{is_general, is_served, has_left_user, EndsUnit, InService, Promise, own_of, ends_in_stop, ends_in_call}
use Rattle.ds_refinement.specs.Stands.{Stands, InKernel, OnProcessor}
use Rattle.ds_refinement.specs.Inner.Stands.{IsKept}
use Rattle.ds_refinement.specs.Told.{told, is_delayed, own_in}
use Rattle.ds_refinement.specs.Steps.{Comes, Follows}
use Rattle.ds_refinement.specs.Inner.Services.{Serves, EndsUnitBy, seated}
use Rattle.ds_refinement.specs.Inner.Ends.{EndsInStop, EndsInCall}
use Rattle.ds_refinement.proofs.Late.{never_ends}
use Rattle.ds_refinement.proofs.Seating.{off, leaves, enters, is_whole, running_of}

-- half a turn where no boundary is owed is a unit
pub half_unit : (m : State) → m.owed ≡ None → half_turn false m ≡ unit m
unfolding half_turn
half_unit m o = ap (λ (x : Option Turn). cond (is_some x) (boundary m) (unit m)) o

-- What is done to what is kept is done to the state.
pub serves_kept : (f : State → State) (old new : Kept) (before after : List ℕ) (m : State) → ((s : State) → all_settled (f s) ≡ f (all_settled s))
    → Serves f old before new after → IsKept old before m → IsKept new after (f m)
serves_kept f old new before after m settles s a =
    let is : all_settled (f m) ≡ whole new after (m.log ++ s.lines) = settles m ∙ (ap f (is_whole old before m a) ∙ s.state m.log) in
    let log : (f m).log ≡ m.log ++ s.lines = ap (λ (x : State). x.log) is in
    record {
      state =
          ap (λ (x : State). record x { memory = no_memory; log = [] }) is
          ∙ ap₂ (λ (memory : PageState) (lines : List Line). record new.state { memory = memory; log = lines }) (sym s.bare.memory) (sym s.bare.log);
      pages = ap (λ (x : State). x.memory) is;
      log =
          ap (flat_map line_text) log
          ∙ (flat_map-append line_text m.log s.lines
          ∙ (ap (λ (t : List ℕ). t ++ flat_map line_text s.lines) a.log
          ∙ sym s.text));
      lines =
          ap (λ (ls : List Line). length ls) log
          ∙ (length-append m.log s.lines
          ∙ (ap (λ (n : ℕ). n + length s.lines) a.lines
          ∙ sym s.count));
    }

pub service : (f : State → State) (h new : Held) (m : State) (p : ℕ) (rest : List ℕ) → ((s : State) → all_settled (f s) ≡ f (all_settled s))
    → Stands h m → h.kept.state.ready ≡ p ∷ rest → m.owed ≡ None → unit m ≡ f (with_process m p (off h.core (process_of m p)))
    → EndsUnitBy f h new → Comes Unit new m
service f h new m p rest settles k ready owed is ends =
    let all : IsKept new.kept new.bus.memory (f (with_process m p (off h.core (process_of m p)))) =
    serves_kept f (seated h.core h.kept) new.kept h.bus.memory new.bus.memory _ settles ends.serves (leaves h m p rest k.agrees ready) in
    let here : IsKept new.kept new.bus.memory (unit m) = subst (IsKept new.kept new.bus.memory) (sym is) all in
    let some : m.ready ≡ [] → ⊥ = λ (e : m.ready ≡ []). (let no : p ∷ rest ≡ [] = sym (k.agrees.kept.ready ∙ ready) ∙ e in cc) in (
      touched true (unit m),
      (owed, some, (false, true, ap (touched true) (sym (half_unit m owed)))),
      enters new (unit m) here ends.represented ends.vectors ends.base ends.grants (ends.size ∙ k.agrees.size) ends.devices ends.none ends.ranges ends.enters,
    )

-- The service of what was told.

-- who is served is in kernel mode, at the general vector
pub served_parts : (user general : Bool) → (not user && general) ≡ true → (user ≡ false) × (general ≡ true)
served_parts true general served = absurd (cc)
served_parts false general served = (refl, served)

-- what waits there, by whether it came from user mode
pub served_kernel : (h : Held) (m : State) (p : ℕ) (rest : List ℕ) → Stands h m → h.kept.state.ready ≡ p ∷ rest → is_served h.core ≡ true
    → InKernel true (has_left_user h.core) h.core h.kept p m
served_kernel h m p rest k ready served =
    let parts = served_parts (is_user h.core.system) (is_general h.core) served in
    subst (λ (general : Bool). InKernel general (has_left_user h.core) h.core h.kept p m) parts.1
    (subst (λ (user : Bool). OnProcessor user h.core.slot h.core h.kept p m) parts.0 (running_of h m p rest k.agrees ready).on)

in_service : (h : Held) (m : State) (p : ℕ) (rest : List ℕ) → Stands h m → h.kept.state.ready ≡ p ∷ rest → is_served h.core ≡ true → has_left_user h.core ≡ true → InService h.core p m ⊎ InCopy h.core h.kept p m
in_service h m p rest k ready served left = subst (λ (up : Bool). InKernel true up h.core h.kept p m) left (served_kernel h m p rest k ready served)

-- what is told ends its unit, as it is told over the pages that are held, or a store waits for a copy
abbrev Stops : Held → ℕ → Type 0
Stops h p = EndsUnit (page_state h.kept.grants h.bus.memory) p h.core.system.bad_vaddr (told h.core.system (page_state h.kept.grants h.bus.memory) p)

pub waiting_ends : (h : Held) (m : State) (p : ℕ) (rest : List ℕ) → Stands h m → h.kept.state.ready ≡ p ∷ rest → is_served h.core ≡ true → has_left_user h.core ≡ true
    → EndsUnit (page_state h.kept.grants h.bus.memory) p h.core.system.bad_vaddr (told h.core.system (page_state h.kept.grants h.bus.memory) p) ⊎ AwaitsCopy h.core.system h.kept.grants p
waiting_ends h m p rest k ready served left = elim (in_service h m p rest k ready served left) [
  | inl a ↦ inl (subst (λ (s : PageState). EndsUnit s p h.core.system.bad_vaddr (told h.core.system s p)) k.agrees.kept.pages a.ends)
  | inr late ↦ inr late.waits
]

-- where it ends the unit, no store waits
stopping : (h : Held) (m : State) (p : ℕ) (rest : List ℕ) → Stands h m → h.kept.state.ready ≡ p ∷ rest → is_served h.core ≡ true → has_left_user h.core ≡ true → Stops h p → InService h.core p m
stopping h m p rest k ready served left stops = elim (in_service h m p rest k ready served left) [
  | inl a ↦ a
  | inr late ↦ absurd (never_ends h.core.system h.kept.grants p late.waits (page_state h.kept.grants h.bus.memory) refl stops)
]

-- and where a store waits, the unit is not ended
pub copying : (h : Held) (m : State) (p : ℕ) (rest : List ℕ) → Stands h m → h.kept.state.ready ≡ p ∷ rest → is_served h.core ≡ true → has_left_user h.core ≡ true → AwaitsCopy h.core.system h.kept.grants p → InCopy h.core h.kept p m
copying h m p rest k ready served left waits = elim (in_service h m p rest k ready served left) [
  | inl a ↦ absurd (never_ends h.core.system h.kept.grants p waits m.memory (ap (λ (s : PageState). s.table) k.agrees.kept.pages) a.ends)
  | inr late ↦ late
]

-- the process in its seat stands at the unit's address, and only its registers are the processor's
seat_is : (c : CoreState) (m : State) (p : ℕ) → is_user c.system ≡ false → InService c p m → with_registers m p c.registers ≡ with_process m p (off c (process_of m p))
seat_is c m p user a =
    ap (λ (n : ℕ). with_process m p (record (process_of m p) { registers = c.registers; pc = n }))
    (sym (ap (λ (b : Bool). cond b c.pc c.system.epc) user ∙ a.epc))

-- what was promised, by what is held
promised : (h : Held) (m : State) (p : ℕ) (why : Cause) → m.memory ≡ page_state h.kept.grants h.bus.memory → InService h.core p m
    → told h.core.system (page_state h.kept.grants h.bus.memory) p ≡ why
    → Promise why h.core.system.bad_vaddr (is_delayed h.core.system) h.core.system.epc p m (with_registers m p h.core.registers)
promised h m p why pages a is =
    let s : State = with_registers m p h.core.registers in
    subst (λ (n : ℕ). Promise why h.core.system.bad_vaddr (is_delayed h.core.system) n p m s) (sym a.epc)
    (subst (λ (w : Cause). Promise w h.core.system.bad_vaddr (is_delayed h.core.system) (process_of m p).pc p m s)
    (ap (λ (x : PageState). told h.core.system x p) pages ∙ is) a.promise)

module _ (h new : Held) (p : ℕ) (rest : List ℕ) (ready : h.kept.state.ready ≡ p ∷ rest) (served : is_served h.core ≡ true) (left : has_left_user h.core ≡ true) where
  -- the service follows wherever the unit is what it does, as the promise has it
  by_promise : (f : State → State) (why : Cause) → EndsUnit (page_state h.kept.grants h.bus.memory) p h.core.system.bad_vaddr why → ((s : State) → all_settled (f s) ≡ f (all_settled s))
      → told h.core.system (page_state h.kept.grants h.bus.memory) p ≡ why
      → ((m : State) → m.memory ≡ page_state h.kept.grants h.bus.memory → Promise why h.core.system.bad_vaddr (is_delayed h.core.system) h.core.system.epc p m (with_registers m p h.core.registers) → unit m ≡ f (with_registers m p h.core.registers))
      → EndsUnitBy f h new → Follows Unit h new
  by_promise f why stops settles is keeps ends = record {
    follows = λ m k.
        let a : InService h.core p m = stopping h m p rest k ready served left (subst (EndsUnit (page_state h.kept.grants h.bus.memory) p h.core.system.bad_vaddr) (sym is) stops) in
        let user : is_user h.core.system ≡ false = (served_parts (is_user h.core.system) (is_general h.core) served).0 in
        let unit_is : unit m ≡ f (with_registers m p h.core.registers) = keeps m k.agrees.kept.pages (promised h m p why k.agrees.kept.pages a is) in
        service f h new m p rest settles k ready a.owed (unit_is ∙ ap f (seat_is h.core m p user a)) ends;
  }

  stop_settles : (at pc : ℕ) (stop : Stop) (s : State) → all_settled (ends_in_stop p at pc stop s) ≡ ends_in_stop p at pc stop (all_settled s)
  stop_settles at pc stop s = ap (λ (x : State). record x { owed = Some (record { began = s.time; runner = Some p }) }) (parked_settles s p at pc stop)

  pub denied_ends : (access : Access) (rule : Rule) (code : ℕ) → told h.core.system (page_state h.kept.grants h.bus.memory) p ≡ cause.Access access
      → decide h.kept.grants.table p access.kind access.size h.core.system.bad_vaddr ≡ Denied rule code
      → EndsInStop p (record { kind = denied_as access.kind; address = h.core.system.bad_vaddr; rule = rule; code = code }) h new → Follows Unit h new
  denied_ends access rule code is denied = by_promise _ (cause.Access access) (rule, code, denied) (stop_settles h.core.system.epc (own_in h.core.system) _) is
      (λ m pages promise. promise rule code (ap (λ (s : PageState). decide s.table p access.kind access.size h.core.system.bad_vaddr) pages ∙ denied))

  pub fault_ends : (code : ℕ) → told h.core.system (page_state h.kept.grants h.bus.memory) p ≡ cause.Fault code
      → EndsInStop p (fault (own_in h.core.system) code) h new → Follows Unit h new
  fault_ends code is = by_promise _ (cause.Fault code) tt (stop_settles h.core.system.epc (own_in h.core.system) _) is (λ m pages promise. promise)

  abbrev PromisedCall : Bool → State → Type 0
  PromisedCall delayed m = Promise cause.Call h.core.system.bad_vaddr delayed h.core.system.epc p m (with_registers m p h.core.registers)

  slot_promise : (delayed : Bool) (m : State) → delayed ≡ true → PromisedCall delayed m
      → unit m ≡ ends_in_stop p h.core.system.epc (own_of delayed h.core.system.epc) (fault (own_of delayed h.core.system.epc) 8) (with_registers m p h.core.registers)
  slot_promise true m e promise = promise
  slot_promise false m e promise = absurd (cc)

  call_promise : (delayed : Bool) (m : State) → delayed ≡ false → PromisedCall delayed m → unit m ≡ ends_in_call p h.core.system.epc (with_registers m p h.core.registers)
  call_promise false m e promise = promise
  call_promise true m e promise = absurd (cc)

  pub slot_ends : told h.core.system (page_state h.kept.grants h.bus.memory) p ≡ cause.Call → is_delayed h.core.system ≡ true
      → EndsInStop p (fault (own_in h.core.system) 8) h new → Follows Unit h new
  slot_ends is delayed = by_promise _ cause.Call tt (stop_settles h.core.system.epc (own_in h.core.system) _) is
      (λ m pages promise. slot_promise (is_delayed h.core.system) m delayed promise)

  call_settles : (s : State) → all_settled (ends_in_call p h.core.system.epc s) ≡ ends_in_call p h.core.system.epc (all_settled s)
  call_settles s = ap (λ (x : State). record x { owed = Some (record { began = s.time; runner = Some p }) }) (after_call_settles s p h.core.system.epc)

  pub call_ends : told h.core.system (page_state h.kept.grants h.bus.memory) p ≡ cause.Call → is_delayed h.core.system ≡ false
      → EndsInCall p h new → Follows Unit h new
  call_ends is delayed = by_promise _ cause.Call tt call_settles is (λ m pages promise. call_promise (is_delayed h.core.system) m delayed promise)
