-- What a miss and a refused store tell of the unit.
use Rattle.std.proofs.Common.{◌≡◌, ◌≢◌, ℕ, ◌/◌, ◌%◌, ◌<◌, ◌^◌, Bool, true, false, cond, List, ◌∷◌, refl, sym, ap, ap₂, subst, ◌∙◌, arith, inl, inr, get_or}
use Rattle.std.proofs.lemmas.Bool.Decides.{nat_tests}
use Rattle.std.proofs.lemmas.Option.{slice_get-get_or}
use Rattle.std.proofs.lemmas.List.Quantifiers.{position-Some}
use Rattle.std.specs.Prelude.{Option, Some, None, Ok, Err, not, nat_lt, nat_le, ◌&&◌, ◌==◌, slice_get, unwrap_or}
use Rattle.ds_word.specs.Word.{bits}
use Rattle.ds_word.specs.Bytes.{word_at}
use Rattle.ds_isa.specs.declared.instr.Size.{Size}
use Rattle.ds_isa.specs.declared.instr.Size.TheVariants.{Word}
use Rattle.ds_isa.specs.declared.instr.Kind.{Kind}
use Rattle.ds_isa.specs.declared.instr.Kind.TheVariants as kind
use Rattle.ds_isa.specs.Access.{is_store, is_aligned}
use Rattle.ds_policy.specs.Pages.{decide, bytes_of}
use Rattle.ds_policy.specs.Grants.{PageState}
use Rattle.ds_tlb.specs.declared.entry.Entry.{Entry}
use Rattle.ds_tlb.specs.Entries.{find, matches, random_after}
use Rattle.ds_amap.specs.declared.map.Physical.{Physical}
use Rattle.ds_amap.specs.declared.map.Fault.{Fault}
use Rattle.ds_amap.specs.declared.map.Fault.TheVariants.{Address, Refill, Invalid, Modified}
use Rattle.ds_amap.specs.Map.{through, through_slot, through_found, is_modified, is_usable, is_direct, is_user as map_user}
use Rattle.ds_cp0.specs.declared.exception.Exception.{Exception}
use Rattle.ds_cp0.specs.declared.exception.ExceptionCode.{ExceptionCode}
use Rattle.ds_cp0.specs.declared.exception.ExceptionCode.TheVariants.{Interrupt, Modification, LoadMiss, StoreMiss, LoadAddress, StoreAddress, FetchBus, DataBus, SystemCall, Breakpoint, ReservedInstruction, CoprocessorUnusable, Overflow}
use Rattle.ds_cp0.specs.Codes.{is_translation, code_number}
use Rattle.ds_cp0.specs.System.{System, entered, asid_of, is_user, is_kuseg, pushed, with_field}
use Rattle.ds_core.specs.declared.event.Event.TheVariants as event
use Rattle.ds_core.specs.Core as core
use Rattle.ds_core.specs.Core.{CoreState, core_at_vector, with_tick, trapped}
use Rattle.ds_core.specs.Access.{reached, access_exception, code_of, is_refill, mode_of}
use Rattle.ds_core.specs.Effect as whole
use Rattle.ds_pagemap.specs.Machine.{State, process_of}
use Rattle.ds_pagemap.specs.Unit.{instruction, with_registers}
use Rattle.ds_refinement.specs.Held.{Held, space_of}
use Rattle.ds_refinement.specs.Units.{user_status}
use Rattle.ds_refinement.specs.Stands.{OnProcessor, RunningIs, RunningBy, KeptIs, Agrees}
use Rattle.ds_refinement.proofs.Frames.{word_of_page}
use Rattle.ds_refinement.proofs.Late.{page_below, shows_store}
use Rattle.ds_refinement.proofs.Lookups.{user_reaches}
use Rattle.ds_refinement.proofs.Fields.{space_set}
use Rattle.ds_refinement.proofs.Standing.{few}
use Rattle.ds_refinement.proofs.Registers.{registers_put, registers_same}
use Rattle.ds_refinement.proofs.Links.{branches_again}
use Rattle.ds_refinement.specs.Told.{code_in}
use Rattle.ds_refinement.proofs.Exceptions.{code_told, space_told, status_told}
use Rattle.ds_refinement.proofs.Resting.{rests}
use Rattle.ds_refinement.specs.Course.{Ask, Fetch, Slot, Access, asked, UnitPlace, Begun, InItsSlot, AtWord, AtModification, AtService, Work, Course}
use Rattle.ds_refinement.specs.Inner.CourseSteps.{counted as counted_work, IsUsers, Next, Branches, Misses, MissesInSlot, Modifies, Traps}
use Rattle.ds_refinement.specs.Counts.{Counts, one_more, place_by, work_of, course_of}
use Rattle.ds_refinement.specs.Needs.{page_of_address, asked_at, data_page, pages_of_unit}
use Rattle.ds_refinement.specs.Inner.Asks.{Fetches, Asks, IsRefused, Turns, Leaves, IsUnitStep, IsMissed, IsModified, TellsClean}
use Rattle.ds_refinement.proofs.Walk.{does}
use Rattle.ds_refinement.proofs.Needed.{no_branch, first_asks, slot_asks}

-- What the buffer refused.

-- the entry of the slot that is found
pub found_at : (entries : List Entry) (vpn asid slot : ℕ) → find entries vpn asid ≡ Some slot → (e : Entry) × (slice_get entries slot ≡ Some e)
found_at entries vpn asid slot found =
    let e : Entry = record { vpn = 0; asid = 0; pfn = 0; n = false; d = false; v = false; g = false } in
    let within = (position-Some (matches vpn asid) entries slot e found).0 in
    (get_or entries slot e, slice_get-get_or entries slot e within)

through_none : (v modified : Bool) (place : Physical) → cond (not v) (Err Invalid) (cond modified (Err Modified) (Ok place)) ≡ Err Refill → ⊥
through_none false modified place is = absurd cc
through_none true false place is = absurd cc
through_none true true place is = absurd cc

missed_found : (entries : List Entry) (vpn asid : ℕ) (access : Kind) (address : ℕ) (f : Option ℕ) → find entries vpn asid ≡ f → through_found entries f access address ≡ Err Refill → f ≡ None
missed_found entries vpn asid access address None found is = refl
missed_found entries vpn asid access address (Some slot) found is =
    let e = found_at entries vpn asid slot found in
    let there : through e.0 access address ≡ Err Refill = sym (ap (λ (o : Option Entry). through_slot o access address) e.1) ∙ is in
    absurd (through_none e.0.v (is_modified e.0 access) _ there)

missed_by : (entries : List Entry) (asid : ℕ) (access : Kind) (address : ℕ) (aligned unusable direct : Bool) (place : Physical)
    → cond (not aligned) (Err Address) (cond unusable (Err Address) (cond direct (Ok place) (through_found entries (find entries (address / 2 ^ 12) asid) access address))) ≡ Err Refill
    → find entries (address / 2 ^ 12) asid ≡ None
missed_by entries asid access address false unusable direct place is = absurd cc
missed_by entries asid access address true true direct place is = absurd cc
missed_by entries asid access address true false true place is = absurd cc
missed_by entries asid access address true false false place is = missed_found entries (address / 2 ^ 12) asid access address (find entries (address / 2 ^ 12) asid) refl is

pub missed : (c : CoreState) (access : Kind) (size : Size) (address : ℕ) → reached c access size address ≡ Err Refill → find c.entries (address / 2 ^ 12) (asid_of c.system) ≡ None
missed c access size address is =
    missed_by c.entries (asid_of c.system) access address (is_aligned size address) (not (is_usable (mode_of c.system) address)) (is_direct address) _ is

-- a store that was refused
abbrev Clean : List Entry → ℕ → ℕ → Type 0
Clean entries vpn asid = (slot : ℕ) × (entry : Entry) × (find entries vpn asid ≡ Some slot) × (slice_get entries slot ≡ Some entry) × (entry.d ≡ false)

through_clean : (v d : Bool) (access : Kind) (place : Physical) → cond (not v) (Err Invalid) (cond (is_store access && not d) (Err Modified) (Ok place)) ≡ Err Modified → (d ≡ false) × (access ≡ kind.Store)
through_clean false d access place is = absurd cc
through_clean true d kind.Fetch place is = absurd cc
through_clean true d kind.Load place is = absurd cc
through_clean true true kind.Store place is = absurd cc
through_clean true false kind.Store place is = (refl, refl)

modified_found : (entries : List Entry) (vpn asid : ℕ) (access : Kind) (address : ℕ) (f : Option ℕ) → find entries vpn asid ≡ f → through_found entries f access address ≡ Err Modified → Clean entries vpn asid × (access ≡ kind.Store)
modified_found entries vpn asid access address None found is = absurd cc
modified_found entries vpn asid access address (Some slot) found is =
    let e = found_at entries vpn asid slot found in
    let there : through e.0 access address ≡ Err Modified = sym (ap (λ (o : Option Entry). through_slot o access address) e.1) ∙ is in
    let clean = through_clean e.0.v e.0.d access _ there in
    ((slot, e.0, found, e.1, clean.0), clean.1)

modified_by : (entries : List Entry) (asid : ℕ) (access : Kind) (address : ℕ) (aligned unusable direct : Bool) (place : Physical)
    → cond (not aligned) (Err Address) (cond unusable (Err Address) (cond direct (Ok place) (through_found entries (find entries (address / 2 ^ 12) asid) access address))) ≡ Err Modified
    → Clean entries (address / 2 ^ 12) asid × (access ≡ kind.Store) × (unusable ≡ false)
modified_by entries asid access address false unusable direct place is = absurd cc
modified_by entries asid access address true true direct place is = absurd cc
modified_by entries asid access address true false true place is = absurd cc
modified_by entries asid access address true false false place is =
    let f = modified_found entries (address / 2 ^ 12) asid access address (find entries (address / 2 ^ 12) asid) refl is in
    (f.0, f.1, refl)

modified : (c : CoreState) (access : Kind) (size : Size) (address : ℕ) → reached c access size address ≡ Err Modified
    → Clean c.entries (address / 2 ^ 12) (asid_of c.system) × (access ≡ kind.Store) × (not (is_usable (mode_of c.system) address) ≡ false)
modified c access size address is =
    modified_by c.entries (asid_of c.system) access address (is_aligned size address) (not (is_usable (mode_of c.system) address)) (is_direct address) _ is

-- What the vector and the code tell.

-- only a miss in the user's half goes on at 80000000
by_vector : (miss low : Bool) → ◌≡◌ {A = ℕ} (cond (miss && low) 0x80000000 0x80000080) 0x80000000 → (miss ≡ true) × (low ≡ true)
by_vector true true is = (refl, refl)
by_vector true false is = absurd (omega arith)
by_vector false low is = absurd (omega arith)

refill_is : (f : Fault) → is_refill f ≡ true → f ≡ Refill
refill_is Refill is = refl
refill_is Address is = absurd cc
refill_is Invalid is = absurd cc
refill_is Modified is = absurd cc

modified_is : (f : Fault) (store : Bool) → code_of f store ≡ Modification → f ≡ Modified
modified_is Modified store is = refl
modified_is Address true is = absurd cc
modified_is Address false is = absurd cc
modified_is Refill true is = absurd cc
modified_is Refill false is = absurd cc
modified_is Invalid true is = absurd cc
modified_is Invalid false is = absurd cc

-- a user's address lies in the lower half
lower : (high user : Bool) → user ≡ true → not (not (high && user)) ≡ false → high ≡ false
lower true true u e = absurd cc
lower true false u e = absurd cc
lower false user u e = refl

mode_user : (s : System) → is_user s ≡ true → map_user (mode_of s) ≡ true
mode_user s user = rw user refl

-- EntryHi names the page
page_in : (w a : ℕ) → nat_lt a (2 ^ 31) ≡ true → bits (with_field w 12 20 (bits a 12 20)) 12 20 ≡ a / 2 ^ 12
page_in w a low = let below : a < 2 ^ 31 = grind (arith, nat_tests) in omega (arith, below)

pub shows : (c : CoreState) (access : Kind) (address : ℕ) → (entered c.system (access_exception c access address Refill)).entry_hi ≡ with_field c.system.entry_hi 12 20 (bits address 12 20)
shows c kind.Fetch address = refl
shows c kind.Load address = refl
shows c kind.Store address = refl

raised_alike : (a b : ExceptionCode) → event.Raised a ≡ event.Raised b → a ≡ b
raised_alike a b e = cc

code_1 : (code : ExceptionCode) → (code_number code == 1) ≡ true → code ≡ Modification
code_1 Modification is = refl
code_1 Interrupt is = absurd cc
code_1 LoadMiss is = absurd cc
code_1 StoreMiss is = absurd cc
code_1 LoadAddress is = absurd cc
code_1 StoreAddress is = absurd cc
code_1 FetchBus is = absurd cc
code_1 DataBus is = absurd cc
code_1 SystemCall is = absurd cc
code_1 Breakpoint is = absurd cc
code_1 ReservedInstruction is = absurd cc
code_1 CoprocessorUnusable is = absurd cc
code_1 Overflow is = absurd cc

-- The station stands for m, and the first ready process is in its unit.
module _ (h : Held) (m : State) (p : ℕ) (rest : List ℕ) (k : Agrees h m) (ready : h.kept.state.ready ≡ p ∷ rest) (user : is_user h.core.system ≡ true) (s : core.Step) (is : s ≡ whole.step h.core h.bus) where
  kept : KeptIs (p ∷ rest) h.kept h.bus.memory m
  kept = subst (λ (rs : List ℕ). KeptIs rs h.kept h.bus.memory m) ready k.kept

  running : RunningIs p h.core h.kept m
  running = subst (λ (rs : List ℕ). RunningBy rs h.core h.kept m) ready k.running

  on : OnProcessor true h.core.slot h.core h.kept p m
  on = subst (λ (b : Bool). OnProcessor b h.core.slot h.core h.kept p m) user running.on

  mode : h.core.system.status ≡ user_status
  mode = by_slot h.core.slot on
    where
      by_slot : (slot : Bool) → OnProcessor true slot h.core h.kept p m → h.core.system.status ≡ user_status
      by_slot true a = a.mode
      by_slot false a = a.mode

  -- the process with the processor's registers
  abbrev here : State
  here = with_registers m p h.core.registers

  fetches : (place : Physical) → reached h.core kind.Fetch Word h.core.pc ≡ Ok place → Fetches h.core h.bus here p place.0
  fetches place reaches =
      let space : asid_of h.core.system ≡ space_of h.kept p = space_set h.core.system.entry_hi (space_of h.kept p) running.set.space (few h m p rest k ready) in
      let a = user_reaches h.core h.kept p user k.represented.buffer k.grants running.seat.0 running.number space kind.Fetch Word h.core.pc place reaches in
      record {
        page = a.page;
        offset = h.core.pc % 4096;
        allowed = ap (λ (s : PageState). decide s.table p kind.Fetch Word h.core.pc) kept.pages ∙ a.allowed;
        same = ap (λ (s : PageState). word_at (bytes_of s.pages a.page) (h.core.pc % 4096)) kept.pages
            ∙ (sym (word_of_page h.kept.grants h.bus.memory a.page (h.core.pc % 4096) a.lives a.low k.grants k.size (omega arith)) ∙ ap (word_at h.bus.memory) (sym a.lies));
        small = a.small;
      }

  does_here : IsUnitStep h.core here p s
  does_here =
      let quiet : whole.step h.core h.bus ≡ with_tick (whole.instruction_step h.core h.bus) =
      ap (λ (b : Bool). cond b (trapped h.core h.bus Interrupt) (with_tick (whole.instruction_step h.core h.bus))) (rests h.bus h.kept h.core.system k.devices mode) in
      subst (IsUnitStep h.core here p) (sym (is ∙ quiet)) (does h.core h.bus here p (sym (registers_put m p h.core.registers running.seat)) mode fetches)

  leaves_here : (code : ExceptionCode) → s.event ≡ event.Raised code → Leaves h.core here p s
  leaves_here code raised = by_does does_here
    where
      by_does : IsUnitStep h.core here p s → Leaves h.core here p s
      by_does (inl r) = let wrong : event.Retired ≡ event.Raised code = sym r.event ∙ raised in absurd cc
      by_does (inr (inl t)) = let wrong : event.Branched ≡ event.Raised code = sym t.event ∙ raised in absurd cc
      by_does (inr (inr l)) = l

  -- the data that the instruction asks for is the unit's
  data_asked : (page : ℕ) → asked_at here p h.core.pc ≡ Some page → data_page m p ≡ Some page
  data_asked page asks = by_slot h.core.slot on
    where
      by_slot : (slot : Bool) → OnProcessor true slot h.core h.kept p m → data_page m p ≡ Some page
      by_slot true a = slot_asks m here p h.core.next page a.branched (ap (asked_at here p) (sym a.pc) ∙ asks)
      by_slot false a = elim a.registers [
        | inl same ↦ first_asks m p page (ap (asked_at m p) (sym a.pc) ∙ (ap (λ (t : State). asked_at t p h.core.pc) (sym (registers_same m p h.core.registers same)) ∙ asks))
        | inr again ↦ absurd (no_branch here p h.core.pc page _ again.2.target asks
            (ap (instruction here p) a.pc ∙ (branches_again m p (process_of m p).pc h.core.registers again.2.target running.seat again.1 again.2.branched ∙ again.2.branched)))
      ]

  data_is : (page : ℕ) → asked_at here p h.core.pc ≡ Some page → (pages_of_unit m p).access ≡ page
  data_is page asks = ap (λ (o : Option ℕ). unwrap_or o 0) (data_asked page asks)

  -- what the unit asks for by an access
  ask_by : (access : Kind) (address : ℕ) → Asks access h.core here p address → (ask : Ask) × (h.core.slot ≡ true → ask ≢ Fetch) × (asked (pages_of_unit m p) ask ≡ page_of_address address)
  ask_by kind.Fetch address asks = by_slot h.core.slot refl on
    where
      by_slot : (slot : Bool) → h.core.slot ≡ slot → OnProcessor true slot h.core h.kept p m → (ask : Ask) × (h.core.slot ≡ true → ask ≢ Fetch) × (asked (pages_of_unit m p) ask ≡ page_of_address address)
      by_slot true e a = (Slot, (λ _. (λ (f : Slot ≡ Fetch). cc)), ap page_of_address (sym (asks ∙ a.pc)))
      by_slot false e a = (Fetch, (λ t. (let wrong : false ≡ true = sym e ∙ t in absurd cc)), ap page_of_address (sym (asks ∙ a.pc)))
  ask_by kind.Load address asks = (Access, (λ _. (λ (f : Access ≡ Fetch). cc)), data_is (page_of_address address) asks)
  ask_by kind.Store address asks = (Access, (λ _. (λ (f : Access ≡ Fetch). cc)), data_is (page_of_address address) asks)

  missed_of : (what : Exception) → IsRefused h.core here p what → what.miss ≡ true → is_kuseg what.addr ≡ true → s.core.system ≡ entered h.core.system what
      → IsMissed h.core.slot (pages_of_unit m p) h.core.entries (asid_of h.core.system) s.core.system
  missed_of what r misses low there =
      let refill : r.fault ≡ Refill = refill_is r.fault (sym (ap (λ (e : Exception). e.miss) r.is) ∙ misses) in
      let below : nat_lt r.address (2 ^ 31) ≡ true = sym (ap (λ (e : Exception). is_kuseg e.addr) r.is) ∙ low in
      let a = ask_by r.kind r.address r.asks in
      let none = missed h.core r.kind r.size r.address (r.reaches ∙ ap (λ (f : Fault). Err f) refill) in
      record {
        ask = a.0;
        fits = a.1;
        page = ap (λ (t : System). bits t.entry_hi 12 20) (there ∙ ap (entered h.core.system) (r.is ∙ ap (access_exception h.core r.kind r.address) refill))
            ∙ (ap (λ (w : ℕ). bits w 12 20) (shows h.core r.kind r.address) ∙ (page_in h.core.system.entry_hi r.address below ∙ sym a.2));
        none = subst (λ (page : ℕ). find h.core.entries page (asid_of h.core.system) ≡ None) (sym a.2) none;
      }

  -- a miss is of a page that the unit asks for
  pub miss_asks : (code : ExceptionCode) → s.event ≡ event.Raised code → s.core.pc ≡ 0x80000000 → IsMissed h.core.slot (pages_of_unit m p) h.core.entries (asid_of h.core.system) s.core.system
  miss_asks code raised at =
      let l = leaves_here code raised in
      let tells = by_vector l.what.miss (is_kuseg l.what.addr) (sym (ap (λ (c : CoreState). c.pc) l.core) ∙ at) in
      elim l.from [
        | inl r ↦ missed_of l.what r tells.0 tells.1 (ap (λ (c : CoreState). c.system) l.core)
        | inr none ↦ (let wrong : false ≡ true = sym (ap is_kuseg none.0) ∙ tells.1 in absurd cc)
      ]

  modified_of : (what : Exception) → IsRefused h.core here p what → what.code ≡ Modification → s.core.system ≡ entered h.core.system what → IsModified (pages_of_unit m p) h.core.entries (asid_of h.core.system) s.core.system
  modified_of what r code there =
      let fault : r.fault ≡ Modified = modified_is r.fault (is_store r.kind) (sym (ap (λ (e : Exception). e.code) r.is) ∙ code) in
      let clean = modified h.core r.kind r.size r.address (r.reaches ∙ ap (λ (f : Fault). Err f) fault) in
      let asks : asked_at here p h.core.pc ≡ Some (page_of_address r.address) = subst (λ (access : Kind). Asks access h.core here p r.address) clean.1 r.asks in
      let page = data_is (page_of_address r.address) asks in
      let below = lower (nat_le (2 ^ 31) r.address) (map_user (mode_of h.core.system)) (mode_user h.core.system user) clean.2 in
      of_clean r.address page
      (ap (λ (t : System). bits t.entry_hi 12 20) (there ∙ ap (entered h.core.system) (r.is ∙ ap (access_exception h.core r.kind r.address) fault))
      ∙ (ap (λ (w : ℕ). bits w 12 20) (shows_store h.core r.kind r.address) ∙ (page_below h.core.system.entry_hi r.address below ∙ sym page))) clean.0
    where
      of_clean : (address : ℕ) → (pages_of_unit m p).access ≡ page_of_address address → bits s.core.system.entry_hi 12 20 ≡ (pages_of_unit m p).access → Clean h.core.entries (page_of_address address) (asid_of h.core.system)
          → IsModified (pages_of_unit m p) h.core.entries (asid_of h.core.system) s.core.system
      of_clean address page hi clean = record {
        page = hi;
        slot = clean.0;
        entry = clean.1;
        found = ap (λ (n : ℕ). find h.core.entries n (asid_of h.core.system)) page ∙ clean.2;
        at = clean.3;
        clean = clean.4;
      }

  -- and a refused store is of the data's page
  pub store_asks : s.event ≡ event.Raised Modification → IsModified (pages_of_unit m p) h.core.entries (asid_of h.core.system) s.core.system
  store_asks raised =
      let l = leaves_here Modification raised in
      let code : l.what.code ≡ Modification = raised_alike l.what.code Modification (sym l.event ∙ raised) in
      elim l.from [
        | inl r ↦ modified_of l.what r code (ap (λ (c : CoreState). c.system) l.core)
        | inr none ↦ (let wrong : true ≡ false = sym (ap is_translation code) ∙ none.1 in absurd cc)
      ]

  -- What the unit does next.

  -- the course of the unit, with these counts and words
  module _ (n : Counts) (dirty : ℕ → Bool) where
    abbrev before : Course
    before = course_of h.core n dirty (pages_of_unit m p)

    abbrev after : Course
    after = course_of s.core (one_more n) dirty (pages_of_unit m p)

    at_start : h.core.slot ≡ false → before.place ≡ Begun
    at_start outside = ap₂ (λ (a b : Bool). place_by a b (h.core.pc == 0x80000080) (bits h.core.system.status 3 1 == 1) (code_in h.core.system == 1) h.core.pc) user outside

    in_slot : h.core.slot ≡ true → before.place ≡ InItsSlot
    in_slot inside = ap₂ (λ (a b : Bool). place_by a b (h.core.pc == 0x80000080) (bits h.core.system.status 3 1 == 1) (code_in h.core.system == 1) h.core.pc) user inside

    users : IsUsers before.place
    users = by_slot h.core.slot refl
      where
        by_slot : (slot : Bool) → h.core.slot ≡ slot → IsUsers before.place
        by_slot true e = inr (in_slot e)
        by_slot false e = inl (at_start e)

    turns : Turns h.core s → Next before after
    turns t = Branches (at_start t.outside) (ap (λ (c : CoreState). course_of c (one_more n) dirty (pages_of_unit m p)) t.core
        ∙ ap (λ (b : Bool). record {
          place = place_by b true (h.core.next == 0x80000080) (bits h.core.system.status 3 1 == 1) (code_in h.core.system == 1) h.core.next;
          page = before.page;
          work = counted_work before.work;
        }) user)

    -- after an exception
    module _ (l : Leaves h.core here p s) where
      abbrev gone : System
      gone = entered h.core.system l.what

      gone_is : s.core.system ≡ gone
      gone_is = ap (λ (c : CoreState). c.system) l.core

      status : gone.status ≡ 0xC0C
      status = status_told h.core.system l.what ∙ ap pushed mode

      work_is : after.work ≡ counted_work before.work
      work_is = ap (λ (c : CoreState). work_of c (one_more n) dirty (pages_of_unit m p)) l.core
          ∙ ap (λ (asid : ℕ). record (counted_work before.work) { asid = asid }) (space_told h.core.system l.what)

      -- the place, by where it goes on and by its code
      place_is : (pc : ℕ) (modified : Bool) → s.core.pc ≡ pc → (code_in s.core.system == 1) ≡ modified → after.place ≡ place_by false false (pc == 0x80000080) true modified pc
      place_is pc modified at code =
          ap (λ (c : CoreState). place_by (is_user c.system) c.slot (s.core.pc == 0x80000080) (bits c.system.status 3 1 == 1) (code_in s.core.system == 1) s.core.pc) l.core
          ∙ (ap (λ (w : ℕ). place_by (bits w 1 1 == 1) false (s.core.pc == 0x80000080) (bits w 3 1 == 1) (code_in s.core.system == 1) s.core.pc) status
          ∙ ap₂ (λ (x : ℕ) (b : Bool). place_by false false (x == 0x80000080) true b x) at code)

      course_is : (place : UnitPlace) (page : ℕ) → after.place ≡ place → after.page ≡ page → after ≡ record { place = place; page = page; work = counted_work before.work }
      course_is place page a b =
          ap₂ (λ (x : UnitPlace) (y : ℕ). record { place = x; page = y; work = after.work }) a b ∙ ap (λ (w : Work). record { place = place; page = page; work = w }) work_is

      misses : s.core.pc ≡ 0x80000000 → Next before after
      misses at = by_slot h.core.slot refl
        where
          missing : IsMissed h.core.slot (pages_of_unit m p) h.core.entries (asid_of h.core.system) s.core.system
          missing = miss_asks l.what.code l.event at

          in_handler : (modified : Bool) → (code_in s.core.system == 1) ≡ modified → after.place ≡ AtWord 0
          in_handler modified code = place_is 0x80000000 modified at code

          by_slot : (slot : Bool) → h.core.slot ≡ slot → Next before after
          by_slot true e = MissesInSlot missing.ask (in_slot e) (missing.fits e) missing.none (course_is (AtWord 0) (asked (pages_of_unit m p) missing.ask) (in_handler _ refl) missing.page)
          by_slot false e = Misses missing.ask (at_start e) missing.none (course_is (AtWord 0) (asked (pages_of_unit m p) missing.ask) (in_handler _ refl) missing.page)

      serves : s.core.pc ≡ 0x80000080 → TellsClean h.core.entries (pages_of_unit m p).access (asid_of h.core.system) dirty → Next before after
      serves at clean = by_code (code_in s.core.system == 1) refl
        where
          modified_code : (code_in s.core.system == 1) ≡ true → s.event ≡ event.Raised Modification
          modified_code is =
              let number : (code_number l.what.code == 1) ≡ true = ap (λ (x : ℕ). x == 1) (sym (ap code_in gone_is ∙ code_told h.core.system l.what)) ∙ is in
              l.event ∙ ap event.Raised (code_1 l.what.code number)

          by_code : (modified : Bool) → (code_in s.core.system == 1) ≡ modified → Next before after
          by_code true is =
              let i = store_asks (modified_code is) in
              Modifies users (clean i.slot i.entry i.found i.at i.clean) (course_is AtModification (pages_of_unit m p).access (place_is 0x80000080 true at is) i.page)
          by_code false is = Traps after.page users (course_is AtService after.page (place_is 0x80000080 false at is) refl)

      leaves : TellsClean h.core.entries (pages_of_unit m p).access (asid_of h.core.system) dirty → Next before after
      leaves clean = by_vectors (l.what.miss && is_kuseg l.what.addr) refl
        where
          by_vectors : (b : Bool) → (l.what.miss && is_kuseg l.what.addr) ≡ b → Next before after
          by_vectors true is = misses (ap (λ (c : CoreState). c.pc) l.core ∙ ap (λ (b : Bool). cond b 0x80000000 0x80000080) is)
          by_vectors false is = serves (ap (λ (c : CoreState). c.pc) l.core ∙ ap (λ (b : Bool). cond b 0x80000000 0x80000080) is) clean

    -- an instruction that is not done takes its unit on
    pub goes_on : s.event ≢ event.Retired → TellsClean h.core.entries (pages_of_unit m p).access (asid_of h.core.system) dirty → Next before after
    goes_on more clean = by_does does_here
      where
        by_does : IsUnitStep h.core here p s → Next before after
        by_does (inl r) = absurd (more r.event)
        by_does (inr (inl t)) = turns t
        by_does (inr (inr l)) = leaves l clean

  -- an instruction that is done leaves the buffer's ranges
  pub retires : s.event ≡ event.Retired → (s.core.entries ≡ h.core.entries) × (s.core.random ≡ random_after 64 8 h.core.random)
  retires done = by_does does_here
    where
      by_does : IsUnitStep h.core here p s → (s.core.entries ≡ h.core.entries) × (s.core.random ≡ random_after 64 8 h.core.random)
      by_does (inl r) = (r.entries, r.random)
      by_does (inr (inl t)) = let wrong : event.Branched ≡ event.Retired = sym t.event ∙ done in absurd cc
      by_does (inr (inr l)) = let wrong : event.Raised l.what.code ≡ event.Retired = sym l.event ∙ done in absurd cc

  -- no instruction changes the buffer
  pub entries_stay : s.core.entries ≡ h.core.entries
  entries_stay = by_does does_here
    where
      by_does : IsUnitStep h.core here p s → s.core.entries ≡ h.core.entries
      by_does (inl r) = r.entries
      by_does (inr (inl t)) = ap (λ (c : CoreState). c.entries) t.core
      by_does (inr (inr l)) = ap (λ (c : CoreState). c.entries) l.core
