-- One instruction of the processor: what it asks for is what the machine's asks for.
use Rattle.std.proofs.Common.{◌≡◌, ℕ, ◌<◌, ◌^◌, Bool, true, false, cond, refl, sym, ap, ap₂, ◌∙◌, arith, inl, inr}
use Rattle.std.proofs.lemmas.Bool.Decides.{nat_tests}
use Rattle.std.specs.Prelude.{◌==◌, Some, None, Result, Ok, Err}
use Rattle.ds_word.specs.Bytes.{word_at}
use Rattle.ds_isa.specs.declared.instr.Size.{Size}
use Rattle.ds_isa.specs.declared.instr.Size.TheVariants.{Word}
use Rattle.ds_isa.specs.declared.instr.Kind.{Kind}
use Rattle.ds_isa.specs.declared.instr.Kind.TheVariants as kind
use Rattle.ds_isa.specs.declared.instr.Instr.{Instr}
use Rattle.ds_isa.specs.Registers.{Registers}
use Rattle.ds_isa.specs.Instruction.{instruction_of}
use Rattle.ds_isa.specs.Meaning.{Effect, Goes, Branches, Loads, Stores, Faults, Calls, Privileged, meaning}
use Rattle.ds_amap.specs.declared.map.Physical.{Physical}
use Rattle.ds_amap.specs.declared.map.Fault.{Fault}
use Rattle.ds_cp0.specs.declared.exception.Exception.{Exception}
use Rattle.ds_cp0.specs.declared.exception.ExceptionCode.TheVariants.{SystemCall, ReservedInstruction, DataBus, Breakpoint, Overflow}
use Rattle.ds_cp0.specs.Codes.{is_translation}
use Rattle.ds_dev.specs.declared.fault.BusError.{BusError}
use Rattle.ds_dev.specs.Bus.{BusState, is_memory}
use Rattle.ds_core.specs.Core as core
use Rattle.ds_core.specs.Core.{CoreState, exception, with_tick, trapped}
use Rattle.ds_core.specs.Access as reach
use Rattle.ds_core.specs.Access.{reached, access_exception}
use Rattle.ds_core.specs.Coprocessor.{unit_of, unusable_exception}
use Rattle.ds_core.specs.Effect as whole
use Rattle.ds_pagemap.specs.Machine.{State, process_of}
use Rattle.ds_refinement.specs.Units.{user_status}
use Rattle.ds_refinement.proofs.Meets.{barred}
use Rattle.ds_refinement.specs.Needs.{page_of_address, asked_by, asked_where, asked_at}
use Rattle.ds_refinement.specs.Inner.Asks.{Fetches, Asks, IsUnitStep}

in_memory : (place : ℕ) → place < 2 ^ 23 → is_memory place ≡ true
in_memory place small = grind (arith, nat_tests)

fault_other : (code : ℕ) → is_translation (whole.fault_code code) ≡ false
fault_other code = by_tests (code == 9) (code == 12)
  where
    by_tests : (a b : Bool) → is_translation (cond a Breakpoint (cond b Overflow ReservedInstruction)) ≡ false
    by_tests true b = refl
    by_tests false true = refl
    by_tests false false = refl

module _ (c : CoreState) (b : BusState) (m : State) (p : ℕ) (same : c.registers ≡ (process_of m p).registers) (mode : c.system.status ≡ user_status)
    (fetches : (place : Physical) → reached c kind.Fetch Word c.pc ≡ Ok place → Fetches c b m p place.0) where
  -- an exception that is of no access
  traps : (after : BusState) (e : Exception) → e.addr ≡ None → is_translation e.code ≡ false → IsUnitStep c m p (with_tick (core.at_vector c after e))
  traps after e none other = inr (inr (record { what = e; event = refl; core = refl; from = inr (none, other) }))

  -- one of an access
  refuses : (kind : Kind) (size : Size) (address : ℕ) (fault : Fault) → reached c kind size address ≡ Err fault → Asks kind c m p address → IsUnitStep c m p (with_tick (reach.refused_step c b kind address fault))
  refuses kind size address fault is asks =
      inr (inr (record { what = access_exception c kind address fault; event = refl; core = refl; from = inl (record { kind = kind; size = size; address = address; fault = fault; is = refl; reaches = is; asks = asks }) }))

  goes : (after : Registers) (next : BusState) → IsUnitStep c m p (with_tick (core.at_next c next after))
  goes after next = inl (record { event = refl; entries = refl; random = refl })

  branches : (slot : Bool) (after : Registers) (target : ℕ) → c.slot ≡ slot → IsUnitStep c m p (with_tick (core.branched slot c b after target))
  branches false after target outside = inr (inl (record { after = after; target = target; event = refl; core = refl; outside = outside }))
  branches true after target inside = traps b (exception c ReservedInstruction) refl refl

  load_answers : (after : ℕ → Registers) (next : BusState) (r : Result ℕ BusError) → IsUnitStep c m p (with_tick (reach.load_answered c next after r))
  load_answers after next (Err e) = traps next (exception c DataBus) refl refl
  load_answers after next (Ok w) = goes (after w) next

  store_answers : (next : BusState) (r : Result (Unit {0}) BusError) → IsUnitStep c m p (with_tick (reach.store_answered c next r))
  store_answers next (Err e) = traps next (exception c DataBus) refl refl
  store_answers next (Ok done) = inl (record { event = refl; entries = refl; random = refl })

  loads : (size : Size) (address : ℕ) (after : ℕ → Registers) → asked_at m p c.pc ≡ Some (page_of_address address) → (r : Result Physical Fault) → reached c kind.Load size address ≡ r → IsUnitStep c m p (with_tick (reach.loaded_from c b size address after r))
  loads size address after asks (Err fault) is = refuses kind.Load size address fault is asks
  loads size address after asks (Ok place) is = load_answers after (reach.aligned_load b place.0 size).1 (reach.aligned_load b place.0 size).0

  stores : (size : Size) (address : ℕ) (after : ℕ → ℕ) → asked_at m p c.pc ≡ Some (page_of_address address) → (r : Result Physical Fault) → reached c kind.Store size address ≡ r → IsUnitStep c m p (with_tick (reach.stored_to c b size address after r))
  stores size address after asks (Err fault) is = refuses kind.Store size address fault is asks
  stores size address after asks (Ok place) is = let r = reach.aligned_store b place.0 size (after (reach.kept_word b place.0)) in store_answers r.1 r.0

  -- what the instruction's effect comes to
  does_effect : (i : Instr) (e : Effect) → asked_at m p c.pc ≡ asked_by e → IsUnitStep c m p (with_tick (whole.effect c b i e))
  does_effect i (Goes after) asks = inl (record { event = refl; entries = refl; random = refl })
  does_effect i (Branches after target) asks = branches c.slot after target refl
  does_effect i (Loads size address after) asks = loads size address after asks (reached c kind.Load size address) refl
  does_effect i (Stores size address after) asks = stores size address after asks (reached c kind.Store size address) refl
  does_effect i (Faults code) asks = traps b (exception c (whole.fault_code code)) refl (fault_other code)
  does_effect i Calls asks = traps b (exception c SystemCall) refl refl
  does_effect i Privileged asks = rw (barred c (unit_of i) mode) (traps b (unusable_exception c (unit_of i)) refl refl)

  -- the instruction at pc, whether it is fetched or not
  does_fetch : (r : Result Physical Fault) → reached c kind.Fetch Word c.pc ≡ r → IsUnitStep c m p (with_tick (whole.fetched_from c b r))
  does_fetch (Err fault) is = refuses kind.Fetch Word c.pc fault is refl
  does_fetch (Ok place) is =
      let f = fetches place is in
      let i : Instr = instruction_of (word_at b.memory place.0) in
      let asks : asked_at m p c.pc ≡ asked_by (meaning i c.pc c.registers) =
      ap (asked_where m p c.pc) f.allowed ∙ ap₂ (λ (w : ℕ) (r : Registers). asked_by (meaning (instruction_of w) c.pc r)) f.same (sym same) in
      rw (in_memory place.0 f.small) (does_effect i (meaning i c.pc c.registers) asks)

  pub does : IsUnitStep c m p (with_tick (whole.instruction_step c b))
  does = does_fetch (reached c kind.Fetch Word c.pc) refl
