-- An exception of a user comes to the handler's first word, or waits at the general vector for the service.
use Rattle.std.proofs.Common.{◌≡◌, ℕ, ◌/◌, ◌^◌, ◌<◌, ◌⊎◌, Bool, true, false, cond, List, ◌∷◌, Option, Some, None, refl, sym, ap, ap₂, subst, ◌∙◌, arith, inl, inr}
use Rattle.std.proofs.lemmas.Bool.{cases_Bool}
use Rattle.std.proofs.lemmas.Bool.Decides.{nat_tests}
use Rattle.std.specs.Prelude.{slice_index, nat_lt, ◌&&◌}
use Rattle.ds_word.specs.Word.{bits}
use Rattle.ds_isa.specs.Registers.{settled}
use Rattle.ds_tlb.specs.Entries.{find}
use Rattle.ds_cp0.specs.declared.exception.Exception.{Exception}
use Rattle.ds_cp0.specs.Codes.{is_translation}
use Rattle.ds_cp0.specs.System.{System, asid_of, is_user, is_kuseg, vector, entered, with_address, with_field, pushed, epc_of, cause_after}
use Rattle.ds_core.specs.Core.{core_at_vector}
use Rattle.ds_pagemap.specs.Machine.{State, process_of}
use Rattle.ds_pagemap.specs.Unit.{with_registers}
use Rattle.ds_refinement.specs.Told.{told, is_delayed}
use Rattle.ds_refinement.specs.Held.{Held, space_of}
use Rattle.ds_refinement.specs.Units.{user_status, EndsUnit, Promise, InService}
use Rattle.ds_refinement.specs.Copying.{AwaitsCopy, InCopy}
use Rattle.ds_refinement.proofs.Exceptions.{status_told, epc_told}
use Rattle.ds_refinement.specs.Handling.{AtContext, HasBase, IsSet, IsWhole, AreUnits, InHandler}
use Rattle.ds_refinement.specs.Inner.Handling.{IsMiss}
use Rattle.ds_refinement.specs.Stands.{OnProcessor, Agrees}
use Rattle.ds_refinement.proofs.Fields.{space_set, hi_entered, context_entered, hi_low, hi_small, context_high, context_low}
use Rattle.ds_refill.proofs.Lent.{lent_itself}
use Rattle.ds_refinement.proofs.Standing.{runs, kept, few, same_state, in_handler, at_general, mode_of_user}

-- An exception leaves EntryHi in its address space, and Context at the page tables.

shown_set : (s : System) (asid a : ℕ) (b : Bool) → IsSet s asid
    → IsSet (cond b (record s { bad_vaddr = a; context = with_field s.context 2 19 (bits a 12 19); entry_hi = with_field s.entry_hi 12 20 (bits a 12 20) }) (record s { bad_vaddr = a })) asid
shown_set s asid a true k = record { space = hi_low s.entry_hi (bits a 12 20) ∙ k.space; small = hi_small s.entry_hi (bits a 12 20) k.small }
shown_set s asid a false k = record { space = k.space; small = k.small }

address_set : (s : System) (e : Exception) (asid : ℕ) (o : Option ℕ) → IsSet s asid → IsSet (with_address s e o) asid
address_set s e asid None k = k
address_set s e asid (Some a) k = shown_set s asid a (is_translation e.code) k

pub set_entered : (s : System) (e : Exception) (asid : ℕ) → IsSet s asid → IsSet (entered s e) asid
set_entered s e asid k = address_set _ e asid e.addr (record { space = k.space; small = k.small })

shown_base : (s : System) (a : ℕ) (b : Bool) → HasBase s
    → HasBase (cond b (record s { bad_vaddr = a; context = with_field s.context 2 19 (bits a 12 19); entry_hi = with_field s.entry_hi 12 20 (bits a 12 20) }) (record s { bad_vaddr = a }))
shown_base s a true k = record { tables = context_high s.context (bits a 12 19) ∙ k.tables; whole = context_low s.context (bits a 12 19) ∙ k.whole }
shown_base s a false k = record { tables = k.tables; whole = k.whole }

address_base : (s : System) (e : Exception) (o : Option ℕ) → HasBase s → HasBase (with_address s e o)
address_base s e None k = k
address_base s e (Some a) k = shown_base s a (is_translation e.code) k

pub base_entered : (s : System) (e : Exception) → HasBase s → HasBase (entered s e)
base_entered s e k = address_base _ e e.addr (record { tables = k.tables; whole = k.whole })

-- what the coprocessor shows of an address that the TLB refused
abbrev with_page : System → Exception → ℕ → System
with_page s e a = record s { status = pushed s.status; cause = cause_after s.cause e; epc = epc_of e; bad_vaddr = a; context = with_field s.context 2 19 (bits a 12 19); entry_hi = with_field s.entry_hi 12 20 (bits a 12 20) }

module _ (h : Held) (m : State) (p : ℕ) (rest : List ℕ) (e : Exception) (k : Agrees h m) (ready : h.kept.state.ready ≡ p ∷ rest) (whole : IsWhole (core_at_vector h.core e))
    (mode : h.core.system.status ≡ user_status) (owed : m.owed ≡ None) (at : epc_of e ≡ (process_of m p).pc) (units : AreUnits (settled h.core.registers) p m) where
  abbrev asid : ℕ
  asid = space_of h.kept p

  set : IsSet h.core.system asid
  set = (runs h m p rest k ready).set

  page_shown : (miss : IsMiss h.core e) → entered h.core.system e ≡ with_page h.core.system e miss.address
  page_shown miss =
      ap (with_address (record h.core.system { status = pushed h.core.system.status; cause = cause_after h.core.system.cause e; epc = epc_of e }) e) miss.is
      ∙ ap (λ (x : Bool). cond x (with_page h.core.system e miss.address)
      (record (record h.core.system { status = pushed h.core.system.status; cause = cause_after h.core.system.cause e; epc = epc_of e }) { bad_vaddr = miss.address })) miss.code

  -- the handler's first word
  at_first_word : (miss : IsMiss h.core e) → InHandler AtContext (core_at_vector h.core e) h.kept p m
  at_first_word miss =
      let user : miss.address < 2 ^ 31 = miss.user in
      let low : nat_lt miss.address (2 ^ 31) ≡ true = grind (arith, nat_tests) in
      let refill : vector e ≡ 0x80000000 =
      ap₂ (λ (x : Bool) (o : Option ℕ). cond (x && is_kuseg o) 0x80000000 0x80000080) miss.miss miss.is ∙ ap (λ (x : Bool). cond x 0x80000000 0x80000080) low in
      let space : asid_of h.core.system ≡ asid = space_set h.core.system.entry_hi asid set.space (few h m p rest k ready) in
      record {
        whole = whole;
        owed = owed;
        pc = refill;
        next = refl;
        slot = refl;
        status = status_told h.core.system e ∙ ap pushed mode;
        epc = epc_told h.core.system e ∙ at;
        vpn = miss.address / 2 ^ 12;
        user = omega arith;
        hi = ap (λ (s : System). s.entry_hi) (page_shown miss) ∙ hi_entered h.core.system.entry_hi miss.address asid set.space set.small miss.user;
        context = ap (λ (s : System). s.context) (page_shown miss) ∙ context_entered h.core.system.context miss.address k.base.tables k.base.whole miss.user;
        answers = ap (λ (n : ℕ). find h.core.entries (miss.address / 2 ^ 12) n) (sym space) ∙ miss.missed;
        base = settled h.core.registers;
        first = slice_index h.core.registers.general 26;
        second = slice_index h.core.registers.general 27;
        late = None;
        registers = lent_itself h.core.registers;
        units = units;
        lends = refl;
        touch = λ none. absurd cc;
      }

  pub miss_enters : IsMiss h.core e → Agrees (record h { core = core_at_vector h.core e }) m
  miss_enters miss =
      same_state h m p rest k ready (core_at_vector h.core e) k.represented.buffer (base_entered h.core.system e k.base) (set_entered h.core.system e asid set)
      (in_handler AtContext (core_at_vector h.core e) h.kept p m (at_first_word miss))

  general_enters : (e.miss && is_kuseg e.addr) ≡ false
      → (vector e ≡ 0x80000080 → EndsUnit m.memory p (entered h.core.system e).bad_vaddr (told (entered h.core.system e) m.memory p) ⊎ AwaitsCopy (entered h.core.system e) h.kept.grants p)
      → Promise (told (entered h.core.system e) m.memory p) (entered h.core.system e).bad_vaddr (is_delayed (entered h.core.system e)) (process_of m p).pc p m (with_registers m p (settled h.core.registers))
      → Agrees (record h { core = core_at_vector h.core e }) m
  general_enters general ends promise =
      let pc : (core_at_vector h.core e).pc ≡ 0x80000080 = ap (λ (b : Bool). cond b 0x80000000 0x80000080) general in
      same_state h m p rest k ready (core_at_vector h.core e) k.represented.buffer (base_entered h.core.system e k.base) (set_entered h.core.system e asid set)
      (at_general (core_at_vector h.core e) h.kept p m pc (status_told h.core.system e ∙ ap pushed mode) (waiting (ends pc)))
    where
      waiting : EndsUnit m.memory p (entered h.core.system e).bad_vaddr (told (entered h.core.system e) m.memory p) ⊎ AwaitsCopy (entered h.core.system e) h.kept.grants p
          → InService (core_at_vector h.core e) p m ⊎ InCopy (core_at_vector h.core e) h.kept p m
      waiting (inl stops) = inl (record {
        mode = status_told h.core.system e ∙ ap pushed mode;
        first = refl;
        owed = owed;
        epc = epc_told h.core.system e ∙ at;
        registers = units;
        ends = stops;
        promise = promise;
      })
      waiting (inr late) = inr (record { mode = status_told h.core.system e ∙ ap pushed mode; first = refl; owed = owed; epc = epc_told h.core.system e ∙ at; registers = units; waits = late })

  pub enters : (vector e ≡ 0x80000000 → IsMiss h.core e)
      → (vector e ≡ 0x80000080 → EndsUnit m.memory p (entered h.core.system e).bad_vaddr (told (entered h.core.system e) m.memory p) ⊎ AwaitsCopy (entered h.core.system e) h.kept.grants p)
      → Promise (told (entered h.core.system e) m.memory p) (entered h.core.system e).bad_vaddr (is_delayed (entered h.core.system e)) (process_of m p).pc p m (with_registers m p (settled h.core.registers))
      → Agrees (record h { core = core_at_vector h.core e }) m
  enters miss ends promise = elim (cases_Bool (e.miss && is_kuseg e.addr)) [
    | inl refill ↦ miss_enters (miss (ap (λ (b : Bool). cond b 0x80000000 0x80000080) refill))
    | inr general ↦ general_enters general ends promise
  ]

-- in a unit the machine owes no boundary where the station's state owes none, and Status is a user's
module _ (h : Held) (m : State) (p : ℕ) (rest : List ℕ) (k : Agrees h m) (ready : h.kept.state.ready ≡ p ∷ rest) where
  pub none_owed : h.kept.state.owed ≡ None → m.owed ≡ None
  none_owed owed = ap (λ (s : State). s.owed) (kept h m p rest k ready).state ∙ owed

  pub user_mode : is_user h.core.system ≡ true → h.core.system.status ≡ user_status
  user_mode user = mode_of_user h.core.slot h.core h.kept p m (subst (λ (b : Bool). OnProcessor b h.core.slot h.core h.kept p m) user (runs h m p rest k ready).on)
