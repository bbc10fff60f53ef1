-- A calm step of a user who may not use coprocessor 0 leaves the coprocessor's registers and the entries alone.
use Rattle.std.proofs.Common.{◌≡◌, ℕ, Bool, true, false, refl, sym, ap, ◌∙◌, cond}
use Rattle.std.specs.Prelude.{◌&&◌, not, Result, Ok, Err}
use Rattle.ds_isa.specs.declared.instr.Instr.{Instr}
use Rattle.ds_isa.specs.declared.instr.Instr.TheVariants as instr
use Rattle.ds_isa.specs.declared.instr.Size.{Size}
use Rattle.ds_isa.specs.Registers.{Registers}
use Rattle.ds_isa.specs.Meaning.{Effect, Branches, Loads, Stores, Faults, Calls, Privileged, meaning}
use Rattle.ds_isa.specs.Meaning as effects
use Rattle.ds_isa.specs.Instruction.{instruction_of}
use Rattle.ds_amap.specs.declared.map.Physical.{Physical}
use Rattle.ds_amap.specs.declared.map.Fault.{Fault}
use Rattle.ds_isa.specs.declared.instr.Kind.TheVariants.{Fetch, Load, Store}
use Rattle.ds_cp0.specs.declared.exception.ExceptionCode.TheVariants.{Interrupt}
use Rattle.ds_cp0.specs.System.{System, is_pending}
use Rattle.ds_dev.specs.declared.fault.BusError.{BusError}
use Rattle.ds_dev.specs.Bus.{BusState, lines}
use Rattle.ds_isa.specs.declared.instr.Size.TheVariants.{Word}
use Rattle.ds_core.specs.Core.{CoreState, Step, branched, with_tick, trapped}
use Rattle.ds_core.specs.Inner.Core.{is_raised}
use Rattle.ds_core.specs.Access.{reached, aligned_load, aligned_store, kept_word, load_answered, loaded_from, store_answered, stored_to}
use Rattle.ds_core.specs.Coprocessor.{is_coprocessor_usable, unusable, usable, unit_of}
use Rattle.ds_core.specs.Inner.Coprocessor.{only_devices_interrupt}
use Rattle.ds_core.specs.Effect.{effect, fetch_answered, fetched_from, instruction_step, step}

-- a step that enters no exception keeps both
abbrev Keeps : CoreState → Step → Type 0
Keeps c s = is_raised s.event ≡ false → (s.core.system ≡ c.system) × (s.core.entries ≡ c.entries)

raises : (c : CoreState) (s : Step) → is_raised s.event ≡ true → Keeps c s
raises c s raised = λ calm. absurd (cc)

by_branch : (slot : Bool) (c : CoreState) (b : BusState) (r : Registers) (target : ℕ) → Keeps c (branched slot c b r target)
by_branch true c b r target = raises c (branched true c b r target) refl
by_branch false c b r target = λ calm. (refl, refl)

by_load : (c : CoreState) (b : BusState) (after : ℕ → Registers) (r : Result ℕ BusError) → Keeps c (load_answered c b after r)
by_load c b after (Err e) = raises c (load_answered c b after (Err e)) refl
by_load c b after (Ok w) = λ calm. (refl, refl)

by_loaded : (c : CoreState) (b : BusState) (size : Size) (addr : ℕ) (after : ℕ → Registers) (r : Result Physical Fault) → Keeps c (loaded_from c b size addr after r)
by_loaded c b size addr after (Err e) = raises c (loaded_from c b size addr after (Err e)) refl
by_loaded c b size addr after (Ok place) = by_load c (aligned_load b place.0 size).1 after (aligned_load b place.0 size).0

by_store : (c : CoreState) (b : BusState) (r : Result (Unit {0}) BusError) → Keeps c (store_answered c b r)
by_store c b (Err e) = raises c (store_answered c b (Err e)) refl
by_store c b (Ok u) = λ calm. (refl, refl)

by_stored : (c : CoreState) (b : BusState) (size : Size) (addr : ℕ) (after : ℕ → ℕ) (r : Result Physical Fault) → Keeps c (stored_to c b size addr after r)
by_stored c b size addr after (Err e) = raises c (stored_to c b size addr after (Err e)) refl
by_stored c b size addr after (Ok place) = by_store c (aligned_store b place.0 size (after (kept_word b place.0))).1 (aligned_store b place.0 size (after (kept_word b place.0))).0

never : {A : Type 0} → true ≡ false → A
never e = absurd cc

by_use : (c : CoreState) (b : BusState) (can : Bool) (i : Instr) → (unit_of i ≡ 0 → can ≡ false) → Keeps c (cond can (usable c b i) (unusable c b (unit_of i)))
by_use c b false i shut = raises c (unusable c b (unit_of i)) refl
by_use c b true (instr.Mfc0 rt rd) shut = never (shut refl)
by_use c b true (instr.Mtc0 rt rd) shut = never (shut refl)
by_use c b true instr.Tlbr shut = never (shut refl)
by_use c b true instr.Tlbwi shut = never (shut refl)
by_use c b true instr.Tlbwr shut = never (shut refl)
by_use c b true instr.Tlbp shut = never (shut refl)
by_use c b true instr.Rfe shut = never (shut refl)
by_use c b true i shut = raises c (usable c b i) refl

by_effect : (c : CoreState) (b : BusState) (i : Instr) (e : Effect) → is_coprocessor_usable c 0 ≡ false → Keeps c (effect c b i e)
by_effect c b i (effects.Goes after) shut = λ calm. (refl, refl)
by_effect c b i (Branches after target) shut = by_branch c.slot c b after target
by_effect c b i (Loads size addr after) shut = by_loaded c b size addr after (reached c Load size addr)
by_effect c b i (Stores size addr after) shut = by_stored c b size addr after (reached c Store size addr)
by_effect c b i (Faults code) shut = raises c (effect c b i (Faults code)) refl
by_effect c b i Calls shut = raises c (effect c b i Calls) refl
by_effect c b i Privileged shut = by_use c b (is_coprocessor_usable c (unit_of i)) i (λ zero. ap (is_coprocessor_usable c) zero ∙ shut)

by_answer : (c : CoreState) (b : BusState) (r : Result ℕ BusError) → is_coprocessor_usable c 0 ≡ false → Keeps c (fetch_answered c b r)
by_answer c b (Err e) shut = raises c (fetch_answered c b (Err e)) refl
by_answer c b (Ok w) shut = by_effect c b (instruction_of w) (meaning (instruction_of w) c.pc c.registers) shut

by_fetch : (c : CoreState) (b : BusState) (r : Result Physical Fault) → is_coprocessor_usable c 0 ≡ false → Keeps c (fetched_from c b r)
by_fetch c b (Err e) shut = raises c (fetched_from c b (Err e)) refl
by_fetch c b (Ok place) shut = by_answer c (aligned_load b place.0 Word).1 (aligned_load b place.0 Word).0 shut

by_interrupt : (c : CoreState) (b : BusState) (asked : Bool) → is_coprocessor_usable c 0 ≡ false → Keeps c (cond asked (trapped c b Interrupt) (with_tick (instruction_step c b)))
by_interrupt c b true shut = raises c (trapped c b Interrupt) refl
by_interrupt c b false shut = by_fetch c b (reached c Fetch Word c.pc) shut

-- what a calm step keeps where coprocessor 0 may not be used
pub keeps_system : (c : CoreState) (b : BusState) → is_coprocessor_usable c 0 ≡ false → is_raised (step c b).event ≡ false → (step c b).core.system ≡ c.system
keeps_system c b shut calm = (by_interrupt c b (is_pending c.system (lines b).0 (lines b).1) shut calm).0

pub keeps_entries : (c : CoreState) (b : BusState) → is_coprocessor_usable c 0 ≡ false → is_raised (step c b).event ≡ false → (step c b).core.entries ≡ c.entries
keeps_entries c b shut calm = (by_interrupt c b (is_pending c.system (lines b).0 (lines b).1) shut calm).1

only_means : (usable pending : Bool) → (not usable && not pending) ≡ true → (usable ≡ false) × (pending ≡ false)
only_means false false only = (refl, refl)
only_means false true only = never (sym only)
only_means true pending only = never (sym only)

-- where only a device can interrupt, coprocessor 0 may not be used
pub shuts_coprocessor : (c : CoreState) → only_devices_interrupt c ≡ true → is_coprocessor_usable c 0 ≡ false
shuts_coprocessor c only = (only_means (is_coprocessor_usable c 0) (is_pending c.system false false) only).0

-- and the program asks for nothing
pub nothing_pends : (c : CoreState) → only_devices_interrupt c ≡ true → is_pending c.system false false ≡ false
nothing_pends c only = (only_means (is_coprocessor_usable c 0) (is_pending c.system false false) only).1

-- where only a device can interrupt, that is so after a calm step
pub stays_undisturbed : (c : CoreState) (b : BusState) (s : Step) → s ≡ step c b → is_raised s.event ≡ false → only_devices_interrupt c ≡ true → only_devices_interrupt s.core ≡ true
stays_undisturbed c b s is calm only =
    let shut : is_coprocessor_usable c 0 ≡ false = shuts_coprocessor c only in
    let quiet : is_raised (step c b).event ≡ false = ap (λ (t : Step). is_raised t.event) (sym is) ∙ calm in
    let same : s.core.system ≡ c.system = ap (λ (t : Step). t.core.system) is ∙ keeps_system c b shut quiet in
    ap (λ (y : System). only_devices_interrupt (record c { system = y })) same ∙ only
