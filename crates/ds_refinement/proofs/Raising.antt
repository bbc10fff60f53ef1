-- After an exception Cause tells whether the instruction stood in a slot.
use Rattle.std.proofs.Common.{◌≡◌, ℕ, Bool, true, false, refl, ◌∙◌, cond}
use Rattle.std.specs.Prelude.{Result, Ok, Err}
use Rattle.ds_isa.specs.declared.instr.Instr.{Instr}
use Rattle.ds_isa.specs.declared.instr.Instr.TheVariants as instr
use Rattle.ds_isa.specs.declared.instr.Kind.TheVariants.{Fetch, Load, Store}
use Rattle.ds_isa.specs.declared.instr.Size.{Size}
use Rattle.ds_isa.specs.declared.instr.Size.TheVariants.{Word}
use Rattle.ds_isa.specs.Registers.{Registers}
use Rattle.ds_isa.specs.Meaning.{Effect, Branches, Loads, Stores, Faults, Calls, Privileged, meaning}
use Rattle.ds_isa.specs.Meaning as effects
use Rattle.ds_isa.specs.Instruction.{instruction_of}
use Rattle.ds_amap.specs.declared.map.Physical.{Physical}
use Rattle.ds_amap.specs.declared.map.Fault.{Fault}
use Rattle.ds_cp0.specs.declared.exception.Exception.{Exception}
use Rattle.ds_cp0.specs.declared.exception.ExceptionCode.TheVariants.{Interrupt, FetchBus, DataBus, SystemCall, ReservedInstruction}
use Rattle.ds_cp0.specs.System.{is_pending}
use Rattle.ds_dev.specs.declared.fault.BusError.{BusError}
use Rattle.ds_dev.specs.Bus.{BusState, lines}
use Rattle.ds_core.specs.Core.{CoreState, Step, branched, exception, with_tick, trapped, at_vector}
use Rattle.ds_core.specs.Inner.Core.{is_raised}
use Rattle.ds_core.specs.Access.{access_exception, reached, aligned_load, aligned_store, kept_word, load_answered, loaded_from, store_answered, stored_to}
use Rattle.ds_core.specs.Coprocessor.{is_coprocessor_usable, unusable_exception, unusable, usable, unit_of}
use Rattle.ds_core.specs.Effect.{fault_code, effect, fetch_answered, fetched_from, instruction_step, step}
use Rattle.ds_refinement.specs.Told.{is_delayed}
use Rattle.ds_refinement.proofs.Exceptions.{slot_told}

-- a step that enters an exception tells its slot
abbrev Tells : CoreState → Step → Type 0
Tells c s = is_raised s.event ≡ true → is_delayed s.core.system ≡ c.slot

enters : (c : CoreState) (b : BusState) (e : Exception) → e.slot ≡ c.slot → Tells c (at_vector c b e)
enters c b e same = λ raised. slot_told c.system e ∙ same

calm : (c : CoreState) (s : Step) → is_raised s.event ≡ false → Tells c s
calm c s none = λ raised. absurd (cc)

by_branch : (slot : Bool) (c : CoreState) (b : BusState) (r : Registers) (target : ℕ) → Tells c (branched slot c b r target)
by_branch true c b r target = enters c b (exception c ReservedInstruction) refl
by_branch false c b r target = calm c (branched false c b r target) refl

by_load : (c : CoreState) (b : BusState) (after : ℕ → Registers) (r : Result ℕ BusError) → Tells c (load_answered c b after r)
by_load c b after (Err e) = enters c b (exception c DataBus) refl
by_load c b after (Ok w) = calm c (load_answered c b after (Ok w)) refl

by_loaded : (c : CoreState) (b : BusState) (size : Size) (addr : ℕ) (after : ℕ → Registers) (r : Result Physical Fault) → Tells c (loaded_from c b size addr after r)
by_loaded c b size addr after (Err e) = enters c b (access_exception c Load addr e) refl
by_loaded c b size addr after (Ok place) = by_load c (aligned_load b place.0 size).1 after (aligned_load b place.0 size).0

by_store : (c : CoreState) (b : BusState) (r : Result (Unit {0}) BusError) → Tells c (store_answered c b r)
by_store c b (Err e) = enters c b (exception c DataBus) refl
by_store c b (Ok u) = calm c (store_answered c b (Ok u)) refl

by_stored : (c : CoreState) (b : BusState) (size : Size) (addr : ℕ) (after : ℕ → ℕ) (r : Result Physical Fault) → Tells c (stored_to c b size addr after r)
by_stored c b size addr after (Err e) = enters c b (access_exception c Store addr e) refl
by_stored c b size addr after (Ok place) = by_store c (aligned_store b place.0 size (after (kept_word b place.0))).1 (aligned_store b place.0 size (after (kept_word b place.0))).0

by_usable : (c : CoreState) (b : BusState) (i : Instr) → Tells c (usable c b i)
by_usable c b (instr.Mfc0 rt rd) = calm c (usable c b (instr.Mfc0 rt rd)) refl
by_usable c b (instr.Mtc0 rt rd) = calm c (usable c b (instr.Mtc0 rt rd)) refl
by_usable c b instr.Tlbr = calm c (usable c b instr.Tlbr) refl
by_usable c b instr.Tlbwi = calm c (usable c b instr.Tlbwi) refl
by_usable c b instr.Tlbwr = calm c (usable c b instr.Tlbwr) refl
by_usable c b instr.Tlbp = calm c (usable c b instr.Tlbp) refl
by_usable c b instr.Rfe = calm c (usable c b instr.Rfe) refl
by_usable c b i = enters c b (exception c ReservedInstruction) refl

by_use : (c : CoreState) (b : BusState) (i : Instr) (can : Bool) → Tells c (cond can (usable c b i) (unusable c b (unit_of i)))
by_use c b i true = by_usable c b i
by_use c b i false = enters c b (unusable_exception c (unit_of i)) refl

by_effect : (c : CoreState) (b : BusState) (i : Instr) (e : Effect) → Tells c (effect c b i e)
by_effect c b i (effects.Goes after) = calm c (effect c b i (effects.Goes after)) refl
by_effect c b i (Branches after target) = by_branch c.slot c b after target
by_effect c b i (Loads size addr after) = by_loaded c b size addr after (reached c Load size addr)
by_effect c b i (Stores size addr after) = by_stored c b size addr after (reached c Store size addr)
by_effect c b i (Faults code) = enters c b (exception c (fault_code code)) refl
by_effect c b i Calls = enters c b (exception c SystemCall) refl
by_effect c b i Privileged = by_use c b i (is_coprocessor_usable c (unit_of i))

by_answer : (c : CoreState) (b : BusState) (r : Result ℕ BusError) → Tells c (fetch_answered c b r)
by_answer c b (Err e) = enters c b (exception c FetchBus) refl
by_answer c b (Ok w) = by_effect c b (instruction_of w) (meaning (instruction_of w) c.pc c.registers)

by_fetch : (c : CoreState) (b : BusState) (r : Result Physical Fault) → Tells c (fetched_from c b r)
by_fetch c b (Err e) = enters c b (access_exception c Fetch c.pc e) refl
by_fetch c b (Ok place) = by_answer c (aligned_load b place.0 Word).1 (aligned_load b place.0 Word).0

by_interrupt : (c : CoreState) (b : BusState) (asked : Bool) → Tells c (cond asked (trapped c b Interrupt) (with_tick (instruction_step c b)))
by_interrupt c b true = enters c b (exception c Interrupt) refl
by_interrupt c b false = by_fetch c b (reached c Fetch Word c.pc)

-- where a step enters an exception, Cause tells the slot in which it began
pub slot_of_raised : (c : CoreState) (b : BusState) → is_raised (step c b).event ≡ true → is_delayed (step c b).core.system ≡ c.slot
slot_of_raised c b = by_interrupt c b (is_pending c.system (lines b).0 (lines b).1)
