-- How a step leaves the slot, and so: steps that enter no exception take a tick each, but for a branch whose slot is still to come.
use Rattle.std.proofs.Common.{◌≡◌, ℕ, zero, suc, ◌+◌, ◌<◌, Bool, true, false, refl, ap, ◌∙◌, arith, cond}
use Rattle.std.specs.Prelude.{Result, Ok, Err}
use Rattle.ds_isa.specs.declared.instr.Instr.{Instr}
use Rattle.ds_isa.specs.declared.instr.Instr.TheVariants as instr
use Rattle.ds_isa.specs.declared.instr.Size.{Size}
use Rattle.ds_isa.specs.Registers.{Registers}
use Rattle.ds_isa.specs.Meaning.{Effect, Branches, Loads, Stores, Faults, Calls, Privileged, meaning}
use Rattle.ds_isa.specs.Meaning as effects
use Rattle.ds_isa.specs.Instruction.{instruction_of}
use Rattle.ds_amap.specs.declared.map.Physical.{Physical}
use Rattle.ds_amap.specs.declared.map.Fault.{Fault}
use Rattle.ds_isa.specs.declared.instr.Kind.TheVariants.{Fetch, Load, Store}
use Rattle.ds_cp0.specs.declared.exception.ExceptionCode.TheVariants.{Interrupt}
use Rattle.ds_cp0.specs.System.{is_pending}
use Rattle.ds_dev.specs.declared.fault.BusError.{BusError}
use Rattle.ds_dev.specs.Bus.{BusState, lines}
use Rattle.ds_isa.specs.declared.instr.Size.TheVariants.{Word}
use Rattle.ds_core.specs.declared.event.Event.{Event}
use Rattle.ds_core.specs.declared.event.Event.TheVariants.{Retired, Branched, Raised}
use Rattle.ds_core.specs.Core.{CoreState, Step, branched, with_tick, trapped}
use Rattle.ds_core.specs.Access.{reached, aligned_load, aligned_store, kept_word, load_answered, loaded_from, store_answered, stored_to}
use Rattle.ds_core.specs.Coprocessor.{is_coprocessor_usable, unusable, usable, unit_of}
use Rattle.ds_core.specs.Effect.{effect, fetch_answered, fetched_from, instruction_step, step}
use Rattle.ds_core.specs.Inner.Core.{is_raised}
use Rattle.ds_ahead.specs.Inner.Ahead.{Hardware, Advances, step_of, after_steps, owed_tick, ticks_after, ticks}

-- how a step leaves the slot, by its event and where it began
abbrev pub Slots : Event → Bool → Bool → Type 0
Slots Retired before after = after ≡ false
Slots Branched before after = (before ≡ false) × (after ≡ true)
Slots (Raised code) before after = Unit {0}

abbrev Leaves : Bool → Step → Type 0
Leaves slot s = Slots s.event slot s.core.slot

by_branch : (slot : Bool) (c : CoreState) (b : BusState) (r : Registers) (target : ℕ) → Leaves slot (branched slot c b r target)
by_branch true c b r target = tt
by_branch false c b r target = (refl, refl)

by_load : (c : CoreState) (b : BusState) (after : ℕ → Registers) (r : Result ℕ BusError) → Leaves c.slot (load_answered c b after r)
by_load c b after (Err e) = tt
by_load c b after (Ok w) = refl

by_loaded : (c : CoreState) (b : BusState) (size : Size) (addr : ℕ) (after : ℕ → Registers) (r : Result Physical Fault) → Leaves c.slot (loaded_from c b size addr after r)
by_loaded c b size addr after (Err e) = tt
by_loaded c b size addr after (Ok place) = by_load c (aligned_load b place.0 size).1 after (aligned_load b place.0 size).0

by_store : (c : CoreState) (b : BusState) (r : Result (Unit {0}) BusError) → Leaves c.slot (store_answered c b r)
by_store c b (Err e) = tt
by_store c b (Ok u) = refl

by_stored : (c : CoreState) (b : BusState) (size : Size) (addr : ℕ) (after : ℕ → ℕ) (r : Result Physical Fault) → Leaves c.slot (stored_to c b size addr after r)
by_stored c b size addr after (Err e) = tt
by_stored c b size addr after (Ok place) = by_store c (aligned_store b place.0 size (after (kept_word b place.0))).1 (aligned_store b place.0 size (after (kept_word b place.0))).0

by_usable : (c : CoreState) (b : BusState) (i : Instr) → Leaves c.slot (usable c b i)
by_usable c b (instr.Mfc0 rt rd) = refl
by_usable c b (instr.Mtc0 rt rd) = refl
by_usable c b instr.Tlbr = refl
by_usable c b instr.Tlbwi = refl
by_usable c b instr.Tlbwr = refl
by_usable c b instr.Tlbp = refl
by_usable c b instr.Rfe = refl
by_usable c b i = tt

by_use : (c : CoreState) (b : BusState) (i : Instr) (can : Bool) → Leaves c.slot (cond can (usable c b i) (unusable c b (unit_of i)))
by_use c b i true = by_usable c b i
by_use c b i false = tt

by_effect : (c : CoreState) (b : BusState) (i : Instr) (e : Effect) → Leaves c.slot (effect c b i e)
by_effect c b i (effects.Goes after) = refl
by_effect c b i (Branches after target) = by_branch c.slot c b after target
by_effect c b i (Loads size addr after) = by_loaded c b size addr after (reached c Load size addr)
by_effect c b i (Stores size addr after) = by_stored c b size addr after (reached c Store size addr)
by_effect c b i (Faults code) = tt
by_effect c b i Calls = tt
by_effect c b i Privileged = by_use c b i (is_coprocessor_usable c (unit_of i))

by_answer : (c : CoreState) (b : BusState) (r : Result ℕ BusError) → Leaves c.slot (fetch_answered c b r)
by_answer c b (Err e) = tt
by_answer c b (Ok w) = by_effect c b (instruction_of w) (meaning (instruction_of w) c.pc c.registers)

by_fetch : (c : CoreState) (b : BusState) (r : Result Physical Fault) → Leaves c.slot (fetched_from c b r)
by_fetch c b (Err e) = tt
by_fetch c b (Ok place) = by_answer c (aligned_load b place.0 Word).1 (aligned_load b place.0 Word).0

by_interrupt : (c : CoreState) (b : BusState) (asked : Bool) → Leaves c.slot (cond asked (trapped c b Interrupt) (with_tick (instruction_step c b)))
by_interrupt c b true = tt
by_interrupt c b false = by_fetch c b (reached c Fetch Word c.pc)

pub step_slots : (c : CoreState) (b : BusState) → Leaves c.slot (step c b)
step_slots c b = by_interrupt c b (is_pending c.system (lines b).0 (lines b).1)

by_event : (e : Event) (before after : Bool) → is_raised e ≡ false → Slots e before after → ticks_after e before + owed_tick after ≡ 1 + owed_tick before
by_event Retired before after calm left = rw left (omega arith)
by_event Branched before after calm left = rw (left.0, left.1) refl
by_event (Raised code) before after calm left = absurd cc

counted : (n : ℕ) (h : Hardware) → ((k : ℕ) → k < n → is_raised (step_of (after_steps k h)).event ≡ false) → ticks n h + owed_tick (after_steps n h).core.slot ≡ n + owed_tick h.core.slot
counted zero h calm = refl
counted (suc n) h calm =
    let before : ticks n h + owed_tick (after_steps n h).core.slot ≡ n + owed_tick h.core.slot = counted n h (λ k below. calm k (omega arith)) in
    let last : ticks_after (step_of (after_steps n h)).event (after_steps n h).core.slot + owed_tick (after_steps (suc n) h).core.slot ≡ 1 + owed_tick (after_steps n h).core.slot =
    by_event (step_of (after_steps n h)).event (after_steps n h).core.slot (after_steps (suc n) h).core.slot (calm n (omega arith)) (step_slots (after_steps n h).core (after_steps n h).bus) in
    omega (arith, before, last)

-- so many calm steps take so many ticks, but for a slot at either end
pub ticks_of_advance : (n : ℕ) (old new : Hardware) → Advances n old new → ticks n old + owed_tick new.core.slot ≡ n + owed_tick old.core.slot
ticks_of_advance n old new advances = ap (λ (h : Hardware). ticks n old + owed_tick h.core.slot) advances.state ∙ counted n old advances.calm
