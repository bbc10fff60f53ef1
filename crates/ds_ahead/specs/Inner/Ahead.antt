-- Many steps, one after the other.
use Rattle.std.specs.Prelude.{◌≡◌, ℕ, zero, suc, ◌+◌, ◌<◌, ◌≤◌, ◌^◌, Bool, false, if◌then◌else◌, Option, Some, None}
use Rattle.ds_cp0.specs.declared.exception.ExceptionCode.{ExceptionCode}
use Rattle.ds_dev.specs.Bus.{BusState}
use Rattle.ds_core.specs.declared.event.Event.{Event}
use Rattle.ds_core.specs.declared.event.Event.TheVariants.{Retired, Branched, Raised}
use Rattle.ds_core.specs.Core.{CoreState, Step}
use Rattle.ds_core.specs.Inner.Core.{is_raised}
use Rattle.ds_core.specs.Effect.{step}

-- a processor and its bus
pub record Hardware : Type 0 where
  pub core : CoreState
  pub bus : BusState

-- the two together
abbrev pub hardware_of : CoreState → BusState → Hardware
hardware_of c b = record { core = c; bus = b }

-- the next step
abbrev pub step_of : Hardware → Step
step_of h = step h.core h.bus

-- what a step leaves
abbrev pub left_by : Step → Hardware
left_by s = record { core = s.core; bus = s.bus }

-- the hardware after so many steps
abbrev pub after_steps : ℕ → Hardware → Hardware
after_steps zero h = h
after_steps (suc n) h = left_by (step_of (after_steps n h))

-- so many steps lead from the one to the other, and none of them enters an exception
pub record Advances (n : ℕ) (old new : Hardware) : Type 0 where
  pub state : new ≡ after_steps n old
  pub calm : (k : ℕ) → k < n → is_raised (step_of (after_steps k old)).event ≡ false

-- so many such steps, and after them the one that enters the exception, if there is one
abbrev pub AdvancesTo : ℕ → Option ExceptionCode → Hardware → Hardware → Type 0
AdvancesTo n None old new = Advances n old new
AdvancesTo n (Some code) old new = (h : Hardware) × Advances n old h
    × ((record { event = Raised code; core = new.core; bus = new.bus }) ≡ step_of h)

-- at each of so many steps, and after the last, the program stands at an address of 32 bits
abbrev pub ComesByWords : ℕ → Hardware → Type 0
ComesByWords n h = (k : ℕ) → k ≤ n → (after_steps k h).core.pc < 2 ^ 32

-- the tick that a branch leaves to its slot
abbrev pub owed_tick : Bool → ℕ
owed_tick slot = if slot then 1 else 0

-- the ticks after a step: one for an instruction that is done, and one for the branch if that began in its slot
abbrev pub ticks_after : Event → Bool → ℕ
ticks_after Retired slot = 1 + owed_tick slot
ticks_after Branched slot = 0
ticks_after (Raised code) slot = 0

-- the ticks of so many steps
abbrev pub ticks : ℕ → Hardware → ℕ
ticks zero h = 0
ticks (suc n) h =
    ticks n h + ticks_after (step_of (after_steps n h)).event (after_steps n h).core.slot
