-- What becomes of an operation that is done in a stretch.
use Rattle.std.specs.Prelude.{◌≡◌, ℕ, suc, ◌+◌, ◌<◌, ◌^◌, None}
use Rattle.ds_isa.specs.declared.instr.Instr.{Instr}
use Rattle.ds_isa.specs.Meaning.{Effect, Calls}
use Rattle.ds_cp0.specs.declared.exception.ExceptionCode.TheVariants.{SystemCall}
use Rattle.ds_pages.specs.declared.operation.Operation.{Operation}
use Rattle.ds_pages.specs.Inner.Operations.{MeansAs}
use Rattle.ds_dev.specs.Bus.{BusState, lines}
use Rattle.ds_core.specs.declared.event.Event.{Event}
use Rattle.ds_core.specs.declared.event.Event.TheVariants as event
use Rattle.ds_ahead.specs.declared.operations.Outcome.{Outcome}
use Rattle.ds_ahead.specs.declared.operations.Outcome.TheVariants.{Done, Loaded, Branched, Called, Left}
use Rattle.ds_core.specs.Core.{CoreState, trapped, with_tick}
use Rattle.ds_ahead.specs.Inner.Placed.{Place, placed}
use Rattle.ds_core.specs.Effect.{effect, executed, instruction_step, step}
use Rattle.ds_ahead.specs.Inner.Ahead.{hardware_of, after_steps, Advances}

-- an operation that has an effect was done at a position as a step of whatever instruction has it, with a tick more, and a load is late only where it loads; or it calls, or is left, and nothing has changed
abbrev pub ComesTo : Outcome → Effect → CoreState → Place → BusState → CoreState → Place → BusState → Type 0
ComesTo Done e c at b c2 at2 b2 = (at2.late ≡ None) × ((n : ℕ) (i : Instr) → record { event = event.Retired; core = placed (suc n) c2 at2; bus = b2 } ≡ with_tick (effect (placed n c at) b i e))
ComesTo Loaded e c at b c2 at2 b2 = (n : ℕ) (i : Instr) → record { event = event.Retired; core = placed (suc n) c2 at2; bus = b2 } ≡ with_tick (effect (placed n c at) b i e)
ComesTo Branched e c at b c2 at2 b2 = (at2.late ≡ None) × ((n : ℕ) (i : Instr) → record { event = event.Branched; core = placed (suc n) c2 at2; bus = b2 } ≡ with_tick (effect (placed n c at) b i e))
ComesTo Called e c at b c2 at2 b2 = (c2 ≡ c) × (at2 ≡ at) × (b2 ≡ b) × (e ≡ Calls)
ComesTo Left e c at b c2 at2 b2 = (c2 ≡ c) × (at2 ≡ at) × (b2 ≡ b)

-- an operation is that of the instruction at pc
pub record IsFetched (o : Operation) (c : CoreState) (b : BusState) : Type 0 where
  pub instr : Instr
  pub means : MeansAs o instr
  pub lies : executed c b instr ≡ instruction_step c b

-- neither the coprocessor's registers, nor the translation buffer's entries, nor the requests of devices have changed
pub record StaysCalm (c : CoreState) (b : BusState) (c2 : CoreState) (b2 : BusState) : Type 0 where
  pub system : c2.system ≡ c.system
  pub entries : c2.entries ≡ c.entries
  pub lines : lines b2 ≡ lines b

-- a step more leads from one position to another
abbrev pub Steps : Event → CoreState → Place → BusState → CoreState → Place → BusState → Type 0
Steps e c at b c2 at2 b2 = (n : ℕ) → record { event = e; core = placed (suc n) c2 at2; bus = b2 } ≡ step (placed n c at) b

-- the next step is a system call
abbrev pub IsCalled : CoreState → Place → BusState → Type 0
IsCalled c at b = (n : ℕ) → with_tick (trapped (placed n c at) b SystemCall) ≡ step (placed n c at) b

-- the step at a position was done by an operation; or it is a system call, or is left, and nothing has changed
abbrev pub HasOutcome : Outcome → CoreState → Place → BusState → CoreState → Place → BusState → Type 0
HasOutcome Done c at b c2 at2 b2 = (at2.late ≡ None) × Steps event.Retired c at b c2 at2 b2
HasOutcome Loaded c at b c2 at2 b2 = Steps event.Retired c at b c2 at2 b2
HasOutcome Branched c at b c2 at2 b2 = (at2.late ≡ None) × Steps event.Branched c at b c2 at2 b2
HasOutcome Called c at b c2 at2 b2 = (c2 ≡ c) × (at2 ≡ at) × (b2 ≡ b) × IsCalled c at b
HasOutcome Left c at b c2 at2 b2 = (c2 ≡ c) × (at2 ≡ at) × (b2 ≡ b)

-- so many steps lead from one position to another, each from an address of 32 bits, and nothing has changed that could interrupt them
pub record LeadsOn (k : ℕ) (c : CoreState) (at : Place) (b : BusState) (c2 : CoreState) (at2 : Place) (b2 : BusState) : Type 0 where
  pub advances : (n : ℕ) → Advances k (hardware_of (placed n c at) b) (hardware_of (placed (n + k) c2 at2) b2)
  pub words : (n j : ℕ) → j < k → (after_steps j (hardware_of (placed n c at) b)).core.pc < 2 ^ 32
  pub calm : StaysCalm c b c2 b2
