-- Why an instruction stops.
use Rattle.std.specs.Prelude.{◌≡◌, ◌⊎◌, ℕ}
use Rattle.ds_isa.specs.declared.instr.Kind.{Kind}
use Rattle.ds_isa.specs.declared.instr.Kind.TheVariants.{Fetch, Load, Store}
use Rattle.ds_isa.specs.declared.instr.Size.{Size}
use Rattle.ds_isa.specs.declared.instr.Size.TheVariants.{Word}
use Rattle.ds_isa.specs.Meaning.{Effect, Goes, Branches, Loads, Stores, Faults, Calls, Privileged}
use Rattle.ds_policy.specs.declared.access.Rule.{Rule}
use Rattle.ds_policy.specs.declared.access.Verdict.TheVariants.{Denied}
use Rattle.ds_policy.specs.Pages.{Table, decide}
use Rattle.ds_procs.specs.declared.process.Standing.TheVariants.{Parked}
use Rattle.ds_pagemap.specs.Machine.{State, process_of}
use Rattle.ds_pagemap.specs.Unit.{Stop, Outcome, Went, Branched, Called, Stopped, denied_as, fault}
use Rattle.ds_promise.specs.Stores.{Fetches}

-- the table denies process p this access, and the stop says so: its rule and its code
pub record IsDenied (table : Table) (p : ℕ) (kind : Kind) (size : Size) (address : ℕ) (stop : Stop) : Type 0 where
  pub rule : Rule
  pub code : ℕ
  pub answer : decide table p kind size address ≡ Denied rule code
  pub is : stop ≡ record { kind = denied_as kind; address = address; rule = rule; code = code }

-- an effect stops where its load or store is denied, or where it is a fault of its own
abbrev pub EffectStops : State → ℕ → ℕ → Effect → Stop → Type 0
EffectStops m p pc (Loads size address after) stop = IsDenied m.memory.table p Load size address stop
EffectStops m p pc (Stores size address value) stop = IsDenied m.memory.table p Store size address stop
EffectStops m p pc (Faults code) stop = stop ≡ fault pc code
EffectStops m p pc Privileged stop = stop ≡ fault pc 11
EffectStops m p pc (Goes after) stop = ⊥
EffectStops m p pc (Branches after target) stop = ⊥
EffectStops m p pc Calls stop = ⊥

-- its fetch is denied, or it is fetched and its effect stops
abbrev pub InstructionStops : State → ℕ → ℕ → Stop → Type 0
InstructionStops m p pc stop = IsDenied m.memory.table p Fetch Word pc stop ⊎ ((e : Effect) × Fetches m p pc e × EffectStops m p pc e stop)

-- process p is parked, at this address
pub record IsParkedAt (m : State) (p pc : ℕ) : Type 0 where
  pub standing : (process_of m p).standing ≡ Parked
  pub at : (process_of m p).pc ≡ pc

-- what ends a unit in its slot: a stop, a branch or a call
abbrev pub EndsInSlot : Outcome → Type 0
EndsInSlot (Went after) = ⊥
EndsInSlot (Branched after target) = Unit {0}
EndsInSlot Called = Unit {0}
EndsInSlot (Stopped stop) = Unit {0}
