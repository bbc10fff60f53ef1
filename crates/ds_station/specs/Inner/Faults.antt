-- The faults of a run.
use Rattle.std.specs.Prelude.{◌≡◌, ◌<◌, ◌≤◌, ◌⊎◌, ℕ, List, Bool, true, false}
use Rattle.ds_policy.specs.declared.fault.PolicyFault.{PolicyFault}
use Rattle.ds_policy.specs.declared.fault.PolicyFault.TheVariants as policy
use Rattle.ds_policy.specs.declared.events.fault.EventsFault.{EventsFault}
use Rattle.ds_policy.specs.declared.events.fault.EventsFault.TheVariants as events
use Rattle.ds_asm.specs.declared.fault.AsmFault.{AsmFault}
use Rattle.ds_asm.specs.declared.fault.AsmFault.TheVariants as asm
use Rattle.ds_kernel.specs.declared.halt.Halt.{Halt}
use Rattle.ds_kernel.specs.declared.halt.Halt.TheVariants as halt
use Rattle.ds_station.specs.declared.fault.Fault.{Fault}
use Rattle.ds_station.specs.declared.fault.Fault.TheVariants.{BadRandom, InSource, BadToml, BadRule, Limit, InputFault, Failed, Memory}

-- what a refusal of the policy is to a run
abbrev pub of_policy : PolicyFault → Fault
of_policy policy.BadToml = BadToml
of_policy (policy.BadRule rule) = BadRule rule
of_policy (policy.Limit key) = Limit key
of_policy policy.Memory = Memory

-- what a refusal of the input is to a run
abbrev pub of_events : EventsFault → Fault
of_events (events.InputFault line) = InputFault line
of_events events.Memory = Memory

-- what the assembler answers for the source of this name is to a run
abbrev pub in_source : List ℕ → AsmFault → Fault
in_source name (asm.Source fault) = InSource name fault
in_source name asm.Memory = Memory

-- what a step that is not done is to a run
abbrev pub of_halt : Halt → Fault
of_halt halt.Memory = Memory
of_halt halt.Failed = Failed

-- a fault that comes of a step, and not of an earlier failure
abbrev pub IsNewFault : Fault → Type 0
IsNewFault Memory = Unit {0}
IsNewFault _ = ⊥

-- where a failure stands, the answer is that, and else a new fault
abbrev pub IsFaultAfter : Bool → Fault → Type 0
IsFaultAfter true f = f ≡ Failed
IsFaultAfter false f = IsNewFault f

-- why a station can't be made with this start of Random
abbrev pub IsStartFault : ℕ → Fault → Type 0
IsStartFault start BadRandom = (start < 8) ⊎ (64 ≤ start)
IsStartFault start Memory = Unit {0}
IsStartFault start _ = ⊥
