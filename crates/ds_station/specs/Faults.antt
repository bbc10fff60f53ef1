-- The faults of a run.
use Rattle.std.specs.Prelude.{◌≡◌, ℕ, Bool, true, false, Result, Err}
use Rattle.ds_asm.specs.Assembling.{source_fault_number}
use Rattle.ds_pagemap.specs.Run.{is_over}
use Rattle.ds_refinement.specs.Held.{Held}
use Rattle.ds_station.specs.declared.fault.Fault.{Fault}
use Rattle.ds_station.specs.declared.fault.Fault.TheVariants.{BadRandom, InSource, BadToml, BadRule, Limit, InputFault, Stuck, Failed, WriteFault, NoSource, Memory}

-- the fault's number among the refusals
abbrev pub fault_number : Fault → ℕ
fault_number BadRandom = 1
fault_number (InSource name fault) = source_fault_number fault
fault_number BadToml = 8
fault_number (BadRule rule) = 9
fault_number (Limit key) = 10
fault_number (InputFault line) = 20
fault_number Stuck = 21
fault_number Failed = 22
fault_number WriteFault = 23
fault_number (NoSource name) = 24
fault_number Memory = 25

-- What is held where the next step is refused by a fault: memory runs out only where no unit is begun.
abbrev pub RefusesStep : Fault → Held → Type 0
RefusesStep Memory h = (h.own.failed ≡ false) × (h.own.spent ≡ 0) × (is_over h.kept.state ≡ false)
RefusesStep Failed h = h.own.failed ≡ true
RefusesStep _ h = ⊥

-- whether the answer is that a write failed
abbrev pub is_unwritten : {T : Type 0} → Result T Fault → Bool
is_unwritten (Err WriteFault) = true
is_unwritten result = false
