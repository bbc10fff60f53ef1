-- Refusals, and what is written by then.
use Rattle.std.specs.Prelude.{ℕ}
use Rattle.ds_bare.specs.declared.fault.BareFault.{BareFault}
use Rattle.ds_bare.specs.declared.fault.BareFault.TheVariants.{BadRandom, WriteFault, Memory}

-- the number of a refusal
abbrev pub bare_fault_number : BareFault → ℕ
bare_fault_number BadRandom = 1
bare_fault_number WriteFault = 23
bare_fault_number Memory = 25
