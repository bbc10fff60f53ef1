-- Fetches, loads and stores: alignment before the segment, that before the translation, and then the bus.
use Rattle.std.specs.Prelude.{ℕ, Result, Ok, Err}
use Rattle.ds_isa.specs.declared.instr.Instr.{Instr}
use Rattle.ds_isa.specs.Instruction.{instruction_of}
use Rattle.ds_dev.specs.declared.fault.BusError.{BusError}

-- the instruction of the word that the bus answered
abbrev pub decoded : Result ℕ BusError → Result Instr BusError
decoded (Ok w) = Ok (instruction_of w)
decoded (Err e) = Err e
