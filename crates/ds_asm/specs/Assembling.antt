-- What the calls of the assembler return, beside what a source says.
use Rattle.std.specs.Prelude.{ℕ, List, codes}
use Rattle.ds_asm.specs.declared.fault.SourceFault.{SourceFault}
use Rattle.ds_asm.specs.declared.fault.SourceFault.TheVariants.{Syntax, UnknownLabel, DoubleLabel, Range, TooLong}

-- the number of a source's fault among the refusals
abbrev pub source_fault_number : SourceFault → ℕ
source_fault_number (Syntax line) = 3
source_fault_number (UnknownLabel line) = 4
source_fault_number (DoubleLabel line) = 5
source_fault_number (Range line) = 6
source_fault_number (TooLong line) = 7

-- its name there
abbrev pub source_fault_name : SourceFault → List ℕ
source_fault_name (Syntax line) = codes "Syntax"
source_fault_name (UnknownLabel line) = codes "UnknownLabel"
source_fault_name (DoubleLabel line) = codes "DoubleLabel"
source_fault_name (Range line) = codes "Range"
source_fault_name (TooLong line) = codes "TooLong"

-- the line in which it stands, from 1
abbrev pub source_fault_line : SourceFault → ℕ
source_fault_line (Syntax line) = line
source_fault_line (UnknownLabel line) = line
source_fault_line (DoubleLabel line) = line
source_fault_line (Range line) = line
source_fault_line (TooLong line) = line
