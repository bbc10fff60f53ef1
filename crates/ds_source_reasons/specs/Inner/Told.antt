-- The reasons of the faults of a source.
use Rattle.ds_source_reasons.specs.declared.fault.FaultReason as code
use Rattle.ds_source_reasons.specs.declared.fault.FaultReason.TheVariants as told
use Rattle.ds_source_reasons.specs.Inner.Plain.{plain_range, plain_reason}
use Rattle.ds_source_reasons.specs.Told.{FaultReason, OutOf, Unread}

-- a reason of the code, with its texts as lists
abbrev pub plain_fault : code.FaultReason → FaultReason
plain_fault (told.Syntax reason) = Unread (plain_reason reason)
plain_fault (told.Range reason) = OutOf (plain_range reason)
