-- What standard error is told: of a failure, of a fault of a source, and of a check that is refused.
use Rattle.std.specs.Prelude.{ℕ, List, [], Option, Some, None}
use Rattle.ds_source_reasons.specs.Told.{FaultReason, fault_text}
use Rattle.ds_source_reasons.specs.declared.fault.FaultyLines.{FaultyLines}
use Rattle.ds_drive.specs.Told.{Passed}

-- the same of the code's lines
abbrev pub passed_in : FaultyLines → Passed
passed_in l = record { lines = l.passed; rest = l.rest.now }

-- the words of a reason, none where there is no reason
abbrev pub told_words : Option FaultReason → List ℕ
told_words None = []
told_words (Some why) = fault_text why
