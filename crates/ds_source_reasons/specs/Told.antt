-- The reasons of the faults of a source.
use Rattle.std.specs.Prelude.{ℕ, zero, suc, ◌+◌, ◌%◌, ◌==◌, List, Option, None, option_map}
use Rattle.std.specs.List.{before_first, after_first}
use Rattle.ds_asm.specs.declared.fault.SourceFault.{SourceFault}
use Rattle.ds_asm.specs.declared.fault.SourceFault.TheVariants as fault
use Rattle.ds_asm.specs.Faults.{size_in}
use Rattle.ds_asm.specs.Lines.{line_of}
use Rattle.ds_source_reasons.specs.Reasons.{Reason, reason_of}
use Rattle.ds_source_reasons.specs.Ranges.{RangeReason, range_by, range_cause}
use Rattle.ds_source_reasons.specs.Texts.{reason_text, range_text}

-- why a line can't be read, or why its statement is out of range
pub data FaultReason : Type 0 where
  Unread : (reason : Reason) → FaultReason
  OutOf : (reason : RangeReason) → FaultReason

-- the reason of a fault of a line that begins at a place of the image
abbrev pub told_reason : SourceFault → ℕ → List ℕ → Option FaultReason
told_reason (fault.Syntax n) place line = option_map (λ why. Unread why) (reason_of line)
told_reason (fault.Range n) place line = option_map (λ why. OutOf why) (range_by place line (range_cause place line))
told_reason (fault.UnknownLabel n) place line = None
told_reason (fault.DoubleLabel n) place line = None
told_reason (fault.TooLong n) place line = None

-- the words of a reason
abbrev pub fault_text : FaultReason → List ℕ
fault_text (Unread reason) = reason_text reason
fault_text (OutOf reason) = range_text reason

-- the first line of a text
abbrev pub line_in : List ℕ → List ℕ
line_in text = before_first (λ b. b == 10) text

-- what stands after the first line of a text
abbrev pub after_line : List ℕ → List ℕ
after_line text = after_first (λ b. b == 10) text

-- how far behind a multiple of four the bytes of a line end that begin at a place
abbrev pub line_after : ℕ → List ℕ → ℕ
line_after place line = (place % 4 + size_in (line_of line) % 4) % 4

-- what stands after so many lines of a text
abbrev pub after_lines : ℕ → List ℕ → List ℕ
after_lines zero text = text
after_lines (suc k) text = after_lines k (after_line text)

-- how far behind a multiple of four the bytes of so many lines end
abbrev pub offset_after : ℕ → ℕ → List ℕ → ℕ
offset_after zero place text = place
offset_after (suc k) place text = offset_after k (line_after place (line_in text)) (after_line text)

-- the reason of a fault of the line that stands after so many lines of a text
abbrev pub fault_reason_at : ℕ → SourceFault → List ℕ → Option FaultReason
fault_reason_at k fault text = told_reason fault (offset_after k 0 text) (line_in (after_lines k text))
