-- Why the statement of a line may not stand.
use Rattle.std.specs.Prelude.{ℕ, List, Option}
use Rattle.ds_word.specs.OptionBinding.{◌>>=◌}
use Rattle.ds_asm.specs.Lines.{line_of}
use Rattle.ds_source_reasons.specs.Ranges.{RangeReason, cause_in, range_by}

-- why the statement of a line may not stand at a place of the image
unfoldable pub range_reason_of : ℕ → List ℕ → Option RangeReason
range_reason_of at line = cause_in at (line_of line) >>= range_by at line
