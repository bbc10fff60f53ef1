-- The table of instructions (Kane and Heinrich, appendix A): what it says of a word, of an
-- instruction and of a source text.
use Rattle.std.specs.Prelude.{ℕ, List, filter}
use Rattle.ds_isa.specs.Instruction.{Row, fits, row, rows}

-- the rows that a word fits
abbrev pub rows_of : ℕ → List Row
rows_of w = filter (λ row. fits row w) rows
