-- Worked rows: theorems whose two sides compute to one value, with what they are made of.
pub mod CaretRows
pub mod MissingRows
pub mod OnLines
pub mod RangeRows
pub mod SyntaxRows
pub mod TextRows
