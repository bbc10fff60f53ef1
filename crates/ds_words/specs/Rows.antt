-- Worked rows: theorems whose two sides compute to one value, with what they are made of.
pub mod SpanRows
pub mod ViewRows
pub mod WindowRows
pub mod BareDebugRows
