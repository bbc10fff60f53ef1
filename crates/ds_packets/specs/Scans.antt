-- Where a stream of packets stands between two of its bytes.
use Rattle.std.specs.Prelude.{ℕ, List}

-- between packets; in the text of one; after the `#` of one; after the first digit of its sum
pub data Scan : Type 0 where
  Between : Scan
  Within : (text : List ℕ) → Scan
  Ended : (text : List ℕ) → Scan
  Half : (text : List ℕ) (high : ℕ) → Scan
