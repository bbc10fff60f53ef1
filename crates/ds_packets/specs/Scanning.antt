-- What comes with each byte of a stream of packets.
use Rattle.std.specs.Prelude.{ℕ, ◌%◌, ◌^◌, Bool, false, ◌==◌, nat_lt, List, [], ◌∷◌, ◌++◌, length, sum, Option, Some, None, Result, Ok, Err, if◌then◌else◌}
use Rattle.ds_packets.specs.declared.scan.PacketFault.{PacketFault}
use Rattle.ds_packets.specs.declared.scan.PacketFault.TheVariants.{Sum, Escape, Long}
use Rattle.ds_packets.specs.Framing.{pair_of, unescaped}
use Rattle.ds_packets.specs.Scans.{Scan, Between, Within, Ended, Half}

-- the beginning of a stream
abbrev pub start : Scan
start = Between

-- whether two digits write the sum
abbrev pub writes : Option ℕ → ℕ → Bool
writes None n = false
writes (Some m) n = m == n

-- the data that was read, unless an escape was cut
abbrev pub or_cut : Option (List ℕ) → Result (List ℕ) PacketFault
or_cut None = Err Escape
or_cut (Some bytes) = Ok bytes

-- what a text with the two digits of its sum says
abbrev pub data_of : List ℕ → ℕ → ℕ → Result (List ℕ) PacketFault
data_of text high low = if writes (pair_of high low) (sum text % 2 ^ 8) then or_cut (unescaped text) else Err Sum

-- where the stream stands after one more byte
abbrev pub scanned : Scan → ℕ → Scan
scanned Between b = if b == 36 then Within [] else Between
scanned (Within text) b = if b == 35 then Ended text else if nat_lt (length text) 4096 then Within (text ++ b ∷ []) else Between
scanned (Ended text) b = Half text b
scanned (Half text high) b = Between

-- the packet that ends with this byte, or why it is none
abbrev pub came : Scan → ℕ → Option (Result (List ℕ) PacketFault)
came Between b = None
came (Within text) b = if b == 35 then None else if nat_lt (length text) 4096 then None else Some (Err Long)
came (Ended text) b = None
came (Half text high) b = Some (data_of text high b)
