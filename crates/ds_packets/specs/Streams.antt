-- What a stream of packets consists of.
use Rattle.std.specs.Prelude.{ℕ, List, [], ◌∷◌, ◌++◌, Option, Some, None, Result}
use Rattle.ds_packets.specs.declared.scan.PacketFault.{PacketFault}
use Rattle.ds_packets.specs.Scans.{Scan}
use Rattle.ds_packets.specs.Scanning.{came, scanned}

-- what came, as a list
abbrev pub as_list : {A : Type 0} → Option A → List A
as_list None = []
as_list (Some x) = x ∷ []

-- all that comes with these bytes, one after the other
abbrev pub all_came : Scan → List ℕ → List (Result (List ℕ) PacketFault)
all_came s [] = []
all_came s (b ∷ bs) = as_list (came s b) ++ all_came (scanned s b) bs
