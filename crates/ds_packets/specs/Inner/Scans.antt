-- Where a stream of packets stands between two of its bytes.
use Rattle.std.specs.Prelude.{ℕ, List, ⊤}
use Rattle.ds_packets.specs.declared.scan.Place.{Place}
use Rattle.ds_packets.specs.declared.scan.Place.TheVariants as place
use Rattle.ds_packets.specs.Scans.{Scan, Ended, Half, Between, Within}

-- what is kept at a place, with this text
abbrev pub scan_of : Place → List ℕ → Scan
scan_of place.Between text = Between
scan_of place.Text text = Within text
scan_of place.Ended text = Ended text
scan_of (place.Half high) text = Half text high

-- in a packet's text
abbrev pub IsWithin : Scan → Type 0
IsWithin Between = ⊥
IsWithin (Within text) = ⊤
IsWithin (Ended text) = ⊥
IsWithin (Half text high) = ⊥
