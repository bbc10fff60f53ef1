-- Answers that are the same, whatever gdb debugs.
use Rattle.std.specs.Prelude.{codes, decimal, ℕ, Bool, nat_lt, if◌then◌else◌, List, [], ◌∷◌, ◌++◌}
use Rattle.ds_packets.specs.Framing.{hex_text}
use Rattle.ds_packets.specs.declared.packet.Refusal.{Refusal}
use Rattle.ds_packets.specs.declared.packet.Refusal.TheVariants.{Unknown, Malformed}

-- what can be asked
unfoldable pub basic_features : List ℕ
basic_features = codes "PacketSize=1000;ReverseStep+;ReverseContinue+;vContSupported+;QStartNoAckMode+;swbreak+;qXfer:features:read+"

-- several processes only where gdb has them
abbrev pub features_text : Bool → List ℕ
features_text multiple = basic_features ++ (if multiple then codes ";multiprocess+" else [])

-- the error of a packet that is not known, which is empty, or malformed
abbrev pub packet_error_text : Refusal → List ℕ
packet_error_text Unknown = []
packet_error_text Malformed = codes "E16"

-- of bytes of memory at most 2,048 are told
abbrev pub few : ℕ → ℕ
few n = if nat_lt n 2048 then n else 2048

-- bytes, or the error where there is none
abbrev pub bytes_text : List ℕ → List ℕ
bytes_text [] = codes "E14"
bytes_text (b ∷ bytes) = hex_text (b ∷ bytes)

-- how far a run for n has come, and whether it goes on
abbrev pub time_words : ℕ → ℕ → Bool → List ℕ
time_words time n going = codes "time " ++ decimal time ++ codes " of " ++ decimal n ++ (if going then codes ", goes on\n" else codes ", is over\n")
