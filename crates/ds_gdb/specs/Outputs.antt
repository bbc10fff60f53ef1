-- Texts that gdb shows its user.
use Rattle.std.specs.Prelude.{codes, ℕ, ◌+◌, ◌*◌, ◌/◌, List, ◌++◌, length, take, drop}
use Rattle.ds_packets.specs.Framing.{frame, hex_text}
use Rattle.ds_gdb.specs.Each.{each}

-- a piece of at most 1,000 bytes, after so many others
abbrev pub piece_of : List ℕ → ℕ → List ℕ
piece_of text i = take 1000 (drop (1000 * i) text)

-- the packet of a piece
abbrev pub output_frame : List ℕ → List ℕ
output_frame piece = frame (codes "O" ++ hex_text piece)

-- the packets of a text
abbrev pub outputs_text : List ℕ → List ℕ
outputs_text text = each (λ i. output_frame (piece_of text i)) 0 ((length text + 999) / 1000)
