-- What a stream of packets consists of.
use Rattle.std.specs.Prelude.{◌≡◌, ◌≢◌, ◌≤◌, ⊤, ℕ, List, [], ◌∷◌, ◌++◌, length, Result, Err}
use Rattle.std.specs.List.{AllByRecursion}
use Rattle.ds_packets.specs.declared.scan.PacketFault.{PacketFault}
use Rattle.ds_packets.specs.declared.scan.PacketFault.TheVariants.{Long}
use Rattle.ds_packets.specs.Scans.{Scan, Between, Within, Ended, Half}
use Rattle.ds_packets.specs.Scanning.{data_of}

-- a byte between packets; a packet with the two digits of its sum; as much of a packet that is too long as shows that it is
pub data Piece : Type 0 where
  Passed : (b : ℕ) → Piece
  Framed : (text : List ℕ) (high : ℕ) (low : ℕ) → Piece
  TooLong : (text : List ℕ) → Piece

-- the bytes of a piece
abbrev pub bytes_of : Piece → List ℕ
bytes_of (Passed b) = b ∷ []
bytes_of (Framed text high low) = 36 ∷ (text ++ 35 ∷ high ∷ low ∷ [])
bytes_of (TooLong text) = 36 ∷ text

-- no `#` is among them
abbrev pub IsText : List ℕ → Type 0
IsText text = AllByRecursion (λ b. b ≢ 35) text

-- no `$` passes between packets; a text has no `#`, and 4,096 bytes at most, or one more where it is too long
abbrev pub IsPiece : Piece → Type 0
IsPiece (Passed b) = b ≢ 36
IsPiece (Framed text high low) = (length text ≤ 4096) × IsText text
IsPiece (TooLong text) = (length text ≡ 4097) × IsText text

-- what a piece says
abbrev pub said : Piece → List (Result (List ℕ) PacketFault)
said (Passed b) = []
said (Framed text high low) = data_of text high low ∷ []
said (TooLong text) = Err Long ∷ []

-- the bytes so far of a packet that is not whole
abbrev pub so_far : Scan → List ℕ
so_far Between = []
so_far (Within text) = 36 ∷ text
so_far (Ended text) = 36 ∷ (text ++ 35 ∷ [])
so_far (Half text high) = 36 ∷ (text ++ 35 ∷ high ∷ [])

-- its text may be that of a packet
abbrev pub IsCut : Scan → Type 0
IsCut Between = ⊤
IsCut (Within text) = (length text ≤ 4096) × IsText text
IsCut (Ended text) = (length text ≤ 4096) × IsText text
IsCut (Half text high) = (length text ≤ 4096) × IsText text

-- the bytes of pieces, and those of a packet that is not whole
abbrev pub stream_of : List Piece → Scan → List ℕ
stream_of [] rest = so_far rest
stream_of (piece ∷ pieces) rest = bytes_of piece ++ stream_of pieces rest

-- what pieces say
abbrev pub all_said : List Piece → List (Result (List ℕ) PacketFault)
all_said [] = []
all_said (piece ∷ pieces) = said piece ++ all_said pieces

-- the stream is these pieces, and a packet that is not whole
pub record Splits (stream : List ℕ) (pieces : List Piece) (rest : Scan) : Type 0 where
  pub whole : stream ≡ stream_of pieces rest
  pub each : AllByRecursion IsPiece pieces
  pub cut : IsCut rest

-- each stream is pieces, and a packet that is not whole
pub record IsSplit (stream : List ℕ) : Type 0 where
  pub pieces : List Piece
  pub rest : Scan
  pub splits : Splits stream pieces rest
