-- What a session with gdb writes while it reads, to its end.
use Rattle.std.specs.Prelude.{◌⊎◌, ℕ, List, [], Option, Result}
use Rattle.ds_text.specs.Sent.{AppendsPart}
use Rattle.ds_packets.specs.declared.scan.PacketFault.{PacketFault}
use Rattle.ds_gdb.specs.Streams.{ExchangeState, HearsAll, HearsWords, mark_text}

-- a front of such a text is written
pub record WritesFront (P : List ℕ → Type 0) (before after : Option (List ℕ)) : Type 0 where
  pub text : List ℕ
  pub so : P text
  pub written : AppendsPart before after text

-- a packet of these words is not answered whole: at most its acknowledgement is written, or a front of that and the answer
abbrev pub IsCutAt : {S : Type 0} → (List ℕ → S → S → List ℕ → Type 0) → List ℕ → ExchangeState S → Option (List ℕ) → Option (List ℕ) → Type 0
IsCutAt {S} A words old before after =
    AppendsPart before after (mark_text old.acknowledges 43)
    ⊎ ((new : ExchangeState S) × WritesFront (HearsWords A words old new []) before after)

-- what came is not answered whole: at most its acknowledgement is written, or a front of what is answered
abbrev pub IsCutIn : {S : Type 0} → (List ℕ → S → S → List ℕ → Type 0) → List (Result (List ℕ) PacketFault) → ExchangeState S → Option (List ℕ) → Option (List ℕ) → Type 0
IsCutIn {S} A items old before after =
    AppendsPart before after (mark_text old.acknowledges 43)
    ⊎ ((new : ExchangeState S) × WritesFront (HearsAll A items old new []) before after)
