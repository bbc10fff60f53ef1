-- What is written to gdb while its bytes come, by what answers its packets.
use Rattle.std.specs.Prelude.{◌≡◌, ℕ, Bool, true, false, List, [], ◌∷◌, ◌++◌, Result, Ok, Err}
use Rattle.ds_packets.specs.Packets.{packet_of}
use Rattle.ds_packets.specs.Scanning.{scanned}
use Rattle.ds_packets.specs.Scans.{Scan}
use Rattle.ds_packets.specs.Streams.{all_came}
use Rattle.ds_packets.specs.declared.packet.Packet.{Packet}
use Rattle.ds_packets.specs.declared.packet.Packet.TheVariants.{NoAcknowledgements, End}
use Rattle.ds_packets.specs.declared.packet.Refusal.{Refusal}
use Rattle.ds_packets.specs.declared.scan.PacketFault.{PacketFault}

-- a text for which this holds was added
pub record Adds (P : List ℕ → Type 0) (before after : List ℕ) : Type 0 where
  pub text : List ℕ
  pub so : P text
  pub told : after ≡ before ++ text

-- what answers packets, whether packets are acknowledged, and whether gdb has ended the session
pub record ExchangeState (S : Type 0) : Type 0 where
  pub session : S
  pub acknowledges : Bool
  pub ended : Bool

-- and where the stream of bytes stands
pub record StreamState (S : Type 0) : Type 0 where
  pub scan : Scan
  pub exchange : ExchangeState S

-- a packet is acknowledged by `+`, and what is none by `-`
abbrev pub mark_text : Bool → ℕ → List ℕ
mark_text true mark = mark ∷ []
mark_text false mark = []

-- whether packets are acknowledged after this one
abbrev pub acknowledges_after : Packet → Bool → Bool
acknowledges_after NoAcknowledgements before = false
acknowledges_after other before = before

-- gdb ends the session by it
abbrev pub ends_session : Packet → Bool
ends_session End = true
ends_session other = false

-- what changes with a packet besides what answers it
abbrev pub after_words : {S : Type 0} → Result Packet Refusal → ExchangeState S → ExchangeState S
after_words (Err refusal) e = e
after_words (Ok packet) e = record e { acknowledges = acknowledges_after packet e.acknowledges; ended = ends_session packet }

-- A says of data what answers them, before and after, and the text: a packet of these words is answered
pub record AnswersWords {S : Type 0} (A : List ℕ → S → S → List ℕ → Type 0) (words : List ℕ) (old new : ExchangeState S) (before after : List ℕ) : Type 0 where
  pub answers : Adds (A words old.session new.session) before after
  pub rest : new ≡ after_words (packet_of words) (record old { session = new.session })

-- it is acknowledged, and then answered
abbrev pub HearsWords : {S : Type 0} → (List ℕ → S → S → List ℕ → Type 0) → List ℕ → ExchangeState S → ExchangeState S → List ℕ → List ℕ → Type 0
HearsWords A words old new before = AnswersWords A words old new (before ++ mark_text old.acknowledges 43)

-- this was written, and nothing has changed
pub record Marks {S : Type 0} (text : List ℕ) (old new : ExchangeState S) (before after : List ℕ) : Type 0 where
  pub same : new ≡ old
  pub told : after ≡ before ++ text

-- by what came, where the session has not ended
abbrev pub HearsLive : {S : Type 0} → (List ℕ → S → S → List ℕ → Type 0) → Result (List ℕ) PacketFault → ExchangeState S → ExchangeState S → List ℕ → List ℕ → Type 0
HearsLive A (Ok words) old = HearsWords A words old
HearsLive A (Err fault) old = Marks (mark_text old.acknowledges 45) old

-- by whether it has
abbrev pub HearsBy : {S : Type 0} → (List ℕ → S → S → List ℕ → Type 0) → Bool → Result (List ℕ) PacketFault → ExchangeState S → ExchangeState S → List ℕ → List ℕ → Type 0
HearsBy A true item old = Marks [] old
HearsBy A false item old = HearsLive A item old

-- a packet that came, or what came and is none, is heard
abbrev pub HearsOne : {S : Type 0} → (List ℕ → S → S → List ℕ → Type 0) → Result (List ℕ) PacketFault → ExchangeState S → ExchangeState S → List ℕ → List ℕ → Type 0
HearsOne A item old = HearsBy A old.ended item old

-- all of them are, one after another
abbrev pub HearsAll : {S : Type 0} → (List ℕ → S → S → List ℕ → Type 0) → List (Result (List ℕ) PacketFault) → ExchangeState S → ExchangeState S → List ℕ → List ℕ → Type 0
HearsAll A [] old new before after = Marks [] old new before after
HearsAll {S} A (item ∷ items) old new before after = (between : ExchangeState S) × (text : List ℕ) × HearsOne A item old between before text × HearsAll A items between new text after

-- where a stream stands after these bytes
abbrev pub scan_through : Scan → List ℕ → Scan
scan_through s [] = s
scan_through s (b ∷ bytes) = scan_through (scanned s b) bytes

-- bytes come, and what they say is heard
pub record Hears {S : Type 0} (A : List ℕ → S → S → List ℕ → Type 0) (bytes : List ℕ) (old new : StreamState S) (before after : List ℕ) : Type 0 where
  pub scan : new.scan ≡ scan_through old.scan bytes
  pub heard : HearsAll A (all_came old.scan bytes) old.exchange new.exchange before after
