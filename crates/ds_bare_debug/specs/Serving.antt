-- What a session writes, as a function of its run and of the bytes that were read.
use Rattle.std.specs.Prelude.{◌≡◌, ◌⊎◌, ⊤, ℕ, Bool, true, false, List, [], ◌∷◌, ◌++◌, Result, Ok, Err}
use Rattle.std.specs.Io.KnownBytes.{Appends, Consumes, IsAtEnd, Keeps}
use Rattle.ds_text.specs.Sent.{AppendsPart}
use Rattle.ds_packets.specs.Packets.{packet_of}
use Rattle.ds_packets.specs.Scanning.{start}
use Rattle.ds_packets.specs.Streams.{all_came}
use Rattle.ds_packets.specs.declared.scan.PacketFault.{PacketFault}
use Rattle.ds_bare.specs.Faults.{may_start}
use Rattle.ds_bare.specs.declared.fault.BareFault.{BareFault}
use Rattle.ds_bare.specs.declared.fault.BareFault.TheVariants.{BadRandom, WriteFault, Memory}
use Rattle.ds_gdb.specs.Serving.{Pipes, stream_of}
use Rattle.ds_gdb.specs.Streams.{ExchangeState, after_words, mark_text}
use Rattle.ds_gdb.specs.declared.serving.Ending.{Ending}
use Rattle.ds_gdb.specs.declared.serving.Ending.TheVariants.{Over, Unread}
use Rattle.ds_bare_debug.specs.Positions.{BareRun}
use Rattle.ds_bare_debug.specs.Sessions.{BareSession, after_data, session_begun, data_text}

-- after what came, where the session has not ended
abbrev pub after_live : Result (List ℕ) PacketFault → ExchangeState BareSession → ExchangeState BareSession
after_live (Err fault) e = e
after_live (Ok words) e = after_words (packet_of words) (record e { session = after_data words e.session })

-- what is written then: an acknowledgement and the answer, or a refusal
abbrev pub live_text : Result (List ℕ) PacketFault → ExchangeState BareSession → List ℕ
live_text (Err fault) e = mark_text e.acknowledges 45
live_text (Ok words) e = mark_text e.acknowledges 43 ++ data_text words e.session

-- by whether it has
abbrev pub after_item : Bool → Result (List ℕ) PacketFault → ExchangeState BareSession → ExchangeState BareSession
after_item true item e = e
after_item false item e = after_live item e

abbrev pub item_text : Bool → Result (List ℕ) PacketFault → ExchangeState BareSession → List ℕ
item_text true item e = []
item_text false item e = live_text item e

-- after all that came, one after another
unfoldable pub after_items : List (Result (List ℕ) PacketFault) → ExchangeState BareSession → ExchangeState BareSession
after_items [] e = e
after_items (item ∷ items) e = after_items items (after_item e.ended item e)

-- what is written then
unfoldable pub items_text : List (Result (List ℕ) PacketFault) → ExchangeState BareSession → List ℕ
items_text [] e = []
items_text (item ∷ items) e = item_text e.ended item e ++ items_text items (after_item e.ended item e)

-- the beginning of a session over a run
abbrev pub exchange_at : BareRun → ExchangeState BareSession
exchange_at r = (stream_of (session_begun r)).exchange

-- what is written to these bytes
abbrev pub session_text : BareRun → List ℕ → List ℕ
session_text r bytes = items_text (all_came start bytes) (exchange_at r)

-- whether gdb has ended the session with them
abbrev pub session_ended : BareRun → List ℕ → Bool
session_ended r bytes = (after_items (all_came start bytes) (exchange_at r)).ended

-- whether packets are acknowledged after them
abbrev pub session_acknowledges : BareRun → List ℕ → Bool
session_acknowledges r bytes = (after_items (all_came start bytes) (exchange_at r)).acknowledges

-- how it ends: gdb has ended it, or nothing is left to be read; or a read failed
abbrev pub EndsSession : Ending → BareRun → List ℕ → Pipes → Type 0
EndsSession Over r bytes p = (session_ended r bytes ≡ true) ⊎ IsAtEnd p.left
EndsSession Unread r bytes p = ⊤

-- a session over a run was held to this end: bytes were read, and what is answered to them is written
pub record DebugsBare (ending : Ending) (r : BareRun) (p : Pipes) : Type 0 where
  pub starts : may_start r.random ≡ true
  pub bytes : List ℕ
  pub read : Consumes p.unread p.left bytes
  pub written : Appends p.old p.new (session_text r bytes)
  pub ends : EndsSession ending r bytes p

-- it was cut short: a front is written of what is answered to the first of the bytes, and of the acknowledgement of the next packet
pub record CutsBareDebug (r : BareRun) (p : Pipes) : Type 0 where
  pub starts : may_start r.random ≡ true
  pub bytes : List ℕ
  pub read : Consumes p.unread p.left bytes
  pub some : List ℕ
  pub rest : List ℕ
  pub whole : some ++ rest ≡ bytes
  pub written : AppendsPart p.old p.new (session_text r some ++ mark_text (session_acknowledges r some) 43)

-- nothing was read or written
abbrev pub IsUntouched : Pipes → Type 0
IsUntouched p = Keeps p.unread p.left × Keeps p.old p.new

-- when each fault comes, and what is written then
abbrev pub BareDebugEndsBy : BareFault → BareRun → Pipes → Type 0
BareDebugEndsBy BadRandom r p = (may_start r.random ≡ false) × IsUntouched p
BareDebugEndsBy WriteFault r p = CutsBareDebug r p
BareDebugEndsBy Memory r p = IsUntouched p ⊎ CutsBareDebug r p
