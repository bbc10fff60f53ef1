-- What a session with gdb writes while it reads, to its end.
use Rattle.std.specs.Prelude.{◌≡◌, ◌⊎◌, true, false, ℕ, List, [], ◌++◌, Option, ⊤}
use Rattle.std.specs.Io.KnownBytes.{Appends, Consumes, IsAtEnd}
use Rattle.ds_text.specs.Sent.{AppendsPart}
use Rattle.ds_packets.specs.Scanning.{start}
use Rattle.ds_gdb.specs.Streams.{Hears, StreamState, mark_text}
use Rattle.ds_gdb.specs.declared.serving.Ending.{Ending}
use Rattle.ds_gdb.specs.declared.serving.Ending.TheVariants.{Over, Unread}

-- what a reader had left and has left, and what a writer held and holds, where that is known
pub record Pipes : Type 0 where
  pub unread : Option (List ℕ)
  pub left : Option (List ℕ)
  pub old : Option (List ℕ)
  pub new : Option (List ℕ)

-- these four
abbrev pub pipes : Option (List ℕ) → Option (List ℕ) → Option (List ℕ) → Option (List ℕ) → Pipes
pipes unread left old new = record { unread = unread; left = left; old = old; new = new }

-- a text of which this holds is written
pub record WritesSo (P : List ℕ → Type 0) (before after : Option (List ℕ)) : Type 0 where
  pub text : List ℕ
  pub so : P text
  pub written : Appends before after text

-- of these bytes the first are heard, and a front of what is answered to them and of the acknowledgement of the next packet is written
pub record ServedPart {S : Type 0} (A : List ℕ → S → S → List ℕ → Type 0) (bytes : List ℕ) (old : StreamState S) (before after : Option (List ℕ)) : Type 0 where
  pub some : List ℕ
  pub rest : List ℕ
  pub whole : some ++ rest ≡ bytes
  pub last : StreamState S
  pub text : List ℕ
  pub hears : Hears A some old last [] text
  pub written : AppendsPart before after (text ++ mark_text last.exchange.acknowledges 43)

-- bytes were read, what they say was heard, and what is answered is written
pub record Serves {S : Type 0} (A : List ℕ → S → S → List ℕ → Type 0) (old new : StreamState S) (p : Pipes) : Type 0 where
  pub bytes : List ℕ
  pub read : Consumes p.unread p.left bytes
  pub heard : WritesSo (Hears A bytes old new []) p.old p.new

-- bytes were read, and the first of them were heard
pub record ServesPart {S : Type 0} (A : List ℕ → S → S → List ℕ → Type 0) (old : StreamState S) (p : Pipes) : Type 0 where
  pub bytes : List ℕ
  pub read : Consumes p.unread p.left bytes
  pub part : ServedPart A bytes old p.old p.new

-- how a session ends: gdb has ended it, or nothing is left to be read; or a read failed
abbrev pub EndsSo : {S : Type 0} → Ending → StreamState S → Pipes → Type 0
EndsSo Over s p = (s.exchange.ended ≡ true) ⊎ IsAtEnd p.left
EndsSo Unread s p = ⊤

-- the beginning of a stream, which this answers: packets are acknowledged, as long as gdb does not ask for silence
abbrev pub stream_of : {S : Type 0} → S → StreamState S
stream_of s = record { scan = start; exchange = record { session = s; acknowledges = true; ended = false } }
