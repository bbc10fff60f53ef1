-- What a session with gdb writes while it reads, to its end.
use Rattle.std.specs.Prelude.{ℕ, List, [], ⊤}
use Rattle.ds_gdb.specs.Serving.{EndsSo, Pipes, Serves, ServesPart, stream_of}
use Rattle.ds_gdb.specs.Streams.{StreamState}
use Rattle.ds_gdb.specs.declared.serving.Ending.{Ending}
use Rattle.ds_refinement.specs.Held.{Held}
use Rattle.ds_station.specs.declared.fault.Fault.{Fault}
use Rattle.ds_station.specs.declared.fault.Fault.TheVariants as fault
use Rattle.ds_debug.specs.Answering.{Answers}
use Rattle.ds_debug.specs.Inputs.{IsBeginning, RunInputs}
use Rattle.ds_debug.specs.Sessions.{SessionState, begun}

-- how a session answers the data of a packet
abbrev pub Replies : List ℕ → SessionState → SessionState → List ℕ → Type 0
Replies words old new text = Answers words old new [] text

-- the stream of a session at the beginning of a run
abbrev pub stream_at : RunInputs → ℕ → Held → StreamState SessionState
stream_at i n h = stream_of (begun i n h)

-- a session over a run of these for n was held to this end: what is written is what is answered to the bytes that were read
pub record Debugs (ending : Ending) (i : RunInputs) (n : ℕ) (p : Pipes) : Type 0 where
  pub first : Held
  pub begins : IsBeginning i n first
  pub last : StreamState SessionState
  pub serves : Serves Replies (stream_at i n first) last p
  pub ends : EndsSo ending last p

-- a fault cut it short: a front is written of what is answered to the first of these bytes
pub record DebugsPart (i : RunInputs) (n : ℕ) (p : Pipes) : Type 0 where
  pub first : Held
  pub begins : IsBeginning i n first
  pub serves : ServesPart Replies (stream_at i n first) p

-- a fault that comes after the inputs were taken: memory ran out, or a write failed
abbrev pub IsLate : Fault → Type 0
IsLate fault.WriteFault = ⊤
IsLate fault.Memory = ⊤
IsLate f = ⊥
