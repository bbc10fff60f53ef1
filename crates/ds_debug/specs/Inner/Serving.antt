-- What a session with gdb writes while it reads, to its end.
use Rattle.std.specs.Prelude.{◌⊎◌, ℕ}
use Rattle.std.specs.Io.KnownBytes.{Keeps}
use Rattle.ds_gdb.specs.Serving.{Pipes}
use Rattle.ds_station.specs.Headline.{Refuses}
use Rattle.ds_station.specs.declared.fault.Fault.{Fault}
use Rattle.ds_debug.specs.Inputs.{RunInputs, first_state_of}
use Rattle.ds_debug.specs.Serving.{DebugsPart, IsLate}

-- when each fault comes, and what is written then
abbrev pub DebugEndsBy : Fault → RunInputs → ℕ → Pipes → Type 0
DebugEndsBy f i n p = (Refuses f (first_state_of i n) × Keeps p.unread p.left × Keeps p.old p.new) ⊎ (IsLate f × DebugsPart i n p)
