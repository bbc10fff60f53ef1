-- What gdb is told of a process that stands.
use Rattle.std.specs.Prelude.{codes, ℕ, List, [], ◌++◌}
use Rattle.ds_text.specs.Digits.{hex8}
use Rattle.ds_packets.specs.Framing.{hex_pair}
use Rattle.ds_gdb.specs.Threads.{thread_text}
use Rattle.ds_gdb.specs.declared.stops.Reason.{Reason}
use Rattle.ds_gdb.specs.declared.stops.Reason.TheVariants.{Rest, Break, Watch, Signal, Begin, End}

-- the signal: that of what was denied, or else SIGTRAP
abbrev pub signal_of : Reason → ℕ
signal_of (Signal s) = s
signal_of Rest = 5
signal_of Break = 5
signal_of (Watch a) = 5
signal_of Begin = 5
signal_of End = 5

-- what else is told of the reason
abbrev pub stop_reason_text : Reason → List ℕ
stop_reason_text Rest = []
stop_reason_text Break = codes "swbreak:;"
stop_reason_text (Watch a) = codes "watch:" ++ hex8 a ++ codes ";"
stop_reason_text (Signal s) = []
stop_reason_text Begin = codes "replaylog:begin;"
stop_reason_text End = codes "replaylog:end;"

-- the process, with why it stands
unfoldable pub stop_text : ℕ → Reason → List ℕ
stop_text p reason = codes "T" ++ hex_pair (signal_of reason) ++ codes "thread:" ++ thread_text p ++ codes ";" ++ stop_reason_text reason
