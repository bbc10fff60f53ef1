-- What the data of a packet say.
use Rattle.std.specs.Prelude.{ℕ, ◌+◌, ◌*◌, Bool, true, false, ◌==◌, ◌&&◌, ◌||◌, nat_le, nat_lt, bytes_eq, codes, is_some, List, [], ◌∷◌, length, take, drop, Option, Some, None, option_and_then, option_map, Result, Ok, Err, if◌then◌else◌}
use Rattle.std.specs.List.{list_all, list_any}
use Rattle.ds_word.specs.Digits.{digit_of}
use Rattle.ds_word.specs.OptionBinding.{◌>>=◌}
use Rattle.ds_packets.specs.declared.packet.Who.{Who}
use Rattle.ds_packets.specs.declared.packet.Who.TheVariants as who
use Rattle.ds_packets.specs.declared.packet.Action.{Action}
use Rattle.ds_packets.specs.declared.packet.Action.TheVariants.{Continue, Step, Range}
use Rattle.ds_packets.specs.declared.packet.Report.{Report}
use Rattle.ds_packets.specs.declared.packet.Report.TheVariants as report
use Rattle.ds_packets.specs.declared.packet.Packet.{Packet}
use Rattle.ds_packets.specs.declared.packet.Packet.TheVariants.{Supported, NoAcknowledgements, Description, Why, FirstThreads, MoreThreads, ThreadInfo, Monitor, StopAt, Attached, Current, Alive, Look, Go, Registers, Register, Memory, Write, Break, Unbreak, Watch, Unwatch, Actions, Resume, Forward, Backward, Leave, End}
use Rattle.ds_packets.specs.declared.packet.Refusal.{Refusal}
use Rattle.ds_packets.specs.declared.packet.Refusal.TheVariants.{Unknown, Malformed}
use Rattle.ds_packets.specs.Framing.{hex_text, pair_of}
use Rattle.ds_packets.specs.Words.{after_mark, before, hex_number, pair_at, parts, who_of}

-- a packet, where its words were read
abbrev pub packet_read : Option Packet → Result Packet Refusal
packet_read None = Err Malformed
packet_read (Some packet) = Ok packet

-- a packet that has nothing after its name
abbrev pub alone : List ℕ → Packet → Result Packet Refusal
alone rest packet = if length rest == 0 then Ok packet else Err Malformed

-- a part of the description, from a place on, of a length
abbrev pub part_of : Option (ℕ × ℕ) → Result Packet Refusal
part_of None = Err Malformed
part_of (Some range) = Ok (Description range.0 range.1)

-- features:read:target.xml:OFFSET,LENGTH
abbrev pub described : List ℕ → Result Packet Refusal
described rest =
    if bytes_eq (before 58 rest) (codes "features")
    then (if bytes_eq (before 58 (after_mark 58 rest)) (codes "read") && bytes_eq (before 58 (after_mark 58 (after_mark 58 rest))) (codes "target.xml")
    then part_of (pair_at (after_mark 58 (after_mark 58 (after_mark 58 rest))))
    else Err Malformed)
    else Err Unknown

-- whose registers and memory are looked at, or which processes go
abbrev pub for_purpose : ℕ → Who → Option Packet
for_purpose purpose processes = if purpose == 103 then Some (Look processes) else if purpose == 99 then Some (Go processes) else None

-- a purpose, and a thread's name
abbrev pub looked : List ℕ → Option Packet
looked [] = None
looked (purpose ∷ word) = who_of word >>= for_purpose purpose

-- a breakpoint at an address
abbrev pub breakpoint : Bool → Option (ℕ × ℕ) → Result Packet Refusal
breakpoint set None = Err Malformed
breakpoint set (Some range) = Ok (if set then Break range.0 else Unbreak range.0)

-- a watch of so many bytes from an address on
abbrev pub watchpoint : Bool → Option (ℕ × ℕ) → Result Packet Refusal
watchpoint set None = Err Malformed
watchpoint set (Some range) = Ok (if set then Watch range.0 range.1 else Unwatch range.0 range.1)

-- KIND,ADDRESS,SIZE: a breakpoint, of which both kinds are one, or a watch of what is written
abbrev pub stopped_at : Bool → List ℕ → Result Packet Refusal
stopped_at set rest =
    if bytes_eq (before 44 rest) (codes "0") || bytes_eq (before 44 rest) (codes "1")
    then breakpoint set (pair_at (after_mark 44 rest))
    else if bytes_eq (before 44 rest) (codes "2") then watchpoint set (pair_at (after_mark 44 rest))
    else Err Unknown

-- after b: c or s
abbrev pub back_of : List ℕ → Result Packet Refusal
back_of rest =
    if bytes_eq rest (codes "c") then Ok (Backward Continue)
    else if bytes_eq rest (codes "s") then Ok (Backward Step)
    else Err Unknown

-- two hexadecimal digits
abbrev pub is_signal : List ℕ → Bool
is_signal (high ∷ low ∷ []) = is_some (pair_of high low)
is_signal _ = false

-- the range of two addresses
abbrev pub range_of : Option (ℕ × ℕ) → Option Action
range_of None = None
range_of (Some range) = Some (Range range.0 range.1)

-- c, s, CSIGNAL, SSIGNAL or rFROM,TO
abbrev pub action_of : List ℕ → Option Action
action_of [] = None
action_of (letter ∷ rest) =
    if letter == 99 && (length rest == 0) then Some Continue
    else if letter == 115 && (length rest == 0) then Some Step
    else if letter == 67 && is_signal rest then Some Continue
    else if letter == 83 && is_signal rest then Some Step
    else if letter == 114 then range_of (pair_at rest)
    else None

-- an action with the processes that it is for; where none are named, all
abbrev pub for_whom : List ℕ → Action → Option (Action × Who)
for_whom thread action = if length thread == 0 then Some (action, who.All) else option_map (λ w. (action, w)) (who_of thread)

-- ACTION or ACTION:THREAD
abbrev pub step_of : List ℕ → Option (Action × Who)
step_of word = action_of (before 58 word) >>= for_whom (after_mark 58 word)

-- a process is among those that are named
abbrev pub names_process : Who → ℕ → Bool
names_process who.Any process = true
names_process who.All process = true
names_process (who.Process n) process = n == process

-- ;ACTION;ACTION..
abbrev pub resumed : List ℕ → Result Packet Refusal
resumed rest = if list_all (λ word. is_some (step_of word)) (parts rest) then Ok Resume else Err Malformed

-- the action of a word, if it is for the process
abbrev pub chosen : ℕ → List ℕ → Option Action
chosen process word = step_of word >>= (λ step. if names_process step.1 process then Some step.0 else None)

-- the first, or else the second
abbrev pub or_else : Option Action → Option Action → Option Action
or_else None second = second
or_else (Some action) second = Some action

-- the action of the first of these words that names the process
abbrev pub first_action : List (List ℕ) → ℕ → Option Action
first_action [] process = None
first_action (word ∷ words) process = or_else (chosen process word) (first_action words process)

-- the action that a vCont has for a process
abbrev pub action_for : List ℕ → ℕ → Option Action
action_for text process = first_action (parts (after_mark 59 text)) process

-- the feature of several processes
abbrev pub is_feature : List ℕ → Bool
is_feature word = bytes_eq word (codes "multiprocess+")

-- gdb has several processes
abbrev pub is_multiple : List ℕ → Bool
is_multiple features = list_any is_feature (parts features)

-- what monitor asks for, by its words in hexadecimal digits
abbrev pub report_of : List ℕ → Option Report
report_of digits =
    if bytes_eq digits (hex_text (codes "time")) then Some report.Time
    else if bytes_eq digits (hex_text (codes "processes")) then Some report.Processes
    else if bytes_eq digits (hex_text (codes "log")) then Some report.Log
    else if bytes_eq digits (hex_text (codes "console 0")) then Some (report.Console 0)
    else if bytes_eq digits (hex_text (codes "console 1")) then Some (report.Console 1)
    else if bytes_eq digits (hex_text (codes "console 2")) then Some (report.Console 2)
    else if bytes_eq digits (hex_text (codes "console 3")) then Some (report.Console 3)
    else if bytes_eq digits (hex_text (codes "table")) then Some report.Table
    else None

-- the decimal digit that two hexadecimal digits write
abbrev pub digit_at : ℕ → ℕ → Option ℕ
digit_at high low = option_and_then (digit_of 10) (pair_of high low)

-- a number with one digit more, up to the most ticks of a run
abbrev pub with_digit : ℕ → Option ℕ → Option ℕ
with_digit n None = None
with_digit n (Some d) = if nat_le (10 * n + d) 1000000000 then Some (10 * n + d) else None

-- the number that goes on with these decimal digits, each of which two hexadecimal digits write
unfoldable pub number_from : ℕ → List ℕ → Option ℕ
number_from n [] = Some n
number_from n (high ∷ []) = None
number_from n (high ∷ low ∷ rest) = option_and_then (λ t. number_from t rest) (with_digit n (digit_at high low))

-- that of one digit at least
abbrev pub number_written : List ℕ → Option ℕ
number_written [] = None
number_written (high ∷ rest) = number_from 0 (high ∷ rest)

-- the entries of the process of a number
abbrev pub entries_asked : List ℕ → Option Packet
entries_asked digits = option_map (λ p. Monitor (report.TableOf p)) (number_written digits)

-- the entries of a process, by its number
abbrev pub table_asked : List ℕ → Result Packet Refusal
table_asked digits =
    if nat_lt (length digits) 12 then Err Unknown
    else if bytes_eq (take 12 digits) (hex_text (codes "table ")) then packet_read (entries_asked (drop 12 digits))
    else Err Unknown

-- a time at which a run is to stop, or the entries of a process
abbrev pub stop_asked : List ℕ → Result Packet Refusal
stop_asked digits =
    if nat_lt (length digits) 10 then Err Unknown
    else if bytes_eq (take 10 digits) (hex_text (codes "stop ")) then packet_read (option_map (λ t. StopAt t) (number_written (drop 10 digits)))
    else table_asked digits

-- a report that is known, or a time at which a run is to stop
abbrev pub monitored : Option Report → List ℕ → Result Packet Refusal
monitored None digits = stop_asked digits
monitored (Some r) digits = Ok (Monitor r)

-- a process of which is asked what it is in words
abbrev pub thread_info : List ℕ → Option Packet
thread_info thread = option_map (λ w. ThreadInfo w) (who_of thread)

-- a packet of several letters with arguments after a comma
abbrev pub after_comma : List ℕ → Result Packet Refusal
after_comma text =
    if bytes_eq (before 44 text) (codes "qThreadExtraInfo") then packet_read (thread_info (after_mark 44 text))
    else if bytes_eq (before 44 text) (codes "qRcmd") then monitored (report_of (after_mark 44 text)) (after_mark 44 text)
    else Err Unknown

-- a packet of several letters with arguments after a semicolon
abbrev pub after_semicolon : List ℕ → Result Packet Refusal
after_semicolon text =
    if bytes_eq (before 59 text) (codes "vCont") then resumed (after_mark 59 text)
    else if bytes_eq (before 59 text) (codes "vKill") then Ok Leave
    else after_comma text

-- a packet of several letters with arguments
abbrev pub with_arguments : List ℕ → Result Packet Refusal
with_arguments text =
    if bytes_eq (before 58 text) (codes "qSupported") then Ok (Supported (is_multiple (after_mark 58 text)))
    else if bytes_eq (before 58 text) (codes "qXfer") then described (after_mark 58 text)
    else if bytes_eq (before 58 text) (codes "qAttached") then Ok Attached
    else after_semicolon text

-- a packet of several letters
abbrev pub named_packet : List ℕ → Result Packet Refusal
named_packet text =
    if bytes_eq text (codes "qfThreadInfo") then Ok FirstThreads
    else if bytes_eq text (codes "qsThreadInfo") then Ok MoreThreads
    else if bytes_eq text (codes "qC") then Ok Current
    else if bytes_eq text (codes "QStartNoAckMode") then Ok NoAcknowledgements
    else if bytes_eq text (codes "vCont?") then Ok Actions
    else with_arguments text

-- c, s, CSIGNAL or SSIGNAL
abbrev pub forward : ℕ → List ℕ → Result Packet Refusal
forward letter rest =
    if letter == 99 && (length rest == 0) then Ok (Forward Continue)
    else if letter == 115 && (length rest == 0) then Ok (Forward Step)
    else if letter == 67 && is_signal rest then Ok (Forward Continue)
    else if letter == 83 && is_signal rest then Ok (Forward Step)
    else Err Malformed

-- memory of a length from an address on
abbrev pub memory_of : Option (ℕ × ℕ) → Option Packet
memory_of None = None
memory_of (Some range) = Some (Memory range.0 range.1)

-- pNUMBER or mADDRESS,LENGTH
abbrev pub seen : ℕ → List ℕ → Option Packet
seen letter rest = if letter == 112 then option_map (λ n. Register n) (hex_number rest) else memory_of (pair_at rest)

-- TTHREAD
abbrev pub alive : List ℕ → Option Packet
alive rest = option_map (λ w. Alive w) (who_of rest)

-- letter is one of these
abbrev pub is_among : ℕ → List ℕ → Bool
is_among letter letters = list_any (λ l. letter == l) letters

-- a packet of one letter, with what comes after it
abbrev pub lettered : ℕ → List ℕ → Result Packet Refusal
lettered letter rest =
    if letter == 63 then alone rest Why
    else if letter == 103 then alone rest Registers
    else if letter == 107 then alone rest End
    else if letter == 68 then Ok Leave
    else if is_among letter (codes "GMPX") then Ok Write
    else if letter == 72 then packet_read (looked rest)
    else if letter == 84 then packet_read (alive rest)
    else if is_among letter (codes "pm") then packet_read (seen letter rest)
    else if letter == 90 then stopped_at true rest
    else if letter == 122 then stopped_at false rest
    else if is_among letter (codes "csCS") then forward letter rest
    else if letter == 98 then back_of rest
    else Err Unknown

-- packets with names of several letters begin with these
abbrev pub has_long_name : ℕ → Bool
has_long_name letter = is_among letter (codes "qQv")

-- what the data of a packet say
abbrev pub packet_of : List ℕ → Result Packet Refusal
packet_of [] = Err Unknown
packet_of (letter ∷ rest) = if has_long_name letter then named_packet (letter ∷ rest) else lettered letter rest
